-- Document 02, §3, in words: which numbers a freeze gets, and what one that is done leaves. The record of the handle's
-- cluster is named by number, the cluster of node v and local number l being record v * 8 + l.
--     FreezeRefused f g s size    of call 10 with the arguments g: it gets the number of call 4 with the same arguments, but
--                            where that is 22, which document 01 does not have; there it is done, and it never gets 22
--     SameRecords n i a b    the two stores have the same records, but for the mark of segment i of record n
--     FreezeInWords f g c    of call 10 with the arguments g on the copy c, done:
--       present                the segment that it names was present
--       marked                 it is frozen afterwards
--       stays                  it lies where it lay
--       others                 nothing else in the records changed
--       memory                 no byte of the memory changed
--       reply                  the reply is the number 0 and nothing else
--       twice                  if it was frozen already, nothing at all changed
-- Assumes nothing.
use Rattle.std.specs.Prelude.{◌≡◌, ◌≢◌, ◌⊎◌, ℕ, ◌+◌, ◌*◌, List, []}
use Rattle.handle.specs.Handles.{Name, node_of}
use Rattle.store.specs.Places.{present_at}
use Rattle.store.specs.declared.Store.{Store}
use Rattle.store.specs.Records.{table_of, cluster_at, segment_of}
use Rattle.calls.specs.Calls.{Copy, Call, Arguments, call, delete_segment, freeze, handle_of}
use Rattle.calls.specs.Numbers.{number}
use Rattle.calls.specs.Words.{place, Frozen}
use Rattle.calls.specs.Steps.{step}
use Rattle.calls.specs.Literals.{none, told}

pub record FreezeRefused (f : Name → List ℕ → ℕ → List ℕ) (g : Arguments) (s : Store) (size : ℕ) : Type 0 where
  pub alike : number f (call delete_segment g) s size ≢ 22
      → number f (call freeze g) s size ≡ number f (call delete_segment g) s size
  pub done : number f (call delete_segment g) s size ≡ 22 → number f (call freeze g) s size ≡ 0
  pub never : number f (call freeze g) s size ≢ 22

pub record SameRecords (n i : ℕ) (a b : Store) : Type 0 where
  pub active : (m : ℕ) → (cluster_at a m).active ≡ (cluster_at b m).active
  pub width : (m : ℕ) → (cluster_at a m).width ≡ (cluster_at b m).width
  pub read : (m : ℕ) → (cluster_at a m).read ≡ (cluster_at b m).read
  pub write : (m : ℕ) → (cluster_at a m).write ≡ (cluster_at b m).write
  pub segments : (m j : ℕ) → (m ≢ n) ⊎ (j ≢ i)
      → segment_of (table_of (cluster_at a m)) j ≡ segment_of (table_of (cluster_at b m)) j

module _ (f : Name → List ℕ → ℕ → List ℕ) (g : Arguments) (c : Copy) where
  abbrev x : Call
  x = call freeze g

  abbrev after : Copy
  after = (step f x c).copy

  pub record FreezeInWords : Type 0 where
    pub present : (base : ℕ) × (length : ℕ) × (place x c.store ≡ present_at base length)
    pub marked : Frozen x after.store g.segment
    pub stays : place x after.store ≡ place x c.store
    pub others : SameRecords (node_of (handle_of x) * 8 + (handle_of x).local) g.segment after.store c.store
    pub memory : after.memory ≡ c.memory
    pub reply : (step f x c).reply ≡ told 0 none none 0 0 []
    pub twice : Frozen x c.store g.segment → after ≡ c
