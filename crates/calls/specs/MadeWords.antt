-- Document 01, "The calls", row 3 of the table and the sentence on the base of a new segment, and document 02, §3: new
-- ones are not frozen; in words: what a new segment that is done leaves.
--     Sixteen x c          the record that the call's handle names has its sixteen segments
--     MadeInWords f g c    of call 3 with the arguments g on the copy c: the segment that it names is present afterwards,
--                          with the size asked for and a base that had room, and is not frozen; no smaller base had
--                          room; in the memory left the segment's bytes, of its node's own 4,096, are zero, and all
--                          others are as they were
-- Assumes nothing.
use Rattle.std.specs.Prelude.{◌≡◌, ℕ, ◌+◌, ◌*◌, ◌≤◌, ◌<◌, List, length, get_or}
use Rattle.handle.specs.Handles.{Name, node_of}
use Rattle.store.specs.Places.{present_at}
use Rattle.store.specs.PlacementWords.{Room}
use Rattle.calls.specs.Calls.{Copy, Call, Arguments, call, new_segment, handle_of}
use Rattle.calls.specs.Words.{place, Frozen, cluster_of}
use Rattle.calls.specs.Steps.{step}

abbrev pub Sixteen : Call → Copy → Type 0
Sixteen x c = length (cluster_of (handle_of x) c.store).segments ≡ 16

module _ (f : Name → List ℕ → ℕ → List ℕ) (g : Arguments) (c : Copy) where
  abbrev x : Call
  x = call new_segment g

  abbrev node : ℕ
  node = node_of (handle_of x)

  abbrev after : Copy
  after = (step f x c).copy

  pub record MadeInWords : Type 0 where
    pub base : ℕ
    pub number : (step f x c).reply.number ≡ 0
    pub present : place x after.store ≡ present_at base g.size
    pub unfrozen : ¬ Frozen x after.store g.segment
    pub room : Room c.store node g.size base
    pub smallest : (k : ℕ) → k < base → ¬ Room c.store node g.size k
    pub cleared : (k : ℕ) → k < g.size → get_or after.memory (node * 4096 + base + k) 0 ≡ 0
    pub others : (p : ℕ) → ¬ ((node * 4096 + base ≤ p) × (p < node * 4096 + base + g.size))
        → get_or after.memory p 0 ≡ get_or c.memory p 0
    pub long : length after.memory ≡ length c.memory
