-- Document 01, "The calls", rows 1 and 9, and "The handle", byte by byte: the handles that calls 1 and 9 give and the record
-- that they leave; with the widths of document 02, §8. A handle of the width w has 19 bytes and half as many as the width
-- more, and a flat subselector's bytes are all 255.
--     PrimaryInBytes v l w p b    b, of a reply, holds the primary handle of node v, local number l and width w with the
--                                 password p: 0, v, l, the sixteen bytes of p in their order, then nothing but 255; zeros
--                                 fill its 27 bytes
--     MadeInBytes      call 1 in node v with the local number l, the width w and the passwords p and q: the first handle
--                      carries p and the second q, byte by byte; the record left is active, has that width, p for
--                      reading and q for writing, and no segment; the memory stays
--     RenewedInBytes   call 9 in the mode m with the handle a and the password p: the handle given has the length and the
--                      name of a, and carries p; the record has p for that mode, and for the other what it had; the
--                      memory stays
-- Assumes nothing.
use Rattle.std.specs.Prelude.{◌≡◌, ℕ, ◌+◌, ◌/◌, ◌≤◌, ◌<◌, true, false, List, length, get_or}
use Rattle.handle.specs.declared.HandleBytes.{HandleBytes}
use Rattle.handle.specs.Handles.{Name, decoded, width_of}
use Rattle.store.specs.Places.{None}
use Rattle.store.specs.declared.Cluster.{Cluster}
use Rattle.store.specs.Records.{table_of, place_of, frozen_of}
use Rattle.calls.specs.Calls.{Copy, making_cluster, renewing}
use Rattle.calls.specs.Words.{SamePassword, cluster, cluster_of}
use Rattle.calls.specs.Steps.{Outcome, step}

pub record PrimaryInBytes (v l w : ℕ) (p : List ℕ) (b : HandleBytes) : Type 0 where
  pub told : b.length ≡ 19 + w / 2
  pub high : get_or b.bytes 0 0 ≡ 0
  pub low : get_or b.bytes 1 0 ≡ v
  pub local : get_or b.bytes 2 0 ≡ l
  pub password : (k : ℕ) → k < 16 → get_or b.bytes (3 + k) 0 ≡ get_or p k 0
  pub flat : (k : ℕ) → k < w / 2 → get_or b.bytes (19 + k) 0 ≡ 255
  pub rest : (k : ℕ) → 19 + w / 2 ≤ k → get_or b.bytes k 0 ≡ 0
  pub whole : length b.bytes ≡ 27

module _ (f : Name → List ℕ → ℕ → List ℕ) where
  module _ (v l w : ℕ) (p q : List ℕ) (c : Copy) where
    abbrev made : Outcome
    made = step f (making_cluster v l w p q) c

    abbrev new : Cluster
    new = cluster made.copy.store v l

    pub record MadeInBytes : Type 0 where
      pub reader : PrimaryInBytes v l w p made.reply.first
      pub writer : PrimaryInBytes v l w q made.reply.second
      pub active : new.active ≡ true
      pub width : new.width ≡ w
      pub reading : SamePassword new.read p
      pub writing : SamePassword new.write q
      pub absent : (i : ℕ) → i < 16 → place_of (table_of new) i ≡ None
      pub unfrozen : (i : ℕ) → i < 16 → frozen_of (table_of new) i ≡ false
      pub memory : made.copy.memory ≡ c.memory

  module _ (m : ℕ) (a p : List ℕ) (c : Copy) where
    abbrev renewal : Outcome
    renewal = step f (renewing m a p) c

    abbrev old : Cluster
    old = cluster_of (decoded a) c.store

    abbrev left : Cluster
    left = cluster_of (decoded a) renewal.copy.store

    pub record RenewedInBytes : Type 0 where
      pub long : length a ≡ 19 + width_of (decoded a) / 2
      pub handle : PrimaryInBytes (get_or a 1 0) (get_or a 2 0) (width_of (decoded a)) p renewal.reply.first
      pub reading : m ≡ 1 → SamePassword left.read p × (left.write ≡ old.write)
      pub writing : m ≡ 2 → SamePassword left.write p × (left.read ≡ old.read)
      pub table : table_of left ≡ table_of old
      pub memory : renewal.copy.memory ≡ c.memory
