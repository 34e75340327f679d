-- What making a segment asks for, and what it leaves. Inner contracts cite these.
--     bad_fields h segment size               segment at or above the width of the handle h; size 0 or above 4,096
--     make_rows ..                            the rows of call 3 but 16, from what they look at
--     can_make, CanMake all node base size    a slice of that many bytes is whole, the node is one of the four, and the
--                                            segment ends inside its memory: as a test, and as bounds
--     Made ..                                the cluster's record and the memory, before and after: the segment is present
--                                            at the base and its bytes are zero, the others as they were
-- Assumes nothing.
use Rattle.std.specs.Prelude.{◌≡◌, ℕ, ◌+◌, ◌≤◌, ◌<◌, Bool, not, ◌&&◌, ◌||◌, List, [], ◌∷◌, ◌++◌, eqb, leb, ltb, replicate}
use Rattle.sizes.specs.Sizes.{nodes, node_memory, memory}
use Rattle.handle.specs.declared.Handle.{Handle}
use Rattle.handle.specs.Handles.{width_of, Row}
use Rattle.store.specs.Places.{present_at}
use Rattle.store.specs.declared.Cluster.{Cluster}
use Rattle.store.specs.Records.{table_of, place_of, with_place, address}
use Rattle.store.specs.Sound.{is_absent}
use Rattle.calls.specs.Steps.{overwritten}
use Rattle.refusals.specs.Rows.{row, owner_rows}

abbrev pub bad_fields : Handle → ℕ → ℕ → Bool
bad_fields h segment size = leb (width_of h) segment || (eqb size 0 || ltb node_memory size)

abbrev pub make_rows : Bool → Handle → Cluster → ℕ → ℕ → ℕ → List Row
make_rows sound h c current segment size =
    owner_rows sound h c current (bad_fields h segment size)
    ++ (row 13 (not (is_absent (place_of (table_of c) segment))) ∷ [])

unfoldable pub can_make : ℕ → ℕ → ℕ → ℕ → Bool
can_make all node base size = eqb all memory && ltb node nodes && leb (base + size) node_memory

pub record CanMake (all node base size : ℕ) : Type 0 where
  pub whole : all ≡ memory
  pub known : node < nodes
  pub ends : base + size ≤ node_memory

pub record Made (node segment base size : ℕ) (c d : Cluster) (before after : List ℕ) : Type 0 where
  pub placed : d ≡ with_place c segment (present_at base size)
  pub cleared : after ≡ overwritten before (address node base) (replicate size 0)
