-- What calls 5 and 6 and a look share beyond the rows of all calls that open a cluster, and the bytes that they are about.
-- Inner contracts cite these.
--     reach_rows h p i         rows 11 and 14, from the handle and the place of segment i
--     reached ..              the number of a look, and of a read or a write but for 15, from what its rows look at: far and
--                             away tell whether the current node is bad or not the handle's
--     access_rows h p i kept room    the rows 11 and 14; 22, where kept tells whether it applies; and 15, from how many
--                             bytes the buffer or the data has
--     accessed ..             the number of a read or a write, from what its rows look at
--     part_of h p              the part of the slice that is the place p of the memory of the handle's node
--     Reaches ..              length bytes lie inside a memory of size bytes from `from` on, and the buffer or the data,
--                             of room bytes, has as many
-- Assumes nothing.
use Rattle.std.specs.Prelude.{ℕ, ◌+◌, ◌≤◌, Bool, false, not, List, [], ◌∷◌, ◌++◌, leb, ltb}
use Rattle.handle.specs.declared.Handle.{Handle}
use Rattle.handle.specs.Selectors.{references}
use Rattle.handle.specs.Handles.{node_of, width_of, Row, first_of}
use Rattle.store.specs.Places.{Place}
use Rattle.store.specs.declared.Cluster.{Cluster}
use Rattle.store.specs.Records.{base_of, length_of, address}
use Rattle.store.specs.Sound.{is_absent}
use Rattle.calls.specs.declared.Part.{Part}
use Rattle.refusals.specs.Rows.{row, shared_rows, after}

abbrev pub reach_rows : Handle → Place → ℕ → List Row
reach_rows h p i = row 11 (not (references h.selector i)) ∷ row 14 (is_absent p) ∷ []

unfoldable pub reached : Bool → Handle → Cluster → Place → ℕ → Bool → Bool → ℕ → ℕ
reached sound h c p i far away mode =
    after (first_of (shared_rows sound h c far (leb (width_of h) i) away mode)) (first_of (reach_rows h p i))

abbrev pub access_rows : Handle → Place → ℕ → Bool → ℕ → List Row
access_rows h p i kept room = reach_rows h p i ++ (row 22 kept ∷ row 15 (ltb room (length_of p)) ∷ [])

unfoldable pub accessed : Bool → Handle → Cluster → Place → ℕ → Bool → ℕ → ℕ → ℕ
accessed sound h c p i kept room mode =
    after (first_of (shared_rows sound h c false (leb (width_of h) i) false mode)) (first_of (access_rows h p i kept room))

abbrev pub part_of : Handle → Place → Part
part_of h p =
    record { from = address (node_of h) (base_of p); to = address (node_of h) (base_of p) + length_of p }

pub record Reaches (from length size room : ℕ) : Type 0 where
  pub ends : from + length ≤ size
  pub enough : length ≤ room
