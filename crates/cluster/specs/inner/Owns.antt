-- What calls 4 and 10 share beyond the rows of a cluster's owner. Inner contracts cite it.
--     own_segment ..    the number of call 10, and that of call 4 but for 22, from what its rows look at
-- Assumes nothing.
use Rattle.std.specs.Prelude.{ℕ, Bool, [], ◌∷◌, leb}
use Rattle.handle.specs.declared.Handle.{Handle}
use Rattle.handle.specs.Handles.{width_of, first_of}
use Rattle.store.specs.declared.Cluster.{Cluster}
use Rattle.store.specs.Records.{table_of, place_of}
use Rattle.store.specs.Sound.{is_absent}
use Rattle.refusals.specs.Rows.{row, owner_rows, after}

unfoldable pub own_segment : Bool → Handle → Cluster → ℕ → ℕ → ℕ
own_segment sound h c current i =
    after (first_of (owner_rows sound h c current (leb (width_of h) i))) (first_of (row 14 (is_absent (place_of (table_of c) i)) ∷ []))
