-- What making a cluster is turned down with, from what its rows look at. Inner contracts cite it.
--     create_rows ..    rows 1, 2, 3, 6 and 7 of call 1: whether the store is sound; the record of the place; the current node,
--                      the local number, the width; the two passwords
-- Assumes nothing.
use Rattle.std.specs.Prelude.{ℕ, Bool, not, ◌||◌, List, [], ◌∷◌, leb}
use Rattle.sizes.specs.Sizes.{nodes, clusters}
use Rattle.handle.specs.Handles.{Row, same_password}
use Rattle.store.specs.declared.Cluster.{Cluster}
use Rattle.store.specs.Sound.{is_width}
use Rattle.refusals.specs.Rows.{row}

abbrev pub create_rows : Bool → Cluster → ℕ → ℕ → ℕ → List ℕ → List ℕ → List Row
create_rows sound c current local width read write =
    row 1 (not sound)
    ∷ row 2 (leb nodes current || leb clusters local)
    ∷ row 3 (not (is_width width))
    ∷ row 6 c.active
    ∷ row 7 (same_password read write)
    ∷ []
