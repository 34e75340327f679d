-- The rows of the table that the calls which open a cluster share, and those of a join, from what their tests look at. Inner
-- contracts cite these; that they are the rows of the table, at each call, is proved.
--     bad_modes mode          the mode is neither of the two
--     row n t                the row with the number n, whose test gave t
--     violates h c mode      the handle h does not validate in the mode, from the record c of its cluster
--     open_rows ..            rows 3, 4, 5, 8, 25 and 9, from their tests: the handle; the record of its cluster; whether some
--                            field, the current node is bad; the mode needed
--     shared_rows ..          rows 25, 1 and 2 before them: the store is sound; whether some other place is bad
--     owner_rows ..           rows 25, 1 to 5, 8, 25, 9 and 10 of calls 2, 3, 4 and 10, which name a current node and need the write
--                            primary handle; whether some field is bad
--     join_below ..           rows 3, 4, 24, 8, 25, 9 and 23 of a join, from two handles, the mode and the record of the cluster that
--                            the first one names, which is the second one's too where 24 does not apply
--     join_rows ..            rows 25, 1 and 2 before them: the store is sound
--     after n m              n, or m where n is 0
-- Assumes nothing.
use Rattle.std.specs.Prelude.{ℕ, zero, suc, Bool, not, ◌&&◌, ◌||◌, List, [], ◌∷◌, ◌++◌, leb, eqb}
use Rattle.sizes.specs.Sizes.{nodes}
use Rattle.handle.specs.declared.Handle.{Handle}
use Rattle.handle.specs.Selectors.{all_flat, gapped, whole_union}
use Rattle.handle.specs.Handles.{node_of, name_of, same_name, width_of, no_width, no_such_place, Row, validates}
use Rattle.handle.specs.Conversion.{product}
use Rattle.store.specs.declared.Cluster.{Cluster}
use Rattle.store.specs.Records.{read_mode, write_mode, primary_of}

abbrev pub bad_modes : ℕ → Bool
bad_modes mode = not (eqb mode read_mode || eqb mode write_mode)

abbrev pub row : ℕ → Bool → Row
row n t = record { number = n; applies = t }

abbrev pub violates : Handle → Cluster → ℕ → Bool
violates h c mode =
    not (eqb (width_of h) c.width && validates (width_of h) (product (name_of h)) (primary_of c mode) h)

abbrev pub open_rows : Handle → Cluster → Bool → Bool → ℕ → List Row
open_rows h c field away mode =
    row 3 field
    ∷ row 4 (gapped (width_of h) h.selector)
    ∷ row 5 away
    ∷ row 8 (not c.active)
    ∷ row 25 (not (eqb (width_of h) c.width))
    ∷ row 9 (violates h c mode)
    ∷ []

abbrev pub shared_rows : Bool → Handle → Cluster → Bool → Bool → Bool → ℕ → List Row
shared_rows sound h c far field away mode =
    row 25 (no_width h) ∷ row 1 (not sound) ∷ row 2 (no_such_place h || far) ∷ open_rows h c field away mode

unfoldable pub owner_rows : Bool → Handle → Cluster → ℕ → Bool → List Row
owner_rows sound h c current field =
    shared_rows sound h c (leb nodes current) field (not (eqb current (node_of h))) write_mode
    ++ (row 10 (not (all_flat (width_of h) h.selector)) ∷ [])

abbrev pub join_below : Handle → Handle → Cluster → ℕ → List Row
join_below h k c mode =
    row 3 (bad_modes mode)
    ∷ row 4 (gapped (width_of h) h.selector || gapped (width_of k) k.selector)
    ∷ row 24 (not (same_name h k))
    ∷ row 8 (not c.active)
    ∷ row 25 (not (eqb (width_of h) c.width) || not (eqb (width_of k) c.width))
    ∷ row 9 (violates h c mode || violates k c mode)
    ∷ row 23 (whole_union (width_of h) h.selector k.selector)
    ∷ []

abbrev pub join_rows : Bool → Handle → Handle → Cluster → ℕ → List Row
join_rows sound h k c mode =
    row 25 (no_width h || no_width k) ∷ row 1 (not sound) ∷ row 2 (no_such_place h || no_such_place k) ∷ join_below h k c mode

abbrev pub after : ℕ → ℕ → ℕ
after zero m = m
after (suc n) m = suc n
