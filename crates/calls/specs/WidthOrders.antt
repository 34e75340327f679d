-- Document 02, §8: where 25 stands, and 3 for a width. When several numbers apply the one nearest the table's top is given.
-- As computed lists, on the store and with the shorthands of the widths' lists. Where 25 is the lower number it is that of
-- its second place: in its first it would be given.
--     over u l x           a call to which two rows apply, the upper and the lower
--     applies size n x     a row with the number n applies to the call, with a slice of that many bytes
--     first                25 in its first place over 2, 3, 4, 24, 5, 8, 9 and 21
--     second               the numbers above 25 in its second place over it, and it over those below it but 22
--     widths               1, 2 and 3 of call 1 by its width, and 3 over 6 and 7
--     damaged              with a slice that lacks a byte: 25 over 1, and 1 over all else
--     numbers_of, Meet      the numbers that the calls get; the lower rows apply too
--     WidthOrders          the upper number is given, and the lower row applies too
-- Assumes nothing.
use Rattle.std.specs.Prelude.{◌≡◌, ℕ, Bool, true, List, [], ◌∷◌, map}
use Rattle.calls.specs.Calls.{Call, making_cluster, deleting_cluster, making_segment, deleting_segment, reading}
use Rattle.calls.specs.Calls.{writing, weakening_by, reducing, renewing, freezing, joining, validating, looking}
use Rattle.calls.specs.Numbers.{at, rows, number}
use Rattle.calls.specs.Clear.{holding}
use Rattle.calls.specs.Literals.{sixteen, handle, primary, small, large}
use Rattle.calls.specs.Orders.{Order, uppers}
use Rattle.calls.specs.WidthCases.{folded, mixed, short, middle, long, cut_to}

abbrev over : ℕ → ℕ → Call → Order
over u l x = record { upper = u; lower = l; call = x }

abbrev pub applies : ℕ → ℕ → Call → Bool
applies size n x = holding n (at x mixed (rows folded size))

-- bytes of another length hold no handle: they name no node above 3 and are not gapped, so that 2 and 4 are those of a call's
-- node and of a join's other handle
abbrev pub first : List Order
first =
    over 25 2 (deleting_cluster 4 (cut_to 22))
    ∷ over 25 2 (making_segment 4 2 2 (cut_to 20))
    ∷ over 25 2 (deleting_segment 4 3 (cut_to 24))
    ∷ over 25 2 (freezing 4 3 (cut_to 26))
    ∷ over 25 2 (looking 4 3 (cut_to 28))
    ∷ over 25 2 (joining 2 (cut_to 0) (small 4 2 4))
    ∷ over 25 2 (joining 2 (small 1 8 4) (cut_to 22))
    ∷ over 25 3 (making_segment 1 16 0 (cut_to 22))
    ∷ over 25 3 (deleting_segment 1 16 (cut_to 22))
    ∷ over 25 3 (reading 16 (cut_to 20) [])
    ∷ over 25 3 (writing 16 (cut_to 24) [])
    ∷ over 25 3 (freezing 1 16 (cut_to 26))
    ∷ over 25 3 (looking 1 16 (cut_to 28))
    ∷ over 25 3 (reducing 3 (cut_to 22))
    ∷ over 25 3 (renewing 0 (cut_to 22) (sixteen 9))
    ∷ over 25 3 (validating 3 (cut_to 0))
    ∷ over 25 3 (joining 3 (cut_to 22) (short 2 5 241))
    ∷ over 25 3 (joining 3 (short 2 5 241) (cut_to 22))
    ∷ over 25 4 (joining 1 (cut_to 22) (handle 1 2 3 (239 ∷ 255 ∷ [])))
    ∷ over 25 4 (joining 1 (handle 1 2 3 (239 ∷ 255 ∷ [])) (cut_to 22))
    ∷ over 25 24 (joining 1 (cut_to 22) (short 2 4 241))
    ∷ over 25 24 (joining 1 (short 2 4 241) (cut_to 24))
    ∷ over 25 5 (deleting_cluster 1 (cut_to 22))
    ∷ over 25 5 (looking 1 3 (cut_to 22))
    ∷ over 25 8 (reading 3 (cut_to 22) [])
    ∷ over 25 8 (validating 1 (cut_to 22))
    ∷ over 25 9 (joining 1 (cut_to 22) (short 2 9 241))
    ∷ over 25 21 (weakening_by 0 (cut_to 22))
    ∷ []

abbrev pub second : List Order
second =
    -- 2, 3, 4, 24, 5 and 8 over 25
    over 2 25 (deleting_cluster 4 (primary 1 2 4))
    ∷ over 2 25 (looking 4 3 (large 1 4 5))
    ∷ over 3 25 (reading 4 (small 1 5 7) [])
    ∷ over 3 25 (writing 8 (primary 1 5 8) [])
    ∷ over 3 25 (validating 3 (primary 1 2 3))
    ∷ over 4 25 (validating 1 (handle 1 2 3 (255 ∷ 254 ∷ 255 ∷ 255 ∷ [])))
    ∷ over 4 25 (reducing 1 (handle 1 5 7 (239 ∷ 255 ∷ [])))
    ∷ over 24 25 (joining 1 (primary 1 2 3) (middle 4 133 128))
    ∷ over 24 25 (joining 1 (middle 4 133 128) (primary 1 2 3))
    ∷ over 24 25 (joining 1 (small 1 4 5) (small 1 5 7))
    ∷ over 5 25 (deleting_cluster 0 (primary 1 2 4))
    ∷ over 5 25 (making_segment 0 2 2 (large 1 4 6))
    ∷ over 5 25 (deleting_segment 2 3 (small 1 5 8))
    ∷ over 5 25 (freezing 3 3 (large 1 2 4))
    ∷ over 5 25 (looking 0 3 (primary 1 2 3))
    ∷ over 8 25 (deleting_cluster 1 (small 1 3 0))
    ∷ over 8 25 (making_segment 1 2 2 (primary 1 3 0))
    ∷ over 8 25 (deleting_segment 1 3 (large 1 3 0))
    ∷ over 8 25 (reading 3 (small 1 3 0) [])
    ∷ over 8 25 (writing 3 (large 1 3 0) [])
    ∷ over 8 25 (reducing 1 (primary 1 3 0))
    ∷ over 8 25 (renewing 1 (small 1 3 0) (sixteen 9))
    ∷ over 8 25 (freezing 1 3 (large 1 3 0))
    ∷ over 8 25 (joining 1 (small 1 3 0) (large 1 3 0))
    ∷ over 8 25 (validating 1 (small 1 3 0))
    ∷ over 8 25 (looking 1 3 (primary 1 3 0))
    -- 25 over 9, for each of the two handles of a join, and for one by its width where the other does not validate
    ∷ over 25 9 (deleting_cluster 1 (primary 1 2 9))
    ∷ over 25 9 (making_segment 1 2 2 (large 1 4 9))
    ∷ over 25 9 (deleting_segment 1 3 (small 1 5 9))
    ∷ over 25 9 (reading 3 (primary 1 2 4) [])
    ∷ over 25 9 (writing 3 (large 1 2 3) [])
    ∷ over 25 9 (reducing 1 (small 1 4 6))
    ∷ over 25 9 (renewing 1 (primary 1 5 8) (sixteen 9))
    ∷ over 25 9 (freezing 1 3 (large 1 2 3))
    ∷ over 25 9 (validating 1 (primary 1 2 3))
    ∷ over 25 9 (looking 1 3 (small 1 5 8))
    ∷ over 25 9 (joining 1 (short 2 5 241) (middle 2 11 8))
    ∷ over 25 9 (joining 1 (middle 2 4 1) (short 2 12 248))
    ∷ over 25 9 (joining 1 (short 2 4 241) (middle 2 12 8))
    -- 25 over 23, 10, 11, 12, 13, 14, 15 and 16
    ∷ over 25 23 (joining 1 (small 1 2 3) (primary 1 2 3))
    ∷ over 25 23 (joining 1 (large 1 4 5) (middle 4 6 1))
    ∷ over 25 10 (deleting_cluster 1 (middle 2 12 8))
    ∷ over 25 10 (making_segment 1 2 2 (short 5 16 248))
    ∷ over 25 10 (deleting_segment 1 3 (long 2 12 0 8))
    ∷ over 25 10 (renewing 1 (middle 5 8 1) (sixteen 9))
    ∷ over 25 10 (freezing 1 3 (short 4 14 248))
    ∷ over 25 11 (reading 3 (middle 2 4 1) [])
    ∷ over 25 11 (writing 3 (long 2 5 0 1) [])
    ∷ over 25 11 (looking 1 3 (short 4 6 241))
    ∷ over 25 12 (renewing 1 (primary 1 2 3) (sixteen 3))
    ∷ over 25 12 (renewing 2 (small 1 5 8) (sixteen 8))
    ∷ over 25 13 (making_segment 1 3 2 (primary 1 2 4))
    ∷ over 25 14 (deleting_segment 1 2 (small 1 5 8))
    ∷ over 25 14 (reading 2 (large 1 2 3) [])
    ∷ over 25 14 (writing 7 (primary 1 5 8) [])
    ∷ over 25 14 (freezing 1 2 (small 1 4 6))
    ∷ over 25 14 (looking 1 7 (primary 1 5 7))
    ∷ over 25 15 (reading 3 (primary 1 2 3) (0 ∷ 0 ∷ []))
    ∷ over 25 15 (writing 7 (large 1 4 6) (0 ∷ []))
    ∷ over 25 16 (making_segment 1 2 4088 (primary 1 2 4))
    ∷ []

abbrev pub widths : List Order
widths =
    over 2 3 (making_cluster 4 3 5 (sixteen 1) (sixteen 2))
    ∷ over 2 3 (making_cluster 1 8 0 (sixteen 1) (sixteen 2))
    ∷ over 3 6 (making_cluster 1 2 5 (sixteen 1) (sixteen 2))
    ∷ over 3 6 (making_cluster 1 5 0 (sixteen 1) (sixteen 2))
    ∷ over 3 7 (making_cluster 1 3 17 (sixteen 1) (sixteen 1))
    ∷ over 6 7 (making_cluster 1 2 4 (sixteen 1) (sixteen 1))
    ∷ []

abbrev pub damaged : List Order
damaged =
    over 25 1 (deleting_cluster 1 (cut_to 22))
    ∷ over 25 1 (making_segment 1 2 2 (cut_to 20))
    ∷ over 25 1 (deleting_segment 1 3 (cut_to 24))
    ∷ over 25 1 (reading 3 (cut_to 0) [])
    ∷ over 25 1 (writing 3 (cut_to 26) [])
    ∷ over 25 1 (reducing 1 (cut_to 28))
    ∷ over 25 1 (renewing 1 (cut_to 22) (sixteen 9))
    ∷ over 25 1 (freezing 1 3 (cut_to 22))
    ∷ over 25 1 (joining 1 (cut_to 22) (short 2 4 241))
    ∷ over 25 1 (joining 1 (short 2 4 241) (cut_to 22))
    ∷ over 25 1 (validating 1 (cut_to 22))
    ∷ over 25 1 (looking 1 3 (cut_to 22))
    ∷ over 1 3 (making_cluster 1 3 5 (sixteen 1) (sixteen 2))
    ∷ over 1 3 (reading 4 (small 1 2 3) [])
    ∷ over 1 25 (reading 3 (primary 1 2 3) [])
    ∷ over 1 25 (joining 1 (short 2 4 241) (middle 2 11 8))
    ∷ over 1 25 (validating 1 (small 1 5 7))
    ∷ []

abbrev pub numbers_of : ℕ → List Order → List ℕ
numbers_of size os = map (λ (o : Order). number folded o.call mixed size) os

abbrev pub Meet : ℕ → List Order → Type 0
Meet size os = map (λ (o : Order). applies size o.lower o.call) os ≡ map (λ (o : Order). true) os

pub record WidthOrders : Type 0 where
  pub told_first_lem : numbers_of 16384 first ≡ uppers first
  pub meet_first : Meet 16384 first
  pub told_second : numbers_of 16384 second ≡ uppers second
  pub meet_second : Meet 16384 second
  pub told_widths : numbers_of 16384 widths ≡ uppers widths
  pub meet_widths : Meet 16384 widths
  pub told_damaged : numbers_of 16383 damaged ≡ uppers damaged
  pub meet_damaged : Meet 16383 damaged
