-- Document 01, "Numbers a call may be turned down with": when several apply, the one nearest the table's top is given. As a
-- computed list, on the store and with the shorthands of the numbers' lists.
--     far_gap, idle_gap, idle_wrong    handles that are gapped and name a node above 3, are gapped and name an inactive
--                          cluster, or name one and do not validate
--     Order, over u l x    a call to which two rows apply, the upper and the lower
--     applies s n x        a row with the number n applies to the call on the store s
--     orders               every two rows that stand next to each other for a call, where they can meet
--     joined               those of call 11, by its first handle and by its second
--     frozen               those of 22, where the segment is frozen
--     numbers_of, uppers    the numbers that the calls get on a store, and the upper ones
--     Meet                 the lower rows apply too
--     OrdersGiven          the upper number is given, and the lower row applies too
-- Assumes nothing.
use Rattle.std.specs.Prelude.{◌≡◌, ℕ, Bool, true, List, [], ◌∷◌, map}
use Rattle.sizes.specs.Sizes.{memory}
use Rattle.handle.specs.Selectors.{flats}
use Rattle.store.specs.declared.Store.{Store}
use Rattle.calls.specs.Calls.{Call, making_cluster, deleting_cluster, making_segment, deleting_segment, reading}
use Rattle.calls.specs.Calls.{writing, weakening_by, reducing, renewing, freezing, joining, validating, looking}
use Rattle.calls.specs.Numbers.{at, rows, number}
use Rattle.calls.specs.Clear.{holding}
use Rattle.calls.specs.Cases.{added, sixteen, shown, primary, weak, other, gap, far, high, idle, spent, nothing, room, tight}
use Rattle.calls.specs.Cases.{sample, marked}
use Rattle.calls.specs.JoinCases.{lower, upper}

abbrev far_gap : List ℕ
far_gap = shown 4 2 3 (255 ∷ 254 ∷ 255 ∷ 255 ∷ [])

abbrev idle_gap : List ℕ
idle_gap = shown 1 3 0 (255 ∷ 254 ∷ 255 ∷ 255 ∷ [])

abbrev idle_wrong : List ℕ
idle_wrong = shown 1 3 7 (flats 8)

pub record Order : Type 0 where
  pub upper : ℕ
  pub lower : ℕ
  pub call : Call

abbrev over : ℕ → ℕ → Call → Order
over u l x = record { upper = u; lower = l; call = x }

abbrev pub applies : Store → ℕ → Call → Bool
applies s n x = holding n (at x s (rows added memory))

-- every two rows that stand next to each other for a call, where they can meet: a segment that is absent has no length and
-- is not frozen, and a gapped handle has a flat subselector
abbrev pub orders : List Order
orders =
    -- 2 above 3, 4, 5, 6, 7, 17 and 21
    over 2 6 (making_cluster 0 10 8 (sixteen 1) (sixteen 2))
    ∷ over 2 7 (making_cluster 4 3 8 (sixteen 1) (sixteen 1))
    ∷ over 2 4 (deleting_cluster 1 far_gap)
    ∷ over 2 3 (making_segment 1 8 2 far)
    ∷ over 2 3 (making_segment 4 6 0 (primary 4))
    ∷ over 2 3 (deleting_segment 1 8 high)
    ∷ over 2 3 (reading 8 far room)
    ∷ over 2 3 (writing 8 high room)
    ∷ over 2 4 (weakening_by 0 far_gap)
    ∷ over 2 17 (weakening_by 239 (shown 4 2 3 spent))
    ∷ over 2 21 (weakening_by 0 far)
    ∷ over 2 21 (weakening_by 255 (shown 1 8 3 nothing))
    ∷ over 2 3 (reducing 3 far)
    ∷ over 2 3 (renewing 3 high (sixteen 8))
    ∷ over 2 3 (freezing 1 8 high)
    ∷ over 2 3 (freezing 4 8 (primary 4))
    ∷ over 2 3 (validating 3 far)
    ∷ over 2 3 (looking 1 8 far)
    ∷ over 2 3 (looking 4 8 (primary 3))
    ∷ over 2 5 (looking 4 5 (primary 3))
    -- 3 above 4
    ∷ over 3 4 (making_segment 1 6 4097 gap)
    ∷ over 3 4 (deleting_segment 1 8 gap)
    ∷ over 3 4 (reading 8 gap room)
    ∷ over 3 4 (writing 8 gap room)
    ∷ over 3 4 (reducing 3 gap)
    ∷ over 3 4 (renewing 0 gap (sixteen 8))
    ∷ over 3 4 (freezing 1 8 gap)
    ∷ over 3 4 (validating 3 gap)
    ∷ over 3 4 (looking 1 8 gap)
    -- 4 above 5, and above 8
    ∷ over 4 5 (deleting_cluster 0 gap)
    ∷ over 4 5 (making_segment 0 6 2 gap)
    ∷ over 4 5 (deleting_segment 0 5 gap)
    ∷ over 4 5 (freezing 0 5 gap)
    ∷ over 4 5 (looking 0 5 gap)
    ∷ over 4 8 (reading 5 idle_gap room)
    ∷ over 4 8 (writing 5 idle_gap room)
    ∷ over 4 8 (reducing 1 idle_gap)
    ∷ over 4 8 (renewing 1 idle_gap (sixteen 8))
    ∷ over 4 8 (validating 1 idle_gap)
    -- 4 above 21; the second handle references nothing, whatever the mask
    ∷ over 4 21 (weakening_by 0 gap)
    ∷ over 4 21 (weakening_by 255 (shown 1 2 3 (240 ∷ 255 ∷ 15 ∷ 255 ∷ [])))
    -- 5 above 8, and for a look above all that needs the handle to be judged
    ∷ over 5 8 (deleting_cluster 0 idle)
    ∷ over 5 8 (making_segment 0 6 2 idle)
    ∷ over 5 8 (deleting_segment 0 5 idle)
    ∷ over 5 8 (freezing 0 5 idle)
    ∷ over 5 8 (looking 0 5 idle)
    ∷ over 5 9 (looking 0 5 (primary 4))
    ∷ over 5 11 (looking 0 5 (other 3))
    ∷ over 5 14 (looking 0 6 (primary 3))
    -- 6 above 7
    ∷ over 6 7 (making_cluster 1 2 8 (sixteen 1) (sixteen 1))
    -- 8 above 9
    ∷ over 8 9 (deleting_cluster 1 idle_wrong)
    ∷ over 8 9 (making_segment 1 6 2 idle_wrong)
    ∷ over 8 9 (deleting_segment 1 5 idle_wrong)
    ∷ over 8 9 (reading 5 idle_wrong room)
    ∷ over 8 9 (writing 5 idle_wrong room)
    ∷ over 8 9 (reducing 1 idle_wrong)
    ∷ over 8 9 (renewing 1 idle_wrong (sixteen 8))
    ∷ over 8 9 (freezing 1 5 idle_wrong)
    ∷ over 8 9 (validating 1 idle_wrong)
    ∷ over 8 9 (looking 1 5 idle_wrong)
    -- 9 above 10, above 11, and above 13 and 14
    ∷ over 9 10 (deleting_cluster 1 (weak 3))
    ∷ over 9 10 (making_segment 1 6 2 (weak 3))
    ∷ over 9 10 (deleting_segment 1 5 (weak 3))
    ∷ over 9 10 (renewing 1 (weak 4) (sixteen 8))
    ∷ over 9 10 (freezing 1 5 (weak 3))
    ∷ over 9 11 (reading 5 (other 4) room)
    ∷ over 9 11 (writing 5 (other 3) room)
    ∷ over 9 11 (looking 1 5 (other 4))
    ∷ over 9 13 (making_segment 1 5 2 (primary 3))
    ∷ over 9 14 (deleting_segment 1 6 (primary 3))
    ∷ over 9 14 (freezing 1 6 (primary 3))
    ∷ over 9 14 (looking 1 6 (primary 4))
    -- 10 above 12, 13 and 14
    ∷ over 10 12 (renewing 1 (weak 3) (sixteen 3))
    ∷ over 10 12 (renewing 2 (weak 4) (sixteen 4))
    ∷ over 10 13 (making_segment 1 5 2 (weak 4))
    ∷ over 10 14 (deleting_segment 1 6 (weak 4))
    ∷ over 10 14 (freezing 1 6 (weak 4))
    -- 11 above 14, and above 15
    ∷ over 11 14 (reading 6 (weak 3) room)
    ∷ over 11 14 (writing 6 (weak 4) room)
    ∷ over 11 14 (looking 1 6 (weak 3))
    ∷ over 11 15 (reading 5 (other 3) tight)
    ∷ over 11 15 (writing 5 (other 4) tight)
    -- 21 above 17
    ∷ over 21 17 (weakening_by 0 (shown 1 2 3 spent))
    ∷ over 21 17 (weakening_by 15 (shown 1 2 3 spent))
    -- 13 above 16
    ∷ over 13 16 (making_segment 1 5 4094 (primary 4))
    ∷ []

abbrev pub joined : List Order
joined =
    -- 2 above 3, and above 4 and 24
    over 2 3 (joining 3 far (weak 3))
    ∷ over 2 3 (joining 3 (weak 3) high)
    ∷ over 2 4 (joining 1 far_gap (weak 3))
    ∷ over 2 4 (joining 1 gap far)
    ∷ over 2 24 (joining 1 (weak 3) far)
    -- 3 above 4
    ∷ over 3 4 (joining 3 gap (weak 3))
    ∷ over 3 4 (joining 0 (weak 3) gap)
    -- 4 above 24
    ∷ over 4 24 (joining 1 gap idle)
    ∷ over 4 24 (joining 1 idle gap)
    ∷ over 4 24 (joining 1 (weak 3) idle_gap)
    ∷ over 4 24 (joining 1 idle_gap (weak 3))
    -- 24 above 8, 9 and 23
    ∷ over 24 8 (joining 1 (weak 3) idle)
    ∷ over 24 8 (joining 1 idle (weak 3))
    ∷ over 24 8 (joining 1 idle (shown 1 5 0 (flats 8)))
    ∷ over 24 9 (joining 1 (weak 4) idle)
    ∷ over 24 9 (joining 1 (weak 3) idle_wrong)
    ∷ over 24 23 (joining 1 (primary 3) idle)
    -- 8 above 9 and 23
    ∷ over 8 9 (joining 1 idle_wrong idle)
    ∷ over 8 9 (joining 1 idle idle_wrong)
    ∷ over 8 23 (joining 1 idle idle)
    -- 9 above 23
    ∷ over 9 23 (joining 1 (primary 4) (weak 3))
    ∷ over 9 23 (joining 1 (weak 3) (primary 4))
    ∷ over 9 23 (joining 2 (lower 4) (upper 3))
    ∷ over 9 23 (joining 2 (lower 3) (upper 4))
    ∷ []

-- where the segment is frozen: 9, 10 and 11 above 22, and 22 above 15
abbrev pub frozen : List Order
frozen =
    over 9 22 (deleting_cluster 1 (primary 3))
    ∷ over 9 22 (deleting_segment 1 5 (primary 3))
    ∷ over 9 22 (writing 5 (primary 3) room)
    ∷ over 10 22 (deleting_cluster 1 (weak 4))
    ∷ over 10 22 (deleting_segment 1 5 (weak 4))
    ∷ over 11 22 (writing 5 (other 4) room)
    ∷ over 22 15 (writing 5 (primary 4) tight)
    ∷ over 22 15 (writing 5 (weak 4) [])
    ∷ []

abbrev pub numbers_of : Store → List Order → List ℕ
numbers_of s os = map (λ (o : Order). number added o.call s memory) os

abbrev pub uppers : List Order → List ℕ
uppers os = map (λ (o : Order). o.upper) os

abbrev pub Meet : Store → List Order → Type 0
Meet s os = map (λ (o : Order). applies s o.lower o.call) os ≡ map (λ (o : Order). true) os

pub record OrdersGiven : Type 0 where
  pub told : numbers_of sample orders ≡ uppers orders
  pub meet : Meet sample orders
  pub told_joined : numbers_of sample joined ≡ uppers joined
  pub meet_joined : Meet sample joined
  pub told_frozen : numbers_of marked frozen ≡ uppers frozen
  pub meet_frozen : Meet marked frozen
