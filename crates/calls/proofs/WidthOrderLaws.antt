-- The order of 25 in its two places, and of a width's 3, computed: in the sound store by the rows that leave soundness out,
-- with a slice that lacks a byte by all rows.
-- Assumes nothing.
use mathlib.Core.Path.{◌≡◌, refl, ◌∙◌}
use mathlib.Core.List.{List, map}
use Rattle.store.specs.Sound.{sound}
use Rattle.calls.specs.Calls.{Call}
use Rattle.calls.specs.Numbers.{number, tests}
use Rattle.calls.specs.Orders.{Order, uppers}
use Rattle.calls.specs.WidthOrders.{first, second, widths, damaged, numbers_of, Meet, WidthOrders}
use Rattle.calls.proofs.Computing.{computing}
use Rattle.calls.proofs.WidthCaseLaws.{below, numbers_below}

abbrev asked : List Order → List Call
asked os = map (λ (o : Order). o.call) os

first_below : below (asked first) ≡ uppers first
unfolding tests computing
first_below = refl

first_meet : Meet 16384 first
unfolding tests computing
first_meet = refl

second_below : below (asked second) ≡ uppers second
unfolding tests computing
second_below = refl

second_meet : Meet 16384 second
unfolding tests computing
second_meet = refl

widths_below : below (asked widths) ≡ uppers widths
unfolding tests computing
widths_below = refl

widths_meet : Meet 16384 widths
unfolding tests computing
widths_meet = refl

damaged_told : numbers_of 16383 damaged ≡ uppers damaged
unfolding number sound tests computing
damaged_told = refl

damaged_meet : Meet 16383 damaged
unfolding sound tests computing
damaged_meet = refl

pub width_orders : WidthOrders
width_orders =
    record {
      told_first_lem = numbers_below (asked first) ∙ first_below;
      meet_first = first_meet;
      told_second = numbers_below (asked second) ∙ second_below;
      meet_second = second_meet;
      told_widths = numbers_below (asked widths) ∙ widths_below;
      meet_widths = widths_meet;
      told_damaged = damaged_told;
      meet_damaged = damaged_meet;
    }
