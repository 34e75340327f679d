-- P10 to P14 hold of the definition of placement: each is computed from it.
-- Assumes nothing.
use mathlib.Core.Path.{◌≡◌, refl}
use mathlib.Core.List.{map}
use Rattle.loops.specs.Below.{every}
use Rattle.loops.specs.Search.{least_from, least}
use Rattle.store.specs.Sound.{in_ranges, ends_inside, inside, apart}
use Rattle.store.specs.Placement.{clear, fits, new_base, placement}
use Rattle.store.specs.Examples.{Example, tells, two_segments, examples}

pub examples_hold : map tells examples ≡ map (λ (e : Example). e.told) examples
unfolding examples two_segments placement new_base least least_from fits clear every apart inside in_ranges ends_inside
examples_hold = refl
