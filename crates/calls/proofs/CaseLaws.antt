-- The numbers of the table, computed. In a sound store the number is that of the rows below the first, so that soundness
-- is computed once.
-- Assumes nothing.
use mathlib.Core.Path.{◌≡◌, refl, ◌∙◌}
use Prim.Native.Nat.{ℕ, ◌-◌}
use mathlib.Core.Bool.{true}
use mathlib.Core.List.{List, [], ◌∷◌, map}
use Rattle.bits.specs.Sets.{has, set_of, count}
use Rattle.bits.specs.Bytes.{bytes, word_from, word}
use Rattle.sizes.specs.Sizes.{memory}
use Rattle.handle.specs.Widths.{packed, unpacked}
use Rattle.handle.specs.Handles.{encoded, decoded}
use Rattle.store.specs.declared.Store.{Store}
use Rattle.store.specs.Sound.{sound}
use Rattle.calls.specs.Calls.{Call}
use Rattle.calls.specs.Numbers.{number, tests}
use Rattle.calls.specs.Cases.{added, sample, marked, Case, calls, named, damaged, refusals, frozen, NumbersGiven}
use Rattle.calls.specs.NearCases.{nears, NearGiven}
use Rattle.calls.specs.JoinCases.{joins, joins_apart, JoinsGiven}
use Rattle.calls.specs.Orders as order
use Rattle.store.proofs.QuickLaws.{quick, quickly, sound_quick}
use Rattle.calls.proofs.Computing.{computing}
use Rattle.calls.proofs.StepLaws.{number_below, number_below_lem}

sample_quick : quick sample memory ≡ true
unfolding quickly
sample_quick = refl

pub sample_sound : sound sample memory ≡ true
sample_sound = sound_quick sample memory ∙ sample_quick

marked_quick : quick marked memory ≡ true
unfolding quickly
marked_quick = refl

marked_sound : sound marked memory ≡ true
marked_sound = sound_quick marked memory ∙ marked_quick

-- the numbers of calls on a sound store are those below the first row
module _ (s : Store) (e : sound s memory ≡ true) where
  pub numbers_below : (xs : List Call)
      → map (λ (x : Call). number added x s memory) xs ≡ map (λ (x : Call). number_below added x s memory) xs
  numbers_below [] = refl
  numbers_below (x ∷ xs) = λ j. number_below_lem added x s memory e j ∷ numbers_below xs j

abbrev below : Store → List Call → List ℕ
below s xs = map (λ (x : Call). number_below added x s memory) xs

abbrev asked : List order.Order → List Call
asked os = map (λ (o : order.Order). o.call) os

refusals_below : below sample (calls refusals) ≡ named refusals
unfolding tests computing
refusals_below = refl

nears_below : below sample (calls nears) ≡ named nears
unfolding tests computing
nears_below = refl

joins_below : below sample (calls joins) ≡ named joins
unfolding tests computing
joins_below = refl

joins_apart_below : below marked (calls joins_apart) ≡ named joins_apart
unfolding tests computing
joins_apart_below = refl

frozen_below : below marked (calls frozen) ≡ named frozen
unfolding tests computing
frozen_below = refl

orders_below : below sample (asked order.orders) ≡ order.uppers order.orders
unfolding tests computing
orders_below = refl

orders_meet : order.Meet sample order.orders
unfolding tests computing
orders_meet = refl

joined_orders_below : below sample (asked order.joined) ≡ order.uppers order.joined
unfolding tests computing
joined_orders_below = refl

joined_orders_meet : order.Meet sample order.joined
unfolding tests computing
joined_orders_meet = refl

frozen_orders_below : below marked (asked order.frozen) ≡ order.uppers order.frozen
unfolding tests computing
frozen_orders_below = refl

frozen_orders_meet : order.Meet marked order.frozen
unfolding tests computing
frozen_orders_meet = refl

damaged_told : map (λ (c : Case). number added c.call sample (memory - 1)) damaged
    ≡ map (λ (c : Case). c.number) damaged
unfolding number sound has set_of count bytes word word_from packed unpacked encoded decoded tests
damaged_told = refl

pub numbers_given : NumbersGiven
numbers_given =
    record {
      damaged = damaged_told;
      refusals = numbers_below sample sample_sound (calls refusals) ∙ refusals_below;
      frozen = numbers_below marked marked_sound (calls frozen) ∙ frozen_below;
    }

pub near_given : NearGiven
near_given = numbers_below sample sample_sound (calls nears) ∙ nears_below

pub joins_given : JoinsGiven
joins_given =
    record {
      joins = numbers_below sample sample_sound (calls joins) ∙ joins_below;
      apart = numbers_below marked marked_sound (calls joins_apart) ∙ joins_apart_below;
    }

pub orders_given : order.OrdersGiven
orders_given =
    record {
      told = numbers_below sample sample_sound (asked order.orders) ∙ orders_below;
      meet = orders_meet;
      told_joined = numbers_below sample sample_sound (asked order.joined) ∙ joined_orders_below;
      meet_joined = joined_orders_meet;
      told_frozen = numbers_below marked marked_sound (asked order.frozen) ∙ frozen_orders_below;
      meet_frozen = frozen_orders_meet;
    }
