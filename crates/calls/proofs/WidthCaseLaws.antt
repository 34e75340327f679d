-- The numbers that widths bring, computed. A wrong length is told before the store is looked at; the store is sound, so the
-- others are those of the rows that leave soundness out.
-- Assumes nothing.
use mathlib.Core.Path.{◌≡◌, refl, ◌∙◌}
use Prim.Native.Nat.{ℕ}
use mathlib.Core.Bool.{true}
use mathlib.Core.List.{List, [], ◌∷◌, map}
use Rattle.sizes.specs.Sizes.{memory}
use Rattle.store.specs.declared.Store.{Store}
use Rattle.store.specs.Sound.{sound}
use Rattle.store.proofs.QuickLaws.{quick, quickly, sound_quick}
use Rattle.calls.specs.Calls.{Call}
use Rattle.calls.specs.Numbers.{number, tests}
use Rattle.calls.specs.Cases.{calls, named}
use Rattle.calls.specs.WidthCases.{folded, mixed, wrong_lengths, damaged, others, fields, numbers, told_by, WidthsGiven}
use Rattle.calls.proofs.Computing.{computing}
use Rattle.calls.proofs.StepLaws.{number_below, number_below_lem}

mixed_quick : quick mixed memory ≡ true
unfolding quickly
mixed_quick = refl

pub mixed_sound : sound mixed memory ≡ true
mixed_sound = sound_quick mixed memory ∙ mixed_quick

abbrev pub below : List Call → List ℕ
below xs = map (λ (x : Call). number_below folded x mixed memory) xs

pub numbers_below : (xs : List Call) → map (λ (x : Call). number folded x mixed memory) xs ≡ below xs
numbers_below [] = refl
numbers_below (x ∷ xs) = λ j. number_below_lem folded x mixed memory mixed_sound j ∷ numbers_below xs j

lengths_told : (s : Store) (size : ℕ) → told_by s size wrong_lengths ≡ named wrong_lengths
unfolding number tests computing
lengths_told s size = refl

damaged_told : told_by mixed 16383 damaged ≡ named damaged
unfolding number sound tests computing
damaged_told = refl

others_below : below (calls others) ≡ named others
unfolding tests computing
others_below = refl

fields_below : below (calls fields) ≡ named fields
unfolding tests computing
fields_below = refl

told_below : below (calls numbers) ≡ named numbers
unfolding tests computing
told_below = refl

pub widths_given : WidthsGiven
widths_given =
    record {
      lengths = lengths_told;
      damaged = damaged_told;
      others = numbers_below (calls others) ∙ others_below;
      fields = numbers_below (calls fields) ∙ fields_below;
      numbers = numbers_below (calls numbers) ∙ told_below;
    }
