-- P1 to P14 hold: the answers are those of the handle and the store crate. The numbers of a weakening are computed, whatever
-- the conversion, the mask and the store. That of P13 is the one below the first row, for its store is sound.
-- Assumes nothing.
use Prim.Native.Nat.{ℕ}
use mathlib.Core.Path.{◌≡◌, refl, ◌∙◌}
use mathlib.Core.Bool.{true}
use mathlib.Core.List.{List, [], ◌∷◌, ◌++◌, map}
use Rattle.sizes.specs.Sizes.{memory}
use Rattle.handle.specs.Handles.{Name}
use Rattle.handle.specs.Examples as S
use Rattle.handle.proofs.ExamplesHold as SH
use Rattle.store.specs.declared.Store.{Store}
use Rattle.store.specs.Sound.{sound}
use Rattle.store.specs.Examples as P
use Rattle.store.specs.Examples.{two_segments}
use Rattle.store.proofs.ExampleLaws as PH
use Rattle.store.proofs.QuickLaws.{quick, quickly, sound_quick}
use Rattle.calls.specs.Numbers.{number, tests}
use Rattle.calls.proofs.Computing.{computing}
use Rattle.calls.proofs.StepLaws.{number_below, number_below_lem}
use Rattle.calls.specs.Examples.{Example, Told, selected, placed, refused, making, answers, weakenings, full, examples, tells}

two_segments_quick : quick two_segments memory ≡ true
unfolding quickly two_segments
two_segments_quick = refl

two_segments_sound : sound two_segments memory ≡ true
two_segments_sound = sound_quick two_segments memory ∙ two_segments_quick

module _ (f : Name → List ℕ → ℕ → List ℕ) where
  full_below : number_below f (making 3937) two_segments memory ≡ 16
  unfolding tests computing two_segments
  full_below = refl

  full_number : number f (making 3937) two_segments memory ≡ 16
  full_number = number_below_lem f (making 3937) two_segments memory two_segments_sound ∙ full_below

module _ (f : Name → List ℕ → ℕ → List ℕ) (password first : List ℕ) (mask : ℕ) (s : Store) (size : ℕ) where
  abbrev asked : List Example → List Told
  asked es = map (λ (e : Example). tells f password first mask s size e.asked) es

  abbrev told : List Example → List Told
  told es = map (λ (e : Example). e.told) es

  answers_hold : asked (answers f password first mask s size) ≡ told (answers f password first mask s size)
  unfolding tells S.examples P.examples
  answers_hold =
      λ j.
      map selected (SH.examples_hold (f (record { node = 0; local = 2 })) password first mask j)
      ++ map placed (PH.examples_hold j)

  weakenings_hold : asked (weakenings f password first mask s size) ≡ told (weakenings f password first mask s size)
  unfolding tells number tests computing
  weakenings_hold = refl

  full_holds : asked (full f password first mask s size) ≡ told (full f password first mask s size)
  unfolding tells
  full_holds = λ j. refused (full_number f j) ∷ []

  pub examples_hold : asked (examples f password first mask s size) ≡ told (examples f password first mask s size)
  unfolding examples S.examples P.examples
  examples_hold = λ j. answers_hold j ++ (weakenings_hold j ++ full_holds j)
