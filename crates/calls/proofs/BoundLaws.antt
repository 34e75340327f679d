-- The calls at their bounds are told as they say: the stores are sound, and below the first row the numbers are computed.
-- Assumes nothing.
use mathlib.Core.Path.{◌≡◌, refl, ◌∙◌}
use mathlib.Core.Bool.{true}
use mathlib.Core.List.{List, map}
use Prim.Native.Nat.{ℕ}
use Rattle.sizes.specs.Sizes.{memory}
use Rattle.store.specs.declared.Store.{Store}
use Rattle.store.specs.Records.{starting_store}
use Rattle.store.specs.Sound.{sound}
use Rattle.store.proofs.SoundLaws.{sound_starting}
use Rattle.calls.specs.Calls.{Call}
use Rattle.calls.specs.Numbers.{tests}
use Rattle.calls.specs.Cases.{added, Case, calls, named}
use Rattle.calls.specs.Bounds.{bare, edge, sealed, free, empty, full, frozen, BoundsDone}
use Rattle.calls.proofs.CaseLaws.{numbers_below}
use Rattle.store.proofs.QuickLaws.{quick, quickly, sound_quick}
use Rattle.calls.proofs.Computing.{computing}
use Rattle.calls.proofs.StepLaws.{number_below}

abbrev below : Store → List Case → List ℕ
below s cs = map (λ (x : Call). number_below added x s memory) (calls cs)

bare_quick : quick bare memory ≡ true
unfolding quickly
bare_quick = refl

bare_sound : sound bare memory ≡ true
bare_sound = sound_quick bare memory ∙ bare_quick

edge_quick : quick edge memory ≡ true
unfolding quickly
edge_quick = refl

pub edge_sound : sound edge memory ≡ true
edge_sound = sound_quick edge memory ∙ edge_quick

sealed_quick : quick sealed memory ≡ true
unfolding quickly
sealed_quick = refl

sealed_sound : sound sealed memory ≡ true
sealed_sound = sound_quick sealed memory ∙ sealed_quick

free_below : below starting_store free ≡ named free
unfolding tests computing
free_below = refl

empty_below : below bare empty ≡ named empty
unfolding tests computing
empty_below = refl

full_below : below edge full ≡ named full
unfolding tests computing
full_below = refl

frozen_below : below sealed frozen ≡ named frozen
unfolding tests computing
frozen_below = refl

pub bounds_done : BoundsDone
bounds_done =
    record {
      free = numbers_below starting_store sound_starting (calls free) ∙ free_below;
      empty = numbers_below bare bare_sound (calls empty) ∙ empty_below;
      full = numbers_below edge edge_sound (calls full) ∙ full_below;
      frozen = numbers_below sealed sealed_sound (calls frozen) ∙ frozen_below;
    }
