-- The list is computed, and the theorem on what is frozen is applied to it.
-- Assumes nothing.
use mathlib.Core.Path.{◌≡◌, refl, sym, ap, ◌∙◌}
use Prim.Native.Nat.{ℕ, ◌+◌, ◌*◌}
use native.Mathlib.Omega.{arith}
use mathlib.Core.List.{List, ◌∷◌}
use mathlib.Core.Bool.{true, false≢true}
use lib.ListN.{get_or}
use Rattle.store.specs.Records.{Table, frozen_of}
use Rattle.sizes.specs.Sizes.{memory}
use Rattle.handle.specs.Handles.{Name}
use Rattle.calls.specs.Numbers.{tests}
use Rattle.calls.specs.Steps.{Ran, effects, run}
use Rattle.calls.proofs.Computing.{computing}
use Rattle.calls.proofs.StepLaws.{number_below_lem}
use Rattle.isolation.specs.Copies.{Done}
use Rattle.isolation.specs.Frozen.{Fixed}
use Rattle.isolation.specs.Witness.{one}
use Rattle.isolation.specs.FrozenWitness.{the_freeze, attempts, attempt_answers, otherwise, FrozenList, Standing, Otherwise}
use Rattle.isolation.specs.FrozenWitness.{Tabled}
use Rattle.isolation.proofs.RunLaws.{numbers_of, numbered, run_below_lem, run_by_lem}
use Rattle.isolation.proofs.FrozenLaws.{fixed_from_then_on}
use Rattle.isolation.proofs.HoldingLaws.{four}
use Rattle.isolation.proofs.WitnessLaws.{sound_one}

pub tabled : Tabled
tabled h = false≢true (ap (λ (t : Table). frozen_of t 5) h.table)

module _ (f : Name → List ℕ → ℕ → List ℕ) where
  frozen_done : Done f the_freeze one
  unfolding tests computing
  frozen_done = number_below_lem f the_freeze one.store memory sound_one ∙ refl

  numbers : numbered f (numbers_of f attempt_answers) (the_freeze ∷ attempts) one ≡ true
  unfolding tests effects computing
  numbers = refl

  replies : (run f (the_freeze ∷ attempts) one).replies ≡ attempt_answers
  unfolding effects computing
  replies = ap (λ (r : Ran). r.replies) (run_by_lem f (numbers_of f attempt_answers) (the_freeze ∷ attempts) one sound_one numbers) ∙ refl

  pub frozen_list_lem : FrozenList f
  frozen_list_lem = record { done = frozen_done; replies = replies }

  pub standing : Standing f
  unfolding computing
  standing =
      record {
        active = fixed.active;
        place = fixed.place;
        frozen = fixed.frozen;
        bytes = λ p l.
            let e : 0 * 4096 + (0 + p) ≡ p = omega arith in
            ap (λ (q : ℕ). get_or (run f (the_freeze ∷ attempts) one).copy.memory q 0) (sym e)
            ∙ fixed.bytes p l
            ∙ ap (λ (q : ℕ). get_or one.memory q 0) e
            ∙ four 8 5 17 34 7 p l;
      }
    where
      fixed : Fixed 0 2 5 0 4 one (run f (the_freeze ∷ attempts) one).copy
      fixed = (fixed_from_then_on f the_freeze.args attempts one frozen_done).fixed 0 4 refl

  pub thawed_otherwise : Otherwise f
  unfolding tests effects computing
  thawed_otherwise = ap (λ (r : Ran). r.replies) (run_below_lem f otherwise one sound_one) ∙ refl
