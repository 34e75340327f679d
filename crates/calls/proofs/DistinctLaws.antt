-- The replies, records and bytes of passwords whose bytes all differ, computed: the copy is sound, so that at each call the
-- rows that leave soundness out are.
-- Assumes nothing.
use mathlib.Core.Path.{◌≡◌, refl, ap, ◌∙◌}
use Prim.Native.Nat.{ℕ}
use mathlib.Core.Bool.{true}
use mathlib.Core.List.{List, [], ◌∷◌, map}
use lib.ListN.{take, drop}
use Rattle.sizes.specs.Sizes.{memory}
use Rattle.store.specs.Records.{cluster_at}
use Rattle.store.specs.Sound.{sound}
use Rattle.store.proofs.QuickLaws.{quick, quickly, sound_quick}
use Rattle.calls.specs.Calls.{Call}
use Rattle.calls.specs.Numbers.{tests}
use Rattle.calls.specs.Steps.{Outcome, outcome, step, effects}
use Rattle.calls.specs.DistinctCases.{turned, single, held, Answered, answered, Leaving, left, DistinctAnswered}
use Rattle.calls.proofs.Computing.{computing}
use Rattle.calls.proofs.StepLaws.{number_below, number_below_lem}

single_quick : quick single memory ≡ true
unfolding quickly
single_quick = refl

single_sound : sound single memory ≡ true
single_sound = sound_quick single memory ∙ single_quick

abbrev below : Call → Outcome
below x = outcome turned (number_below turned x single memory) x held

step_below_lem : (x : Call) → step turned x held ≡ below x
unfolding step
step_below_lem x = ap (λ (n : ℕ). outcome turned n x held) (number_below_lem turned x single memory single_sound)

replies_below : (rs : List Answered)
    → map (λ (a : Answered). (step turned a.call held).reply) rs ≡ map (λ (a : Answered). (below a.call).reply) rs
replies_below [] = refl
replies_below (a ∷ rs) = λ j. (step_below_lem a.call j).reply ∷ replies_below rs j

records_below : (ls : List Leaving)
    → map (λ (l : Leaving). cluster_at (step turned l.call held).copy.store l.number) ls
    ≡ map (λ (l : Leaving). cluster_at (below l.call).copy.store l.number) ls
records_below [] = refl
records_below (l ∷ ls) = λ j. cluster_at (step_below_lem l.call j).copy.store l.number ∷ records_below ls j

told_below : map (λ (a : Answered). (below a.call).reply) answered ≡ map (λ (a : Answered). a.reply) answered
unfolding tests effects computing
told_below = refl

left_below : map (λ (l : Leaving). cluster_at (below l.call).copy.store l.number) left
    ≡ map (λ (l : Leaving). l.cluster) left
unfolding tests effects computing
left_below = refl

pub distinct_answered : DistinctAnswered
unfolding tests effects computing
distinct_answered =
    record {
      replies = replies_below answered ∙ told_below;
      records = records_below left ∙ left_below;
      bytes = ap (λ (o : Outcome). take 15 (drop 8190 o.copy.memory)) (step_below_lem _);
    }
