-- The replies at widths 4 and 16 and the records left, computed: the copy is sound, so that at each call the rows that leave
-- soundness out are.
-- Assumes nothing.
use mathlib.Core.Path.{◌≡◌, refl, ap, ◌∙◌}
use Prim.Native.Nat.{ℕ}
use mathlib.Core.List.{List, [], ◌∷◌, map}
use Rattle.sizes.specs.Sizes.{memory}
use Rattle.store.specs.declared.Cluster.{Cluster}
use Rattle.store.specs.Records.{cluster_at}
use Rattle.calls.specs.Calls.{Call, making_cluster}
use Rattle.calls.specs.Numbers.{tests}
use Rattle.calls.specs.Steps.{Outcome, outcome, step, effects}
use Rattle.calls.specs.Literals.{sixteen}
use Rattle.calls.specs.WidthCases.{folded, mixed}
use Rattle.calls.specs.WidthReplies.{held, Answered, answered, Leaving, left, widths, WidthsAnswered}
use Rattle.calls.proofs.Computing.{computing}
use Rattle.calls.proofs.StepLaws.{number_below, number_below_lem}
use Rattle.calls.proofs.WidthCaseLaws.{mixed_sound}

abbrev below : Call → Outcome
below x = outcome folded (number_below folded x mixed memory) x held

step_below_lem : (x : Call) → step folded x held ≡ below x
unfolding step
step_below_lem x = ap (λ (n : ℕ). outcome folded n x held) (number_below_lem folded x mixed memory mixed_sound)

replies_below : (rs : List Answered)
    → map (λ (a : Answered). (step folded a.call held).reply) rs ≡ map (λ (a : Answered). (below a.call).reply) rs
replies_below [] = refl
replies_below (a ∷ rs) = λ j. (step_below_lem a.call j).reply ∷ replies_below rs j

records_below : (ls : List Leaving)
    → map (λ (l : Leaving). cluster_at (step folded l.call held).copy.store l.number) ls
    ≡ map (λ (l : Leaving). cluster_at (below l.call).copy.store l.number) ls
records_below [] = refl
records_below (l ∷ ls) =
    λ j. cluster_at (step_below_lem l.call j).copy.store l.number ∷ records_below ls j

told_below : map (λ (a : Answered). (below a.call).reply) answered ≡ map (λ (a : Answered). a.reply) answered
unfolding tests effects computing
told_below = refl

left_below : map (λ (l : Leaving). cluster_at (below l.call).copy.store l.number) left
    ≡ map (λ (l : Leaving). l.cluster) left
unfolding tests effects computing
left_below = refl

widths_below : map (λ (c : Cluster). c.width)
    (below (making_cluster 1 3 16 (sixteen 9) (sixteen 10))).copy.store.clusters
    ≡ widths
unfolding tests effects computing
widths_below = refl

pub widths_answered : WidthsAnswered
widths_answered =
    record {
      replies = replies_below answered ∙ told_below;
      records = records_below left ∙ left_below;
      widths =
          ap (λ (o : Outcome). map (λ (c : Cluster). c.width) o.copy.store.clusters)
          (step_below_lem (making_cluster 1 3 16 (sixteen 9) (sixteen 10)))
          ∙ widths_below;
    }
