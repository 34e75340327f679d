-- The replies and the parts written out, computed: each call is made on a sound copy, so that at each only the rows below
-- the first are.
-- Assumes nothing.
use mathlib.Core.Path.{◌≡◌, refl, ap, ◌∙◌}
use Prim.Native.Nat.{ℕ}
use mathlib.Core.List.{List, [], ◌∷◌, map}
use Rattle.sizes.specs.Sizes.{memory}
use Rattle.calls.specs.Calls.{Call}
use Rattle.calls.specs.Numbers.{tests}
use Rattle.calls.specs.Steps.{Reply, outcome, step, effects}
use Rattle.calls.specs.Cases.{added, sample}
use Rattle.calls.specs.Bounds.{edge}
use Rattle.calls.specs.Written.{held, Answered, answered, EachAnswered, PartsTold}
use Rattle.calls.proofs.Computing.{computing}
use Rattle.calls.proofs.StepLaws.{number_below, number_below_lem, looked_below_lem}
use Rattle.calls.proofs.CaseLaws.{sample_sound}
use Rattle.calls.proofs.BoundLaws.{edge_sound}

abbrev below : Call → Reply
below x = (outcome added (number_below added x sample memory) x held).reply

replies_below : (rs : List Answered)
    → map (λ (a : Answered). (step added a.call held).reply) rs ≡ map (λ (a : Answered). below a.call) rs
unfolding step
replies_below [] = refl
replies_below (a ∷ rs) =
    λ j.
    ap (λ (n : ℕ). (outcome added n a.call held).reply) (number_below_lem added a.call sample memory sample_sound) j
    ∷ replies_below rs j

told_below : map (λ (a : Answered). below a.call) answered ≡ map (λ (a : Answered). a.reply) answered
unfolding tests effects computing
told_below = refl

pub each_answered : EachAnswered
each_answered = replies_below answered ∙ told_below

-- ---- the parts

pub parts_told : PartsTold
unfolding tests computing
parts_told =
    record {
      done = looked_below_lem added _ sample memory sample_sound;
      elsewhere = looked_below_lem added _ sample memory sample_sound;
      violated = looked_below_lem added _ sample memory sample_sound;
      last = looked_below_lem added _ edge memory edge_sound;
    }
