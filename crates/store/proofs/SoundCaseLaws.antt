-- The lists of tables are told as they say: each is computed, with no more pairs than it takes.
-- Assumes nothing.
use mathlib.Core.Path.{◌≡◌, refl, ap, ◌∙◌}
use mathlib.Core.Bool.{Bool}
use mathlib.Core.List.{List, map}
use Rattle.store.specs.SoundCases.{Case, told, damaged, whole}
use Rattle.store.proofs.QuickLaws.{quick, quickly, sound_quick}

judged : Case → Bool
judged c = quick c.store c.size

told_judged : (l : List Case) → map told l ≡ map judged l
unfolding judged
told_judged l = ap (λ (f : Case → Bool). map f l) (λ j c. sound_quick c.store c.size j)

damaged_judged : map judged damaged ≡ map (λ (c : Case). c.told) damaged
unfolding judged damaged quickly
damaged_judged = refl

whole_judged : map judged whole ≡ map (λ (c : Case). c.told) whole
unfolding judged whole quickly
whole_judged = refl

pub damaged_told : map told damaged ≡ map (λ (c : Case). c.told) damaged
damaged_told = told_judged damaged ∙ damaged_judged

pub whole_told : map told whole ≡ map (λ (c : Case). c.told) whole
whole_told = told_judged whole ∙ whole_judged
