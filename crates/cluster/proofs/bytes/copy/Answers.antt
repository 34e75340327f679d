-- The bytes of the source, each at its place, are the source.
-- Assumes nothing.
use mathlib.Core.Path.{refl, sym, ◌∙◌}
use borrow.Author.Rules.{rules}
use Rattle.loops.proofs.TabulateLaws.{filled_none, filled_more, filled_all, tabulate_is}
use Rattle.cluster.proofs.bytes.copy.Goals as goal

pub loop-i-init : goal.loop-i-init
loop-i-init c = filled_none _ _ _ _ refl

pub loop-i-preserved : goal.loop-i-preserved
loop-i-preserved c = filled_more _ _ _ _ _ c.loop-i.invariant (search rules) _ refl

pub returns : goal.returns
returns c =
    filled_all _ _ _ _ _ c.loop-i.invariant (search rules)
    ∙ sym (tabulate_is _ _ 0 _ (search rules) (λ k b. refl))
