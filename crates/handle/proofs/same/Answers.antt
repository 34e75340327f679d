use Rattle.handle.proofs.PasswordLaws.{comparing_none, comparing_more, comparing_all}
use borrow.Author.Rules.{rules}
use Rattle.handle.proofs.same.Goals as goal

pub loop-x-init : goal.loop-x-init
loop-x-init c = search (rules, comparing_none)

pub loop-x-preserved : goal.loop-x-preserved
loop-x-preserved c = search (rules, comparing_more)

pub returns : goal.returns
returns c =
    comparing_all _ _ (search rules) (search rules) _ _ _ c.loop-x.invariant (λ s. s.1.0) (λ s. s.1.0) c.in-None.ensures.steps
