-- Assumes nothing.
use borrow.Author.Rules.{rules}
use Rattle.chain.proofs.WalkLaws.{walking_none, walking_to, walked_zero, walked_beyond, walked_last}
use Rattle.chain.proofs.way.Goals as goal

pub loop-met-init : goal.loop-met-init
loop-met-init c = search (rules, walking_none)

pub returns-then-at-eq0 : goal.returns-then-at-eq0
returns-then-at-eq0 c = search (rules, walked_zero)

pub returns-then-n-at : goal.returns-then-n-at
returns-then-n-at c = search (rules, walked_beyond)

pub loop-met-preserved : goal.loop-met-preserved
loop-met-preserved c = search (rules, walking_to)

pub returns-else-n-at : goal.returns-else-n-at
returns-else-n-at c = search (rules, walked_last)
