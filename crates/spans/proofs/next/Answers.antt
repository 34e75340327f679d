-- No bit sought lies before the word that is looked at (`Seeking`); the lowest that is left is the first, where it lies before the end.
-- Assumes nothing.
use Rattle.spans.proofs.NextLaws.{seeking_first, seeking_more, told_found, told_none}
use borrow.Author.Rules.{rules}
use Rattle.spans.proofs.next.Goals as goal

pub loop-at-init : goal.loop-at-init
loop-at-init c = search (rules, seeking_first)

pub returns-then-w-ne0-clause-found : goal.returns-then-w-ne0-clause-found
returns-then-w-ne0-clause-found c = search (rules, told_found)

pub returns-then-w-ne0-clause-none : goal.returns-then-w-ne0-clause-none
returns-then-w-ne0-clause-none c = search (rules, told_none)

pub loop-at-preserved : goal.loop-at-preserved
loop-at-preserved c = search (rules, seeking_more)
