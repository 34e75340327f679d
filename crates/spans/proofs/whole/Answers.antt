-- The words so far are marked (`Filling`); the part of the map that they are goes back where it was.
-- Assumes nothing.
use borrow.Author.Rules.{rules}
use Rattle.spans.proofs.MarkLaws.{filling_none, filling_more, filling_all}
use Rattle.spans.proofs.whole.Goals as goal

pub loop-word-init : goal.loop-word-init
loop-word-init c = filling_none _

pub loop-word-preserved : goal.loop-word-preserved
loop-word-preserved c = search (rules, filling_more)

pub returns : goal.returns
returns c = search (rules, filling_all)
