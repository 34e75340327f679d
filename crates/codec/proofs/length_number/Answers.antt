-- There is no handle where its width is 0.
-- Assumes nothing.
use Rattle.codec.proofs.HeldLaws.{length_none, length_some}
use borrow.Author.Rules.{rules}
use Rattle.codec.proofs.length_number.Goals as goal

pub returns-then-has_width : goal.returns-then-has_width
returns-then-has_width c = search (rules, length_none)

pub returns : goal.returns
returns c = search (rules, length_some)
