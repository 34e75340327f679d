-- The bit of the segment.
-- Assumes nothing.
use Rattle.register.proofs.NarrowLaws.{code_has}
use borrow.Author.Rules.{rules}
use Rattle.register.proofs.lay.has.Goals as goal

pub returns : goal.returns
returns c = search (rules, code_has)
