-- Assumes nothing.
use borrow.Author.Rules.{rules}
use Rattle.lines.proofs.LineLaws.{adds_spaced}
use Rattle.lines.proofs.Line.put_number.Goals as goal

pub returns-clause-adds : goal.returns-clause-adds
returns-clause-adds c = search (rules, adds_spaced)
