-- Assumes nothing.
use borrow.Author.Rules.{rules}
use Rattle.lines.proofs.PutLaws.{adds_part}
use Rattle.lines.proofs.Line.put.Goals as goal

pub returns : goal.returns
returns c = search (rules, adds_part)
