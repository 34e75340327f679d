-- Assumes nothing.
use borrow.Author.Rules.{rules}
use Rattle.lines.proofs.PutLaws.{adds_ones, adds_tens, adds_hundreds}
use Rattle.lines.proofs.Line.put_decimal.Goals as goal

pub returns-then-n-lt10-clause-adds : goal.returns-then-n-lt10-clause-adds
returns-then-n-lt10-clause-adds c = search (rules, adds_ones)

pub returns-then-n-lt100-clause-adds : goal.returns-then-n-lt100-clause-adds
returns-then-n-lt100-clause-adds c = search (rules, adds_tens)

pub returns-else-n-lt100-clause-adds : goal.returns-else-n-lt100-clause-adds
returns-else-n-lt100-clause-adds c = search (rules, adds_hundreds)
