-- The digits from 0 stand in a row, and those from a.
-- Assumes nothing.
use borrow.Author.Rules.{rules}
use Rattle.lines.proofs.TextLaws.{digit_low, digit_high}
use Rattle.lines.proofs.digit.Goals as goal

pub returns-then-d-lt10 : goal.returns-then-d-lt10
returns-then-d-lt10 c = search (rules, digit_low)

pub returns-else-d-lt10 : goal.returns-else-d-lt10
returns-else-d-lt10 c = search (rules, digit_high)
