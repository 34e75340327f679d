-- The length, no records, or the way from record 1.
-- Assumes nothing.
use Rattle.list.proofs.CheckLaws.{check_uneven, check_long, check_empty, check_way}
use borrow.Author.Rules.{rules}
use Rattle.list.proofs.text.check.Goals as goal

pub returns-then-size-ne0 : goal.returns-then-size-ne0
returns-then-size-ne0 c = search (rules, check_uneven)

pub returns-then-size-gt-MOST_BYTES : goal.returns-then-size-gt-MOST_BYTES
returns-then-size-gt-MOST_BYTES c = search (rules, check_long)

pub returns-then-size-eq0 : goal.returns-then-size-eq0
returns-then-size-eq0 c = search (rules, check_empty)

pub returns : goal.returns
returns c = search (rules, check_way)
