-- Each return is what the weakenings of all handles of which this is seen come to.
-- Assumes nothing.
use Rattle.register.proofs.NarrowLaws.{narrow_empty, narrow_same, narrow_spent, narrow_cut}
use borrow.Author.Rules.{rules}
use Rattle.register.proofs.work.narrow.Goals as goal

pub returns-then-kept-eq0 : goal.returns-then-kept-eq0
returns-then-kept-eq0 c = search (rules, narrow_empty)

pub returns-then-seen-mask-eq0 : goal.returns-then-seen-mask-eq0
returns-then-seen-mask-eq0 c = search (rules, narrow_same)

pub returns-then-seen-ge-CUTS : goal.returns-then-seen-ge-CUTS
returns-then-seen-ge-CUTS c = search (rules, narrow_spent)

pub returns : goal.returns
returns c = search (rules, narrow_cut)
