-- The part that a look tells, cut out of the memory: it rises, and ends inside.
-- Assumes nothing.
use Rattle.guard.proofs.LookLaws.{part_rises, part_ends, part_shown, none_shown}
use borrow.Author.Rules.{rules}
use Rattle.guard.proofs.look.Goals as goal

pub slice_bounds-result-count : goal.slice_bounds-result-count
slice_bounds-result-count c = part_rises _ _ _ _ _ _ c.in-Ok.ensures

pub slice_bounds-result-start : goal.slice_bounds-result-start
slice_bounds-result-start c = search (rules, part_rises _ _ _ _ _ _ c.in-Ok.ensures)

pub slice_bounds-result-end : goal.slice_bounds-result-end
slice_bounds-result-end c = search (rules, part_ends _ _ _ _ _ _ c.in-Ok.ensures)

pub returns-in-Ok-clause-shown : goal.returns-in-Ok-clause-shown
returns-in-Ok-clause-shown c = part_shown _ _ _ _ _ _ c.in-Ok.ensures

pub returns-in-Err-clause-shown : goal.returns-in-Err-clause-shown
returns-in-Err-clause-shown c = none_shown _ _ _ _ _ _ c.in-Err.ensures
