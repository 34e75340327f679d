-- Refused by the rows that calls 4 and 10 share, or the segment frozen.
-- Assumes nothing.
use Rattle.std.proofs.Common.{rules}
use Rattle.cluster.proofs.ChangeLaws.{freeze_refused, freeze_done}
use Rattle.cluster.proofs.change.freeze.Goals as goal

pub returns-in_err-own_segment : goal.returns-in_err-own_segment
returns-in_err-own_segment c = search (rules, freeze_refused, c.in_err-own_segment.was)

pub returns : goal.returns
returns c = search (rules, freeze_done, c.in_ok-own_segment.was)
