-- Refused by the rows that calls 4 and 10 share, refused with 22, or the segment absent.
-- Assumes nothing.
use Rattle.std.proofs.Common.{rules}
use Rattle.cluster.proofs.ChangeLaws.{delete_segment_refused, delete_segment_frozen, delete_segment_done}
use Rattle.cluster.proofs.change.delete_segment.Goals as goal

pub returns-in_err-own_segment : goal.returns-in_err-own_segment
returns-in_err-own_segment c = search (rules, delete_segment_refused, c.in_err-own_segment.was)

pub returns-then-frozen_of : goal.returns-then-frozen_of
returns-then-frozen_of c = search (rules, delete_segment_frozen, c.in_ok-own_segment.was)

pub returns : goal.returns
returns c = search (rules, delete_segment_done, c.in_ok-own_segment.was)
