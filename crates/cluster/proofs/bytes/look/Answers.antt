-- A look is refused, or shows the segment's part.
-- Assumes nothing.
use Rattle.std.proofs.Common.{rules}
use Rattle.cluster.proofs.LookLaws.{look_refused, look_done}
use Rattle.cluster.proofs.bytes.look.Goals as goal

pub returns-in_err-reach : goal.returns-in_err-reach
returns-in_err-reach c = search (rules, look_refused, c.in_err-reach.was)

pub returns : goal.returns
returns c = search (rules, look_done, c.in_ok-reach.was)
