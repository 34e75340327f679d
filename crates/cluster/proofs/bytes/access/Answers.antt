-- The rows of a look, then 22 and 15.
-- Assumes nothing.
use Rattle.std.proofs.Common.{rules}
use Rattle.cluster.proofs.AccessLaws.{access_reached, access_frozen, access_short, access_none}
use Rattle.cluster.proofs.bytes.access.Goals as goal

pub returns-in_err-reach : goal.returns-in_err-reach
returns-in_err-reach c = search (rules, access_reached, c.in_err-reach.was)

pub returns-then-kept : goal.returns-then-kept
returns-then-kept c = search (rules, access_frozen, c.in_ok-reach.was)

pub returns-then-room-length_of : goal.returns-then-room-length_of
returns-then-room-length_of c = search (rules, access_short, c.in_ok-reach.was)

pub returns : goal.returns
returns c = search (rules, access_none, c.in_ok-reach.was)
