-- The handle's own weakening.
-- Assumes nothing.
use Rattle.std.proofs.Common.{rules}
use Rattle.cluster.proofs.CreateLaws.{weaken_refused, weaken_done}
use Rattle.cluster.proofs.create.weaken.Goals as goal

pub returns-in_err-weaker : goal.returns-in_err-weaker
returns-in_err-weaker c = search (rules, weaken_refused, c.in_err-weaker.was)

pub returns : goal.returns
returns c = search (rules, weaken_done, c.in_ok-weaker.was)
