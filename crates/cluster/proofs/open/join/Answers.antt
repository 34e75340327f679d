-- Refused by the rows of two handles, or the handles joined.
-- Assumes nothing.
use Rattle.std.proofs.Common.{rules}
use Rattle.cluster.proofs.JoinLaws.{join_refused, join_done}
use Rattle.cluster.proofs.open.join.Goals as goal

pub returns-in_err-pair_refusal : goal.returns-in_err-pair_refusal
returns-in_err-pair_refusal c = search (rules, join_refused, c.in_err-pair_refusal.was)

pub returns : goal.returns
returns c = search (rules, join_done, c.in_ok-pair_refusal.was)
