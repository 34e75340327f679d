-- Refused by the shared rows, or the handle reduced.
-- Assumes nothing.
use Rattle.std.proofs.Common.{rules}
use Rattle.cluster.proofs.OpenLaws.{reduce_refused, reduce_done}
use Rattle.cluster.proofs.open.reduce.Goals as goal

pub returns-in_err-first_refusal : goal.returns-in_err-first_refusal
returns-in_err-first_refusal c = search (rules, reduce_refused, c.in_err-first_refusal.was)

pub returns : goal.returns
returns c = search (rules, reduce_done, c.in_ok-first_refusal.was)
