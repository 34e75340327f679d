-- Refused, or the cluster active.
-- Assumes nothing.
use Rattle.std.proofs.Common.{rules}
use Rattle.cluster.proofs.CreateLaws.{new_cluster_refused, new_cluster_done}
use Rattle.cluster.proofs.create.new_cluster.Goals as goal

pub returns-in_err-place_refusal : goal.returns-in_err-place_refusal
returns-in_err-place_refusal c = search (rules, new_cluster_refused, c.in_err-place_refusal.was)

pub returns : goal.returns
returns c = search (rules, new_cluster_done, c.in_ok-place_refusal.was)
