-- Refused by the owner's rows, refused with 22, or the record as in the starting store.
-- Assumes nothing.
use Rattle.std.proofs.Common.{rules}
use Rattle.cluster.proofs.ChangeLaws.{delete_cluster_refused, delete_cluster_frozen, delete_cluster_done}
use Rattle.cluster.proofs.change.delete_cluster.Goals as goal

pub returns-in_err-owner_refusal : goal.returns-in_err-owner_refusal
returns-in_err-owner_refusal c = search (rules, delete_cluster_refused, c.in_err-owner_refusal.was)

pub returns-then-not-none_frozen : goal.returns-then-not-none_frozen
returns-then-not-none_frozen c = search (rules, delete_cluster_frozen, c.in_ok-owner_refusal.was)

pub returns : goal.returns
returns c = search (rules, delete_cluster_done, c.in_ok-owner_refusal.was)
