-- The owner's rows, then 14.
-- Assumes nothing.
use Rattle.std.proofs.Common.{rules}
use Rattle.store.proofs.PlaceLaws.{absent_told}
use Rattle.cluster.proofs.ChangeLaws.{own_refused, own_absent, own_none}
use Rattle.cluster.proofs.change.own_segment.Goals as goal

pub returns-in_err-owner_refusal : goal.returns-in_err-owner_refusal
returns-in_err-owner_refusal c = search (rules, own_refused, c.in_err-owner_refusal.was)

pub returns-then-is_none : goal.returns-then-is_none
returns-then-is_none c = search (rules, own_absent, absent_told, c.in_ok-owner_refusal.was)

pub returns : goal.returns
returns c = search (rules, own_none, absent_told, c.in_ok-owner_refusal.was)
