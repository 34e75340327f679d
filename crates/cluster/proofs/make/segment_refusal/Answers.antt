-- The owner's rows, then 13.
-- Assumes nothing.
use Rattle.std.proofs.Common.{rules}
use Rattle.cluster.proofs.MakeLaws.{make_owner, make_present, make_none}
use Rattle.cluster.proofs.make.segment_refusal.Goals as goal

pub returns-in_err-owner_refusal : goal.returns-in_err-owner_refusal
returns-in_err-owner_refusal c = search (rules, make_owner, c.in_err-owner_refusal.was)

pub returns-then-is_some : goal.returns-then-is_some
returns-then-is_some c = search (rules, make_present, c.in_ok-owner_refusal.was)

pub returns : goal.returns
returns c = search (rules, make_none, c.in_ok-owner_refusal.was)
