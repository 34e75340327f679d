-- The shared rows, then 11 and 14.
-- Assumes nothing.
use Rattle.std.proofs.Common.{rules}
use Rattle.store.proofs.PlaceLaws.{absent_told}
use Rattle.cluster.proofs.AccessLaws.{reach_shared, reach_not_referenced, reach_absent, reach_none}
use Rattle.cluster.proofs.bytes.reach.Goals as goal

pub returns-in_err-first_refusal : goal.returns-in_err-first_refusal
returns-in_err-first_refusal c = search (rules, reach_shared, c.in_err-first_refusal.was)

pub returns-then-not-references : goal.returns-then-not-references
returns-then-not-references c = search (rules, reach_not_referenced, c.in_ok-first_refusal.was)

pub returns-then-is_none : goal.returns-then-is_none
returns-then-is_none c = search (rules, reach_absent, absent_told, c.in_ok-first_refusal.was)

pub returns : goal.returns
returns c = search (rules, reach_none, absent_told, c.in_ok-first_refusal.was)
