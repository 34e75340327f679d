-- Where the shared rows refuse, theirs is the first of all.
-- Assumes nothing.
use Rattle.std.proofs.Common.{rules}
use Rattle.refusals.proofs.OwnerLaws.{owner_shared}
use Rattle.refusals.proofs.Opened.owner_refusal.Goals as goal

pub returns-in_err-first_refusal : goal.returns-in_err-first_refusal
returns-in_err-first_refusal c = search (rules, owner_shared, c.in_err-first_refusal.was)
