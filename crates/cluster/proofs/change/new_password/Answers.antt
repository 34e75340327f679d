-- Refused by the shared rows, with 10 or 12, or the password replaced.
-- Assumes nothing.
use Rattle.std.proofs.Common.{rules}
use Rattle.cluster.proofs.PasswordLaws.{new_password_refused, new_password_primary, new_password_old, new_password_done}
use Rattle.cluster.proofs.change.new_password.Goals as goal

pub returns-in_err-first_refusal : goal.returns-in_err-first_refusal
returns-in_err-first_refusal c = search (rules, new_password_refused, c.in_err-first_refusal.was)

pub returns-then-not-primary : goal.returns-then-not-primary
returns-then-not-primary c = search (rules, new_password_primary, c.in_ok-first_refusal.was)

pub returns-then-same : goal.returns-then-same
returns-then-same c = search (rules, new_password_old, c.in_ok-first_refusal.was)

pub returns : goal.returns
returns c = search (rules, new_password_done, c.in_ok-first_refusal.was)
