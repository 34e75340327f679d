-- Each return is the reply of the first row that applies, or of the handle unchanged or changed where none does.
-- Assumes nothing.
use Rattle.handle.proofs.WeakenLaws.{refused_standing, refused_empty, refused_spent, weaken_unchanged, weaken_changed, excluded_le}
use Rattle.handle.proofs.WidthLaws.{bits_le}
use borrow.Author.Rules.{rules}
use Rattle.std.proofs.Common.{Err, ◌≡◌}
use Rattle.handle.proofs.Handle.weaken_with.Goals as goal

pub returns-in_err-standing : goal.returns-in_err-standing
returns-in_err-standing c =
    let e : c.from_residual.result ≡ Err c.in_err-standing.field-0.0 = search rules in
    search (rules, refused_standing, e)

pub returns-then-kept-eq0 : goal.returns-then-kept-eq0
returns-then-kept-eq0 c = search (rules, refused_empty)

pub returns-then-excluded-eq0 : goal.returns-then-excluded-eq0
returns-then-excluded-eq0 c = search (rules, weaken_unchanged, bits_le)

pub returns-in_default : goal.returns-in_default
returns-in_default c = search (rules, refused_spent, bits_le)

pub cut_with-weaker-requires-clause-excluded_bound : goal.cut_with-weaker-requires-clause-excluded_bound
cut_with-weaker-requires-clause-excluded_bound c = search (rules, excluded_le, bits_le)

pub returns : goal.returns
returns c = search (rules, weaken_changed, bits_le)
