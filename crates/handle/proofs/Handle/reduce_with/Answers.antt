-- A primary handle as it is; any other by the common bits and the conversion of the primary password.
-- Assumes nothing.
use Rattle.handle.proofs.CodeLaws.{reduce_unchanged, reduce_changed}
use borrow.Author.Rules.{rules}
use Rattle.handle.proofs.Handle.reduce_with.Goals as goal

pub returns-then-primary : goal.returns-then-primary
returns-then-primary c = search (rules, reduce_unchanged)

pub returns : goal.returns
returns c = search (rules, reduce_changed)
