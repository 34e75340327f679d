-- All four are flat.
-- Assumes nothing.
use Rattle.handle.proofs.CodeLaws.{code_primary}
use borrow.Author.Rules.{rules}
use Rattle.handle.proofs.Handle.primary.Goals as goal

pub returns : goal.returns
returns c = search (rules, code_primary)
