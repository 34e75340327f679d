-- The set in subselector 0, and the primary password through the conversion of the set.
-- Assumes nothing.
use Rattle.handle.proofs.CodeLaws.{code_made}
use borrow.Author.Rules.{rules}
use Rattle.handle.proofs.Handle.made_with.Goals as goal

pub returns : goal.returns
returns c = search (rules, code_made)
