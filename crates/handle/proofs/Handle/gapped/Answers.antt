-- The three places below the last one, each looked at with all that stand above it.
-- Assumes nothing.
use Rattle.handle.proofs.CodeLaws.{code_gapped}
use borrow.Author.Rules.{rules}
use Rattle.handle.proofs.Handle.gapped.Goals as goal

pub returns : goal.returns
returns c = search (rules, code_gapped)
