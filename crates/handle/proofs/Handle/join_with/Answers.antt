-- What is made of the union.
-- Assumes nothing.
use Rattle.handle.proofs.CodeLaws.{code_joined}
use borrow.Author.Rules.{rules}
use Rattle.handle.proofs.Handle.join_with.Goals as goal

pub returns : goal.returns
returns c = search (rules, code_joined)
