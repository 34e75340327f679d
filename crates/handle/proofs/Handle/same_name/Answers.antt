-- Both the nodes and the local numbers are equal.
-- Assumes nothing.
use Rattle.handle.proofs.CodeLaws.{code_same_name}
use borrow.Author.Rules.{rules}
use Rattle.handle.proofs.Handle.same_name.Goals as goal

pub returns : goal.returns
returns c = search (rules, code_same_name)
