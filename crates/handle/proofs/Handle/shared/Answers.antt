-- The four subselectors have a bit in common just where each of them has it.
-- Assumes nothing.
use Rattle.handle.proofs.CodeLaws.{code_shared}
use borrow.Author.Rules.{rules}
use Rattle.handle.proofs.Handle.shared.Goals as goal

pub returns : goal.returns
returns c = search (rules, code_shared)
