-- Four conversions, one after the other.
-- Assumes nothing.
use Rattle.handle.proofs.CodeLaws.{code_opened}
use borrow.Author.Rules.{rules}
use Rattle.handle.proofs.Handle.opened_with.Goals as goal

pub returns : goal.returns
returns c = search (rules, code_opened)
