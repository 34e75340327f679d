-- The chain of conversions, and its end compared.
-- Assumes nothing.
use Rattle.handle.proofs.CodeLaws.{code_validates}
use borrow.Author.Rules.{rules}
use Rattle.handle.proofs.Handle.validates_with.Goals as goal

pub returns : goal.returns
returns c = search (rules, code_validates)
