-- The subselector replaced, and the password converted.
-- Assumes nothing.
use Rattle.handle.proofs.CodeLaws.{code_cut}
use borrow.Author.Rules.{rules}
use Rattle.handle.proofs.Handle.cut_with.Goals as goal

pub overflow_sub-parameter : goal.overflow_sub-parameter
overflow_sub-parameter c = search rules

pub returns : goal.returns
returns c = search (rules, code_cut)
