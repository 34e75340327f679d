-- All bits of the width are set just where the union is flat.
-- Assumes nothing.
use Rattle.handle.proofs.CodeLaws.{code_whole}
use borrow.Author.Rules.{rules}
use Rattle.handle.proofs.Handle.whole_union.Goals as goal

pub returns : goal.returns
returns c = search (rules, code_whole)
