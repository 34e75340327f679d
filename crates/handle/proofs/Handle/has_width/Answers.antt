-- The bits of the width, compared.
-- Assumes nothing.
use Rattle.handle.proofs.CodeLaws.{code_width}
use borrow.Author.Rules.{rules}
use Rattle.handle.proofs.Handle.has_width.Goals as goal

pub returns : goal.returns
returns c = search (rules, code_width)
