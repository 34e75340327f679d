-- The bits of the width, compared with the number.
-- Assumes nothing.
use Rattle.handle.proofs.CodeLaws.{code_beyond}
use borrow.Author.Rules.{rules}
use Rattle.handle.proofs.Handle.beyond.Goals as goal

pub returns : goal.returns
returns c = search (rules, code_beyond)
