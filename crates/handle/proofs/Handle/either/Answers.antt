-- The bits that either has in all four, cut to the width, are those of the segments that either references.
-- Assumes nothing.
use Rattle.handle.proofs.CodeLaws.{code_union}
use Rattle.handle.proofs.WidthLaws.{bits_le}
use borrow.Author.Rules.{rules}
use Rattle.handle.proofs.Handle.either.Goals as goal

pub returns : goal.returns
returns c = search (rules, code_union, bits_le)
