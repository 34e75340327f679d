-- What all four have, cut to the width.
-- Assumes nothing.
use Rattle.handle.proofs.CodeLaws.{code_common}
use Rattle.handle.proofs.WidthLaws.{bits_le}
use borrow.Author.Rules.{rules}
use Rattle.handle.proofs.Handle.common.Goals as goal

pub returns : goal.returns
returns c = search (rules, code_common, bits_le)
