-- The bytes of the handle whose subselectors are all flat.
-- Assumes nothing.
use Rattle.handle.proofs.WidthLaws.{primary_written}
use borrow.Author.Rules.{rules}
use Rattle.handle.proofs.codec.primary_bytes.Goals as goal

pub returns : goal.returns
returns c = search (rules, primary_written)
