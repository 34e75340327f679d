-- The node's two bytes and the rest, each at its place.
-- Assumes nothing.
use Rattle.handle.proofs.CodecLaws.{laid_is}
use borrow.Author.Rules.{rules}
use Rattle.handle.proofs.Handle.laid.Goals as goal

pub returns : goal.returns
returns c = search (rules, laid_is)
