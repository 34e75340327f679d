-- A return for each width: the bytes of the selector, zeros after them, and the rest as it is laid out.
-- Assumes nothing.
use Rattle.handle.proofs.CodecLaws.{written_none, written_four, written_eight, written_sixteen}
use borrow.Author.Rules.{rules}
use Rattle.handle.proofs.Handle.encode.Goals as goal

pub returns-in-None : goal.returns-in-None
returns-in-None c = search (rules, written_none)

pub returns-in-Four : goal.returns-in-Four
returns-in-Four c = search (rules, written_four)

pub returns-in-Eight : goal.returns-in-Eight
returns-in-Eight c = search (rules, written_eight)

pub returns-in-Sixteen : goal.returns-in-Sixteen
returns-in-Sixteen c = search (rules, written_sixteen)
