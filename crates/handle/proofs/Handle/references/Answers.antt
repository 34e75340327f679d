-- The bit of the segment in what all four have; beyond the room of a subselector there is none.
-- Assumes nothing.
use Rattle.handle.proofs.CodeLaws.{references_none, code_references}
use borrow.Author.Rules.{rules}
use Rattle.handle.proofs.Handle.references.Goals as goal

pub returns-then-segment-ge-ROOM : goal.returns-then-segment-ge-ROOM
returns-then-segment-ge-ROOM c = search (rules, references_none)

pub returns : goal.returns
returns c = search (rules, code_references)
