-- The place in the bytes, and the mark.
-- Assumes nothing.
use Rattle.image.proofs.SegmentLaws.{segment_same}
use borrow.Author.Rules.{rules}
use Rattle.image.proofs.reading.segment_in.Goals as goal

pub returns : goal.returns
returns c = search (rules, segment_same)
