-- The two bytes of each word, and the mark.
-- Assumes nothing.
use Rattle.image.proofs.SegmentLaws.{segment_made}
use Rattle.image.proofs.writing.segment_out.Goals as goal

pub returns : goal.returns
returns c =
    segment_made c.args.segment _ _ _ _ c.base_of.ensures c.to_be_bytes.ensures c.length_of.ensures c.to_be_bytes-2.ensures
