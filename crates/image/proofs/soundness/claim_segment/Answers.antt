-- An absent segment, or one whose bytes are marked.
-- Assumes nothing.
use Rattle.image.proofs.ClaimLaws.{segment_none, segment_mark}
use borrow.Author.Rules.{rules}
use Rattle.image.proofs.soundness.claim_segment.Goals as goal

pub returns-then-length-eq0 : goal.returns-then-length-eq0
returns-then-length-eq0 c = search (rules, segment_none)

pub returns : goal.returns
returns c = search (rules, segment_mark)
