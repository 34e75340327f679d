-- The two words of a segment's bytes.
-- Assumes nothing.
use Rattle.image.proofs.SegmentLaws.{place_absent, place_present}
use borrow.Author.Rules.{rules}
use Rattle.image.proofs.reading.place_in.Goals as goal

pub returns-then-length-eq0 : goal.returns-then-length-eq0
returns-then-length-eq0 c = search (rules, place_absent)

pub returns : goal.returns
returns c = search (rules, place_present)
