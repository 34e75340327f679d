-- The number of the call, handed out.
-- Assumes nothing.
use mathlib.Core.Path.{refl}
use Rattle.gelmuszta.proofs.ReplyLaws.{new_segment_silent}
use Rattle.gelmuszta.proofs.ShapeLaws.{silent_left}
use Rattle.gelmuszta.proofs.bytes.gelmuszta_new_segment.Goals as goal

pub returns : goal.returns
returns c = silent_left _ refl _ _ c.told.ensures _ _ _ _ _ c.new_segment-answer.ensures (new_segment_silent _)
