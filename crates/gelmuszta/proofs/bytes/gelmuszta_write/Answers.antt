-- The number of the call, handed out.
-- Assumes nothing.
use mathlib.Core.Path.{refl}
use Rattle.gelmuszta.proofs.ReplyLaws.{write_silent}
use Rattle.gelmuszta.proofs.ShapeLaws.{silent_left}
use Rattle.gelmuszta.proofs.bytes.gelmuszta_write.Goals as goal

pub returns : goal.returns
returns c = silent_left _ refl _ _ c.told.ensures _ _ _ _ _ c.write-answer.ensures (write_silent _)
