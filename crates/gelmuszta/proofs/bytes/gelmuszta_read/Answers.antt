-- The length that the call gives, handed out.
-- Assumes nothing.
use mathlib.Core.Path.{refl}
use Rattle.calls.specs.Answers.{length}
use Rattle.gelmuszta.proofs.ReplyLaws.{read_length}
use Rattle.gelmuszta.proofs.ShapeLaws.{length_left, given_of}
use Rattle.gelmuszta.proofs.bytes.gelmuszta_read.Goals as goal

pub returns : goal.returns
returns c =
    length_left _ refl _ _ c.told.ensures _ _ _ _ _ c.read-answer.ensures (read_length _) _
    (given_of length c.read-answer.result c.unwrap_or.result c.unwrap_or.ensures _ c.length.ensures)
