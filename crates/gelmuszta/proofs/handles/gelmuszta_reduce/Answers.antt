-- The handle that the call gives, handed out.
-- Assumes nothing.
use mathlib.Core.Path.{refl}
use Rattle.gelmuszta.proofs.ReplyLaws.{reduce_one}
use Rattle.gelmuszta.proofs.ShapeLaws.{handle_any}
use Rattle.gelmuszta.proofs.handles.gelmuszta_reduce.Goals as goal

pub returns : goal.returns
returns c = handle_any _ refl _ _ c.hand.ensures.number _ _ c.reduce-answer.ensures (reduce_one _) _ c.hand.ensures.handle
