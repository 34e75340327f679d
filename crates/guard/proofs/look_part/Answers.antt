-- The core, on what was looked up.
-- Assumes nothing.
use Rattle.guard.proofs.LookLaws.{looked_is}
use Rattle.guard.proofs.look_part.Goals as goal

pub returns : goal.returns
returns c = looked_is _ _ _ _ _ _ c.look_up-opened.ensures _ c.look.ensures
