-- The tests are those of the definition, in its order.
-- Assumes nothing.
use Rattle.store.specs.Sound.{settled, idle}
use Rattle.store.proofs.soundness.settled.Goals as goal

pub returns : goal.returns
unfolding settled idle
returns c = cc
