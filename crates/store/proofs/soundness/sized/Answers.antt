-- The tests are those of the definition, in its order.
-- Assumes nothing.
use Rattle.store.specs.Sound.{sized}
use Rattle.store.proofs.soundness.sized.Goals as goal

pub returns : goal.returns
unfolding sized
returns c = cc
