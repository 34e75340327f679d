-- The test of the definition, with the place's own test.
-- Assumes nothing.
use mathlib.Core.Path.{ap}
use mathlib.Core.Bool.{Bool, ◌||◌}
use lib.Dec.{ltb}
use Rattle.store.proofs.PlaceLaws.{absent_told}
use Rattle.store.proofs.soundness.allowed.Goals as goal

pub returns : goal.returns
returns c = ap (λ (b : Bool). ltb c.before.args.i c.before.args.width || b) (absent_told c.before.args.place _ c.is_none.ensures)
