-- Sixteen bytes, each in its place by computation.
-- Assumes nothing.
use mathlib.Core.Path.{refl}
use Rattle.loops.specs.Tabulate.{tabulate}
use Rattle.aes.specs.Transformations.{shift_rows}
use Rattle.aes.proofs.shift_rows.Goals as goal

pub returns : goal.returns
unfolding shift_rows tabulate
returns c = refl
