-- The output of a list whose unused bytes are not zero, computed without row 1, which never applies in a list.
-- Assumes nothing.
use mathlib.Core.Path.{◌≡◌, refl, ◌∙◌}
use Rattle.list.specs.FilledLiterals.{filled, filled_text, FilledPrinted}
use Rattle.list.proofs.LiteralLaws.{opened}
use Rattle.list.proofs.SoundRunLaws.{output_below, output_below_lem}

filled_below : output_below filled ≡ filled_text
unfolding opened
filled_below = refl

pub filled_printed : FilledPrinted
filled_printed = output_below_lem filled ∙ filled_below
