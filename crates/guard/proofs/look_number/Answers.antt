-- The number of what a look tells.
-- Assumes nothing.
use Rattle.std.specs.Prelude.{Ok}
use Rattle.guard.proofs.LookLaws.{number_told, number_refused}
use Rattle.guard.proofs.look_number.Goals as goal

pub returns-in_err-look_part : goal.returns-in_err-look_part
returns-in_err-look_part c = number_refused _ _ _ _ _ _ c.look_part.ensures _ c.in_err-look_part.was _ c.from_residual.ensures.1

pub returns : goal.returns
returns c = number_told _ _ _ _ _ (Ok c.in_ok-look_part.field-0) c.in_ok-look_part.ensures
