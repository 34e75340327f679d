-- What is refused before all else; or the core on what the handle opens.
-- Assumes nothing.
use mathlib.Core.Path.{refl}
use Rattle.gelmuszta.proofs.FoundLaws.{exit_lent, same_lent, opened_from}
use Rattle.gelmuszta.proofs.bytes.write.Goals as goal

pub returns-in_err-opened : goal.returns-in_err-opened
returns-in_err-opened c =
    exit_lent _ _ _ c.in_err-opened.ensures _ refl refl _ refl _ c.told-memory _ c.from_residual.ensures.1

pub returns : goal.returns
returns c =
    same_lent _ _ _ c.in_ok-opened.ensures _ c.told-memory _ _ _ _ (c.write.ensures _ _ (opened_from _ _ _ c.in_ok-opened.ensures _ c.told-memory))
