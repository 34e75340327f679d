-- What is refused before all else; or the core on what the handle opens.
-- Assumes nothing.
use mathlib.Core.Path.{refl}
use Rattle.gelmuszta.proofs.FoundLaws.{exit_lent, same_any}
use Rattle.gelmuszta.proofs.handles.reduce.Goals as goal

pub returns-in_err-opened : goal.returns-in_err-opened
returns-in_err-opened c =
    λ m em. exit_lent _ _ _ c.in_err-opened.ensures _ refl refl _ refl m em _ c.from_residual.ensures.1

pub returns : goal.returns
returns c = same_any _ _ _ c.in_ok-opened.ensures _ _ (λ s m g. c.reduce.ensures s m _ g)
