-- What is refused before all else; or the core on what the handle opens.
-- Assumes nothing.
use Rattle.gelmuszta.proofs.ValidationLaws.{validate_refused, validate_any}
use Rattle.gelmuszta.proofs.validation.validate.Goals as goal

pub returns-in_err-opened : goal.returns-in_err-opened
returns-in_err-opened c = validate_refused _ _ _ _ c.in_err-opened.ensures _ c.from_residual.ensures.1

pub returns : goal.returns
returns c = validate_any _ _ _ _ c.in_ok-opened.ensures _ c.validate.ensures
