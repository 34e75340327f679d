-- What is refused before all else, or what the core tells of what the handle opens.
-- Assumes nothing.
use Rattle.gelmuszta.proofs.LookLaws.{shows_refused, shows_done}
use Rattle.gelmuszta.proofs.bytes.look.Goals as goal

pub returns-in_err-opened : goal.returns-in_err-opened
returns-in_err-opened c = shows_refused _ _ _ _ _ c.in_err-opened.ensures _ c.from_residual.ensures.1

pub returns : goal.returns
returns c = shows_done _ _ _ _ _ c.in_ok-opened.ensures _ c.look.ensures
