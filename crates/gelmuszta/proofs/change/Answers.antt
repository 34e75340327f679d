-- What is refused before all else, or by the core; or the record put back.
-- Assumes nothing.
use Rattle.gelmuszta.proofs.FoundLaws.{changes_refused, changes_failed, changes_done}
use Rattle.gelmuszta.proofs.change.Goals as goal

pub returns-in_err-opened : goal.returns-in_err-opened
returns-in_err-opened g c = changes_refused _ _ _ _ c.in_err-opened.ensures _ c.from_residual.ensures.1

pub returns-in_err-changed : goal.returns-in_err-changed
returns-in_err-changed g c =
    changes_failed _ _ _ _ c.in_ok-opened.ensures _ c.in_err-changed.ensures _ c.from_residual-in_err-changed.ensures.1

pub returns : goal.returns
returns g c =
    changes_done _ _ _ _ c.in_ok-opened.ensures _ c.in_ok-changed.ensures _ c.put_back.ensures.given _ c.put_back.ensures.image
