-- What is refused before all else; or the core on what the first handle opens and the second handle.
-- Assumes nothing.
use mathlib.Core.Path.{sym, ap, ◌∙◌}
use Rattle.handle.specs.Handles.{no_width}
use Rattle.gelmuszta.proofs.FoundLaws.{image_whole, refused_second, exit_first, same_any}
use Rattle.gelmuszta.proofs.handles.join.Goals as goal

pub returns-then-has_width : goal.returns-then-has_width
returns-then-has_width c =
    refused_second _ _ _ _ (image_whole _ c.told-image c.fits-image)
    (sym (ap no_width c.taken-second.ensures) ∙ sym c.has_width.ensures ∙ c.if-has_width.true)

pub returns-in_err-opened : goal.returns-in_err-opened
returns-in_err-opened c =
    exit_first _ _ _ _ c.in_err-opened.ensures.whole
    (sym (ap no_width c.taken-second.ensures) ∙ sym c.has_width.ensures ∙ c.if-has_width.false) _ c.in_err-opened.ensures _
    c.from_residual.ensures.1

pub returns : goal.returns
returns c = same_any _ _ _ c.in_ok-opened.ensures _ _ (λ s m g. c.join.ensures s m _ _ g c.taken-second.ensures)
