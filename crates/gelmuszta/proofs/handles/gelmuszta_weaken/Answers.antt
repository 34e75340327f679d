-- The answer on every store, handed out.
-- Assumes nothing.
use mathlib.Core.Path.{◌∙◌}
use Rattle.calls.specs.Answers.{first, count}
use Rattle.gelmuszta.proofs.ShapeLaws.{weaken_any, given_of}
use Rattle.gelmuszta.proofs.handles.gelmuszta_weaken.Goals as goal

pub returns : goal.returns
returns c =
    weaken_any _ _ _ (λ s m. c.weaken-answer.ensures _ s m c.taken.ensures) _ c.told.ensures
    _ (c.held.ensures.back ∙ given_of first c.weaken-answer.result c.unwrap_or-weaker.result c.unwrap_or-weaker.ensures _ c.first.ensures)
    _ (given_of count c.weaken-answer.result c.unwrap_or-weaker.result c.unwrap_or-weaker.ensures _ c.count.ensures)
