-- The core on what the handle opens, and the record put back.
-- Assumes nothing.
use mathlib.Core.Path.{refl}
use borrow.Author.Rules.{rules}
use Rattle.gelmuszta.proofs.ReplyLaws.{freeze_silent}
use Rattle.gelmuszta.proofs.ShapeLaws.{silent_any}
use Rattle.gelmuszta.proofs.records.gelmuszta_freeze.Goals as goal

pub returns : goal.returns
returns c =
    silent_any _ refl _ _ c.told.ensures _ _ (c.change-answer.ensures _ refl refl refl (λ o r p s m g. search rules)) (freeze_silent _)
