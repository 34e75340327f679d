-- The core on what the handle opens, and the record put back.
-- Assumes nothing.
use mathlib.Core.Path.{refl}
use borrow.Author.Rules.{rules}
use Rattle.gelmuszta.proofs.ReplyLaws.{new_password_one}
use Rattle.gelmuszta.proofs.ShapeLaws.{handle_any}
use Rattle.gelmuszta.proofs.records.gelmuszta_new_password.Goals as goal

pub returns : goal.returns
returns c =
    handle_any _ refl _ _ c.hand.ensures.number _ _ (c.change-answer.ensures _ refl refl refl (λ o r p s m g. search rules))
    (new_password_one _) _ c.hand.ensures.handle
