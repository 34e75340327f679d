-- What was found before, or what the map tells.
-- Assumes nothing.
use Rattle.image.proofs.JudgeLaws.{base_kept, base_told}
use borrow.Author.Rules.{rules}
use Rattle.image.proofs.soundness.base_on.Goals as goal

pub returns-then-not-here : goal.returns-then-not-here
returns-then-not-here c = search (rules, base_kept)

pub returns : goal.returns
returns c = search (rules, base_told)
