-- No bit sought lies before the word that is looked at, and the mask has those of it that lie from the start on (`Seeking`).
-- Assumes nothing.
use Rattle.spans.proofs.NextLaws.{Seeking}
use Rattle.spans.proofs.next.Given as goal

abbrev pub invariant-loop-at : goal.invariant-loop-at
invariant-loop-at l = Seeking l.sought l.map l.from l.at l.mask
