-- The words so far are marked (`Filling`).
-- Assumes nothing.
use Rattle.spans.proofs.MarkLaws.{Filling}
use Rattle.spans.proofs.whole.Given as goal

abbrev pub invariant-loop-word : goal.invariant-loop-word
invariant-loop-word l = Filling l.initial.word-items l.word-index l.fresh l.word-items
