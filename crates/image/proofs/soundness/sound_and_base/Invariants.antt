-- The outer loop has judged so many nodes, and the map of the one that is wanted told the base (`Sought`); the inner one has judged
-- so many records of the node (`Judged`).
-- Assumes nothing.
use Rattle.spans.specs.Spans.{marks}
use Rattle.image.proofs.JudgeLaws.{Judged, Sought}
use Rattle.image.proofs.soundness.sound_and_base.Given as goal

abbrev pub invariant-loop-record : goal.invariant-loop-record
invariant-loop-record l = Judged l.image l.node l.record-index l.taken (marks l.map)

abbrev pub invariant-loop-node : goal.invariant-loop-node
invariant-loop-node l = Sought l.image l.wanted l.size l.node l.sound l.found
