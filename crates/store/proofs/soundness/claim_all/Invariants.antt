-- The segments so far had their turn (`Claiming`).
-- Assumes nothing.
use Prim.Native.Nat.{◌-◌}
use Rattle.sizes.specs.Sizes.{segments}
use Rattle.spans.specs.Spans.{marks}
use Rattle.store.proofs.MarkLaws.{Claiming}
use Rattle.store.proofs.soundness.claim_all.Given as goal

abbrev pub invariant-loop-segment : goal.invariant-loop-segment
invariant-loop-segment l = Claiming l.fn.cluster (marks l.initial.map) l.segment-index l.ok (marks l.map)

abbrev pub decreases-loop-segment : goal.decreases-loop-segment
decreases-loop-segment l = segments - l.segment-index
