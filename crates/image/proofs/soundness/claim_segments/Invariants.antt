-- The segments so far had their turn (`Segments`).
-- Assumes nothing.
use Prim.Native.Nat.{◌-◌}
use Rattle.spans.specs.Spans.{marks}
use Rattle.image.specs.Parts.{part}
use Rattle.image.specs.Images.{segments_at, record_bytes}
use Rattle.image.proofs.ClaimLaws.{Segments}
use Rattle.image.proofs.soundness.claim_segments.Given as goal

abbrev pub invariant-loop-segment : goal.invariant-loop-segment
invariant-loop-segment l = Segments (part l.fn.b segments_at record_bytes) l.count (marks l.initial.map) l.segment-index l.ok (marks l.map)

abbrev pub decreases-loop-segment : goal.decreases-loop-segment
decreases-loop-segment l = l.count - l.segment-index
