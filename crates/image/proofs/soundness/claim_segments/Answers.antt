use mathlib.Core.List.{List}
use mathlib.Core.Path.{subst}
use Prim.Native.Nat.{ℕ, ◌≤◌, ◌<◌}
use Rattle.spans.specs.Spans.{marks}
use Rattle.image.specs.inner.Claims.{SegmentClaimed}
use Rattle.image.proofs.CutLaws.{some_all, some_at}
use Rattle.image.proofs.ClaimLaws.{segments_none, segments_more, segments_all}
use Rattle.image.proofs.soundness.claim_segments.Goals as goal

pub loop-segment-init : goal.loop-segment-init
loop-segment-init c = segments_none _ _ _

pub loop-segment-preserved : goal.loop-segment-preserved
loop-segment-preserved c =
    let b = c.args.b.now in
    let e = c.as_chunks.ensures in
    let low = subst (λ (n : ℕ). c.loop-segment.segment-index < n) (some_all b c.told-b _ e.front_len _ c.requires) c.loop-segment-test.true in
    segments_more _ _ _ _ _ _ c.loop-segment.invariant _ _ low
    (subst (λ (l : List ℕ). SegmentClaimed l (marks c.loop-segment.map) c.claim_segment-ok.result (marks c.claim_segment-ok.new.map))
    (some_at b c.told-b _ e.front_len _ c.requires e.front _ low) c.claim_segment-ok.ensures)

pub returns : goal.returns
returns c =
    segments_all _ _ _ _ _ _ c.loop-segment.invariant
    (subst (λ (n : ℕ). n ≤ c.loop-segment.segment-index) (some_all c.args.b.now c.told-b _ c.as_chunks.ensures.front_len _ c.requires) c.loop-segment-test.false)
