use mathlib.Core.Path.{refl, ap, ◌∙◌, subst}
use Prim.Native.Nat.{ℕ, ◌≤◌, ◌<◌}
use Rattle.sizes.specs.Sizes.{segments}
use Rattle.store.specs.Records.{absent_segment}
use Rattle.loops.proofs.TabulateLaws.{filled_none, filled_more, filled_all}
use Rattle.image.specs.Images.{segment_in, segments_in}
use Rattle.image.proofs.CutLaws.{held_all, held_at}
use Rattle.image.proofs.reading.segments_in.Goals as goal

pub loop-i-init : goal.loop-i-init
loop-i-init c = filled_none segments _ absent_segment _ refl

pub loop-i-preserved : goal.loop-i-preserved
loop-i-preserved c =
    let low = subst (λ (n : ℕ). c.loop-i.i < n) (held_all c.args.b.now c.told-b _ c.as_chunks.ensures.front_len) c.loop-i-test.true in
    filled_more _ _ _ _ _ c.loop-i.invariant low _
    (c.segment_in.ensures ∙ ap segment_in (held_at c.args.b.now c.told-b _ c.as_chunks.ensures.front_len c.as_chunks.ensures.front c.loop-i.i low))

pub returns : goal.returns
unfolding segments_in
returns c =
    filled_all _ _ _ _ _ c.loop-i.invariant
    (subst (λ (n : ℕ). n ≤ c.loop-i.i) (held_all c.args.b.now c.told-b _ c.as_chunks.ensures.front_len) c.loop-i-test.false)
