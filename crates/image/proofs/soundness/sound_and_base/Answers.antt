use mathlib.Core.List.{List}
use mathlib.Core.Path.{ap, ◌∙◌, subst}
use Prim.Native.Nat.{ℕ, ◌≤◌, ◌<◌}
use Rattle.std.specs.Prelude.{Option}
use Rattle.std.specs.Option.{is_some, option_flatten}
use Rattle.store.specs.Places.{Found}
use Rattle.store.specs.Placement.{placed_by}
use Rattle.spans.specs.Spans.{marks}
use Rattle.image.specs.inner.Claims.{RecordClaimed}
use Rattle.image.proofs.CutLaws.{nodes_all, node_record}
use Rattle.image.proofs.JudgeLaws.{judged_none, judged_more}
use Rattle.image.proofs.JudgeLaws.{sought_none, sought_more, sought_told, sought_placed}
use Rattle.image.proofs.soundness.sound_and_base.Goals as goal

pub loop-node-init : goal.loop-node-init
loop-node-init c = sought_none _ _ _

pub loop-record-init : goal.loop-record-init
loop-record-init c = judged_none _ _

pub loop-record-preserved : goal.loop-record-preserved
loop-record-preserved c =
    let b = c.args.image.now in
    let e = c.as_chunks.ensures in
    let f = c.as_chunks-2.ensures in
    let low = subst (λ (n : ℕ). c.loop-node.node < n) (nodes_all b c.told-image _ e.front_len _ f.front_len) c.loop-node-test.true in
    judged_more _ _ _ _ _ c.loop-record.invariant _ _ low c.loop-record-test.true
    (subst (λ (r : List ℕ). RecordClaimed r (marks c.loop-record.map) c.claim_record-taken.result (marks c.claim_record-taken.new.map))
    (node_record b c.told-image _ e.front_len _ f.front_len e.front f.front _ _ low c.loop-record-test.true) c.claim_record-taken.ensures)

pub loop-node-preserved : goal.loop-node-preserved
loop-node-preserved c =
    let low = subst (λ (n : ℕ). c.loop-node.node < n) (nodes_all c.args.image.now c.told-image _ c.as_chunks.ensures.front_len _ c.as_chunks-2.ensures.front_len) c.loop-node-test.true in
    sought_more _ _ _ _ _ _ c.loop-node.invariant low _ _ _ c.loop-record.invariant c.loop-record-test.false _ c.base_on-found.ensures

pub returns : goal.returns
returns c =
    let all = subst (λ (n : ℕ). n ≤ c.loop-node.node) (nodes_all c.args.image.now c.told-image _ c.as_chunks.ensures.front_len _ c.as_chunks-2.ensures.front_len) c.loop-node-test.false in
    record {
      sound = ap is_some c.then_some.ensures ∙ sought_told _ _ _ _ _ _ c.loop-node.invariant all;
      base = ap (λ (o : Option Found). placed_by (option_flatten o)) c.then_some.ensures ∙ sought_placed _ _ _ _ _ _ c.loop-node.invariant all;
    }
