use mathlib.Core.Path.{◌≡◌, ap, ◌∙◌, subst}
use Prim.Native.Nat.{ℕ, ◌≤◌, ◌<◌}
use lib.ListN.{length}
use borrow.Author.Rules.{rules}
use Rattle.loops.proofs.RunningLaws.{running_none, running_more}
use Rattle.sizes.specs.Sizes.{records}
use Rattle.spans.specs.Spans.{marks}
use Rattle.store.specs.declared.Cluster.{Cluster}
use Rattle.store.specs.Sound.{settled}
use Rattle.store.specs.inner.Passes.{ClaimedAll}
use Rattle.store.proofs.RecordLaws.{length_mapped}
use Rattle.store.proofs.ChunkLaws.{nodes_all, node_cluster}
use Rattle.store.proofs.MarkLaws.{passing_none, passing_more, passing_all}
use Rattle.store.proofs.ClaimLaws.{tested_told}
use Rattle.store.proofs.soundness.sound.Goals as goal

pub loop-clusters-init : goal.loop-clusters-init
loop-clusters-init c = running_none _ _

pub loop-cluster-init : goal.loop-cluster-init
loop-cluster-init c = passing_none _ _

pub loop-cluster-preserved : goal.loop-cluster-preserved
loop-cluster-preserved c =
    let long : length c.args.store.clusters ≡ records = search (rules, length_mapped) in
    let e = c.as_chunks.ensures in
    let low = subst (λ (n : ℕ). c.loop-clusters.clusters-index < n) (nodes_all c.args.store long _ e.front_len) c.loop-clusters-test.true in
    let same = node_cluster c.args.store long _ e.front_len e.front _ _ low c.loop-cluster-test.true in
    passing_more _ _ _ _ _ c.loop-cluster.invariant _ _ _ c.loop-cluster-test.true
    (c.settled.ensures ∙ ap settled same)
    (subst (λ (d : Cluster). ClaimedAll d (marks c.loop-cluster.map) c.claim_all.result (marks c.claim_all.new.map)) same c.claim_all.ensures)

pub loop-clusters-preserved : goal.loop-clusters-preserved
loop-clusters-preserved c =
    let long : length c.args.store.clusters ≡ records = search (rules, length_mapped) in
    let low = subst (λ (n : ℕ). c.loop-clusters.clusters-index < n) (nodes_all c.args.store long _ c.as_chunks.ensures.front_len) c.loop-clusters-test.true in
    running_more _ _ _ _ c.loop-clusters.invariant _ low (passing_all _ _ _ _ _ c.loop-cluster.invariant c.loop-cluster-test.false)

pub returns : goal.returns
returns c =
    let long : length c.args.store.clusters ≡ records = search (rules, length_mapped) in
    tested_told _ _ _ _ c.loop-clusters.invariant
    (subst (λ (n : ℕ). n ≤ c.loop-clusters.clusters-index) (nodes_all c.args.store long _ c.as_chunks.ensures.front_len) c.loop-clusters-test.false)
