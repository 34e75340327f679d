use mathlib.Core.Path.{◌≡◌, subst}
use Prim.Native.Nat.{◌<◌}
use lib.ListN.{length}
use borrow.Author.Rules.{rules}
use Rattle.sizes.specs.Sizes.{nodes, records}
use Rattle.spans.specs.Spans.{marks}
use Rattle.store.specs.declared.Cluster.{Cluster}
use Rattle.store.specs.inner.Passes.{ClaimedAll}
use Rattle.store.proofs.RecordLaws.{length_mapped}
use Rattle.store.proofs.ChunkLaws.{node_cluster}
use Rattle.store.proofs.MarkLaws.{filled_none, filled_more, filled_all}
use Rattle.store.proofs.RoomLaws.{placed_no_node, placed_mapped}
use Rattle.store.proofs.placement.new_base.Goals as goal

pub returns-then-node-ge-NODES : goal.returns-then-node-ge-NODES
returns-then-node-ge-NODES c = search (rules, placed_no_node)

pub loop-cluster-init : goal.loop-cluster-init
loop-cluster-init c = filled_none _ _

pub loop-cluster-preserved : goal.loop-cluster-preserved
loop-cluster-preserved c =
    let long : length c.args.store.clusters ≡ records = search (rules, length_mapped) in
    let low : c.args.node < nodes = search rules in
    let e = c.as_chunks.ensures in
    let same = node_cluster c.args.store long _ e.front_len e.front _ _ low c.loop-cluster-test.true in
    filled_more _ _ _ _ c.loop-cluster.invariant _ _ c.loop-cluster-test.true
    (subst (λ (d : Cluster). ClaimedAll d (marks c.loop-cluster.map) c.claim_all.result (marks c.claim_all.new.map)) same c.claim_all.ensures)

pub returns : goal.returns
returns c = search (rules, placed_mapped, filled_all)
