-- The outer loop tells whether the nodes so far passed; the inner one gave the clusters of the node so far their turn
-- (`Passing`). That and the size of the slice are soundness (`tested_told`).
-- Assumes nothing.
use Rattle.loops.specs.Below.{every}
use Rattle.loops.proofs.RunningLaws.{Running}
use Rattle.sizes.specs.Sizes.{nodes, clusters}
use Rattle.spans.specs.Spans.{marks}
use Rattle.store.specs.inner.Passes.{cluster_sound}
use Rattle.store.proofs.MarkLaws.{Passing}
use Rattle.store.proofs.soundness.sound.Given as goal

abbrev pub invariant-loop-cluster : goal.invariant-loop-cluster
invariant-loop-cluster l = Passing l.fn.store l.clusters-index l.cluster-index l.taken (marks l.map)

abbrev pub invariant-loop-clusters : goal.invariant-loop-clusters
invariant-loop-clusters l = Running nodes (λ v. every clusters (cluster_sound l.fn.store v)) l.clusters-index l.ok
