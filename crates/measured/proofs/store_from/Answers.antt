-- One more record is made; after the last turn all are those of the tables.
-- Assumes nothing.
use Rattle.std.proofs.Common.{List, ap, arith}
use Rattle.sizes.specs.Sizes.{records}
use Rattle.store.specs.declared.Cluster.{Cluster}
use Rattle.store.specs.Records.{no_cluster}
use Rattle.loops.proofs.TabulateLaws.{filled_more, filled_all}
use Rattle.measured.specs.Stores.{store_from}
use Rattle.measured.proofs.StoreLaws.{cluster_is}
use Rattle.measured.proofs.store_from.Goals as goal

pub loop-n-preserved : goal.loop-n-preserved
loop-n-preserved c =
    filled_more records _ no_cluster c.loop-n.n c.loop-n.cluster-items c.loop-n.invariant c.loop-n-test.true _
    (cluster_is _ _ _ _ c.segments_from-segments.ensures)

pub returns : goal.returns
unfolding store_from
returns c =
    ap (λ (l : List Cluster). record { clusters = l })
    (filled_all records _ no_cluster _ _ c.loop-n.invariant (omega arith))
