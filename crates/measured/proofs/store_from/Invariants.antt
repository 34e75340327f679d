-- Before turn n the first n records are those of the tables.
-- Assumes nothing.
use Rattle.sizes.specs.Sizes.{records}
use Rattle.store.specs.Records.{no_cluster}
use Rattle.loops.proofs.TabulateLaws.{Filled}
use Rattle.measured.specs.Stores.{cluster_from}
use Rattle.measured.proofs.store_from.Given as goal

abbrev pub invariant-loop-n : goal.invariant-loop-n
invariant-loop-n l = Filled records (cluster_from l.fn.bases l.fn.lengths) no_cluster l.n l.cluster-items
