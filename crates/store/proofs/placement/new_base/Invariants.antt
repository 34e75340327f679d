-- The clusters so far are in the map (`Filled`); on a sound store the whole map tells the base.
-- Assumes nothing.
use Rattle.spans.specs.Spans.{marks}
use Rattle.store.proofs.MarkLaws.{Filled}
use Rattle.store.proofs.placement.new_base.Given as goal

abbrev pub invariant-loop-cluster : goal.invariant-loop-cluster
invariant-loop-cluster l = Filled l.fn.store l.fn.node l.cluster-index (marks l.map)
