-- After the last turn all segments are those of the tables.
-- Assumes nothing.
use Rattle.std.proofs.Common.{arith}
use Rattle.sizes.specs.Sizes.{segments}
use Rattle.store.specs.Records.{absent_segment}
use Rattle.loops.proofs.TabulateLaws.{filled_all}
use Rattle.measured.proofs.segments_from.Goals as goal

pub returns : goal.returns
returns c = filled_all segments _ absent_segment _ _ c.loop-i.invariant (omega arith)
