-- Before turn i the first i segments are those of the tables.
-- Assumes nothing.
use Rattle.sizes.specs.Sizes.{segments}
use Rattle.store.specs.Records.{absent_segment}
use Rattle.loops.proofs.TabulateLaws.{Filled}
use Rattle.measured.specs.Stores.{segment_from}
use Rattle.measured.proofs.segments_from.Given as goal

abbrev pub invariant-loop-i : goal.invariant-loop-i
invariant-loop-i l = Filled segments (segment_from l.fn.bases l.fn.lengths l.fn.n) absent_segment l.i l.segment-items
