-- Before turn i the first i segments are those of the bytes.
-- Assumes nothing.
use Prim.Native.Nat.{◌-◌}
use Rattle.sizes.specs.Sizes.{segments}
use Rattle.store.specs.Records.{absent_segment}
use Rattle.loops.proofs.TabulateLaws.{Filled}
use Rattle.image.specs.Images.{segment_held, segments_at, record_bytes}
use Rattle.image.specs.Parts.{part}
use Rattle.image.proofs.reading.segments_in.Given as goal

abbrev pub invariant-loop-i : goal.invariant-loop-i
invariant-loop-i l = Filled segments (segment_held (part l.fn.b segments_at record_bytes)) absent_segment l.i l.r

abbrev pub decreases-loop-i : goal.decreases-loop-i
decreases-loop-i l = segments - l.i
