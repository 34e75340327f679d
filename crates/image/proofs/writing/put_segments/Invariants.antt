-- Before turn i the first i segments are written.
-- Assumes nothing.
use Prim.Native.Nat.{◌-◌}
use lib.ListN.{get_or}
use Rattle.sizes.specs.Sizes.{segments}
use Rattle.store.specs.Records.{absent_segment}
use Rattle.image.specs.Images.{segment_bytes, segment_out}
use Rattle.image.proofs.WrittenLaws.{Written}
use Rattle.image.proofs.writing.put_segments.Given as goal

abbrev pub invariant-loop-i : goal.invariant-loop-i
invariant-loop-i l = Written segment_bytes segments (λ k. segment_out (get_or l.fn.table k absent_segment)) l.i l.initial.out l.out

abbrev pub decreases-loop-i : goal.decreases-loop-i
decreases-loop-i l = segments - l.i
