-- The loop tells whether the segments so far are absent.
-- Assumes nothing.
use Prim.Native.Nat.{◌-◌}
use Rattle.loops.proofs.RunningLaws.{Running}
use Rattle.sizes.specs.Sizes.{segments}
use Rattle.store.specs.Records.{table_of, place_of}
use Rattle.store.specs.Sound.{is_absent}
use Rattle.store.proofs.soundness.empty.Given as goal

abbrev pub invariant-loop-segment : goal.invariant-loop-segment
invariant-loop-segment l = Running segments (λ k. is_absent (place_of (table_of l.fn.cluster) k)) l.segment-index l.ok

abbrev pub decreases-loop-segment : goal.decreases-loop-segment
decreases-loop-segment l = segments - l.segment-index
