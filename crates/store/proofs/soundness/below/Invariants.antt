-- The loop tells whether the segments so far are below the width or absent.
-- Assumes nothing.
use Prim.Native.Nat.{◌-◌}
use Rattle.loops.proofs.RunningLaws.{Running}
use Rattle.sizes.specs.Sizes.{segments}
use Rattle.store.specs.Records.{table_of, place_of}
use Rattle.store.specs.Sound.{allowed}
use Rattle.store.proofs.soundness.below.Given as goal

abbrev pub invariant-loop-i : goal.invariant-loop-i
invariant-loop-i l = Running segments (λ k. allowed (place_of (table_of l.fn.cluster) k) k l.width) l.i l.ok

abbrev pub decreases-loop-i : goal.decreases-loop-i
decreases-loop-i l = segments - l.i
