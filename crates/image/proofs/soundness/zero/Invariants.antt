-- The loop tells whether the bytes so far are zero.
-- Assumes nothing.
use Prim.Native.Nat.{◌-◌}
use lib.Dec.{eqb}
use lib.ListN.{length, get_or}
use Rattle.loops.proofs.RunningLaws.{Running}
use Rattle.image.proofs.soundness.zero.Given as goal

abbrev pub invariant-loop-byte : goal.invariant-loop-byte
invariant-loop-byte l = Running (length l.b) (λ k. eqb (get_or l.b k 0) 0) l.byte-index l.ok

abbrev pub decreases-loop-byte : goal.decreases-loop-byte
decreases-loop-byte l = length l.b - l.byte-index
