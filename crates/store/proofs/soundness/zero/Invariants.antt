-- The loop tells whether the bytes so far are zero.
-- Assumes nothing.
use Prim.Native.Nat.{◌-◌}
use lib.Dec.{eqb}
use lib.ListN.{get_or}
use Rattle.loops.proofs.RunningLaws.{Running}
use Rattle.sizes.specs.Sizes.{password_bytes}
use Rattle.store.proofs.soundness.zero.Given as goal

abbrev pub invariant-loop-byte : goal.invariant-loop-byte
invariant-loop-byte l = Running password_bytes (λ k. eqb (get_or l.fn.password k 0) 0) l.byte-index l.ok

abbrev pub decreases-loop-byte : goal.decreases-loop-byte
decreases-loop-byte l = password_bytes - l.byte-index
