-- Before turn i, i whole rounds are done and the key is the round key of round i.
-- Assumes nothing.
use Prim.Native.Nat.{◌-◌}
use Rattle.aes.proofs.CipherLaws.{Rounds}
use Rattle.aes.proofs.encrypt_with.Given as goal

abbrev pub invariant-loop-i : goal.invariant-loop-i
invariant-loop-i l = Rounds l.initial.k l.initial.s l.k l.s l.i

abbrev pub decreases-loop-i : goal.decreases-loop-i
decreases-loop-i l = 9 - l.i
