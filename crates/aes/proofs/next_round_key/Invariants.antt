-- Before turn i the first i bytes of the next round key are made.
-- Assumes nothing.
use Prim.Native.Nat.{◌-◌, ◌≤◌}
use Rattle.loops.proofs.TabulateLaws.{Filled}
use Rattle.aes.proofs.StateLaws.{cells}
use Rattle.aes.proofs.KeyExpansionLaws.{next_byte}
use Rattle.aes.proofs.next_round_key.Given as goal

abbrev pub invariant-loop-i : goal.invariant-loop-i
invariant-loop-i l = (4 ≤ l.i) × Filled 16 (cells (next_byte l.round l.k)) 0 l.i l.r

abbrev pub decreases-loop-i : goal.decreases-loop-i
decreases-loop-i l = 16 - l.i
