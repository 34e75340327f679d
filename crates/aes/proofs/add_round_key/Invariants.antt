-- Before turn i the first i bytes have the key added.
-- Assumes nothing.
use mathlib.Core.List.{List}
use Prim.Native.Nat.{ℕ}
use lib.Bits.{bit_xor}
use Rattle.loops.proofs.TabulateLaws.{Replaced}
use Rattle.aes.specs.Transformations.{cell}
use Rattle.aes.proofs.StateLaws.{cells}
use Rattle.aes.proofs.add_round_key.Given as goal

abbrev byte : List ℕ → List ℕ → ℕ → ℕ
byte s k = cells (λ r c. bit_xor (cell s r c) (cell k r c))

abbrev pub invariant-loop-i : goal.invariant-loop-i
invariant-loop-i l = Replaced 16 (byte l.fn.s l.k) 0 l.fn.s l.i l.b-items
