-- Before turn i the first i bytes are substituted.
-- Assumes nothing.
use mathlib.Core.List.{List}
use Prim.Native.Nat.{ℕ}
use Rattle.loops.proofs.TabulateLaws.{Replaced}
use Rattle.aes.specs.Transformations.{cell}
use Rattle.field.specs.Substitution.{sbox}
use Rattle.aes.proofs.StateLaws.{cells}
use Rattle.aes.proofs.sub_bytes.Given as goal

abbrev byte : List ℕ → ℕ → ℕ
byte s = cells (λ r c. sbox (cell s r c))

abbrev pub invariant-loop-b : goal.invariant-loop-b
invariant-loop-b l = Replaced 16 (byte l.fn.s) 0 l.fn.s l.b-index l.b-items
