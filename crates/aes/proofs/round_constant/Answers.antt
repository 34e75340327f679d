-- The ten cases, each computed from the definition. The last is round 10: it is none of the nine before it, and the
-- bound allows no other.
-- Assumes nothing.
use mathlib.Core.Path.{◌≡◌, refl, sym, ap, ◌∙◌}
use Prim.Native.Nat.{ℕ}
use native.Mathlib.Omega.{arith}
use Rattle.field.specs.Field.{dot, times, remainder, product}
use Rattle.aes.specs.KeyExpansion.{doublings, round_constant}
use Rattle.aes.proofs.round_constant.Goals as goal

constant_1 : 1 ≡ round_constant 1
unfolding doublings dot times remainder product
constant_1 = refl

constant_2 : 2 ≡ round_constant 2
unfolding doublings dot times remainder product
constant_2 = refl

constant_3 : 4 ≡ round_constant 3
unfolding doublings dot times remainder product
constant_3 = refl

constant_4 : 8 ≡ round_constant 4
unfolding doublings dot times remainder product
constant_4 = refl

constant_5 : 16 ≡ round_constant 5
unfolding doublings dot times remainder product
constant_5 = refl

constant_6 : 32 ≡ round_constant 6
unfolding doublings dot times remainder product
constant_6 = refl

constant_7 : 64 ≡ round_constant 7
unfolding doublings dot times remainder product
constant_7 = refl

constant_8 : 128 ≡ round_constant 8
unfolding doublings dot times remainder product
constant_8 = refl

constant_9 : 27 ≡ round_constant 9
unfolding doublings dot times remainder product
constant_9 = refl

constant_10 : 54 ≡ round_constant 10
unfolding doublings dot times remainder product
constant_10 = refl

-- round j is asked for; v is its constant
case : (j : ℕ) {v round : ℕ} → v ≡ round_constant j → round ≡ j → v ≡ round_constant round
case j is at = is ∙ ap round_constant (sym at)

pub returns-in-1 : goal.returns-in-1
returns-in-1 c = case 1 constant_1 c.in-1.is

pub returns-in-2 : goal.returns-in-2
returns-in-2 c = case 2 constant_2 c.in-2.is

pub returns-in-3 : goal.returns-in-3
returns-in-3 c = case 3 constant_3 c.in-3.is

pub returns-in-4 : goal.returns-in-4
returns-in-4 c = case 4 constant_4 c.in-4.is

pub returns-in-5 : goal.returns-in-5
returns-in-5 c = case 5 constant_5 c.in-5.is

pub returns-in-6 : goal.returns-in-6
returns-in-6 c = case 6 constant_6 c.in-6.is

pub returns-in-7 : goal.returns-in-7
returns-in-7 c = case 7 constant_7 c.in-7.is

pub returns-in-8 : goal.returns-in-8
returns-in-8 c = case 8 constant_8 c.in-8.is

pub returns-in-9 : goal.returns-in-9
returns-in-9 c = case 9 constant_9 c.in-9.is

pub returns-in_default : goal.returns-in_default
returns-in_default c = case 10 constant_10 (omega arith)
