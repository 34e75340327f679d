-- Laws of a word's masks, bit by bit: one bit, the bits from k on, the bits below k.
-- Assumes nothing.
use mathlib.Core.Path.{◌≡◌, ap, ◌∙◌}
use mathlib.Core.Bool.{true, false, not}
use Prim.Native.Nat.{ℕ, ◌-◌, ◌*◌, ◌%◌, ◌^◌, ◌≤◌, ◌<◌}
use native.Mathlib.Nat.{one-mul, mod-eq_of_lt}
use native.Mathlib.Omega.{arith}
use lib.Pow.{pow_pos, pow-lt, pow_mono}
use Rattle.bits.specs.Sets.{has, full}
use Rattle.bits.proofs.SetLaws.{has_beyond}
use Rattle.bits.proofs.OperationLaws.{has_not, has_full, full_lt}
use Rattle.spans.specs.Spans.{word_bits, all}

pub bit_is : (i : ℕ) → i < word_bits
    → (1 * 2 ^ i % 2 ^ 64 ≡ 2 ^ i) × ((1 ≤ 1 * 2 ^ i % 2 ^ 64) × (1 * 2 ^ i % 2 ^ 64 ≤ 2 ^ 63))
bit_is i h =
    let e : 1 * 2 ^ i % 2 ^ 64 ≡ 2 ^ i =
    ap (λ (n : ℕ). n % 2 ^ 64) (one-mul (2 ^ i)) ∙ mod-eq_of_lt (pow-lt {i = i} {j = 64} h)
    in
    let p = pow_pos i in
    let q : 2 ^ i ≤ 2 ^ 63 = pow_mono {i = i} {j = 63} (omega arith) in
    (e, (omega (arith, e, p), omega (arith, e, q)))

-- the bits below k lie below bit i, where that is not among them
pub full_below : (k i : ℕ) → k ≤ i → full k < 2 ^ i
full_below k i h =
    let a = full_lt k in let b : 2 ^ k ≤ 2 ^ i = pow_mono {i = k} {j = i} h in omega (arith, a, b)

module _ (k i : ℕ) (fits : k ≤ word_bits) where
  -- the bits from k on
  pub above_on : i < word_bits → k ≤ i → has i (all - full k) ≡ true
  above_on l h = has_not word_bits i (full k) l (full_below k word_bits fits) ∙ ap not (has_beyond i (full k) (full_below k i h))

  pub above_off : i < k → has i (all - full k) ≡ false
  above_off h = has_not word_bits i (full k) (omega arith) (full_below k word_bits fits) ∙ ap not (has_full k i h)
