-- Doubling modulo 2 ^ w + p, for every width w: b shifted has degree at most w, so that of the division only the last
-- step may act; it takes the modulus away where the highest bit of b is set, and what is left is the shift modulo
-- 2 ^ w with p added. The field's other facts are computed tests: 01 leaves a byte as it is, 03 is 02 and 01 together,
-- and the inverse is one.
-- Assumes nothing.
use mathlib.Core.Path.{◌≡◌, refl, sym, ap, ap₂, ◌∙◌, subst}
use mathlib.Core.Bool.{true}
use Prim.Native.Nat.{ℕ, zero, suc, ◌+◌, ◌*◌, ◌/◌, ◌%◌, ◌^◌, ◌<◌}
use native.Mathlib.Nat.{mul-add, mul_comm, zero-mul, mul-zero}
use native.Mathlib.Nat.{zero-add, pow-suc, mod-lt, mod-eq_of_lt, div-eq_of_lt}
use native.Mathlib.Nat.{div-lt_iff_lt-mul}
use native.Mathlib.Numerals.{add-one}
use native.Mathlib.Omega.{arith}
use lib.Bits.{bit_xor, xor_block, xor_self, xor_comm, xor_shifted}
use lib.Dec.{eqb}
use lib.Pow.{pow_pos, mod-pow-add}
use Rattle.bits.proofs.OperationLaws.{shl_top, shl_split}
use Rattle.loops.specs.Below.{every}
use Rattle.loops.proofs.BelowLaws.{every_equal}
use Rattle.field.specs.Field.{product, division_step, remainder, times, dot, squares, inverse}

-- the product with x is the shift
product_two : (n b : ℕ) → product n 2 b ≡ b % 2 ^ n * 2
unfolding product
product_two zero b = omega arith
product_two (suc n) b =
    ap (λ (x : ℕ). bit_xor (2 * (b % 2)) (x * 2)) (product_two n (b / 2))
    ∙ xor_comm (2 * (b % 2)) (b / 2 % 2 ^ n * 2 * 2)
    ∙ ap (λ (x : ℕ). bit_xor x (2 * (b % 2))) four
    ∙ xor_shifted (b / 2 % 2 ^ n) 2 (2 * (b % 2)) (omega arith)
    ∙ twice
    ∙ ap (λ (x : ℕ). x * 2) (sym (mod-pow-add b n 1) ∙ ap (λ (x : ℕ). b % 2 ^ x) (add-one n))
  where
    four : b / 2 % 2 ^ n * 2 * 2 ≡ b / 2 % 2 ^ n * 4
    four = omega arith

    twice : b / 2 % 2 ^ n * 4 + 2 * (b % 2) ≡ (b / 2 % 2 ^ n * 2 + b % 2) * 2
    twice = omega arith

-- nothing to take away from a polynomial of degree below w
step_none : (w m p : ℕ) → p < 2 ^ w → division_step w m p ≡ p
step_none w m p h =
    ap (λ (x : ℕ). bit_xor x p) (ap (λ (x : ℕ). m * (x % 2)) (div-eq_of_lt h) ∙ mul-zero m)

rest : (p : ℕ) → p / 2 * 2 + p % 2 ≡ p
rest p = omega arith

remainder_none : (w m n p : ℕ) → p < 2 ^ w → remainder w m n p ≡ p
unfolding remainder
remainder_none w m zero p h = refl
remainder_none w m (suc n) p h =
    ap (λ (x : ℕ). division_step w m (x * 2 + p % 2)) (remainder_none w m n (p / 2) (omega arith))
    ∙ ap (division_step w m) (rest p) ∙ step_none w m p h

-- of a polynomial of degree at most w only the last step may take something away
remainder_last : (w m n p : ℕ) → p < 2 ^ suc w → remainder w m (suc n) p ≡ division_step w m p
unfolding remainder
remainder_last w m n p h =
    ap (λ (x : ℕ). division_step w m (x * 2 + p % 2)) (remainder_none w m n (p / 2) (omega (arith, pow-suc 2 w)))
    ∙ ap (division_step w m) (rest p)

small : (q p k : ℕ) → q < 2 → p < k → q * p < k
small zero p k l h = subst (λ (x : ℕ). x < k) (sym (zero-mul p)) (omega arith)
small (suc zero) p k l h = omega arith
small (suc (suc q)) p k l h = absurd (omega arith)

pub times_two : (w p b : ℕ) → p < 2 ^ suc w → b < 2 ^ suc w
    → times (suc w) (2 ^ suc w + p) 2 b ≡ bit_xor (b * 2 % 2 ^ suc w) (b / 2 ^ w * p)
unfolding times
times_two w p b hp hb =
    ap (remainder (suc w) m (suc w)) (product_two (suc w) b ∙ ap (λ (x : ℕ). x * 2) (mod-eq_of_lt hb))
    ∙ remainder_last (suc w) m w (b * 2) (omega (arith, pow-suc 2 (suc w)))
    ∙ ap₂ bit_xor (ap (λ (x : ℕ). m * x) top ∙ mul_comm m q ∙ mul-add q (2 ^ suc w) p) (shl_split w b)
    ∙ xor_block (suc w) q q (q * p) r (small q p (2 ^ suc w) low hp) (mod-lt (b * 2) (pow_pos (suc w)))
    ∙ ap (λ (x : ℕ). x * 2 ^ suc w + bit_xor (q * p) r) (xor_self q)
    ∙ ap (λ (x : ℕ). x + bit_xor (q * p) r) (zero-mul (2 ^ suc w))
    ∙ zero-add (bit_xor (q * p) r) ∙ xor_comm (q * p) r
  where
    m : ℕ
    m = 2 ^ suc w + p

    -- what falls out of the shift, and what stays
    q : ℕ
    q = b / 2 ^ w

    r : ℕ
    r = b * 2 % 2 ^ suc w

    low : q < 2
    low = (div-lt_iff_lt-mul (pow_pos w)).1 (subst (λ (x : ℕ). b < x) (pow-suc 2 w ∙ mul_comm (2 ^ w) 2) hb)

    top : b * 2 / 2 ^ suc w % 2 ≡ q
    top = ap (λ (x : ℕ). x % 2) (shl_top w b) ∙ mod-eq_of_lt low

-- doubling of a byte, as the code writes it
pub dot_two : (b : ℕ) → b < 256 → dot 2 b ≡ bit_xor (b * 2 % 256) (b / 128 * 0x1b)
unfolding dot
dot_two b h = times_two 7 0x1b b (omega arith) h

pub dot_one : (b : ℕ) → b < 256 → dot 1 b ≡ b
unfolding every dot times remainder product
dot_one b h = every_equal 256 (dot 1) (λ b. b) refl b h

pub dot_three : (b : ℕ) → b < 256 → dot 3 b ≡ bit_xor (dot 2 b) b
unfolding every dot times remainder product
dot_three b h = every_equal 256 (dot 3) (λ b. bit_xor (dot 2 b) b) refl b h

inverses : every 255 (λ k. eqb (dot (suc k) (inverse (suc k))) 1) ≡ true
unfolding every inverse squares dot times remainder product
inverses = refl

-- 4.4: a byte other than zero times its inverse is 1, and zero goes to zero
pub dot_inverse : (x : ℕ) → 0 < x → x < 256 → dot x (inverse x) ≡ 1
dot_inverse zero h l = absurd (omega arith)
dot_inverse (suc k) h l = every_equal 255 (λ k. dot (suc k) (inverse (suc k))) (λ k. 1) inverses k (omega arith)

pub inverse_zero : inverse 0 ≡ 0
unfolding inverse squares dot times remainder product
inverse_zero = refl
