-- Laws of numbers as sets of bits, for every width w. Each goes from the lowest bit up: a number is its lowest bit and
-- twice the rest, and bit i + 1 of the number is bit i of the rest.
-- Assumes nothing.
use Prim.Native.Nat.{ℕ, zero, suc, ◌+◌, ◌*◌, ◌/◌, ◌%◌, ◌^◌, ◌<◌}
use native.Mathlib.Nat.{zero-add, pow-suc, mod-lt, div-eq_of_lt}
use native.Mathlib.Numerals.{one-add}
use native.Mathlib.Omega.{arith}
use mathlib.Core.Path.{◌≡◌, refl, sym, ap, ap₂, ◌∙◌}
use mathlib.Core.Bool.{Bool, true, false, false≢true}
use lib.Dec.{eqb, eqb-suc-zero}
use lib.Pow.{shr-shr}
use lib.Count.{ones, ones_in, ones_step}
use borrow.Author.Tests.{eqb-false, eq-eqb, ne_eqb}
use Rattle.bits.specs.Sets.{has, one, set_of, count}

-- ---- one bit and the rest

pub has_zero : (s : ℕ) → has 0 s ≡ eqb (s % 2) 1
unfolding has
has_zero s = ap (λ (n : ℕ). eqb (n % 2) 1) whole
  where
    whole : s / 1 ≡ s
    whole = omega arith

pub has_suc : (i s : ℕ) → has (suc i) s ≡ has i (s / 2)
unfolding has
has_suc i s = ap (λ (n : ℕ). eqb (n % 2) 1) (ap (λ (k : ℕ). s / 2 ^ k) (sym (one-add i)) ∙ sym (shr-shr s 1 i))

-- a number made of a bit and the bits above it
pub has_low : (a : ℕ) (b : Bool) → has 0 (a * 2 + one b) ≡ b
has_low a true = has_zero (a * 2 + 1) ∙ eq-eqb ((a * 2 + 1) % 2) 1 (omega arith)
has_low a false = has_zero (a * 2 + 0) ∙ ne_eqb ((a * 2 + 0) % 2) 1 (λ e. omega arith)

half_low : (a : ℕ) (b : Bool) → (a * 2 + one b) / 2 ≡ a
half_low a true = omega arith
half_low a false = omega arith

pub has_high : (i a : ℕ) (b : Bool) → has (suc i) (a * 2 + one b) ≡ has i a
has_high i a b = has_suc i (a * 2 + one b) ∙ ap (has i) (half_low a b)

-- the lowest bit as a number
pub low_bit : (s : ℕ) → one (has 0 s) ≡ s % 2
low_bit s = ap one (has_zero s) ∙ go (s % 2) (mod-lt s (omega arith))
  where
    go : (r : ℕ) → r < 2 → one (eqb r 1) ≡ r
    go zero h = refl
    go (suc zero) h = refl
    go (suc (suc r)) h = absurd (omega arith)

-- a number below 2 ^ i has no bit i
pub has_beyond : (i s : ℕ) → s < 2 ^ i → has i s ≡ false
unfolding has
has_beyond i s h = ap (λ (n : ℕ). eqb (n % 2) 1) (div-eq_of_lt h)

-- a number is its lowest bit and the rest
pub parts : (s : ℕ) → s / 2 * 2 + one (has 0 s) ≡ s
parts s = rw low_bit (omega arith)

-- ---- the set of what passes

pub set_of_lt : (w : ℕ) (p : ℕ → Bool) → set_of w p < 2 ^ w
unfolding set_of
set_of_lt zero p = omega arith
set_of_lt (suc w) p = go (p 0) (set_of_lt w (λ i. p (suc i)))
  where
    go : (b : Bool) → set_of w (λ i. p (suc i)) < 2 ^ w → set_of w (λ i. p (suc i)) * 2 + one b < 2 ^ suc w
    go true h = omega (arith, pow-suc 2 w)
    go false h = omega (arith, pow-suc 2 w)

pub has_set_of : (w : ℕ) (p : ℕ → Bool) (i : ℕ) → i < w → has i (set_of w p) ≡ p i
unfolding set_of
has_set_of zero p i h = absurd (omega arith)
has_set_of (suc w) p zero h = has_low (set_of w (λ i. p (suc i))) (p 0)
has_set_of (suc w) p (suc i) h =
    has_high i (set_of w (λ j. p (suc j))) (p 0) ∙ has_set_of w (λ j. p (suc j)) i (omega arith)

-- equal tests, equal sets
pub set_of_same : (w : ℕ) (p q : ℕ → Bool) → ((i : ℕ) → i < w → p i ≡ q i) → set_of w p ≡ set_of w q
unfolding set_of
set_of_same zero p q e = refl
set_of_same (suc w) p q e =
    ap₂ (λ (a : ℕ) (b : Bool). a * 2 + one b)
    (set_of_same w (λ i. p (suc i)) (λ i. q (suc i)) (λ i h. e (suc i) (omega arith)))
    (e 0 (omega arith))

-- a number below 2 ^ w is the set of its bits below w
pub set_of_has : (w s : ℕ) → s < 2 ^ w → set_of w (λ i. has i s) ≡ s
unfolding set_of
set_of_has zero s h = omega arith
set_of_has (suc w) s h =
    ap (λ (a : ℕ). a * 2 + one (has 0 s))
    (set_of_same w (λ i. has (suc i) s) (λ i. has i (s / 2)) (λ i l. has_suc i s)
    ∙ set_of_has w (s / 2) (omega (arith, pow-suc 2 w)))
    ∙ parts s

-- two numbers below 2 ^ w that have the same bits are equal
pub same_bits : (w a b : ℕ) → a < 2 ^ w → b < 2 ^ w → ((i : ℕ) → i < w → has i a ≡ has i b) → a ≡ b
same_bits w a b ha hb e =
    sym (set_of_has w a ha) ∙ set_of_same w (λ i. has i a) (λ i. has i b) e ∙ set_of_has w b hb

-- ---- counting

ones_zero : ones 0 ≡ 0
unfolding ones ones_in
ones_zero = refl

-- the count of ones of a set is how many pass
pub ones_set_of : (w : ℕ) (p : ℕ → Bool) → ones (set_of w p) ≡ count w p
unfolding set_of count
ones_set_of zero p = ones_zero
ones_set_of (suc w) p =
    ones_step (set_of w (λ i. p (suc i)) * 2 + one (p 0))
    ∙ ap₂ (λ (a b : ℕ). a + ones b) (odd (p 0)) (half_low (set_of w (λ i. p (suc i))) (p 0))
    ∙ ap (λ (n : ℕ). one (p 0) + n) (ones_set_of w (λ i. p (suc i)))
  where
    odd : (b : Bool) → (set_of w (λ i. p (suc i)) * 2 + one b) % 2 ≡ one b
    odd true = omega arith
    odd false = omega arith

-- none counted just where none is in the set
pub count_none : (w : ℕ) (p : ℕ → Bool) → eqb (count w p) 0 ≡ eqb (set_of w p) 0
unfolding set_of count
count_none zero p = refl
count_none (suc w) p = go (p 0) (count_none w (λ i. p (suc i)))
  where
    zeros : (c s : ℕ) → eqb c 0 ≡ eqb s 0 → eqb (0 + c) 0 ≡ eqb (s * 2 + 0) 0
    zeros zero zero e = refl
    zeros zero (suc s) e = absurd (false≢true (sym (e ∙ eqb-suc-zero s)))
    zeros (suc c) zero e = absurd (false≢true (sym (eqb-suc-zero c) ∙ e))
    zeros (suc c) (suc s) e =
        ne_eqb (0 + suc c) 0 (λ g. omega arith) ∙ sym (ne_eqb (suc s * 2 + 0) 0 (λ g. omega arith))

    go : (b : Bool) → eqb (count w (λ i. p (suc i))) 0 ≡ eqb (set_of w (λ i. p (suc i))) 0
        → eqb (one b + count w (λ i. p (suc i))) 0 ≡ eqb (set_of w (λ i. p (suc i)) * 2 + one b) 0
    go true e =
        ne_eqb (1 + count w (λ i. p (suc i))) 0 (λ g. omega arith)
        ∙ sym (ne_eqb (set_of w (λ i. p (suc i)) * 2 + 1) 0 (λ g. omega arith))
    go false e = zeros (count w (λ i. p (suc i))) (set_of w (λ i. p (suc i))) e

-- some are counted just where some pass
pub count_out : (w : ℕ) (p : ℕ → Bool) → eqb (count w p) 0 ≡ false → (i : ℕ) × (i < w) × (p i ≡ true)
unfolding count
count_out zero p e = absurd (false≢true (sym e))
count_out (suc w) p e = go (p 0) refl (count_out w (λ i. p (suc i))) e
  where
    rest : ℕ
    rest = count w (λ i. p (suc i))

    up : (i : ℕ) × (i < w) × (p (suc i) ≡ true) → (i : ℕ) × (i < suc w) × (p i ≡ true)
    up f = let l = f.1 in (suc f.0, omega arith, f.2)

    go : (b : Bool) → p 0 ≡ b → (eqb rest 0 ≡ false → (i : ℕ) × (i < w) × (p (suc i) ≡ true))
        → eqb (one b + rest) 0 ≡ false → (i : ℕ) × (i < suc w) × (p i ≡ true)
    go true q more e = (0, omega arith, q)
    go false q more e = up (more (ap (λ (n : ℕ). eqb n 0) (sym (zero-add rest)) ∙ e))

pub count_in : (w : ℕ) (p : ℕ → Bool) (i : ℕ) → i < w → p i ≡ true → eqb (count w p) 0 ≡ false
unfolding count
count_in zero p i l e = absurd (omega arith)
count_in (suc w) p zero l e =
    ap (λ (b : Bool). eqb (one b + count w (λ i. p (suc i))) 0) e
    ∙ ne_eqb (1 + count w (λ i. p (suc i))) 0 (λ g. omega arith)
count_in (suc w) p (suc i) l e = go (p 0) (eqb-false _ 0 (count_in w (λ i. p (suc i)) i (omega arith) e))
  where
    go : (b : Bool) → (count w (λ i. p (suc i)) ≡ 0 → ⊥) → eqb (one b + count w (λ i. p (suc i))) 0 ≡ false
    go true n = ne_eqb (1 + count w (λ i. p (suc i))) 0 (λ g. omega arith)
    go false n = ne_eqb (0 + count w (λ i. p (suc i))) 0 (λ g. n (omega arith))
