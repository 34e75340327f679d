-- What `&`, `|`, `^`, `!` and a shift by one do to the bits, for every width w. The three operations share one proof,
-- over the operation of two digits; equations between results then go bit by bit, by `same_bits`.
-- Assumes nothing.
use Prim.Native.Nat.{ℕ, zero, suc, ◌+◌, ◌-◌, ◌*◌, ◌/◌, ◌%◌, ◌^◌, ◌≤◌, ◌<◌, min, max}
use native.Mathlib.Nat.{pow-suc, mod-lt, lt_of_le_of_lt, lt_of_lt_of_le}
use native.Mathlib.Nat.{sub-zero, min-zero, add-zero}
use native.Mathlib.Numerals.{one-add}
use native.Mathlib.Omega.{arith}
use mathlib.Core.Path.{◌≡◌, refl, sym, ap, ap₂, ◌∙◌}
use mathlib.Core.Bool.{Bool, true, false, not, ◌&&◌, ◌||◌, xor}
use lib.Dec.{eqb, eqb-suc-zero}
use lib.Bits.{bit_and, bit_or, bit_xor, differ, and_step, or_step, xor_step, or_add_and, xor_add_and}
use lib.Bits.{and_le_l, and_le_r, xor_lt, xor_self, and_mask}
use lib.Pow.{pow_pos, pow_mono, split, shr-shr}
use borrow.Author.Tests.{eq-eqb, ne_eqb, eqb-true, eqb-false}
use Rattle.bits.specs.Sets.{has, full, one, set_of}
use Rattle.bits.proofs.SetLaws.{has_zero, has_suc, has_low, has_high, low_bit, parts}
use Rattle.bits.proofs.SetLaws.{set_of_lt, has_set_of, same_bits}

-- ---- the operations, bit by bit

module _ (op : ℕ → ℕ → ℕ) (digit : ℕ → ℕ → ℕ) (t : Bool → Bool → Bool)
    (step : (a b : ℕ) → op a b ≡ op (a / 2) (b / 2) * 2 + digit (a % 2) (b % 2))
    (agrees : (x y : Bool) → digit (one x) (one y) ≡ one (t x y)) where
  step_is : (a b : ℕ) → op a b ≡ op (a / 2) (b / 2) * 2 + one (t (has 0 a) (has 0 b))
  step_is a b =
      step a b
      ∙ ap (λ (r : ℕ). op (a / 2) (b / 2) * 2 + r)
      (ap₂ digit (sym (low_bit a)) (sym (low_bit b)) ∙ agrees (has 0 a) (has 0 b))

  has_op : (i a b : ℕ) → has i (op a b) ≡ t (has i a) (has i b)
  has_op zero a b = ap (has 0) (step_is a b) ∙ has_low (op (a / 2) (b / 2)) (t (has 0 a) (has 0 b))
  has_op (suc i) a b =
      ap (has (suc i)) (step_is a b) ∙ has_high i (op (a / 2) (b / 2)) (t (has 0 a) (has 0 b))
      ∙ has_op i (a / 2) (b / 2) ∙ ap₂ t (sym (has_suc i a)) (sym (has_suc i b))

pub has_and : (i a b : ℕ) → has i (bit_and a b) ≡ has i a && has i b
has_and = has_op bit_and min (λ x y. x && y) and_step agrees
  where
    agrees : (x y : Bool) → min (one x) (one y) ≡ one (x && y)
    agrees true true = refl
    agrees true false = refl
    agrees false true = refl
    agrees false false = refl

pub has_or : (i a b : ℕ) → has i (bit_or a b) ≡ has i a || has i b
has_or = has_op bit_or max (λ x y. x || y) or_step agrees
  where
    agrees : (x y : Bool) → max (one x) (one y) ≡ one (x || y)
    agrees true true = refl
    agrees true false = refl
    agrees false true = refl
    agrees false false = refl

xor_digits : (x y : Bool) → differ (one x) (one y) ≡ one (xor x y)
unfolding xor
xor_digits true true = refl
xor_digits true false = refl
xor_digits false true = refl
xor_digits false false = refl

pub has_xor : (i a b : ℕ) → has i (bit_xor a b) ≡ xor (has i a) (has i b)
has_xor = has_op bit_xor differ xor xor_step xor_digits

-- halving, and the lowest bit, of a complement
turned : (w s : ℕ) (b : Bool) → s < 2 ^ suc w → s / 2 * 2 + one b ≡ s
    → full (suc w) - s ≡ (full w - s / 2) * 2 + one (not b)
turned w s true h e = omega (arith, pow-suc 2 w, pow_pos w)
turned w s false h e = omega (arith, pow-suc 2 w, pow_pos w)

-- the bits below w that s has not
pub has_not : (w i s : ℕ) → i < w → s < 2 ^ w → has i (full w - s) ≡ not (has i s)
has_not zero i s l h = absurd (omega arith)
has_not (suc w) zero s l h =
    ap (has 0) (turned w s (has 0 s) h (parts s)) ∙ has_low (full w - s / 2) (not (has 0 s))
has_not (suc w) (suc i) s l h =
    ap (has (suc i)) (turned w s (has 0 s) h (parts s)) ∙ has_high i (full w - s / 2) (not (has 0 s))
    ∙ has_not w i (s / 2) (omega arith) (omega (arith, pow-suc 2 w)) ∙ ap not (sym (has_suc i s))

pub full_lt : (w : ℕ) → full w < 2 ^ w
full_lt w = omega (arith, pow_pos w)

pub has_none : (i : ℕ) → has i 0 ≡ false
has_none zero = has_zero 0
has_none (suc i) = has_suc i 0 ∙ has_none i

pub has_full : (w i : ℕ) → i < w → has i (full w) ≡ true
has_full w i l = ap (has i) (sym (sub-zero (full w))) ∙ has_not w i 0 l (pow_pos w) ∙ ap not (has_none i)

-- ---- exclusive or is associative

xor_turns : (x y z : Bool) → xor (xor x y) z ≡ xor x (xor y z)
unfolding xor
xor_turns true true true = refl
xor_turns true true false = refl
xor_turns true false true = refl
xor_turns true false false = refl
xor_turns false true true = refl
xor_turns false true false = refl
xor_turns false false true = refl
xor_turns false false false = refl

lt_pow : (n : ℕ) → n < 2 ^ n
lt_pow zero = omega arith
lt_pow (suc n) = let h = lt_pow n in omega (arith, pow-suc 2 n)

pub xor_assoc : (a b c : ℕ) → bit_xor (bit_xor a b) c ≡ bit_xor a (bit_xor b c)
xor_assoc a b c =
    same_bits w (bit_xor (bit_xor a b) c) (bit_xor a (bit_xor b c))
    (xor_lt w (bit_xor a b) c (xor_lt w a b ha hb) hc) (xor_lt w a (bit_xor b c) ha (xor_lt w b c hb hc))
    (λ i l.
    has_xor i (bit_xor a b) c ∙ ap (λ (x : Bool). xor x (has i c)) (has_xor i a b)
    ∙ xor_turns (has i a) (has i b) (has i c)
    ∙ sym (has_xor i a (bit_xor b c) ∙ ap (xor (has i a)) (has_xor i b c)))
  where
    w : ℕ
    w = a + b + c

    within : (n : ℕ) → n ≤ a + b + c → n < 2 ^ w
    within n h = lt_of_lt_of_le (lt_pow n) (pow_mono h)

    ha : a < 2 ^ w
    ha = within a (omega arith)

    hb : b < 2 ^ w
    hb = within b (omega arith)

    hc : c < 2 ^ w
    hc = within c (omega arith)

-- ---- tests and cleared bits, as code writes them

-- `s & m`, of a set s, has what both have
pub and_has : (w : ℕ) (p : ℕ → Bool) (m : ℕ) → bit_and (set_of w p) m ≡ set_of w (λ i. p i && has i m)
and_has w p m =
    same_bits w (bit_and (set_of w p) m) (set_of w (λ i. p i && has i m))
    (lt_of_le_of_lt (and_le_l (set_of w p) m) (set_of_lt w p)) (set_of_lt w (λ i. p i && has i m))
    (λ i l.
    has_and i (set_of w p) m ∙ ap (λ (x : Bool). x && has i m) (has_set_of w p i l)
    ∙ sym (has_set_of w (λ i. p i && has i m) i l))

-- `s & !m`, of a set s of w bits in a word of v, has what s has and m has not
pub and_not : (w v : ℕ) → w ≤ v → (p : ℕ → Bool) (m : ℕ) → m < 2 ^ v
    → bit_and (set_of w p) (full v - m) ≡ set_of w (λ i. p i && not (has i m))
and_not w v n p m h =
    same_bits w (bit_and (set_of w p) (full v - m)) (set_of w (λ i. p i && not (has i m)))
    (lt_of_le_of_lt (and_le_l (set_of w p) (full v - m)) (set_of_lt w p)) (set_of_lt w (λ i. p i && not (has i m)))
    (λ i l.
    has_and i (set_of w p) (full v - m)
    ∙ ap₂ (λ (x y : Bool). x && y) (has_set_of w p i l) (has_not v i m (lt_of_lt_of_le l n) h)
    ∙ sym (has_set_of w (λ i. p i && not (has i m)) i l))

-- `s & (1 << i) != 0` tests for i
pub mask_test : (i s : ℕ) → not (eqb (bit_and s (2 ^ i)) 0) ≡ has i s
mask_test zero s = ap (λ (n : ℕ). not (eqb n 0)) (and_mask s 1) ∙ go (s % 2) (mod-lt s (omega arith)) ∙ sym (has_zero s)
  where
    go : (r : ℕ) → r < 2 → not (eqb r 0) ≡ eqb r 1
    go zero h = refl
    go (suc zero) h = refl
    go (suc (suc r)) h = absurd (omega arith)
mask_test (suc i) s =
    ap (λ (n : ℕ). not (eqb n 0)) up ∙ ap not (double (bit_and (s / 2) (2 ^ i))) ∙ mask_test i (s / 2)
    ∙ sym (has_suc i s)
  where
    half : 2 ^ suc i / 2 ≡ 2 ^ i
    half = omega (arith, pow-suc 2 i)

    even : 2 ^ suc i % 2 ≡ 0
    even = omega (arith, pow-suc 2 i)

    up : bit_and s (2 ^ suc i) ≡ bit_and (s / 2) (2 ^ i) * 2
    up =
        and_step s (2 ^ suc i)
        ∙ ap₂ (λ (a b : ℕ). bit_and (s / 2) a * 2 + min (s % 2) b) half even
        ∙ ap (λ (n : ℕ). bit_and (s / 2) (2 ^ i) * 2 + n) (min-zero (s % 2))
        ∙ add-zero (bit_and (s / 2) (2 ^ i) * 2)

    double : (x : ℕ) → eqb (x * 2) 0 ≡ eqb x 0
    double zero = refl
    double (suc x) = ne_eqb (suc x * 2) 0 (λ g. omega arith) ∙ sym (ne_eqb (suc x) 0 (λ g. omega arith))

-- ---- differences, or-ed together

pub or_none : (a b : ℕ) → eqb (bit_or a b) 0 ≡ eqb a 0 && eqb b 0
or_none zero b = refl
or_none (suc a) b =
    ne_eqb (bit_or (suc a) b) 0 (λ e. omega (arith, or_add_and (suc a) b, and_le_r (suc a) b))
    ∙ ap (λ (x : Bool). x && eqb b 0) (sym (eqb-suc-zero a))

pub xor_none : (a b : ℕ) → eqb (bit_xor a b) 0 ≡ eqb a b
xor_none a b = go (eqb a b) refl
  where
    go : (x : Bool) → eqb a b ≡ x → eqb (bit_xor a b) 0 ≡ eqb a b
    go true e = eq-eqb (bit_xor a b) 0 (ap (λ (n : ℕ). bit_xor n b) (eqb-true a b e) ∙ xor_self b) ∙ sym e
    go false e =
        ne_eqb (bit_xor a b) 0 (λ z. eqb-false a b e (omega (arith, xor_add_and a b, and_le_l a b, and_le_r a b)))
        ∙ sym e

-- ---- a shift left by one

-- what falls out of suc w bits is the highest of them
pub shl_top : (w s : ℕ) → s * 2 / 2 ^ suc w ≡ s / 2 ^ w
shl_top w s =
    ap (λ (k : ℕ). s * 2 / 2 ^ k) (sym (one-add w)) ∙ sym (shr-shr (s * 2) 1 w) ∙ ap (λ (n : ℕ). n / 2 ^ w) double
  where
    double : s * 2 / 2 ^ 1 ≡ s
    double = omega arith

pub shl_split : (w s : ℕ) → s * 2 ≡ s / 2 ^ w * 2 ^ suc w + s * 2 % 2 ^ suc w
shl_split w s = sym (split (s * 2) (suc w)) ∙ ap (λ (q : ℕ). q * 2 ^ suc w + s * 2 % 2 ^ suc w) (shl_top w s)
