-- Laws of digits, numbers and bytes as text. One test of all sixteen digits gives them as sums: 48 is the byte of 0, 97
-- that of a. A number of one, two or three digits is then its digits in a row; each byte adds two digits at the end.
-- Assumes nothing.
use Prim.Native.Nat.{ℕ, zero, suc, ◌+◌, ◌-◌, ◌/◌, ◌%◌, ◌≤◌, ◌<◌}
use native.Mathlib.Omega.{arith}
use native.Mathlib.Decide.{dec_lt}
use native.Mathlib.Numerals.{add-one}
use mathlib.Core.Path.{◌≡◌, refl, sym, ap, ◌∙◌}
use mathlib.Core.Bool.{cond}
use mathlib.Core.List.{List, [], ◌∷◌, ◌++◌}
use lib.Dec.{ltb}
use lib.ListN.{length, get_or, take}
use lib.Seq.{take-suc}
use borrow.Author.Tests.{lt-ltb, le-ltb}
use Rattle.loops.specs.Below.{every}
use Rattle.loops.proofs.BelowLaws.{every_equal}
use Rattle.lines.specs.Text.{digit, decimal_in, decimal, hexadecimal}

-- ---- digits

digits : (d : ℕ) → d < 16 → cond (ltb d 10) (48 + d) (97 + (d - 10)) ≡ digit d
unfolding digit every
digits = every_equal 16 (λ d. cond (ltb d 10) (48 + d) (97 + (d - 10))) digit refl

pub digit_low : (d : ℕ) → d < 10 → 48 + d ≡ digit d
digit_low d h = rw (lt-ltb d 10 h) at (digits d (omega arith))

pub digit_high : (d : ℕ) → 10 ≤ d → d < 16 → 97 + (d - 10) ≡ digit d
digit_high d l h = rw (le-ltb d 10 l) at (digits d h)

-- ---- decimal

module _ (k n : ℕ) where
  in_one : n < 10 → decimal_in (suc k) n ≡ digit n ∷ []
  unfolding decimal_in
  in_one h = rw (lt-ltb n 10 h, decimal_in)

  in_more : 10 ≤ n → decimal_in (suc k) n ≡ decimal_in k (n / 10) ++ (digit (n % 10) ∷ [])
  unfolding decimal_in
  in_more h = rw (le-ltb n 10 h, decimal_in)

-- two bounds that are large enough give the same digits
in_enough : (j k n : ℕ) → n < j → n < k → decimal_in j n ≡ decimal_in k n
in_enough zero k n a b = absurd (omega arith)
in_enough (suc j) zero n a b = absurd (omega arith)
in_enough (suc j) (suc k) n a b = go (dec_lt n 10) (λ h. in_enough j k (n / 10) (omega arith) (omega arith))
  where
    go : Dec (n < 10) → (10 ≤ n → decimal_in j (n / 10) ≡ decimal_in k (n / 10))
        → decimal_in (suc j) n ≡ decimal_in (suc k) n
    go (yes h) rest = in_one j n h ∙ sym (in_one k n h)
    go (no h) rest =
        let l : 10 ≤ n = omega arith in
        in_more j n l ∙ ap (λ (ds : List ℕ). ds ++ (digit (n % 10) ∷ [])) (rest l) ∙ sym (in_more k n l)

last : (n : ℕ) (ds : List ℕ) → 10 ≤ n → decimal (n / 10) ≡ ds → decimal n ≡ ds ++ ((48 + n % 10) ∷ [])
unfolding decimal
last n ds h e =
    in_more n n h
    ∙ (λ j. (in_enough n (suc (n / 10)) (n / 10) (omega arith) (omega arith) ∙ e) j
    ++ (sym (digit_low (n % 10) (omega arith)) j ∷ []))

pub decimal_ones : (n : ℕ) → n < 10 → decimal n ≡ (48 + n) ∷ []
unfolding decimal
decimal_ones n h = in_one n n h ∙ ap (λ (d : ℕ). d ∷ []) (sym (digit_low n h))

pub decimal_tens : (n : ℕ) → 10 ≤ n → n < 100 → decimal n ≡ (48 + n / 10) ∷ (48 + n % 10) ∷ []
decimal_tens n l h = last n _ l (decimal_ones (n / 10) (omega arith))

pub decimal_hundreds : (n : ℕ) → 100 ≤ n → n < 1000
    → decimal n ≡ (48 + n / 100) ∷ (48 + n / 10 % 10) ∷ (48 + n % 10) ∷ []
decimal_hundreds n l h =
    let e : n / 10 / 10 ≡ n / 100 = omega arith in
    last n _ (omega arith) (decimal_tens (n / 10) (omega arith) (omega arith))
    ∙ ap (λ (d : ℕ). (48 + d) ∷ (48 + n / 10 % 10) ∷ (48 + n % 10) ∷ []) e

-- ---- hexadecimal

hexadecimal_append : (xs ys : List ℕ) → hexadecimal (xs ++ ys) ≡ hexadecimal xs ++ hexadecimal ys
unfolding hexadecimal
hexadecimal_append [] ys = refl
hexadecimal_append (x ∷ xs) ys =
    ap (λ (l : List ℕ). digit (x / 16) ∷ digit (x % 16) ∷ l) (hexadecimal_append xs ys)

pub hexadecimal_more : (bs : List ℕ) (i : ℕ) → i < length bs
    → hexadecimal (take (i + 1) bs)
    ≡ hexadecimal (take i bs) ++ (digit (get_or bs i 0 / 16) ∷ digit (get_or bs i 0 % 16) ∷ [])
unfolding hexadecimal
hexadecimal_more bs i h = rw (add-one i, take-suc bs i 0 h) (hexadecimal_append (take i bs) (get_or bs i 0 ∷ []))
