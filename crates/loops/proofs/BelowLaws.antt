-- Laws of tests over the numbers below a bound. A computed test, `refl`, gives the rule at each number by `every_at`.
-- Assumes nothing.
use mathlib.Core.Path.{◌≡◌, refl, sym, ap, ◌∙◌}
use mathlib.Core.Logic.{◌⊎◌, inl, inr}
use mathlib.Core.Bool.{Bool, true, false, ◌&&◌, false≢true}
use Prim.Native.Nat.{ℕ, zero, suc, ◌<◌}
use native.Mathlib.Nat.{not-suc-le-zero, le_of_suc-le-suc, eq-or-lt_of_le}
use native.Mathlib.Omega.{arith}
use borrow.Author.Tests.{eqb-true}
use lib.Dec.{eqb}
use Rattle.loops.specs.Below.{every}

pub and_left : (a b : Bool) → (a && b) ≡ true → a ≡ true
and_left true b e = refl
and_left false b e = absurd (false≢true e)

pub and_right : (a b : Bool) → (a && b) ≡ true → b ≡ true
and_right true b e = e
and_right false b e = absurd (false≢true e)

pub every_at : (n : ℕ) (p : ℕ → Bool) → every n p ≡ true → (k : ℕ) → k < n → p k ≡ true
unfolding every
every_at zero p e k h = absurd (not-suc-le-zero h)
every_at (suc n) p e k h =
    go (eq-or-lt_of_le (le_of_suc-le-suc h)) (every_at n p (and_right (p n) (every n p) e) k)
  where
    go : (k ≡ n) ⊎ (k < n) → (k < n → p k ≡ true) → p k ≡ true
    go (inl q) rest = ap p q ∙ and_left (p n) (every n p) e
    go (inr l) rest = rest l

-- two rules that a test finds equal at each number below n
pub every_equal : (n : ℕ) (f g : ℕ → ℕ) → every n (λ k. eqb (f k) (g k)) ≡ true → (k : ℕ) → k < n → f k ≡ g k
every_equal n f g e k h = eqb-true (f k) (g k) (every_at n (λ k. eqb (f k) (g k)) e k h)

pub and_both : (a b : Bool) → a ≡ true → b ≡ true → (a && b) ≡ true
and_both true b p q = q
and_both false b p q = p

pub and_off : (a b : Bool) → b ≡ false → (a && b) ≡ false
and_off true b q = q
and_off false b q = refl

pub test_off : (t : Bool) → (t ≡ true → ⊥) → t ≡ false
test_off true f = absurd (f refl)
test_off false f = refl

-- two tests, each of which holds where the other does
pub tests_equal : (a b : Bool) → (a ≡ true → b ≡ true) → (b ≡ true → a ≡ true) → a ≡ b
tests_equal true b f g = sym (f refl)
tests_equal false true f g = g refl
tests_equal false false f g = refl

pub every_in : (n : ℕ) (p : ℕ → Bool) → ((k : ℕ) → k < n → p k ≡ true) → every n p ≡ true
unfolding every
every_in zero p h = refl
every_in (suc n) p h = and_both (p n) (every n p) (h n (omega arith)) (every_in n p (λ k b. h k (omega arith)))

pub every_same : (n : ℕ) (p q : ℕ → Bool) → ((k : ℕ) → k < n → p k ≡ q k) → every n p ≡ every n q
every_same n p q h =
    tests_equal (every n p) (every n q)
    (λ e. every_in n q (λ k b. sym (h k b) ∙ every_at n p e k b))
    (λ e. every_in n p (λ k b. h k b ∙ every_at n q e k b))

-- two tests in one pass
pub every_both : (n : ℕ) (p q : ℕ → Bool) → every n (λ k. p k && q k) ≡ every n p && every n q
every_both n p q =
    tests_equal (every n (λ k. p k && q k)) (every n p && every n q)
    (λ e. and_both (every n p) (every n q)
    (every_in n p (λ k h. and_left (p k) (q k) (every_at n (λ k. p k && q k) e k h)))
    (every_in n q (λ k h. and_right (p k) (q k) (every_at n (λ k. p k && q k) e k h))))
    (λ e. every_in n (λ k. p k && q k) (λ k h.
    and_both (p k) (q k) (every_at n p (and_left (every n p) (every n q) e) k h)
    (every_at n q (and_right (every n p) (every n q) e) k h)))

-- a test over pairs of numbers
module _ (n m : ℕ) (p : ℕ → ℕ → Bool) where
  pub every_pair_at : every n (λ i. every m (p i)) ≡ true → (i j : ℕ) → i < n → j < m → p i j ≡ true
  every_pair_at e i j hi hj = every_at m (p i) (every_at n (λ i. every m (p i)) e i hi) j hj

  pub every_pair_in : ((i j : ℕ) → i < n → j < m → p i j ≡ true) → every n (λ i. every m (p i)) ≡ true
  every_pair_in h = every_in n (λ i. every m (p i)) (λ i hi. every_in m (p i) (λ j hj. h i j hi hj))
