-- Laws of the loop that keeps one Boolean: before turn i it tells whether the test held of each number below i.
-- One turn joins the test at i; after n turns the Boolean is `every n p`.
-- Assumes nothing.
use mathlib.Core.Path.{◌≡◌, refl, sym, ap, ◌∙◌}
use mathlib.Core.Bool.{Bool, true, ◌&&◌}
use Prim.Native.Nat.{ℕ, ◌+◌, ◌≤◌, ◌<◌}
use native.Mathlib.Numerals.{add-one}
use native.Mathlib.Omega.{arith}
use Rattle.loops.specs.Below.{every}

pub every_none : (p : ℕ → Bool) → every 0 p ≡ true
unfolding every
every_none p = refl

pub every_more : (n : ℕ) (p : ℕ → Bool) → every (n + 1) p ≡ p n && every n p
unfolding every
every_more n p = rw (add-one, every)

-- the test held of each number below i, out of n
pub record Running (n : ℕ) (p : ℕ → Bool) (i : ℕ) (ok : Bool) : Type 0 where
  pub low : i ≤ n
  pub told : ok ≡ every i p

pub running_none : (n : ℕ) (p : ℕ → Bool) → Running n p 0 true
running_none n p = record { low = omega arith; told = sym (every_none p) }

module _ (n : ℕ) (p : ℕ → Bool) (i : ℕ) (ok : Bool) (r : Running n p i ok) where
  pub running_more : (t : Bool) → i < n → t ≡ p i → Running n p (i + 1) (t && ok)
  running_more t h e =
      record {
        low = omega arith;
        told = ap (λ (b : Bool). b && ok) e ∙ ap (λ (b : Bool). p i && b) r.told ∙ sym (every_more i p);
      }

  pub running_all : n ≤ i → ok ≡ every n p
  running_all h = let e : i ≡ n = omega arith in r.told ∙ ap (λ (k : ℕ). every k p) e
