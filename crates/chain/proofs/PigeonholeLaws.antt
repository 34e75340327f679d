-- Among n + 1 numbers below n two are the same. Either the last of them is also an earlier one, or it can be taken out
-- of the numbers, those above it coming down by one; then n numbers below n - 1 are left.
-- Assumes nothing.
use mathlib.Core.Path.{◌≡◌, refl, sym, ap, ◌∙◌}
use mathlib.Core.Option.{Option, none, some, none-ne-some}
use mathlib.Core.Bool.{Bool}
use Prim.Native.Nat.{ℕ, zero, suc, ◌+◌, ◌-◌, ◌≤◌, ◌<◌, min}
use native.Mathlib.Decide.{dec_lt}
use native.Mathlib.Omega.{arith}
use lib.Dec.{eqb}
use borrow.Author.Tests.{eqb-true, eqb-false}
use Rattle.loops.specs.Search.{least}
use Rattle.loops.proofs.SearchLaws.{least_none, least_holds, least_below, least_missing}

-- two of the first n + 1 values of f are the same
pub record Twice (f : ℕ → ℕ) (n : ℕ) : Type 0 where
  pub before : ℕ
  pub again : ℕ
  pub later : before < again
  pub low : again ≤ n
  pub same : f before ≡ f again

-- the least number below n is below n
least_bound : (p : ℕ → Bool) (n j : ℕ) → least n p ≡ some j → j < n
least_bound p n j e = go (dec_lt j n)
  where
    go : Dec (j < n) → j < n
    go (yes h) = h
    go (no h) =
        absurd
        (none-ne-some j (sym (least_none p n (λ i l. least_below p n j e i (omega arith))) ∙ e))

-- x among the numbers other than v: one less if it is above v
abbrev without : ℕ → ℕ → ℕ
without v x = x - min 1 (x - v)

without_less : (v x n : ℕ) → v < suc n → x < suc n → (x ≡ v → ⊥) → without v x < n
without_less v x n a b d = omega arith

-- and back: one more unless it is below v
abbrev back : ℕ → ℕ → ℕ
back v y = y + (1 - (v - y))

back_without : (v x : ℕ) → (x ≡ v → ⊥) → back v (without v x) ≡ x
back_without v x d = omega arith

without_same : (v x y : ℕ) → (x ≡ v → ⊥) → (y ≡ v → ⊥) → without v x ≡ without v y → x ≡ y
without_same v x y d e q = sym (back_without v x d) ∙ ap (back v) q ∙ back_without v y e

-- the value of f at n + 1: whether f has it at i, and the others without it
module _ (n : ℕ) (f : ℕ → ℕ) where
  abbrev is_last : ℕ → Bool
  is_last i = eqb (f i) (f (suc n))

  abbrev others : ℕ → ℕ
  others i = without (f (suc n)) (f i)

pub pigeonhole : (n : ℕ) (f : ℕ → ℕ) → ((i : ℕ) → i < suc n → f i < n) → Twice f n
pigeonhole zero f h = absurd (omega (arith, h 0 (omega arith)))
pigeonhole (suc n) f h = go (least (suc n) (is_last n f)) refl (pigeonhole n (others n f))
  where
    go : (o : Option ℕ) → least (suc n) (is_last n f) ≡ o
        → (((i : ℕ) → i < suc n → others n f i < n) → Twice (others n f) n) → Twice f (suc n)
    go (some j) e rest =
        record {
          before = j;
          again = suc n;
          later = least_bound (is_last n f) (suc n) j e;
          low = omega arith;
          same = eqb-true (f j) (f (suc n)) (least_holds (is_last n f) (suc n) j e);
        }
    go none e rest =
        let t = rest less in
        record {
          before = t.before;
          again = t.again;
          later = t.later;
          low = omega arith;
          same =
              without_same (f (suc n)) (f t.before) (f t.again)
              (other t.before (omega arith)) (other t.again (omega arith)) t.same;
        }
      where
        other : (i : ℕ) → i < suc n → f i ≡ f (suc n) → ⊥
        other i l = eqb-false (f i) (f (suc n)) (least_missing (is_last n f) (suc n) e i l)

        less : (i : ℕ) → i < suc n → others n f i < n
        less i l = without_less (f (suc n)) (f i) n (h (suc n) (omega arith)) (h i (omega arith)) (other i l)
