-- Laws of the least number below a bound: the search passes whatever the test refuses and stops at the first that it
-- takes. So what it gives is taken, nothing smaller is, and where it gives none, none is.
-- Assumes nothing.
use mathlib.Core.Path.{◌≡◌, refl, sym, ap, ◌∙◌}
use mathlib.Core.Bool.{Bool, true, false}
use mathlib.Core.Logic.{◌⊎◌, inl, inr}
use mathlib.Core.Option.{Option, none, some, none-ne-some, some-injective}
use Prim.Native.Nat.{ℕ, zero, suc, ◌+◌, ◌≤◌, ◌<◌}
use native.Mathlib.Nat.{eq-or-lt_of_le}
use native.Mathlib.Omega.{arith}
use Rattle.loops.specs.Search.{least_from, least}

module _ (p : ℕ → Bool) where
  step : ℕ → ℕ → Bool → Option ℕ
  step n k t = elim t [ true ↦ some k | false ↦ least_from n (suc k) p ]

  from_yes : (n k : ℕ) → p k ≡ true → least_from (suc n) k p ≡ some k
  unfolding least_from step
  from_yes n k e = ap (step n k) e

  from_no : (n k : ℕ) → p k ≡ false → least_from (suc n) k p ≡ least_from n (suc k) p
  unfolding least_from step
  from_no n k e = ap (step n k) e

  from_none : (n k : ℕ) → ((i : ℕ) → k ≤ i → i < k + n → p i ≡ false) → least_from n k p ≡ none
  unfolding least_from
  from_none zero k h = refl
  from_none (suc n) k h =
      from_no n k (h k (omega arith) (omega arith))
      ∙ from_none n (suc k) (λ i a b. h i (omega arith) (omega arith))

  from_is : (n k j : ℕ) → k ≤ j → j < k + n → p j ≡ true → ((i : ℕ) → k ≤ i → i < j → p i ≡ false)
      → least_from n k p ≡ some j
  from_is zero k j a b e h = absurd (omega arith)
  from_is (suc n) k j a b e h =
      go (eq-or-lt_of_le a) (λ l. from_is n (suc k) j l (omega arith) e (λ i c d. h i (omega arith) d))
    where
      go : (k ≡ j) ⊎ (k < j) → (k < j → least_from n (suc k) p ≡ some j) → least_from (suc n) k p ≡ some j
      go (inl q) rest = from_yes n k (ap p q ∙ e) ∙ ap some q
      go (inr l) rest = from_no n k (h k (omega arith) l) ∙ rest l

  from_holds : (n k j : ℕ) → least_from n k p ≡ some j → p j ≡ true
  unfolding least_from
  from_holds zero k j e = absurd (none-ne-some j e)
  from_holds (suc n) k j e = go (p k) refl (from_holds n (suc k) j)
    where
      go : (t : Bool) → p k ≡ t → (least_from n (suc k) p ≡ some j → p j ≡ true) → p j ≡ true
      go true q rest = ap p (some-injective j k (sym e ∙ from_yes n k q)) ∙ q
      go false q rest = rest (sym (from_no n k q) ∙ e)

  from_below : (n k j : ℕ) → least_from n k p ≡ some j → (i : ℕ) → k ≤ i → i < j → p i ≡ false
  unfolding least_from
  from_below zero k j e i a b = absurd (none-ne-some j e)
  from_below (suc n) k j e i a b = go (p k) refl (eq-or-lt_of_le a) (λ r l. from_below n (suc k) j r i l b)
    where
      go : (t : Bool) → p k ≡ t → (k ≡ i) ⊎ (k < i) → (least_from n (suc k) p ≡ some j → k < i → p i ≡ false)
          → p i ≡ false
      go true q at rest =
          let same : j ≡ k = some-injective j k (sym e ∙ from_yes n k q) in
          absurd (omega arith)
      go false q (inl at) rest = ap p (sym at) ∙ q
      go false q (inr l) rest = rest (sym (from_no n k q) ∙ e) l

  from_missing : (n k : ℕ) → least_from n k p ≡ none → (i : ℕ) → k ≤ i → i < k + n → p i ≡ false
  unfolding least_from
  from_missing zero k e i a b = absurd (omega arith)
  from_missing (suc n) k e i a b =
      go (p k) refl (eq-or-lt_of_le a) (λ r l. from_missing n (suc k) r i l (omega arith))
    where
      go : (t : Bool) → p k ≡ t → (k ≡ i) ⊎ (k < i) → (least_from n (suc k) p ≡ none → k < i → p i ≡ false)
          → p i ≡ false
      go true q at rest = absurd (none-ne-some k (sym e ∙ from_yes n k q))
      go false q (inl at) rest = ap p (sym at) ∙ q
      go false q (inr l) rest = rest (sym (from_no n k q) ∙ e) l

  pub least_none : (n : ℕ) → ((i : ℕ) → i < n → p i ≡ false) → least n p ≡ none
  unfolding least
  least_none n h = from_none n 0 (λ i a b. h i (omega arith))

  pub least_is : (n j : ℕ) → j < n → p j ≡ true → ((i : ℕ) → i < j → p i ≡ false) → least n p ≡ some j
  unfolding least
  least_is n j b e h = from_is n 0 j (omega arith) (omega arith) e (λ i a l. h i l)

  pub least_holds : (n j : ℕ) → least n p ≡ some j → p j ≡ true
  unfolding least
  least_holds n j e = from_holds n 0 j e

  pub least_below : (n j : ℕ) → least n p ≡ some j → (i : ℕ) → i < j → p i ≡ false
  unfolding least
  least_below n j e i l = from_below n 0 j e i (omega arith) l

  pub least_missing : (n : ℕ) → least n p ≡ none → (i : ℕ) → i < n → p i ≡ false
  unfolding least
  least_missing n e i l = from_missing n 0 e i (omega arith) (omega arith)
