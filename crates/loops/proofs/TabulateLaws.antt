-- Laws of lists given by a rule for each place, and of the loop that fills an array by one.
-- Before turn i the first i elements are those of the rule; after n turns the array is `tabulate n f`.
-- Assumes nothing.
use mathlib.Core.Path.{◌≡◌, refl, sym, ap, ◌∙◌, subst}
use mathlib.Core.Logic.{◌⊎◌, inl, inr}
use mathlib.Core.List.{List, [], ◌∷◌, ◌++◌}
use Prim.Native.Nat.{ℕ, zero, suc, ◌+◌, ◌≤◌, ◌<◌}
use native.Mathlib.Nat.{not-suc-le-zero, le_of_suc-le-suc, eq-or-lt_of_le}
use native.Mathlib.Numerals.{add-one}
use native.Mathlib.Omega.{arith}
use borrow.Author.Count.{below_more}
use lib.ListN.{length, get_or, set, length-set, length-append, get_or-append}
use lib.Seq.{ext_get_or, get_or_at, get_or-set_same, get_or-set_other}
use Rattle.loops.specs.Tabulate.{tabulate}

module _ {A : Type 0} where
  pub length_tabulate : (n : ℕ) (f : ℕ → A) → length (tabulate n f) ≡ n
  unfolding tabulate
  length_tabulate zero f = refl
  length_tabulate (suc n) f =
      length-append (tabulate n f) (f n ∷ []) ∙ ap (λ (m : ℕ). m + 1) (length_tabulate n f) ∙ add-one n

  pub get_d_tabulate : (n : ℕ) (f : ℕ → A) (d : A) (k : ℕ) → k < n → get_or (tabulate n f) k d ≡ f k
  unfolding tabulate
  get_d_tabulate zero f d k h = absurd (not-suc-le-zero h)
  get_d_tabulate (suc n) f d k h = go (eq-or-lt_of_le (le_of_suc-le-suc h)) (get_d_tabulate n f d k)
    where
      go : (k ≡ n) ⊎ (k < n) → (k < n → get_or (tabulate n f) k d ≡ f k)
          → get_or (tabulate n f ++ (f n ∷ [])) k d ≡ f k
      go (inl e) rest = get_or_at (tabulate n f) (f n) [] d k (length_tabulate n f ∙ sym e) ∙ ap f (sym e)
      go (inr l) rest = get_or-append (tabulate n f) (f n ∷ []) d k (rw (length_tabulate n f) l) ∙ rest l

  -- a list of n elements that are f's
  pub tabulate_is : (n : ℕ) (f : ℕ → A) (d : A) (l : List A) → length l ≡ n
      → ((k : ℕ) → k < n → get_or l k d ≡ f k) → l ≡ tabulate n f
  tabulate_is n f d l e h =
      ext_get_or d l (tabulate n f) (e ∙ sym (length_tabulate n f))
      (λ k b. h k (below k b) ∙ sym (get_d_tabulate n f d k (below k b)))
    where
      below : (k : ℕ) → k < length l → k < n
      below k b = subst (λ (m : ℕ). k < m) e b

  -- the first i elements of an array of n are f's
  pub record Filled (n : ℕ) (f : ℕ → A) (d : A) (i : ℕ) (l : List A) : Type 0 where
    pub low : i ≤ n
    pub size : length l ≡ n
    pub at : (k : ℕ) → k < i → get_or l k d ≡ f k

  pub filled_none : (n : ℕ) (f : ℕ → A) (d : A) (l : List A) → length l ≡ n → Filled n f d 0 l
  filled_none n f d l e = record { low = omega arith; size = e; at = λ k h. absurd (omega arith) }

  module _ (n : ℕ) (f : ℕ → A) (d : A) (i : ℕ) (l : List A) (w : Filled n f d i l) where
    pub filled_more : i < n → (v : A) → v ≡ f i → Filled n f d (i + 1) (set l i v)
    filled_more h v e =
        record {
          low = omega arith;
          size = length-set l i v ∙ w.size;
          at =
              below_more (λ k. get_or (set l i v) k d ≡ f k) i
              (λ k b. get_or-set_other l i k v d (other k b) ∙ w.at k b)
              (get_or-set_same l i v d (rw w.size h) ∙ e);
        }
      where
        other : (k : ℕ) → k < i → k ≡ i → ⊥
        other k b q = omega arith

    pub filled_all : n ≤ i → l ≡ tabulate n f
    filled_all h = tabulate_is n f d l w.size (λ k b. w.at k (omega arith))

  -- the first i elements of an array of n are f's, and the others still those of s
  pub record Replaced (n : ℕ) (f : ℕ → A) (d : A) (s : List A) (i : ℕ) (l : List A) : Type 0 where
    pub done : Filled n f d i l
    pub rest : (k : ℕ) → i ≤ k → get_or l k d ≡ get_or s k d

  pub replaced_none : (n : ℕ) (f : ℕ → A) (d : A) (s : List A) → length s ≡ n → Replaced n f d s 0 s
  replaced_none n f d s e = record { done = filled_none n f d s e; rest = λ k h. refl }

  module _ (n : ℕ) (f : ℕ → A) (d : A) (s : List A) (i : ℕ) (l : List A) (w : Replaced n f d s i l) where
    pub replaced_more : i < n → (v : A) → v ≡ f i → Replaced n f d s (i + 1) (set l i v)
    replaced_more h v e =
        record {
          done = filled_more n f d i l w.done h v e;
          rest = λ k b. get_or-set_other l i k v d (other k b) ∙ w.rest k (omega arith);
        }
      where
        other : (k : ℕ) → i + 1 ≤ k → k ≡ i → ⊥
        other k b q = omega arith
