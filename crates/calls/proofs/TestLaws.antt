-- A test that is true just where some words hold, and how such tests are joined: what a test is made of tells what words
-- it stands for.
-- Assumes nothing.
use mathlib.Core.Path.{◌≡◌, refl, sym, ap, ◌∙◌}
use mathlib.Core.Logic.{◌⊎◌, inl, inr}
use Prim.Native.Nat.{ℕ, zero, suc, ◌≤◌, ◌<◌}
use native.Mathlib.Omega.{arith}
use mathlib.Core.Bool.{Bool, true, false, not, ◌&&◌, ◌||◌, false≢true}
use lib.Dec.{eqb, leb, ltb}
use borrow.Author.Tests.{not-true, eqb-true, eq-eqb, leb-true, le-leb, ltb-true, lt-ltb}
use Rattle.loops.specs.Below.{every}
use Rattle.loops.proofs.BelowLaws.{every_in, every_at, test_off}

pub record Is (b : Bool) (A : Type 0) : Type 0 where
  pub out : b ≡ true → A
  pub into : A → b ≡ true

pub map_is : {b : Bool} {A B : Type 0} → (A → B) → (B → A) → Is b A → Is b B
map_is f g h = record { out = λ e. f (h.out e); into = λ x. h.into (g x) }

pub same_is : {a b : Bool} {A : Type 0} → a ≡ b → Is b A → Is a A
same_is e h = record { out = λ q. h.out (sym e ∙ q); into = λ x. e ∙ h.into x }

pub off_is : {b : Bool} {A : Type 0} → Is b A → (¬ A) → b ≡ false
off_is {b} h n = test_off b (λ e. n (h.out e))

pub not_is : {b : Bool} {A : Type 0} → Is b A → Is (not b) (¬ A)
not_is {b} {A} h = go b h
  where
    go : (t : Bool) → Is t A → Is (not t) (¬ A)
    go true h = record { out = λ e. absurd (false≢true e); into = λ n. absurd (n (h.out refl)) }
    go false h = record { out = λ e x. false≢true (h.into x); into = λ n. refl }

-- the second test may be told that the first holds
pub then_is : {a b : Bool} {A B : Type 0} → Is a A → (A → Is b B) → Is (a && b) (A × B)
then_is {a} {b} {A} {B} h k = go a h
  where
    go : (t : Bool) → Is t A → Is (t && b) (A × B)
    go true h = record { out = λ e. (h.out refl, (k (h.out refl)).out e); into = λ p. (k p.0).into p.1 }
    go false h = record { out = λ e. absurd (false≢true e); into = λ p. h.into p.0 }

pub and_is : {a b : Bool} {A B : Type 0} → Is a A → Is b B → Is (a && b) (A × B)
and_is h k = then_is h (λ x. k)

pub or_is : {a b : Bool} {A B : Type 0} → Is a A → Is b B → Is (a || b) (A ⊎ B)
or_is {a} {b} {A} {B} h k = go a h
  where
    right : Is false A → A ⊎ B → b ≡ true
    right h (inl x) = absurd (false≢true (h.into x))
    right h (inr y) = k.into y

    go : (t : Bool) → Is t A → Is (t || b) (A ⊎ B)
    go true h = record { out = λ e. inl (h.out refl); into = λ p. refl }
    go false h = record { out = λ e. inr (k.out e); into = right h }

pub three_is : {a b c : Bool} {A B C : Type 0} → Is a A → Is b B → Is c C → Is (a || b || c) (A ⊎ B ⊎ C)
three_is {A = A} {B = B} {C = C} h k l = map_is to from (or_is (or_is h k) l)
  where
    to : (A ⊎ B) ⊎ C → A ⊎ B ⊎ C
    to (inl (inl a)) = inl a
    to (inl (inr b)) = inr (inl b)
    to (inr c) = inr (inr c)

    from : A ⊎ B ⊎ C → (A ⊎ B) ⊎ C
    from (inl a) = inl (inl a)
    from (inr (inl b)) = inl (inr b)
    from (inr (inr c)) = inr c

pub four_is : {a b c d : Bool} {A B C D : Type 0} → Is a A → Is b B → Is c C → Is d D → Is (a || b || c || d) (A ⊎ B ⊎ C ⊎ D)
four_is {A = A} {B = B} {C = C} {D = D} h k l m = map_is to from (or_is (three_is h k l) m)
  where
    to : (A ⊎ B ⊎ C) ⊎ D → A ⊎ B ⊎ C ⊎ D
    to (inl (inl a)) = inl a
    to (inl (inr (inl b))) = inr (inl b)
    to (inl (inr (inr c))) = inr (inr (inl c))
    to (inr d) = inr (inr (inr d))

    from : A ⊎ B ⊎ C ⊎ D → (A ⊎ B ⊎ C) ⊎ D
    from (inl a) = inl (inl a)
    from (inr (inl b)) = inl (inr (inl b))
    from (inr (inr (inl c))) = inl (inr (inr c))
    from (inr (inr (inr d))) = inr d

pub holds_is : (b : Bool) → Is b (b ≡ true)
holds_is b = record { out = λ e. e; into = λ e. e }

pub fails_is : (b : Bool) → Is (not b) (b ≡ false)
fails_is b = record { out = not-true b; into = λ e. ap not e }

pub eq_is : (m n : ℕ) → Is (eqb m n) (m ≡ n)
eq_is m n = record { out = eqb-true m n; into = eq-eqb m n }

pub le_is : (m n : ℕ) → Is (leb m n) (m ≤ n)
le_is m n = record { out = leb-true m n; into = le-leb m n }

pub lt_is : (m n : ℕ) → Is (ltb m n) (m < n)
lt_is m n = record { out = ltb-true m n; into = lt-ltb m n }

pub every_is : (n : ℕ) (p : ℕ → Bool) (P : ℕ → Type 0) → ((k : ℕ) → Is (p k) (P k))
    → Is (every n p) ((k : ℕ) → k < n → P k)
every_is n p P h =
    record {
      out = λ e k l. (h k).out (every_at n p e k l);
      into = λ f. every_in n p (λ k l. (h k).into (f k l));
    }

-- where not every number fails, one passes
passing : (n : ℕ) (p : ℕ → Bool) → every n (λ k. not (p k)) ≡ false → (k : ℕ) × (k < n) × (p k ≡ true)
unfolding every
passing zero p e = absurd (false≢true (sym e))
passing (suc n) p e = go (p n) refl e (passing n p)
  where
    go : (t : Bool) → p n ≡ t → not t && every n (λ k. not (p k)) ≡ false
        → (every n (λ k. not (p k)) ≡ false → (k : ℕ) × (k < n) × (p k ≡ true)) → (k : ℕ) × (k < suc n) × (p k ≡ true)
    go true q e ih = (n, omega arith, q)
    go false q e ih = let r = ih e in (r.0, let l = r.1 in omega arith, r.2)

pub some_is : (n : ℕ) (p : ℕ → Bool) → Is (not (every n (λ k. not (p k)))) ((k : ℕ) × (k < n) × (p k ≡ true))
some_is n p = go (every n (λ k. not (p k))) refl
  where
    none : (e : every n (λ k. not (p k)) ≡ true) → ((k : ℕ) × (k < n) × (p k ≡ true)) → ⊥
    none e r = false≢true (sym (not-true (p r.0) (every_at n (λ k. not (p k)) e r.0 r.1)) ∙ r.2)

    go : (t : Bool) → every n (λ k. not (p k)) ≡ t → Is (not t) ((k : ℕ) × (k < n) × (p k ≡ true))
    go true e = record { out = λ q. absurd (false≢true q); into = λ r. absurd (none e r) }
    go false e = record { out = λ q. passing n p e; into = λ r. refl }
