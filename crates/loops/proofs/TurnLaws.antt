-- Laws of the loop that carries one value: before turn i it is what i turns make of the value at the start.
-- One turn applies f i; after n turns the value is `turns n f a`.
-- Assumes nothing.
use mathlib.Core.Path.{◌≡◌, refl, sym, ap, ◌∙◌}
use Prim.Native.Nat.{ℕ, zero, suc, ◌+◌, ◌≤◌, ◌<◌}
use native.Mathlib.Numerals.{add-one}
use native.Mathlib.Omega.{arith}
use Rattle.loops.specs.Turns.{turns}

module _ {A : Type 0} where
  pub turns_none : (f : ℕ → A → A) (a : A) → turns 0 f a ≡ a
  unfolding turns
  turns_none f a = refl

  pub turns_more : (n : ℕ) (f : ℕ → A → A) (a : A) → turns (n + 1) f a ≡ f n (turns n f a)
  unfolding turns
  turns_more n f a = rw (add-one, turns)

  -- rules whose first n turns are the same
  pub turns_same : (n : ℕ) (f g : ℕ → A → A) (a : A) → ((i : ℕ) → i < n → f i ≡ g i) → turns n f a ≡ turns n g a
  unfolding turns
  turns_same zero f g a h = refl
  turns_same (suc n) f g a h =
      ap (λ (s : A → A). s (turns n f a)) (h n (omega arith)) ∙ ap (g n) (turns_same n f g a (λ i l. h i (omega arith)))

  -- x is what i turns, out of n, make of a
  pub record Turning (n : ℕ) (f : ℕ → A → A) (a : A) (i : ℕ) (x : A) : Type 0 where
    pub low : i ≤ n
    pub told : x ≡ turns i f a

  pub turning_none : (n : ℕ) (f : ℕ → A → A) (a : A) → Turning n f a 0 a
  turning_none n f a = record { low = omega arith; told = sym (turns_none f a) }

  module _ (n : ℕ) (f : ℕ → A → A) (a : A) (i : ℕ) (x : A) (t : Turning n f a i x) where
    pub turning_more : (y : A) → i < n → y ≡ f i x → Turning n f a (i + 1) y
    turning_more y h e = record { low = omega arith; told = e ∙ ap (f i) t.told ∙ sym (turns_more i f a) }

    pub turning_all : n ≤ i → x ≡ turns n f a
    turning_all h = let e : i ≡ n = omega arith in t.told ∙ ap (λ (k : ℕ). turns k f a) e
