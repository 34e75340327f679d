-- Passwords compared. The loop or-s the differences of the bytes together: after i bytes the sum of differences is zero
-- just where the first i bytes agree. Of two passwords of sixteen bytes the test says whether they are equal.
-- Assumes nothing.
use Prim.Native.Nat.{ℕ, suc, ◌+◌, ◌≤◌, ◌<◌}
use native.Mathlib.Omega.{arith}
use native.Mathlib.Numerals.{add-one}
use mathlib.Core.Path.{◌≡◌, refl, sym, ap, ap₂, ◌∙◌, subst}
use mathlib.Core.Logic.{◌⊎◌, inl, inr}
use mathlib.Core.Bool.{Bool, true, false, ◌&&◌}
use mathlib.Core.List.{List, [], ◌∷◌}
use lib.Dec.{eqb}
use lib.Bits.{bit_or, bit_xor}
use lib.ListN.{length, get_or, drop, length-drop}
use lib.Seq.{ext_get_or, drop-cons}
use borrow.Author.Tests.{eq-eqb}
use Rattle.bits.proofs.OperationLaws.{or_none, xor_none}
use Rattle.loops.specs.Below.{every}
use Rattle.loops.proofs.BelowLaws.{every_in, every_equal}
use Rattle.aes.proofs.CipherLaws.{length_cipher}
use Rattle.handle.specs.declared.Handle.{Handle}
use Rattle.sizes.specs.Sizes.{password_bytes}
use Rattle.handle.specs.Selectors.{flat}
use Rattle.handle.specs.Handles.{same_password, converted, through, validates}
use Rattle.handle.specs.Conversion.{conversion}

-- ---- the loop

abbrev agree : List ℕ → List ℕ → ℕ → Bool
agree a b k = eqb (get_or a k 0) (get_or b k 0)

pub record Compared (a b : List ℕ) (d i : ℕ) : Type 0 where
  pub within : i ≤ password_bytes
  pub agrees : eqb d 0 ≡ every i (agree a b)

pub compared_none : (a b : List ℕ) → Compared a b 0 0
unfolding every
compared_none a b = record { within = omega arith; agrees = refl }

module _ (a b : List ℕ) (d i : ℕ) (c : Compared a b d i) where
  pub compared_more : i < password_bytes → Compared a b (bit_or (bit_xor (get_or a i 0) (get_or b i 0)) d) (i + 1)
  unfolding every
  compared_more h = record {
    within = omega arith;
    agrees =
        or_none (bit_xor (get_or a i 0) (get_or b i 0)) d
        ∙ ap₂ (λ (x y : Bool). x && y) (xor_none (get_or a i 0) (get_or b i 0)) c.agrees
        ∙ ap (λ (n : ℕ). every n (agree a b)) (sym (add-one i));
  }

  pub compared_all : password_bytes ≤ i → eqb d 0 ≡ same_password a b
  unfolding same_password
  compared_all h = c.agrees ∙ ap (λ (n : ℕ). every n (agree a b)) whole
    where
      whole : i ≡ password_bytes
      whole = omega (arith, c.within)

-- us and vs are what is left to compare
pub record Comparing (a b : List ℕ) (d : ℕ) (us vs : List ℕ) : Type 0 where
  pub seen : ℕ
  pub compared : Compared a b d seen
  pub first : us ≡ drop seen a
  pub second : vs ≡ drop seen b

pub comparing_none : (a b us vs : List ℕ) → us ≡ a → vs ≡ b → Comparing a b 0 us vs
comparing_none a b us vs e f = record { seen = 0; compared = compared_none a b; first = e; second = f }

-- the first of what is left, and the rest
module _ (a : List ℕ) (i x : ℕ) (us : List ℕ) (e : x ∷ us ≡ drop i a) where
  left : i < length a
  left = omega (arith, ap length e, length-drop i a)

  split : x ∷ us ≡ get_or a i 0 ∷ drop (suc i) a
  split = e ∙ drop-cons a i 0 left

  head_is : x ≡ get_or a i 0
  head_is = ap (λ (l : List ℕ). get_or l 0 0) split

  tail_is : us ≡ drop (i + 1) a
  tail_is = ap (drop 1) split ∙ ap (λ (n : ℕ). drop n a) (sym (add-one i))

module _ (a b : List ℕ) (la : length a ≡ password_bytes) (lb : length b ≡ password_bytes) (d : ℕ) (us vs : List ℕ)
    (c : Comparing a b d us vs) where
  pub comparing_more : (x y : ℕ) (xs ys : List ℕ) → us ≡ x ∷ xs → vs ≡ y ∷ ys → Comparing a b (bit_or (bit_xor x y) d) xs ys
  comparing_more x y xs ys e f =
      record {
        seen = c.seen + 1;
        compared =
            subst (λ (n : ℕ). Compared a b (bit_or n d) (c.seen + 1))
            (sym (ap₂ bit_xor (head_is a c.seen x xs p) (head_is b c.seen y ys q)))
            (compared_more a b d c.seen c.compared (let l = left a c.seen x xs p in omega arith));
        first = tail_is a c.seen x xs p;
        second = tail_is b c.seen y ys q;
      }
    where
      p : x ∷ xs ≡ drop c.seen a
      p = sym e ∙ c.first

      q : y ∷ ys ≡ drop c.seen b
      q = sym f ∙ c.second

  -- none of one of them is left
  pub comparing_all : {A B : Type 0} → (A → length us ≡ 0) → (B → length vs ≡ 0) → A ⊎ B → eqb d 0 ≡ same_password a b
  comparing_all f g (inl s) = compared_all a b d c.seen c.compared (omega (arith, la, f s, ap length c.first, length-drop c.seen a))
  comparing_all f g (inr s) = compared_all a b d c.seen c.compared (omega (arith, lb, g s, ap length c.second, length-drop c.seen b))

-- ---- the test and equality

pub same_equal : (a b : List ℕ) → length a ≡ password_bytes → length b ≡ password_bytes → same_password a b ≡ true → a ≡ b
unfolding same_password
same_equal a b la lb e =
    ext_get_or 0 a b (la ∙ sym lb)
    (λ k h. every_equal password_bytes (λ k. get_or a k 0) (λ k. get_or b k 0) e k (omega arith))

pub equal_same : (a b : List ℕ) → a ≡ b → same_password a b ≡ true
unfolding same_password
equal_same a b e =
    every_in password_bytes (agree a b) (λ k h. eq-eqb (get_or a k 0) (get_or b k 0) (ap (λ (l : List ℕ). get_or l k 0) e))

-- the password that a conversion gives has sixteen bytes
pub length_conversion : (p : List ℕ) (c : ℕ) → length (conversion p c) ≡ password_bytes
unfolding conversion
length_conversion p c = length_cipher p _

module _ (w : ℕ) (f : List ℕ → ℕ → List ℕ) (h : Handle) (p : List ℕ) where
  pub equal_validates : through w f h.selector p ≡ h.password → validates w f p h ≡ true
  unfolding validates
  equal_validates e = equal_same (through w f h.selector p) h.password e

  -- for a conversion that gives sixteen bytes
  module _ (sixteen : (q : List ℕ) (c : ℕ) → length (f q c) ≡ password_bytes) where
    length_through : (ss q : List ℕ) → length q ≡ password_bytes → length (through w f ss q) ≡ password_bytes
    length_through [] q e = e
    length_through (s ∷ ss) q e = length_through ss (converted w f q s) (go (flat w s))
      where
        go : (b : Bool) → length {A = ℕ} (elim b [ true ↦ q | false ↦ f q s ]) ≡ password_bytes
        go true = e
        go false = sixteen q s

    pub validates_equal : length p ≡ password_bytes → length h.password ≡ password_bytes → validates w f p h ≡ true
        → through w f h.selector p ≡ h.password
    unfolding validates
    validates_equal lp lh e =
        same_equal (through w f h.selector p) h.password (length_through h.selector p lp) lh e

-- a handle that validates by the code's conversion has the password that the chain ends with
pub validates_conversion : (w : ℕ) (h : Handle) (p : List ℕ) → length p ≡ password_bytes
    → length h.password ≡ password_bytes → validates w conversion p h ≡ true
    → through w conversion h.selector p ≡ h.password
validates_conversion w h p = validates_equal w conversion h p length_conversion
