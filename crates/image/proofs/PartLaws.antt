-- Parts of one length: part k of what was put together is what was put there, and bytes are their own parts put
-- together.
-- Assumes nothing.
use mathlib.Core.Path.{◌≡◌, refl, sym, ap, ◌∙◌, subst}
use mathlib.Core.Logic.{◌⊎◌, inl, inr}
use mathlib.Core.Bool.{Bool, true, false}
use mathlib.Core.List.{List, ◌++◌}
use Prim.Native.Nat.{ℕ, zero, suc, ◌+◌, ◌*◌, ◌-◌, ◌≤◌, ◌<◌}
use native.Mathlib.Nat.{not-suc-le-zero, suc-mul, zero-mul, eq-or-lt_of_le, le_of_suc-le-suc, mul-le-mul_right}
use native.Mathlib.Omega.{arith}
use borrow.Author.Tests.{ltb-true, ltb-false}
use borrow.Rule.Slice.PartMut.{mid_len}
use lib.Dec.{ltb}
use lib.ListN.{length, get_or, take, drop, length-append, length-drop, length-take, get_or-eq_default}
use lib.Seq.{drop_at, take_all, take-add, take-append-le, drop-append-le, get_or-take, get_or-drop}
use Rattle.bits.specs.Bytes.{Bytes}
use Rattle.image.specs.Parts.{part, slot, joined}

-- the width of a part
pub width : (a w : ℕ) → a + w - a ≡ w
width a w = omega arith

pub length_slot : (w : ℕ) (b : List ℕ) (n k : ℕ) → length b ≡ n * w → k < n → length (slot w b k) ≡ w
length_slot w b n k e h = mid_len (k * w) (k * w + w) b fits ∙ width (k * w) w
  where
    fits : k * w + w ≤ length b
    fits = subst (λ (m : ℕ). k * w + w ≤ m) (sym e) (subst (λ (m : ℕ). m ≤ n * w) (suc-mul k w) (mul-le-mul_right w h))

pub slot_is : (w : ℕ) (b : List ℕ) (k : ℕ) → slot w b k ≡ take w (drop (k * w) b)
slot_is w b k = ap (λ (m : ℕ). take m (drop (k * w) b)) (width (k * w) w)

-- byte j of a part
pub get_d_part : (b : List ℕ) (from to j : ℕ) → j < to - from → get_or (part b from to) j 0 ≡ get_or b (from + j) 0
get_d_part b from to j h = get_or-take (to - from) (drop from b) j 0 h ∙ get_or-drop from b j 0

pub get_d_slot : (w : ℕ) (b : List ℕ) (k j : ℕ) → j < w → get_or (slot w b k) j 0 ≡ get_or b (k * w + j) 0
get_d_slot w b k j h =
    get_d_part b (k * w) (k * w + w) j (subst (λ (m : ℕ). j < m) (sym (width (k * w) w)) h)

-- each byte of a part is one of the bytes
pub below_part : (b : List ℕ) (from to : ℕ) → ((i : ℕ) → get_or b i 0 < 256) → (i : ℕ) → get_or (part b from to) i 0 < 256
below_part b from to h i = go (ltb i (to - from)) refl
  where
    go : (t : Bool) → ltb i (to - from) ≡ t → get_or (part b from to) i 0 < 256
    go true q =
        subst (λ (x : ℕ). x < 256)
        (sym (get_d_part b from to i (ltb-true i (to - from) q))) (h (from + i))
    go false q =
        let over = ltb-false i (to - from) q in
        let l : length (part b from to) ≤ i = omega (arith, length-take (to - from) (drop from b)) in
        subst (λ (x : ℕ). x < 256) (sym (get_or-eq_default (part b from to) 0 l)) (omega arith)

pub bytes_part : (n : ℕ) (b : List ℕ) (from to : ℕ) → Bytes n b → to ≤ n → Bytes (to - from) (part b from to)
bytes_part n b from to h l =
    record {
      long = mid_len from to b (subst (λ (m : ℕ). to ≤ m) (sym h.long) l);
      below = below_part b from to h.below;
    }

pub bytes_slot : (w n : ℕ) (b : List ℕ) (k : ℕ) → Bytes (n * w) b → k < n → Bytes w (slot w b k)
bytes_slot w n b k h l =
    record { long = length_slot w b n k h.long l; below = below_part b (k * w) (k * w + w) h.below }

pub joined_same : (n : ℕ) (f g : ℕ → List ℕ) → ((k : ℕ) → k < n → f k ≡ g k) → joined n f ≡ joined n g
unfolding joined
joined_same zero f g h = refl
joined_same (suc n) f g h = rw (joined_same n f g (λ k b. h k (omega arith)), h n (omega arith))

at_most : (a b : ℕ) → a ≡ b → a ≤ b
at_most a b e = omega arith

module _ (w : ℕ) where
  pub length_joined : (n : ℕ) (f : ℕ → List ℕ) → ((k : ℕ) → k < n → length (f k) ≡ w) → length (joined n f) ≡ n * w
  unfolding joined
  length_joined zero f h = sym (zero-mul w)
  length_joined (suc n) f h =
      length-append (joined n f) (f n)
      ∙ ap (λ (k : ℕ). k + length (f n)) (length_joined n f (λ k b. h k (omega arith)))
      ∙ ap (λ (k : ℕ). n * w + k) (h n (omega arith))
      ∙ sym (suc-mul n w)

  pub slot_joined : (n : ℕ) (f : ℕ → List ℕ) → ((k : ℕ) → k < n → length (f k) ≡ w) → (k : ℕ) → k < n
      → slot w (joined n f) k ≡ f k
  unfolding joined
  slot_joined zero f h k b = absurd (not-suc-le-zero b)
  slot_joined (suc n) f h k b =
      go (eq-or-lt_of_le (le_of_suc-le-suc b)) (slot_joined n f (λ k b. h k (omega arith)) k)
    where
      len : length (joined n f) ≡ n * w
      len = length_joined n f (λ k b. h k (omega arith))

      room : (a n w : ℕ) → a + w ≤ n → a + w - a ≤ n - a
      room a n w h = omega arith

      low : (a n w : ℕ) → a + w ≤ n → a ≤ n
      low a n w h = omega arith

      go : (k ≡ n) ⊎ (k < n) → (k < n → slot w (joined n f) k ≡ f k) → slot w (joined n f ++ f n) k ≡ f k
      go (inl e) rest =
          ap (take (k * w + w - k * w)) (drop_at (joined n f) (f n) (k * w) (len ∙ ap (λ (j : ℕ). j * w) (sym e)))
          ∙ take_all (k * w + w - k * w) (f n)
          (at_most (length (f n)) (k * w + w - k * w) (h n (omega arith) ∙ sym (width (k * w) w)))
          ∙ ap f (sym e)
      go (inr l) rest =
          let fits : k * w + w ≤ length (joined n f) =
          subst (λ (m : ℕ). k * w + w ≤ m) (sym len)
          (subst (λ (m : ℕ). m ≤ n * w) (suc-mul k w) (mul-le-mul_right w l)) in
          ap (take (k * w + w - k * w))
          (drop-append-le (k * w) (joined n f) (f n) (low (k * w) (length (joined n f)) w fits))
          ∙ take-append-le (k * w + w - k * w) (drop (k * w) (joined n f)) (f n)
          (subst (λ (m : ℕ). k * w + w - k * w ≤ m) (sym (length-drop (k * w) (joined n f)))
          (room (k * w) (length (joined n f)) w fits))
          ∙ rest l

  front : (n : ℕ) (b : List ℕ) → joined n (slot w b) ≡ take (n * w) b
  unfolding joined
  front zero b = ap (λ (k : ℕ). take k b) (sym (zero-mul w))
  front (suc n) b =
      ap (λ (z : List ℕ). z ++ slot w b n) (front n b)
      ∙ ap (λ (k : ℕ). take (n * w) b ++ take k (drop (n * w) b)) (width (n * w) w)
      ∙ sym (take-add (n * w) w b)
      ∙ ap (λ (k : ℕ). take k b) (sym (suc-mul n w))

  pub joined_slots : (n : ℕ) (b : List ℕ) → length b ≡ n * w → joined n (slot w b) ≡ b
  joined_slots n b e = front n b ∙ take_all (n * w) b (at_most (length b) (n * w) e)
