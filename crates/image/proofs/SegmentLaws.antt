-- The five bytes of a segment, in the code's own terms: two words and a mark, read and written byte by byte.
-- Assumes nothing.
use mathlib.Core.Path.{◌≡◌, refl, sym, ap, ap₂, ◌∙◌}
use mathlib.Core.Bool.{Bool, true, false, not, ◌||◌}
use mathlib.Core.List.{List, [], ◌∷◌}
use mir.Syntax.{w16}
use mir.Val.{bool_byte}
use Prim.Native.Nat.{ℕ, ◌/◌, ◌%◌, ◌<◌}
use native.Mathlib.Omega.{arith}
use borrow.Author.Tests.{eq-eqb, ne_eqb}
use lib.Dec.{eqb}
use lib.ListN.{length, get_or}
use Rattle.bits.proofs.ByteLaws.{word_two}
use Rattle.std.specs.Int.{to_be_bytes, byte_at}
use Rattle.bits.specs.Bytes.{bytes, word, Bytes}
use Rattle.store.specs.Places.{Place, None, present_at}
use Rattle.store.specs.declared.Segment.{Segment}
use Rattle.store.specs.Records.{base_of, length_of}
use Rattle.image.specs.Images.{word_bytes, segment_bytes, flag_in, base_in, length_in, mark_in, place_with, place_in}
use Rattle.image.specs.Images.{good_place, segment_in, flag_out, place_out, segment_out}
use Rattle.image.specs.Ranges.{words}

-- what five bytes are to the code
pub data Five : List ℕ → Type 0 where
  five : (a b c d m : ℕ) → Five (a ∷ b ∷ c ∷ d ∷ m ∷ [])

pub is_five : (l : List ℕ) → length l ≡ segment_bytes → Five l
is_five [] e = absurd (omega arith)
is_five (x ∷ []) e = absurd (omega arith)
is_five (x ∷ y ∷ []) e = absurd (omega arith)
is_five (x ∷ y ∷ z ∷ []) e = absurd (omega arith)
is_five (x ∷ y ∷ z ∷ w ∷ []) e = absurd (omega arith)
is_five (x ∷ y ∷ z ∷ w ∷ m ∷ []) e = five x y z w m
is_five (x ∷ y ∷ z ∷ w ∷ m ∷ v ∷ l) e = absurd (omega arith)

base_is : (l : List ℕ) → Five l → word (get_or l 0 0 ∷ get_or l 1 0 ∷ []) ≡ base_in l
base_is l (five a b c d m) = refl

length_is : (l : List ℕ) → Five l → word (get_or l 2 0 ∷ get_or l 3 0 ∷ []) ≡ length_in l
length_is l (five a b c d m) = refl

pub base_below : (l : List ℕ) → Bytes segment_bytes l → base_in l < words
base_below l h =
    omega (arith, sym (base_is l (is_five l h.long)), word_two (get_or l 0 0) (get_or l 1 0), h.below 0, h.below 1)

pub length_below : (l : List ℕ) → Bytes segment_bytes l → length_in l < words
length_below l h =
    omega (arith, sym (length_is l (is_five l h.long)), word_two (get_or l 2 0) (get_or l 3 0), h.below 2, h.below 3)

module _ (l : List ℕ) (e : length l ≡ segment_bytes) (base length : ℕ) (eb : base ≡ word (get_or l 0 0 ∷ get_or l 1 0 ∷ []))
    (el : length ≡ word (get_or l 2 0 ∷ get_or l 3 0 ∷ [])) where
  starts : base ≡ base_in l
  starts = eb ∙ base_is l (is_five l e)

  long : length ≡ length_in l
  long = el ∙ length_is l (is_five l e)

  pub place_good : not (eqb length 0) || eqb base 0 ≡ good_place l
  unfolding good_place
  place_good = ap₂ (λ (n b : ℕ). not (eqb n 0) || eqb b 0) long starts

  same : place_with (eqb length 0) base length ≡ place_in l
  unfolding place_in
  same = ap₂ (λ (n b : ℕ). place_with (eqb n 0) b n) long starts

  pub place_absent : length ≡ 0 → None ≡ place_in l
  place_absent z = sym (ap (λ (t : Bool). place_with t base length) (eq-eqb length 0 z)) ∙ same

  pub place_present : (length ≡ 0 → ⊥) → present_at base length ≡ place_in l
  place_present z = sym (ap (λ (t : Bool). place_with t base length) (ne_eqb length 0 z)) ∙ same

pub segment_same : (l : List ℕ) (p : Place) → p ≡ place_in l
    → ◌≡◌ {A = Segment} (record { place = p; frozen = flag_in (mark_in l) }) (segment_in l)
segment_same l p e = λ j. record { place = e j; frozen = flag_in (mark_in l) }

pub flag_is : (b : Bool) → bool_byte b ≡ flag_out b
flag_is true = refl
flag_is false = refl

-- the two bytes of a word, as `to_be_bytes` gives them
word_out : (n : ℕ) → to_be_bytes w16 n ≡ bytes word_bytes n
unfolding bytes
word_out n = λ j. high j ∷ low j ∷ []
  where
    high : byte_at 1 n ≡ n / 256 % 256
    high = omega arith

    low : byte_at 0 n ≡ n % 256
    low = omega arith

pub segment_made : (g : Segment) (x y : List ℕ) (b n : ℕ) → b ≡ base_of g.place → x ≡ to_be_bytes w16 b
    → n ≡ length_of g.place → y ≡ to_be_bytes w16 n
    → get_or x 0 0 ∷ get_or x 1 0 ∷ get_or y 0 0 ∷ get_or y 1 0 ∷ bool_byte g.frozen ∷ [] ≡ segment_out g
unfolding segment_out place_out bytes
segment_made g x y b n eb ex en ey =
    (λ j. get_or (first j) 0 0 ∷ get_or (first j) 1 0 ∷ get_or (second j) 0 0 ∷ get_or (second j) 1 0 ∷ flag_is g.frozen j ∷ [])
  where
    first : x ≡ bytes word_bytes (base_of g.place)
    first = ex ∙ word_out b ∙ ap (bytes word_bytes) eb

    second : y ≡ bytes word_bytes (length_of g.place)
    second = ey ∙ word_out n ∙ ap (bytes word_bytes) en
