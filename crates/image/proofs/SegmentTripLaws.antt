-- A segment and its five bytes, each read back from the other: the flags, the place whatever follows it, the segment.
-- Assumes nothing.
use mathlib.Core.Path.{◌≡◌, refl, sym, ap, ap₂, ◌∙◌}
use mathlib.Core.Bool.{Bool, true, false, not, ◌||◌}
use mathlib.Core.List.{List, [], ◌∷◌, ◌++◌, append_assoc}
use Prim.Native.Nat.{ℕ, zero, suc, ◌-◌, ◌≤◌, ◌<◌}
use native.Mathlib.Omega.{arith}
use borrow.Author.Tests.{eqb-true, leb-true, ne_eqb}
use lib.Dec.{eqb}
use lib.ListN.{length, take, drop}
use lib.Seq.{take_at, drop_at, take-add}
use Rattle.bits.specs.Bytes.{bytes, word, Bytes}
use Rattle.bits.proofs.ByteLaws.{length_bytes, word_bytes_lem, bytes_word}
use Rattle.loops.proofs.BelowLaws.{and_left, and_right, and_both}
use Rattle.store.specs.Places.{Place, None, Some, present_at}
use Rattle.store.specs.declared.Segment.{Segment}
use Rattle.store.specs.Records.{base_of, length_of}
use Rattle.image.specs.Parts.{part}
use Rattle.image.specs.Images.{word_bytes, place_bytes, segment_bytes, flag_in, good_flag, base_in, length_in, mark_in}
use Rattle.image.specs.Images.{place_with, place_in, good_place, segment_in, good_segment, flag_out, place_out, segment_out}
use Rattle.image.specs.Ranges.{words, PlaceFits}
use Rattle.image.proofs.SegmentLaws.{Five, five, is_five}
use Rattle.image.proofs.PartLaws.{bytes_part}

-- ---- a flag

pub flag_trip : (b : Bool) → flag_in (flag_out b) ≡ b
flag_trip true = refl
flag_trip false = refl

pub flag_good : (b : Bool) → good_flag (flag_out b) ≡ true
flag_good true = refl
flag_good false = refl

pub flag_back : (x : ℕ) → good_flag x ≡ true → flag_out (flag_in x) ≡ x
flag_back zero g = refl
flag_back (suc zero) g = refl
flag_back (suc (suc x)) g = let b = leb-true (suc (suc x)) 1 g in absurd (omega arith)

-- ---- a place, whatever follows it

module _ (p : Place) (m : List ℕ) where
  abbrev starts : List ℕ
  starts = bytes word_bytes (base_of p)

  abbrev ends : List ℕ
  ends = bytes word_bytes (length_of p)

  base_out : base_of p < words → base_in (place_out p ++ m) ≡ base_of p
  unfolding place_out
  base_out h =
      ap (λ (l : List ℕ). word (take word_bytes l)) (append_assoc starts ends m)
      ∙ ap word (take_at starts (ends ++ m) word_bytes (length_bytes word_bytes (base_of p)))
      ∙ word_bytes_lem word_bytes (base_of p) h

  length_out : length_of p < words → length_in (place_out p ++ m) ≡ length_of p
  unfolding place_out
  length_out h =
      ap (λ (l : List ℕ). word (take word_bytes (drop word_bytes l))) (append_assoc starts ends m)
      ∙ ap (λ (l : List ℕ). word (take word_bytes l))
      (drop_at starts (ends ++ m) word_bytes (length_bytes word_bytes (base_of p)))
      ∙ ap word (take_at ends m word_bytes (length_bytes word_bytes (length_of p)))
      ∙ word_bytes_lem word_bytes (length_of p) h

above : (length : ℕ) → 1 ≤ length → length ≡ 0 → ⊥
above length a z = omega arith

module _ (m : List ℕ) where
  place_trip : (p : Place) → PlaceFits p → place_in (place_out p ++ m) ≡ p
  unfolding place_in PlaceFits
  place_trip None h =
      ap₂ (λ (b n : ℕ). place_with (eqb n 0) b n) (base_out None m (omega arith)) (length_out None m (omega arith))
  place_trip (Some span) h =
      ap₂ (λ (b n : ℕ). place_with (eqb n 0) b n)
      (base_out (present_at span.base span.length) m h.starts) (length_out (present_at span.base span.length) m h.ends)
      ∙ ap (λ (t : Bool). place_with t span.base span.length) (ne_eqb span.length 0 (above span.length h.some))

  place_good : (p : Place) → PlaceFits p → good_place (place_out p ++ m) ≡ true
  unfolding good_place PlaceFits
  place_good None h =
      ap₂ (λ (b n : ℕ). not (eqb n 0) || eqb b 0) (base_out None m (omega arith)) (length_out None m (omega arith))
  place_good (Some span) h =
      ap (λ (n : ℕ). not (eqb n 0) || eqb begins 0) (length_out (present_at span.base span.length) m h.ends)
      ∙ ap (λ (t : Bool). not t || eqb begins 0) (ne_eqb span.length 0 (above span.length h.some))
    where
      begins : ℕ
      begins = base_in (place_out (present_at span.base span.length) ++ m)

-- ---- a segment

module _ (q : List ℕ) (h : Bytes segment_bytes q) where
  word_back : (from to : ℕ) → to ≤ segment_bytes → bytes (to - from) (word (part q from to)) ≡ part q from to
  word_back from to l =
      let b = bytes_part segment_bytes q from to h l in
      ap (λ (n : ℕ). bytes n (word (part q from to))) (sym b.long) ∙ bytes_word (part q from to) b.below

  place_back : good_place q ≡ true → place_out (place_in q) ≡ take place_bytes q
  unfolding place_out place_in good_place
  place_back g = go (eqb (length_in q) 0) refl
    where
      made : Place → List ℕ
      made p = bytes word_bytes (base_of p) ++ bytes word_bytes (length_of p)

      whole : bytes word_bytes (base_in q) ++ bytes word_bytes (length_in q) ≡ take place_bytes q
      whole =
          ap₂ (λ (a b : List ℕ). a ++ b)
          (word_back 0 word_bytes (omega arith)) (word_back word_bytes place_bytes (omega arith))
          ∙ sym (take-add word_bytes word_bytes q)

      go : (t : Bool) → eqb (length_in q) 0 ≡ t → made (place_with t (base_in q) (length_in q)) ≡ take place_bytes q
      go false t = whole
      go true t =
          ap₂ (λ (a b : ℕ). bytes word_bytes a ++ bytes word_bytes b) (sym none) (sym (eqb-true (length_in q) 0 t)) ∙ whole
        where
          none : base_in q ≡ 0
          none = eqb-true (base_in q) 0 (sym (ap (λ (u : Bool). not u || eqb (base_in q) 0) t) ∙ g)

  pub segment_back : good_segment q ≡ true → segment_out (segment_in q) ≡ q
  unfolding segment_out good_segment
  segment_back g =
      ap₂ (λ (l : List ℕ) (x : ℕ). l ++ (x ∷ [])) (place_back (and_left (good_place q) _ g))
      (flag_back (mark_in q) (and_right (good_place q) _ g))
      ∙ whole q (is_five q h.long)
    where
      whole : (q : List ℕ) → Five q → take place_bytes q ++ (mark_in q ∷ []) ≡ q
      whole q (five a b c d m) = refl

module _ (g : Segment) where
  pub length_segment : length (segment_out g) ≡ segment_bytes
  unfolding segment_out place_out bytes
  length_segment = refl

  pub mark_out : mark_in (segment_out g) ≡ flag_out g.frozen
  unfolding segment_out place_out bytes
  mark_out = refl

  pub segment_trip : PlaceFits g.place → segment_in (segment_out g) ≡ g
  unfolding segment_out
  segment_trip h =
      λ j. record {
        place = place_trip (flag_out g.frozen ∷ []) g.place h j;
        frozen = (ap flag_in mark_out ∙ flag_trip g.frozen) j;
      }

  pub segment_good : PlaceFits g.place → good_segment (segment_out g) ≡ true
  unfolding segment_out good_segment
  segment_good h =
      and_both (good_place (segment_out g)) _ (place_good (flag_out g.frozen ∷ []) g.place h)
      (ap good_flag mark_out ∙ flag_good g.frozen)
