-- Byte j of record n is byte n * 114 + j of the image, for the record is a part of it; and so for a password or a segment
-- and its record. What stands in a segment's five bytes is computed.
-- Assumes nothing.
use mathlib.Core.Path.{◌≡◌, sym, ap, ◌∙◌}
use Prim.Native.Nat.{ℕ, ◌+◌, ◌-◌, ◌*◌, ◌/◌, ◌%◌, ◌<◌}
use native.Mathlib.Omega.{arith}
use mathlib.Core.List.{List}
use lib.ListN.{get_or}
use Rattle.bits.specs.Bytes.{bytes}
use Rattle.store.specs.Places.{Place, None, Some}
use Rattle.store.specs.declared.Segment.{Segment}
use Rattle.store.specs.declared.Store.{Store}
use Rattle.store.specs.Records.{absent_segment, cluster_at, base_of, length_of}
use Rattle.image.specs.Parts.{part}
use Rattle.image.specs.Images.{segment_bytes, record_bytes, read_at, write_at, segments_at, flag_out, place_out, segment_out}
use Rattle.image.specs.Images.{segments_out, record_out, image_of}
use Rattle.image.specs.Ranges.{PlaceFits, StoreFits}
use Rattle.image.specs.Words.{ImageInWords}
use Rattle.image.proofs.PartLaws.{get_d_part, get_d_slot}
use Rattle.image.proofs.SegmentTripLaws.{mark_out}
use Rattle.image.proofs.TripLaws.{low_byte, segment_at_lem, read_in, write_in, segments_in_lem, record_at_lem, length_image}

-- ---- the high bytes of a segment

base_low : (p : Place) → PlaceFits p → base_of p < 65536
unfolding PlaceFits
base_low None h = omega arith
base_low (Some span) h = h.starts

length_low : (p : Place) → PlaceFits p → length_of p < 65536
unfolding PlaceFits
length_low None h = omega arith
length_low (Some span) h = h.ends

high : (n : ℕ) → n < 65536 → n / 256 % 256 ≡ n / 256
high n h = omega arith

module _ (g : Segment) (h : PlaceFits g.place) where
  base_high_out : get_or (segment_out g) 0 0 ≡ base_of g.place / 256
  unfolding segment_out place_out bytes
  base_high_out = high (base_of g.place) (base_low g.place h)

  length_high_out : get_or (segment_out g) 2 0 ≡ length_of g.place / 256
  unfolding segment_out place_out bytes
  length_high_out = high (length_of g.place) (length_low g.place h)

-- ---- where the bytes of a record stand

module _ (s : Store) (fit : StoreFits s) (n : ℕ) (h : n < 32) where
  abbrev whole : List ℕ
  whole = record_out (cluster_at s n)

  abbrev segment : ℕ → Segment
  segment i = get_or (cluster_at s n).segments i absent_segment

  in_record : (j : ℕ) → j < 114 → get_or (image_of s) (n * 114 + j) 0 ≡ get_or whole j 0
  in_record j b =
      sym (get_d_slot record_bytes (image_of s) n j b) ∙ ap (λ (l : List ℕ). get_or l j 0) (record_at_lem s fit n h)

  -- byte j of the part from a to e of the record
  in_part : (a e : ℕ) (p : List ℕ) → part whole a e ≡ p → (j : ℕ) → j < e - a → a + j < 114
      → get_or (image_of s) (n * 114 + a + j) 0 ≡ get_or p j 0
  in_part a e p q j b c =
      ap (λ (k : ℕ). get_or (image_of s) k 0) turn ∙ in_record (a + j) c ∙ sym (get_d_part whole a e j b)
      ∙ ap (λ (l : List ℕ). get_or l j 0) q
    where
      turn : n * 114 + a + j ≡ n * 114 + (a + j)
      turn = omega arith

  in_segment : (i : ℕ) → i < 16 → (j : ℕ) → j < 5
      → get_or (image_of s) (n * 114 + 34 + i * 5 + j) 0 ≡ get_or (segment_out (segment i)) j 0
  in_segment i b j c =
      ap (λ (k : ℕ). get_or (image_of s) k 0) turn
      ∙ in_part segments_at record_bytes table (segments_in_lem (cluster_at s n) (fit.each n h)) (i * 5 + j) (omega arith) (omega arith)
      ∙ sym (get_d_slot segment_bytes table i j c)
      ∙ ap (λ (l : List ℕ). get_or l j 0) (segment_at_lem (cluster_at s n).segments i b)
    where
      table : List ℕ
      table = segments_out (cluster_at s n).segments

      turn : n * 114 + 34 + i * 5 + j ≡ n * 114 + 34 + (i * 5 + j)
      turn = omega arith

  first_byte : get_or (image_of s) (n * 114) 0 ≡ flag_out (cluster_at s n).active
  unfolding record_out
  first_byte = ap (λ (k : ℕ). get_or (image_of s) k 0) turn ∙ in_record 0 (omega arith)
    where
      turn : n * 114 ≡ n * 114 + 0
      turn = omega arith

  second_byte : get_or (image_of s) (n * 114 + 1) 0 ≡ (cluster_at s n).width
  unfolding record_out bytes
  second_byte = in_record 1 (omega arith) ∙ low_byte (cluster_at s n).width (fit.each n h).wide

  module _ (i : ℕ) (b : i < 16) where
    mark : get_or (image_of s) (n * 114 + 34 + i * 5 + 4) 0 ≡ flag_out (segment i).frozen
    mark = in_segment i b 4 (omega arith) ∙ mark_out (segment i)

    fits : PlaceFits (segment i).place
    fits = (fit.each n h).places i b

    base_high : get_or (image_of s) (n * 114 + 34 + i * 5) 0 ≡ base_of (segment i).place / 256
    base_high =
        ap (λ (k : ℕ). get_or (image_of s) k 0) turn ∙ in_segment i b 0 (omega arith) ∙ base_high_out (segment i) fits
      where
        turn : n * 114 + 34 + i * 5 ≡ n * 114 + 34 + i * 5 + 0
        turn = omega arith

    length_high : get_or (image_of s) (n * 114 + 34 + i * 5 + 2) 0 ≡ length_of (segment i).place / 256
    length_high = in_segment i b 2 (omega arith) ∙ length_high_out (segment i) fits

pub image_in_words : (s : Store) → StoreFits s → ImageInWords s
unfolding segment_out place_out bytes
image_in_words s fit =
    record {
      size = length_image s fit;
      active = λ n h e. first_byte s fit n h ∙ ap flag_out e;
      inactive = λ n h e. first_byte s fit n h ∙ ap flag_out e;
      width = λ n h. second_byte s fit n h;
      read = λ n k h b. in_part s fit n h read_at write_at _ (read_in (cluster_at s n) (fit.each n h)) k b (omega arith);
      write = λ n k h b. in_part s fit n h write_at segments_at _ (write_in (cluster_at s n) (fit.each n h)) k b (omega arith);
      base = λ n i h b. (base_high s fit n h i b, in_segment s fit n h i b 1 (omega arith));
      length = λ n i h b. (length_high s fit n h i b, in_segment s fit n h i b 3 (omega arith));
      frozen = λ n i h b e. mark s fit n h i b ∙ ap flag_out e;
      not_frozen = λ n i h b e. mark s fit n h i b ∙ ap flag_out e;
    }
