-- An inactive record of a sound store is all zeros. Zeros are the record of an inactive cluster; and the other way round,
-- an idle cluster that is not active and has no width, and of which no absent segment is frozen, is the inactive one, whose
-- record is zeros, and good bytes are their cluster's record.
-- Assumes nothing.
use mathlib.Core.Path.{◌≡◌, refl, sym, ap, ◌∙◌, subst}
use mathlib.Core.Bool.{Bool, true, false, not, ◌&&◌, true≢false}
use mathlib.Core.List.{List}
use Prim.Native.Nat.{ℕ, zero, suc, ◌<◌}
use native.Mathlib.Omega.{arith}
use mir.Syntax.{w8}
use mir.Val.{Fits}
use lib.Dec.{eqb}
use lib.ListN.{length, get_or, replicate, length-replicate, get_or-replicate}
use lib.Seq.{ext_get_or}
use borrow.Author.Tests.{eqb-true}
use Rattle.bits.specs.Bytes.{bytes, word, word_from, Bytes}
use Rattle.loops.specs.Below.{every}
use Rattle.loops.specs.Tabulate.{tabulate}
use Rattle.loops.proofs.BelowLaws.{and_left, and_right, and_both, tests_equal, every_at}
use Rattle.loops.specs.Turns.{turns}
use Rattle.sizes.specs.Sizes.{segments, password_bytes}
use Rattle.store.specs.Places.{Place, None, Some}
use Rattle.store.specs.declared.Segment.{Segment}
use Rattle.store.specs.declared.Cluster.{Cluster}
use Rattle.store.specs.Records.{absent_segment, inactive, table_of, segment_of, place_of}
use Rattle.store.specs.Sound.{in_ranges, ends_inside, inside, sound_mark, sound_segment, settled, idle, zero_bytes}
use Rattle.store.specs.Sound.{is_absent}
use Rattle.store.specs.inner.Passes.{Map, free, claimable, stamped, stamped_by, claims}
use Rattle.store.proofs.SoundLaws.{segment_mark, settled_inactive, settled_idle, settled_width}
use Rattle.image.specs.Parts.{part, joined}
use Rattle.image.specs.Images.{record_bytes, width_at, flag_in, place_in, segments_in, cluster_in, good_place, good_segment}
use Rattle.image.specs.Images.{good_segments, good_record, place_out, segment_out, segments_out, record_out}
use Rattle.image.specs.Ranges.{ClusterFits}
use Rattle.image.specs.inner.Claims.{zeros, record_sound, RecordClaimed}
use Rattle.image.proofs.TripLaws.{record_back}
use Rattle.image.proofs.RangeLaws.{cluster_held}
use Rattle.image.proofs.ZeroLaws.{zeros_at}

abbrev blank : List ℕ
blank = replicate record_bytes 0

-- ---- zeros are the record of an inactive cluster

blank_out : record_out inactive ≡ blank
unfolding record_out segments_out segment_out place_out joined bytes
blank_out = refl

blank_in : cluster_in blank ≡ inactive
unfolding cluster_in segments_in place_in tabulate word word_from
blank_in = refl

blank_good : good_record blank ≡ true
unfolding good_record good_segments good_segment good_place every word word_from
blank_good = refl

-- the segments of an inactive cluster are claimable in their turns, and leave the map as it was
vacant_claims : (map : Map) → claims segments (segment_of (table_of inactive)) map ≡ true
unfolding claims every claimable sound_segment sound_mark free inside in_ranges ends_inside
vacant_claims map = refl

vacant_leaves : (map : Map) → map ≡ stamped_by segments (place_of (table_of inactive)) map
unfolding stamped_by turns stamped inside in_ranges ends_inside
vacant_leaves map = refl

blank_sound : (map : Map) → record_sound blank map ≡ true
blank_sound map =
    and_both (good_record blank) _ blank_good
    (and_both (settled (cluster_in blank)) _ (ap settled blank_in ∙ settled_inactive)
    (ap (λ (c : Cluster). claims segments (segment_of (table_of c)) map) blank_in ∙ vacant_claims map))

blank_zeros : zeros (part blank width_at record_bytes) ≡ true
unfolding zeros every
blank_zeros = refl

-- ---- the other way round

zero_bytes_lem : (n : ℕ) (l : List ℕ) → length l ≡ n → every n (λ i. eqb (get_or l i 0) 0) ≡ true → l ≡ replicate n 0
zero_bytes_lem n l e z =
    ext_get_or 0 l (replicate n 0) (e ∙ sym (length-replicate n 0))
    (λ i h. let k : i < n = subst (λ (m : ℕ). i < m) e h in
    eqb-true (get_or l i 0) 0 (every_at n (λ i. eqb (get_or l i 0) 0) z i k) ∙ sym (get_or-replicate n i 0 0 k))

-- a segment that was claimable is not both absent and frozen
pub claimed_mark : (gs : ℕ → Segment) (map : Map) → claims segments gs map ≡ true → (i : ℕ) → i < segments
    → sound_mark (gs i) ≡ true
unfolding claims claimable
claimed_mark gs map t i h =
    segment_mark (gs i) (and_left (sound_segment (gs i)) _
    (every_at segments (λ i. claimable (gs i) (stamped_by i (λ k. (gs k).place) map)) t i h))

-- a place and a mark, absent and not frozen
pub none_marked : (p : Place) (f : Bool) → is_absent p ≡ true → not (is_absent p && f) ≡ true
    → ◌≡◌ {A = Segment} (record { place = p; frozen = f }) absent_segment
none_marked None false t m = refl
none_marked None true t m = absurd (true≢false (sym m))
none_marked (Some span) f t m = absurd (true≢false (sym t))

idle_inactive : (c : Cluster) → ClusterFits c → c.active ≡ false → c.width ≡ 0 → idle c ≡ true
    → ((i : ℕ) → i < segments → sound_mark (segment_of (table_of c) i) ≡ true) → c ≡ inactive
unfolding idle zero_bytes sound_mark
idle_inactive c fit e w z marked =
    λ j. record {
      active = e j;
      width = w j;
      read = zero_bytes_lem password_bytes c.read fit.read (and_left (zero_bytes c.read) _ both) j;
      write = zero_bytes_lem password_bytes c.write fit.write (and_right (zero_bytes c.read) _ both) j;
      segments = none j;
    }
  where
    both : (zero_bytes c.read && zero_bytes c.write) ≡ true
    both = and_left (zero_bytes c.read && zero_bytes c.write) _ z

    none : c.segments ≡ replicate segments absent_segment
    none =
        ext_get_or absent_segment c.segments (replicate segments absent_segment) fit.room
        (λ i h. let k : i < segments = subst (λ (m : ℕ). i < m) fit.room h in
        none_marked (place_of (table_of c) i) (segment_of (table_of c) i).frozen
        (every_at segments (λ i. is_absent (place_of (table_of c) i))
        (and_right (zero_bytes c.read && zero_bytes c.write) _ z) i k) (marked i k)
        ∙ sym (get_or-replicate segments i absent_segment absent_segment k))

-- ---- a record whose active byte is 0

module _ (b : List ℕ) (off : get_or b 0 0 ≡ 0) where
  zeros_blank : length b ≡ record_bytes → zeros (part b width_at record_bytes) ≡ true → b ≡ blank
  zeros_blank long z =
      ext_get_or 0 b blank long
      (λ i h. let k : i < record_bytes = subst (λ (m : ℕ). i < m) long h in
      byte i k ∙ sym (get_or-replicate record_bytes i 0 0 k))
    where
      byte : (i : ℕ) → i < record_bytes → get_or b i 0 ≡ 0
      byte zero h = off
      byte (suc i) h = zeros_at b width_at record_bytes long z (suc i) (omega arith) h

  sound_blank : Bytes record_bytes b → (before : Map) → record_sound b before ≡ true → b ≡ blank
  unfolding cluster_in
  sound_blank h before t =
      sym (record_back b h (and_left (good_record b) _ t))
      ∙ ap record_out (idle_inactive (cluster_in b) (cluster_held b h) still none (settled_idle (cluster_in b) calm still)
      (claimed_mark (segment_of (table_of (cluster_in b))) before (and_right (settled (cluster_in b)) _ told)))
      ∙ blank_out
    where
      told : (settled (cluster_in b) && claims segments (segment_of (table_of (cluster_in b))) before) ≡ true
      told = and_right (good_record b) _ t

      still : flag_in (get_or b 0 0) ≡ false
      still = ap flag_in off

      calm : settled (cluster_in b) ≡ true
      calm = and_left (settled (cluster_in b)) _ told

      none : (cluster_in b).width ≡ 0
      none = eqb-true (cluster_in b).width 0 (settled_width (cluster_in b) calm false still)

  pub record_zero : length b ≡ record_bytes → ((i : ℕ) → Fits w8 (get_or b i 0)) → (before : Map) (r : Bool)
      → r ≡ zeros (part b width_at record_bytes) → RecordClaimed b before r before
  record_zero long known before r e =
      record {
        told =
            e ∙ tests_equal (zeros (part b width_at record_bytes)) (record_sound b before)
            (λ t. ap (λ (l : List ℕ). record_sound l before) (zeros_blank long t) ∙ blank_sound before)
            (λ t. ap (λ (l : List ℕ). zeros (part l width_at record_bytes))
            (sound_blank (record { long = long; below = λ i. (known i).fits }) before t) ∙ blank_zeros);
        left = λ t.
            vacant_leaves before
            ∙ ap (λ (c : Cluster). stamped_by segments (place_of (table_of c)) before)
            (sym (ap cluster_in (zeros_blank long (sym e ∙ t)) ∙ blank_in));
      }
