-- An active record. Its segments below the width have their turns; at or above the width a segment of a sound store is
-- absent and not frozen, so its five bytes are zeros, and zeros are such a segment, which leaves the map as it is.
-- Assumes nothing.
use mathlib.Core.Path.{◌≡◌, refl, sym, ap, ◌∙◌, subst}
use mathlib.Core.Bool.{Bool, true, false, not, ◌&&◌, true≢false}
use mathlib.Core.List.{List}
use Prim.Native.Nat.{ℕ, ◌+◌, ◌*◌, ◌-◌, ◌/◌, ◌%◌, ◌≤◌, ◌<◌}
use native.Mathlib.Omega.{arith}
use native.Mathlib.Decide.{dec_lt}
use mir.Syntax.{w8}
use mir.Val.{Fits}
use lib.ListN.{length, get_or, replicate, length-replicate, get_or-replicate}
use lib.Seq.{ext_get_or}
use borrow.Author.Tests.{lt-ltb, not-true, not-false}
use Rattle.bits.specs.Bytes.{bytes, word, word_from, Bytes}
use Rattle.loops.specs.Below.{every}
use Rattle.loops.proofs.BelowLaws.{and_left, and_right, and_both, tests_equal, test_off, every_at, every_in}
use Rattle.sizes.specs.Sizes.{segments}
use Rattle.store.specs.declared.Segment.{Segment}
use Rattle.store.specs.Records.{absent_segment, table_of, segment_of, place_of}
use Rattle.store.specs.Sound.{in_ranges, ends_inside, inside, is_absent, sound_mark, sound_segment, is_width, sound_width, allowed}
use Rattle.store.specs.Sound.{below, sized, settled}
use Rattle.store.specs.inner.Passes.{Map, free, claimable, stamped_by, claims}
use Rattle.store.proofs.SoundLaws.{settled_active, settled_width, sized_settled, allowed_absent, allowed_below}
use Rattle.image.specs.Parts.{part, slot}
use Rattle.image.specs.Images.{segment_bytes, record_bytes, width_at, segments_at, flag_in, good_flag, place_in, segment_in}
use Rattle.image.specs.Images.{segment_held, cluster_in, good_place, good_segment, good_segments, good_record}
use Rattle.image.specs.Images.{place_out, segment_out}
use Rattle.image.specs.inner.Claims.{zeros, places_in, record_sound, ActiveClaimed, RecordClaimed}
use Rattle.image.proofs.PartLaws.{length_slot, get_d_slot, get_d_part, bytes_part, bytes_slot}
use Rattle.image.proofs.SegmentTripLaws.{segment_back}
use Rattle.image.proofs.ZeroLaws.{zeros_at, zeros_in}
use Rattle.image.proofs.IdleLaws.{claimed_mark, none_marked}
use Rattle.image.proofs.ClaimLaws.{claims_same, found_is, placed_is}
use Rattle.image.proofs.WidthLaws.{low_width, upper_absent, stamped_width}

-- ---- five zeros

abbrev five : List ℕ
five = replicate segment_bytes 0

five_in : segment_in five ≡ absent_segment
unfolding place_in word word_from
five_in = refl

five_good : good_segment five ≡ true
unfolding good_segment good_place word word_from
five_good = refl

five_out : segment_out absent_segment ≡ five
unfolding segment_out place_out bytes
five_out = refl

absent_claimable : (map : Map) → claimable absent_segment map ≡ true
unfolding claimable sound_segment sound_mark inside in_ranges ends_inside free
absent_claimable map = refl

-- ---- the segments of a record

module _ (b : List ℕ) (long : length b ≡ record_bytes) (known : (i : ℕ) → Fits w8 (get_or b i 0)) where
  abbrev table : List ℕ
  table = part b segments_at record_bytes

  abbrev w : ℕ
  w = get_or b width_at 0

  abbrev from : ℕ
  from = segments_at + get_or b width_at 0 * segment_bytes

  all : Bytes (segments * segment_bytes) table
  all = bytes_part record_bytes b segments_at record_bytes (record { long = long; below = λ i. (known i).fits }) (omega arith)

  -- byte j of segment k is one of the record's
  byte_of : (k j : ℕ) → k < segments → j < segment_bytes
      → get_or (slot segment_bytes table k) j 0 ≡ get_or b (segments_at + (k * segment_bytes + j)) 0
  byte_of k j hk hj =
      get_d_slot segment_bytes table k j hj ∙ get_d_part b segments_at record_bytes (k * segment_bytes + j) (omega arith)

  -- zeros from the width on
  upper_zero : zeros (part b from record_bytes) ≡ true → (k : ℕ) → w ≤ k → k < segments → slot segment_bytes table k ≡ five
  upper_zero z k l h =
      ext_get_or 0 (slot segment_bytes table k) five (size ∙ sym (length-replicate {A = ℕ} segment_bytes 0)) (λ j m.
      let i : j < segment_bytes = subst (λ (n : ℕ). j < n) size m in
      byte_of k j h i
      ∙ zeros_at b from record_bytes long z (segments_at + (k * segment_bytes + j)) (omega arith) (omega arith)
      ∙ sym (get_or-replicate segment_bytes j 0 0 i))
    where
      size : length (slot segment_bytes table k) ≡ segment_bytes
      size = length_slot segment_bytes table segments k all.long h

  zero_upper : ((k : ℕ) → w ≤ k → k < segments → slot segment_bytes table k ≡ five) → zeros (part b from record_bytes) ≡ true
  zero_upper blank =
      zeros_in b from record_bytes long (λ p l h.
      ap (λ (n : ℕ). get_or b n 0) (turn p (omega arith))
      ∙ sym (byte_of ((p - segments_at) / segment_bytes) ((p - segments_at) % segment_bytes) (omega arith) (omega arith))
      ∙ ap (λ (q : List ℕ). get_or q ((p - segments_at) % segment_bytes) 0)
      (blank ((p - segments_at) / segment_bytes) (omega arith) (omega arith))
      ∙ get_or-replicate segment_bytes ((p - segments_at) % segment_bytes) 0 0 (omega arith))
    where
      turn : (p : ℕ) → segments_at ≤ p
          → p ≡ segments_at + ((p - segments_at) / segment_bytes * segment_bytes + (p - segments_at) % segment_bytes)
      turn p l = omega arith

  -- a segment that is good, absent and not frozen
  none_five : (k : ℕ) → k < segments → good_segment (slot segment_bytes table k) ≡ true
      → is_absent (places_in table k) ≡ true → sound_mark (segment_held table k) ≡ true → slot segment_bytes table k ≡ five
  unfolding sound_mark
  none_five k h g a m =
      sym (segment_back (slot segment_bytes table k) (bytes_slot segment_bytes segments table k all h) g)
      ∙ ap segment_out (none_marked (places_in table k) (segment_held table k).frozen a m)
      ∙ five_out

  -- ---- the record

  module _ (on : get_or b 0 0 ≡ 1) (before : Map) where
    abbrev test : ℕ → Bool
    test k = good_segment (slot segment_bytes table k) && claimable (segment_held table k) (stamped_by k (places_in table) before)

    active : (cluster_in b).active ≡ true
    unfolding cluster_in
    active = ap flag_in on

    width_is : (cluster_in b).width ≡ w
    unfolding cluster_in
    width_is = refl

    claims_held : claims segments (segment_of (table_of (cluster_in b))) before ≡ claims segments (segment_held table) before
    claims_held = claims_same (segment_of (table_of (cluster_in b))) (segment_held table) before segments (found_is b)

    five_passes : (k : ℕ) → slot segment_bytes table k ≡ five → test k ≡ true
    five_passes k e =
        and_both (good_segment (slot segment_bytes table k)) _ (ap good_segment e ∙ five_good)
        (ap (λ (g : Segment). claimable g (stamped_by k (places_in table) before)) (ap segment_in e ∙ five_in)
        ∙ absent_claimable (stamped_by k (places_in table) before))

    module _ (wide : is_width (get_or b width_at 0) ≡ true) where
      low : w ≤ 16
      low = low_width w wide

      -- zeros from the width on, and each segment below it passes
      module _ (z : zeros (part b from record_bytes) ≡ true) (r : every w test ≡ true) where
        each : (k : ℕ) → k < segments → test k ≡ true
        each k h = go (dec_lt k w)
          where
            go : Dec (k < w) → test k ≡ true
            go (yes l) = every_at w test r k l
            go (no l) = five_passes k (upper_zero z k (omega arith) h)

        permitted : (k : ℕ) → k < segments → allowed (place_of (table_of (cluster_in b)) k) k (cluster_in b).width ≡ true
        permitted k h =
            ap (λ (n : ℕ). allowed (place_of (table_of (cluster_in b)) k) k n) width_is ∙ go (dec_lt k w)
          where
            go : Dec (k < w) → allowed (place_of (table_of (cluster_in b)) k) k w ≡ true
            go (yes l) = allowed_below (place_of (table_of (cluster_in b)) k) k w (lt-ltb k w l)
            go (no l) =
                allowed_absent (place_of (table_of (cluster_in b)) k) k w
                (placed_is b k h
                ∙ ap (λ (g : Segment). g.place) (ap segment_in (upper_zero z k (omega arith) h) ∙ five_in))

        fine : record_sound b before ≡ true
        unfolding good_record good_segments sized below claims
        fine =
            and_both (good_record b) _
            (and_both (good_flag (get_or b 0 0)) _ (ap good_flag on)
            (every_in segments (λ k. good_segment (slot segment_bytes table k)) (λ k h.
            and_left (good_segment (slot segment_bytes table k)) _ (each k h))))
            (and_both (settled (cluster_in b)) _
            (settled_active (cluster_in b) active
            (and_both (sound_width (cluster_in b).active (cluster_in b).width) (below (cluster_in b))
            (ap (λ (t : Bool). sound_width t (cluster_in b).width) active ∙ ap is_width width_is ∙ wide)
            (every_in segments (λ k. allowed (place_of (table_of (cluster_in b)) k) k (cluster_in b).width) permitted)))
            (claims_held
            ∙ every_in segments (λ k. claimable (segment_held table k) (stamped_by k (places_in table) before)) (λ k h.
            and_right (good_segment (slot segment_bytes table k)) _ (each k h))))

        stamps : stamped_by w (places_in table) before ≡ stamped_by segments (place_of (table_of (cluster_in b))) before
        stamps =
            stamped_width b before w low (λ k l h.
            ap (λ (g : Segment). is_absent g.place) (ap segment_in (upper_zero z k l h) ∙ five_in))

      -- the other way round
      module _ (t : record_sound b before ≡ true) where
        calm : (settled (cluster_in b) && claims segments (segment_of (table_of (cluster_in b))) before) ≡ true
        calm = and_right (good_record b) _ t

        held : claims segments (segment_held table) before ≡ true
        held = sym claims_held ∙ and_right (settled (cluster_in b)) _ calm

        good_at : (k : ℕ) → k < segments → good_segment (slot segment_bytes table k) ≡ true
        unfolding good_record good_segments
        good_at k h =
            every_at segments (λ k. good_segment (slot segment_bytes table k))
            (and_right (good_flag (get_or b 0 0)) _ (and_left (good_record b) _ t)) k h

        lower : every w test ≡ true
        unfolding claims
        lower =
            every_in w test (λ k h.
            let l : k < segments = omega (arith, low) in
            and_both (good_segment (slot segment_bytes table k)) _ (good_at k l)
            (every_at segments (λ k. claimable (segment_held table k) (stamped_by k (places_in table) before)) held k l))

        upper : zeros (part b from record_bytes) ≡ true
        upper =
            zero_upper (λ k l h.
            none_five k h (good_at k h)
            (upper_absent b (sized_settled (cluster_in b) (and_left (settled (cluster_in b)) _ calm)) k l h)
            (claimed_mark (segment_held table) before held k h))

    -- the code's two ways
    pub record_active : (t : Bool) → t ≡ is_width (get_or b width_at 0) → not t ≡ false → (r : Bool) (after : Map)
        → ActiveClaimed b (get_or b width_at 0) before r after → RecordClaimed b before r after
    record_active t et on-width r after p =
        record {
          told =
              tests_equal r (record_sound b before) (λ e. fine wide (zeroed e) (passed e))
              (λ e. p.told ∙ and_both p.zero p.claimed (p.above ∙ upper wide e) (p.turns.told ∙ lower wide e));
          left = λ e. p.turns.left ∙ stamps wide (zeroed e) (passed e);
        }
      where
        zeroed : r ≡ true → zeros (part b from record_bytes) ≡ true
        zeroed e = sym p.above ∙ and_left p.zero p.claimed (sym p.told ∙ e)

        passed : r ≡ true → every w test ≡ true
        passed e = sym p.turns.told ∙ and_right p.zero p.claimed (sym p.told ∙ e)

        wide : is_width w ≡ true
        wide = sym et ∙ not-false t on-width

    pub record_unsized : (t : Bool) → t ≡ is_width (get_or b width_at 0) → not t ≡ true → RecordClaimed b before false before
    record_unsized t et off =
        record {
          told =
              sym (test_off (record_sound b before) (λ e.
              true≢false
              (sym (et ∙ ap is_width (sym width_is)
              ∙ settled_width (cluster_in b) (and_left (settled (cluster_in b)) _ (and_right (good_record b) _ e)) true active)
              ∙ not-true t off)));
          left = λ e. absurd (true≢false (sym e));
        }
