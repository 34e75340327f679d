-- Laws of an image's bytes marked in a node's map, as the code does it. Five bytes hold an absent segment, or one whose
-- bytes are marked; so many times five have their turns one after the other; a record whose active byte is neither 0 nor 1
-- is no record.
-- Assumes nothing.
use mathlib.Core.Path.{◌≡◌, refl, sym, ap, ap₂, ◌∙◌}
use mathlib.Core.Bool.{Bool, true, false, not, ◌&&◌, ◌||◌, true≢false}
use mathlib.Core.List.{List, [], ◌∷◌}
use Prim.Native.Nat.{ℕ, zero, suc, ◌+◌, ◌≤◌, ◌<◌}
use native.Mathlib.Omega.{arith}
use lib.Dec.{eqb}
use lib.ListN.{length, get_or}
use borrow.Author.Tests.{eq-eqb, ne_eqb, lt-leb}
use Rattle.bits.specs.Bytes.{word}
use Rattle.loops.proofs.BelowLaws.{every_same}
use Rattle.loops.proofs.RunningLaws.{Running, running_none, running_more, running_all}
use Rattle.loops.proofs.TabulateLaws.{get_d_tabulate}
use Rattle.loops.proofs.TurnLaws.{Turning, turning_none, turning_more, turning_all, turns_same}
use Rattle.sizes.specs.Sizes.{segments}
use Rattle.spans.specs.Spans.{marks, Marked}
use Rattle.store.specs.Places.{Place}
use Rattle.store.specs.declared.Segment.{Segment}
use Rattle.store.specs.Records.{absent_segment, table_of, segment_of, place_of}
use Rattle.store.specs.Sound.{settled}
use Rattle.store.specs.inner.Passes.{Map, map_words, claimable, stamped, stamped_by, claims}
use Rattle.store.proofs.MarkLaws.{claim_absent, claim_mark}
use Rattle.image.specs.Parts.{part, slot}
use Rattle.image.specs.Images.{segment_bytes, record_bytes, segments_at, flag_in, good_flag, mark_in, segment_in, segment_held}
use Rattle.image.specs.Images.{segments_in, cluster_in, good_place, good_segment, good_segments, good_record}
use Rattle.image.specs.inner.Claims.{places_in, SegmentClaimed, SegmentsClaimed, RecordClaimed}
use Rattle.image.proofs.SegmentLaws.{place_good, place_absent, place_present}

-- ---- five bytes

module _ (l : List ℕ) (e : length l ≡ segment_bytes) (base size : ℕ) (eb : base ≡ word (get_or l 0 0 ∷ get_or l 1 0 ∷ []))
    (es : size ≡ word (get_or l 2 0 ∷ get_or l 3 0 ∷ [])) where
  -- good as a place, as far as the test of the length tells
  holding : (t : Bool) → eqb size 0 ≡ t → not t || eqb base 0 ≡ good_place l
  holding t q = sym (ap (λ (u : Bool). not u || eqb base 0) q) ∙ place_good l e base size eb es

  -- a byte that is 0 or 1, and not 1
  clear : (t : Bool) (x : ℕ) → t && eqb x 0 ≡ (t && good_flag x) && not (flag_in x)
  clear false x = refl
  clear true zero = refl
  clear true (suc zero) = refl
  clear true (suc (suc x)) =
      ne_eqb (suc (suc x)) 0 (λ e. omega arith)
      ∙ ap (λ (t : Bool). t && not (flag_in (suc (suc x)))) (sym (lt-leb (suc (suc x)) 1 (omega arith)))

  pub segment_none : (map : Map) → size ≡ 0 → SegmentClaimed l map (eqb base 0 && eqb (mark_in l) 0) map
  unfolding good_segment
  segment_none map z =
      let c = claim_absent (segment_in l) map (sym (place_absent l e base size eb es z)) in
      record {
        told =
            clear (eqb base 0) (mark_in l)
            ∙ ap₂ (λ (a b : Bool). (a && good_flag (mark_in l)) && b) (holding true (eq-eqb size 0 z)) c.told;
        left = c.left;
      }

  pub segment_mark : (size ≡ 0 → ⊥) → (ws : List ℕ) (r : Bool) (after : List ℕ) → length ws ≡ map_words
      → Marked base (base + size) ws r after → SegmentClaimed l (marks ws) (good_flag (mark_in l) && r) (marks after)
  unfolding good_segment
  segment_mark some ws r after long m =
      let c = claim_mark base size ws r after (segment_in l) (sym (place_present l e base size eb es some)) long m in
      record {
        told = ap₂ (λ (a b : Bool). (a && good_flag (mark_in l)) && b) (holding false (ne_eqb size 0 some)) c.told;
        left = c.left;
      }

-- ---- so many times five bytes

-- the segments so far had their turn, of those that have one
pub record Segments (b : List ℕ) (count : ℕ) (before : Map) (i : ℕ) (ok : Bool) (map : Map) : Type 0 where
  pub told : Running count
      (λ k. good_segment (slot segment_bytes b k) && claimable (segment_held b k) (stamped_by k (places_in b) before)) i ok
  pub left : Turning count (λ k. stamped (places_in b k)) before i map

pub segments_none : (b : List ℕ) (count : ℕ) (before : Map) → Segments b count before 0 true before
segments_none b count before = record { told = running_none _ _; left = turning_none _ _ _ }

module _ (b : List ℕ) (count : ℕ) (before : Map) (i : ℕ) (ok : Bool) (map : Map) (w : Segments b count before i ok map) where
  pub segments_more : (r : Bool) (after : Map) → i < count → SegmentClaimed (slot segment_bytes b i) map r after
      → Segments b count before (i + 1) (r && ok) after
  unfolding stamped_by
  segments_more r after h e =
      record {
        told =
            running_more _ _ i ok w.told r h
            (e.told
            ∙ ap (λ (m : Map). good_segment (slot segment_bytes b i) && claimable (segment_held b i) m) w.left.told);
        left = turning_more _ _ before i map w.left after h e.left;
      }

  pub segments_all : count ≤ i → SegmentsClaimed b count before ok map
  unfolding stamped_by
  segments_all h =
      record {
        told = running_all _ _ i ok w.told h;
        left = turning_all _ _ before i map w.left h;
      }

-- ---- a record

pub stamped_same : (ps qs : ℕ → Place) (map : Map) (n : ℕ) → ((i : ℕ) → i < n → ps i ≡ qs i)
    → stamped_by n ps map ≡ stamped_by n qs map
unfolding stamped_by
stamped_same ps qs map n h = turns_same n (λ i. stamped (ps i)) (λ i. stamped (qs i)) map (λ i l. ap stamped (h i l))

module _ (gs hs : ℕ → Segment) (map : Map) where
  abbrev places : (ℕ → Segment) → ℕ → Place
  places fs k = (fs k).place

  pub claims_same : (n : ℕ) → ((i : ℕ) → i < n → gs i ≡ hs i) → claims n gs map ≡ claims n hs map
  unfolding claims
  claims_same n h =
      every_same n (λ i. claimable (gs i) (stamped_by i (places gs) map)) (λ i. claimable (hs i) (stamped_by i (places hs) map))
      (λ i l. ap₂ claimable (h i l)
      (stamped_same (places gs) (places hs) map i (λ k m. ap (λ (g : Segment). g.place) (h k (omega arith)))))

module _ (b : List ℕ) where
  abbrev table : List ℕ
  table = part b segments_at record_bytes

  abbrev found : ℕ → Segment
  found = segment_of (table_of (cluster_in b))

  abbrev placed : ℕ → Place
  placed = place_of (table_of (cluster_in b))

  -- the segments of the record's cluster are those that its bytes hold, and so are their places
  pub found_is : (i : ℕ) → i < segments → segment_of (table_of (cluster_in b)) i ≡ segment_held (part b segments_at record_bytes) i
  unfolding cluster_in segments_in
  found_is i h = get_d_tabulate segments (segment_held table) absent_segment i h

  pub placed_is : (i : ℕ) → i < segments → place_of (table_of (cluster_in b)) i ≡ places_in (part b segments_at record_bytes) i
  placed_is i h = ap (λ (g : Segment). g.place) (found_is i h)

  pub record_other : (before : Map) → (get_or b 0 0 ≡ 0 → ⊥) → (get_or b 0 0 ≡ 1 → ⊥) → RecordClaimed b before false before
  unfolding good_record
  record_other before n m =
      record {
        told =
            ap (λ (t : Bool). (t && good_segments table) && (settled (cluster_in b) && claims segments found before))
            (sym (lt-leb (get_or b 0 0) 1 (over (get_or b 0 0) n m)));
        left = λ t. absurd (true≢false (sym t));
      }
    where
      over : (x : ℕ) → (x ≡ 0 → ⊥) → (x ≡ 1 → ⊥) → 1 < x
      over zero n m = absurd (n refl)
      over (suc zero) n m = absurd (m refl)
      over (suc (suc x)) n m = omega arith
