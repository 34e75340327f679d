-- A record's width. In a sound store no segment at or above it is present; an absent one leaves the map as it is, so the
-- segments below the width leave the map that all leave.
-- Assumes nothing.
use mathlib.Core.Path.{◌≡◌, refl, sym, ap, ◌∙◌}
use mathlib.Core.Bool.{Bool, true, false, not, ◌||◌, true≢false}
use mathlib.Core.List.{List}
use Prim.Native.Nat.{ℕ, zero, suc, ◌+◌, ◌-◌, ◌≤◌, ◌<◌}
use native.Mathlib.Omega.{arith}
use lib.Dec.{eqb}
use lib.ListN.{get_or}
use borrow.Author.Tests.{eqb-true, le-ltb, not-false}
use Rattle.loops.specs.Turns.{turns}
use Rattle.loops.proofs.TurnLaws.{turns_more}
use Rattle.sizes.specs.Sizes.{segments}
use Rattle.store.specs.Places.{Place, None, Some}
use Rattle.store.specs.Records.{table_of, place_of}
use Rattle.store.specs.Sound.{in_ranges, ends_inside, inside, is_absent, is_width, sized}
use Rattle.store.specs.inner.Passes.{Map, stamped, stamped_by}
use Rattle.store.proofs.SoundLaws.{sized_at}
use Rattle.image.specs.Parts.{part}
use Rattle.image.specs.Images.{record_bytes, width_at, segments_at, cluster_in}
use Rattle.image.specs.inner.Claims.{places_in}
use Rattle.image.proofs.ClaimLaws.{stamped_same, placed_is}

-- ---- the three widths

pub low_width : (w : ℕ) → is_width w ≡ true → w ≤ 16
low_width w e = go (eqb w 4) refl (eqb w 8) refl e
  where
    go : (x : Bool) → eqb w 4 ≡ x → (y : Bool) → eqb w 8 ≡ y → (x || (y || eqb w 16)) ≡ true → w ≤ 16
    go true p y r e = let z = eqb-true w 4 p in omega arith
    go false p true r e = let z = eqb-true w 8 r in omega arith
    go false p false r e = let z = eqb-true w 16 e in omega arith

pub width_low : (w : ℕ) (t : Bool) → t ≡ is_width w → not t ≡ false → w ≤ 16
width_low w t q e = low_width w (sym q ∙ not-false t e)

-- ---- turns that leave all as it is

turns_rest : {A : Type 0} (f : ℕ → A → A) (a : A) (w d : ℕ) → ((k : ℕ) → w ≤ k → k < w + d → (x : A) → f k x ≡ x)
    → turns (w + d) f a ≡ turns w f a
turns_rest f a w zero h = ap (λ (n : ℕ). turns n f a) (omega arith)
turns_rest f a w (suc d) h =
    ap (λ (n : ℕ). turns n f a) next
    ∙ turns_more (w + d) f a
    ∙ h (w + d) (omega arith) (omega arith) (turns (w + d) f a)
    ∙ turns_rest f a w d (λ k l b. h k l (omega arith))
  where
    next : w + suc d ≡ w + d + 1
    next = omega arith

absent_leaves : (p : Place) (map : Map) → is_absent p ≡ true → stamped p map ≡ map
unfolding stamped inside in_ranges ends_inside
absent_leaves None map e = refl
absent_leaves (Some span) map e = absurd (true≢false (sym e))

-- ---- the segments of a record

module _ (b : List ℕ) where
  abbrev table : List ℕ
  table = part b segments_at record_bytes

  -- none at or above the width
  pub upper_absent : sized (cluster_in b) ≡ true → (k : ℕ) → get_or b width_at 0 ≤ k → k < segments
      → is_absent (places_in (part b segments_at record_bytes) k) ≡ true
  unfolding cluster_in
  upper_absent z k l h =
      ap is_absent (sym (placed_is b k h))
      ∙ ap (λ (t : Bool). t || is_absent (place_of (table_of (cluster_in b)) k)) (sym (le-ltb k (get_or b width_at 0) l))
      ∙ sized_at (cluster_in b) z k h

  pub stamped_width : (before : Map) (w : ℕ) → w ≤ segments
      → ((k : ℕ) → w ≤ k → k < segments → is_absent (places_in (part b segments_at record_bytes) k) ≡ true)
      → stamped_by w (places_in (part b segments_at record_bytes)) before
      ≡ stamped_by segments (place_of (table_of (cluster_in b))) before
  unfolding stamped_by
  stamped_width before w low f =
      sym (ap (λ (n : ℕ). stamped_by n (places_in table) before) full
      ∙ turns_rest (λ k. stamped (places_in table k)) before w (segments - w) (λ k l h x.
      absent_leaves (places_in table k) x (f k l (omega (arith, low)))))
      ∙ sym (stamped_same (place_of (table_of (cluster_in b))) (places_in table) before segments (placed_is b))
    where
      full : segments ≡ w + (segments - w)
      full = omega (arith, low)
