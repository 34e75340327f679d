-- Laws of marking, as the code does it. What does not lie inside the map does not lie inside the node's memory, and is
-- refused; any other place has its own bytes marked, and is told free exactly if none of them was. Segments, and the
-- clusters of a node, then have their turns one after the other.
-- Assumes nothing.
use mathlib.Core.Path.{◌≡◌, refl, sym, ap, ap₂, ◌∙◌, subst}
use mathlib.Core.Logic.{inl, inr}
use mathlib.Core.Bool.{Bool, true, false, not, ◌&&◌, ◌||◌, and-true}
use mathlib.Core.List.{List}
use Prim.Native.Nat.{ℕ, ◌+◌, ◌*◌, ◌≤◌, ◌<◌}
use native.Mathlib.Omega.{arith}
use lib.Dec.{leb, ltb}
use lib.ListN.{length, replicate}
use borrow.Author.Tests.{leb-true, leb-false, ltb-true, ltb-false, lt-ltb, le-leb, not-true}
use Rattle.loops.specs.Below.{every}
use Rattle.loops.proofs.BelowLaws.{and_left, and_right, and_both, tests_equal}
use Rattle.loops.proofs.RunningLaws.{Running, running_none, running_more, running_all}
use Rattle.loops.proofs.TurnLaws.{Turning, turning_none, turning_more, turning_all}
use Rattle.spans.specs.Spans.{word_bits, marks, within, Stamped, Marked}
use Rattle.spans.proofs.SpanLaws.{marks_none}
use Rattle.store.specs.Places.{Place, None, present_at}
use Rattle.store.specs.declared.Segment.{Segment}
use Rattle.store.specs.declared.Cluster.{Cluster}
use Rattle.store.specs.declared.Store.{Store}
use Rattle.sizes.specs.Sizes.{clusters, segments}
use Rattle.store.specs.Records.{table_of, record_of, cluster_at, table_at, segment_of, segment_on, place_of, place_on}
use Rattle.store.specs.Sound.{inside, in_ranges, ends_inside, sound_mark, sound_segment, settled}
use Rattle.store.specs.inner.Passes.{Map, map_words, holds, free, stamped, claimable, stamped_by, claims}
use Rattle.store.specs.inner.Passes.{Claimed, ClaimedAll, blank, node_map, cluster_sound}
use Rattle.store.proofs.PlaceLaws.{inside_in, inside_out, holds_in, holds_out}
use Rattle.store.proofs.MapLaws.{free_in, free_out}
use Rattle.store.proofs.SoundLaws.{segment_present_lem}

-- ---- one place

pub claim_absent : (g : Segment) (map : Map) → g.place ≡ None → Claimed g map (not g.frozen) map
unfolding claimable sound_segment sound_mark stamped inside in_ranges ends_inside free
claim_absent g map e = rw e (record { told = sym (and-true (not g.frozen)); left = refl })

module _ (base size : ℕ) (ws : List ℕ) (r : Bool) (after : List ℕ) where
  abbrev here : Place
  here = present_at base size

  within_inside : within base (base + size) map_words ≡ inside here
  unfolding within
  within_inside =
      tests_equal (within base (base + size) map_words) (inside here)
      (λ e.
      let some = ltb-true base (base + size) (and_left (ltb base (base + size)) (leb (base + size) (map_words * word_bits)) e) in
      let ends = leb-true (base + size) (map_words * word_bits) (and_right (ltb base (base + size)) (leb (base + size) (map_words * word_bits)) e) in
      inside_in base size (record { some = omega arith; ends = ends }))
      (λ e.
      let i = inside_out base size e in
      and_both (ltb base (base + size)) (leb (base + size) (map_words * word_bits)) (lt-ltb base (base + size) (omega arith))
      (le-leb (base + size) (map_words * word_bits) i.ends))

  module _ (s : Stamped base (base + size) ws r after) where
    told_free : r ≡ free here (marks ws)
    told_free =
        tests_equal r (free here (marks ws))
        (λ t. free_in here (marks ws)
        (λ x h. let o = holds_out x base size h in ap not (s.told t x o.from o.below)))
        (λ f. s.tells (λ x h k. not-true (marks ws x) (free_out here (marks ws) x f (holds_in x base size h k))))

    marked : (x : ℕ) (t : Bool) → leb base x ≡ t → (u : Bool) → ltb x (base + size) ≡ u
        → marks after x ≡ (t && u || marks ws x)
    marked x true p true q = s.set x (leb-true base x p) (ltb-true x (base + size) q)
    marked x true p false q = s.kept x (inr (ltb-false x (base + size) q))
    marked x false p u q = s.kept x (inl (leb-false base x p))

  pub claim_mark : (g : Segment) → g.place ≡ present_at base size → length ws ≡ map_words → Marked base (base + size) ws r after
      → Claimed g (marks ws) r (marks after)
  unfolding claimable stamped
  claim_mark g e long m =
      let c = go (inside here) refl in
      record {
        told = c.0 ∙ ap₂ (λ (t : Bool) (p : Place). t && free p (marks ws)) (sym (segment_present_lem g base size e)) (sym e);
        left = c.1 ∙ ap (λ (p : Place). stamped p (marks ws)) (sym e);
      }
    where
      tested : within base (base + size) (length ws) ≡ inside here
      tested = ap (within base (base + size)) long ∙ within_inside

      go : (t : Bool) → inside here ≡ t
          → (r ≡ inside here && free here (marks ws)) × (marks after ≡ stamped here (marks ws))
      go true on =
          let s = m.inside (tested ∙ on) in (
            told_free s ∙ ap (λ (t : Bool). t && free here (marks ws)) (sym on),
            λ j x.
                (marked s x (leb base x) refl (ltb x (base + size)) refl
                ∙ ap (λ (t : Bool). t && holds x here || marks ws x) (sym on)) j,
          )
      go false off =
          let o = m.outside (tested ∙ off) in (
            o.0 ∙ ap (λ (t : Bool). t && free here (marks ws)) (sym off),
            λ j x.
                (ap (λ (l : List ℕ). marks l x) o.1 ∙ ap (λ (t : Bool). t && holds x here || marks ws x) (sym off)) j,
          )

-- ---- the segments of a cluster

-- the places of i segments had their turn: `ok` tells whether each was claimable then
pub record Claiming (c : Cluster) (before : Map) (i : ℕ) (ok : Bool) (map : Map) : Type 0 where
  pub told : Running segments (λ k. claimable (segment_of (table_of c) k) (stamped_by k (place_of (table_of c)) before)) i ok
  pub left : Turning segments (λ k. stamped (place_of (table_of c) k)) before i map

pub claiming_none : (c : Cluster) (before : Map) → Claiming c before 0 true before
claiming_none c before = record { told = running_none _ _; left = turning_none _ _ _ }

module _ (c : Cluster) (before : Map) (i : ℕ) (ok : Bool) (map : Map) (w : Claiming c before i ok map) where
  pub claiming_more : (r : Bool) (after : Map) → i < segments
      → Claimed (segment_of (table_of c) i) map r after
      → Claiming c before (i + 1) (r && ok) after
  unfolding stamped_by
  claiming_more r after h e =
      record {
        told =
            running_more _ _ i ok w.told r h
            (e.told ∙ ap (λ (m : Map). claimable (segment_of (table_of c) i) m) w.left.told);
        left = turning_more _ _ before i map w.left after h e.left;
      }

  pub claiming_all : segments ≤ i → ClaimedAll c before ok map
  unfolding claims stamped_by
  claiming_all h =
      record { told = running_all _ _ i ok w.told h; left = turning_all _ _ before i map w.left h }

-- ---- the clusters of a node

-- the map has the segments of l clusters
pub record Filled (s : Store) (node l : ℕ) (map : Map) : Type 0 where
  pub turned : Turning clusters (λ m. stamped_by segments (place_on (table_at s) node m)) blank l map

pub filled_none : (s : Store) (node : ℕ) → Filled s node 0 (marks (replicate map_words 0))
filled_none s node =
    subst (λ (m : Map). Filled s node 0 m) (λ j x. sym (marks_none map_words x) j) (record { turned = turning_none _ _ _ })

module _ (s : Store) (node l : ℕ) (map : Map) (w : Filled s node l map) where
  pub filled_more : (b : Bool) (after : Map) → l < clusters → ClaimedAll (cluster_at s (record_of node l)) map b after
      → Filled s node (l + 1) after
  filled_more b after h f = record { turned = turning_more _ _ blank l map w.turned after h f.left }

  pub filled_all : clusters ≤ l → map ≡ node_map (table_at s) node clusters
  unfolding node_map
  filled_all h = turning_all _ _ blank l map w.turned h

-- and `ok` tells whether each was sound in its turn
pub record Passing (s : Store) (node l : ℕ) (ok : Bool) (map : Map) : Type 0 where
  pub told : Running clusters (cluster_sound s node) l ok
  pub left : Filled s node l map

pub passing_none : (s : Store) (node : ℕ) → Passing s node 0 true (marks (replicate map_words 0))
passing_none s node = record { told = running_none _ _; left = filled_none s node }

module _ (s : Store) (node l : ℕ) (ok : Bool) (map : Map) (w : Passing s node l ok map) where
  pub passing_more : (a b : Bool) (after : Map) → l < clusters
      → a ≡ settled (cluster_at s (record_of node l))
      → ClaimedAll (cluster_at s (record_of node l)) map b after
      → Passing s node (l + 1) (a && b && ok) after
  unfolding cluster_sound node_map
  passing_more a b after h e f =
      record {
        told =
            running_more _ _ l ok w.told (a && b) h
            (ap (λ (x : Bool). x && b) e
            ∙ ap (λ (x : Bool). settled (cluster_at s (record_of node l)) && x)
            (f.told ∙ ap (λ (m : Map). claims segments (segment_on (table_at s) node l) m) w.left.turned.told));
        left = filled_more s node l map w.left b after h f;
      }

  pub passing_all : clusters ≤ l → ok ≡ every clusters (cluster_sound s node)
  passing_all h = running_all _ _ l ok w.told h
