-- The code's test is soundness. Where every segment was claimable in its turn, all lie inside, and of two segments the
-- later was free of the earlier, so they are apart; where all lie inside and are apart, no byte of a segment is marked
-- when its turn comes.
-- Assumes nothing.
use mathlib.Core.Path.{◌≡◌, refl, ap, ◌∙◌, subst}
use mathlib.Core.Logic.{◌≢◌, ◌⊎◌, inl, inr}
use mathlib.Core.Bool.{Bool, true, false, ◌&&◌}
use Prim.Native.Nat.{ℕ, ◌/◌, ◌%◌, ◌≤◌, ◌<◌}
use native.Mathlib.Omega.{arith}
use lib.Dec.{ltb, eqb}
use borrow.Author.Tests.{ltb-true, ltb-false, eqb-true, eq-eqb}
use Rattle.loops.specs.Below.{every}
use Rattle.loops.proofs.BelowLaws.{and_left, and_right, and_both, tests_equal}
use Rattle.loops.proofs.BelowLaws.{every_in, every_at, every_pair_in, every_pair_at}
use Rattle.loops.proofs.RunningLaws.{Running, running_all}
use Rattle.store.specs.Places.{Place}
use Rattle.store.specs.declared.Segment.{Segment}
use Rattle.store.specs.declared.Store.{Store}
use Rattle.sizes.specs.Sizes.{nodes, clusters, segments, memory}
use Rattle.store.specs.Records.{record_of, cluster_at, table_at, segment_of, segment_on, place_on}
use Rattle.store.specs.Sound.{inside, sound_segment, apart, settled, sound}
use Rattle.store.specs.inner.Passes.{free, claimable, claims, node_map, cluster_sound}
use Rattle.store.proofs.PlaceLaws.{apart_sym}
use Rattle.store.proofs.MapLaws.{map_at, Before, beside, above, unmarked_out, unmarked_in}
use Rattle.store.proofs.MapLaws.{free_apart, free_in, apart_leaves}
use Rattle.store.proofs.SoundLaws.{Sound, segment_inside, sound_out, sound_in_lem}

-- what the code works out
abbrev tested : Store → ℕ → Bool
tested s size = eqb size memory && every nodes (λ node. every clusters (cluster_sound s node))

module _ (s : Store) (size : ℕ) where
  abbrev place : ℕ → ℕ → ℕ → Place
  place node l i = place_on (table_at s) node l i

  abbrev segment : ℕ → ℕ → ℕ → Segment
  segment node l i = segment_on (table_at s) node l i

  -- ---- from the code's test to the facts

  module _ (e : tested s size ≡ true) where
    cluster : (node l : ℕ) → node < nodes → l < clusters → cluster_sound s node l ≡ true
    cluster =
        every_pair_at nodes clusters (cluster_sound s)
        (and_right (eqb size memory) (every nodes (λ node. every clusters (cluster_sound s node))) e)

    module _ (node l i : ℕ) (hv : node < nodes) (hl : l < clusters) (hi : i < segments) where
      claimed : (sound_segment (segment node l i) && free (place node l i) (map_at (table_at s) node l i)) ≡ true
      unfolding cluster_sound claims claimable map_at
      claimed =
          every_at segments (λ i. claimable (segment node l i) (map_at (table_at s) node l i))
          (and_right (settled (cluster_at s (record_of node l)))
          (claims segments (segment_on (table_at s) node l) (node_map (table_at s) node l))
          (cluster node l hv hl)) i hi

      claimed_sound : sound_segment (segment node l i) ≡ true
      claimed_sound = and_left (sound_segment (segment node l i)) (free (place node l i) (map_at (table_at s) node l i)) claimed

      claimed_inside : inside (place node l i) ≡ true
      claimed_inside = segment_inside (segment node l i) claimed_sound

      claimed_free : free (place node l i) (map_at (table_at s) node l i) ≡ true
      claimed_free = and_right (sound_segment (segment node l i)) (free (place node l i) (map_at (table_at s) node l i)) claimed

    apart_before : (node l i m j : ℕ) → node < nodes → l < clusters → i < segments → m < clusters → j < segments
        → Before l i m j → apart (place node l i) (place node m j) ≡ true
    apart_before node l i m j hv hl hi hm hj b =
        free_apart (place node l i) (place node m j) (map_at (table_at s) node l i)
        (claimed_inside node l i hv hl hi) (claimed_inside node m j hv hm hj) (claimed_free node l i hv hl hi)
        (λ x u. unmarked_out (table_at s) node l i m j x u b)

    ordered : (l i m j : ℕ) → i < segments → j < segments → (l ≢ m) ⊎ (i ≢ j) → Before l i m j ⊎ Before m j l i
    ordered l i m j hi hj d = go (ltb m l) refl (ltb l m) refl (ltb j i) refl
      where
        go : (t : Bool) → ltb m l ≡ t → (u : Bool) → ltb l m ≡ u → (v : Bool) → ltb j i ≡ v
            → Before l i m j ⊎ Before m j l i
        go true t u p v q = inl (above (ltb-true m l t) hj)
        go false t true p v q = inr (above (ltb-true l m p) hi)
        go false t false p true q =
            let a = ltb-false m l t in
            let b = ltb-false l m p in
            inl (beside (omega arith) (ltb-true j i q))
        go false t false p false q = inr (beside same (less d))
          where
            same : l ≡ m
            same = let a = ltb-false m l t in let b = ltb-false l m p in omega arith

            less : (l ≢ m) ⊎ (i ≢ j) → i < j
            less (inl n) = absurd (n same)
            less (inr n) = let c = ltb-false j i q in omega arith

    -- a record of the store, by its node and local number
    split : (n : ℕ) → record_of (n / clusters) (n % clusters) ≡ n
    split n = omega arith

    tested_sound : Sound s size
    unfolding cluster_sound
    tested_sound =
        record {
          whole = eqb-true size memory (and_left (eqb size memory) _ e);
          ranged = λ n i hn hi.
              subst (λ (k : ℕ). sound_segment (segment_of (table_at s k) i) ≡ true) (split n)
              (claimed_sound (n / clusters) (n % clusters) i (omega arith) (omega arith) hi);
          apartness = λ node l i m j hv hl hi hm hj d. either node l i m j hv hl hi hm hj (ordered l i m j hi hj d);
          settling = λ n hn.
              subst (λ (k : ℕ). settled (cluster_at s k) ≡ true) (split n)
              (and_left (settled (cluster_at s (record_of (n / clusters) (n % clusters)))) _
              (cluster (n / clusters) (n % clusters) (omega arith) (omega arith)));
        }
      where
        either : (node l i m j : ℕ) → node < nodes → l < clusters → i < segments → m < clusters → j < segments
            → Before l i m j ⊎ Before m j l i → apart (place node l i) (place node m j) ≡ true
        either node l i m j hv hl hi hm hj (inl b) = apart_before node l i m j hv hl hi hm hj b
        either node l i m j hv hl hi hm hj (inr b) =
            apart_sym (place node l i) (place node m j) ∙ apart_before node m j l i hv hm hj hl hi b

  -- ---- from the facts to the code's test

  module _ (r : Sound s size) where
    sound_segment_lem : (node l i : ℕ) → node < nodes → l < clusters → i < segments → sound_segment (segment node l i) ≡ true
    sound_segment_lem node l i hv hl hi = r.ranged (record_of node l) i (omega arith) hi

    sound_free : (node l i : ℕ) → node < nodes → l < clusters → i < segments
        → free (place node l i) (map_at (table_at s) node l i) ≡ true
    sound_free node l i hv hl hi =
        free_in (place node l i) (map_at (table_at s) node l i)
        (λ x o. unmarked_in (table_at s) node l i x
        (λ m j b. apart_leaves (place node l i) (place node m j) x (earlier m j b) o))
      where
        earlier : (m j : ℕ) → Before l i m j → apart (place node l i) (place node m j) ≡ true
        earlier m j (beside q k) =
            r.apartness node l i m j hv hl hi (omega arith) (omega arith) (inr (λ p. omega arith))
        earlier m j (above k t) = r.apartness node l i m j hv hl hi (omega arith) t (inl (λ p. omega arith))

    sound_tested : tested s size ≡ true
    unfolding cluster_sound claims claimable map_at
    sound_tested =
        and_both (eqb size memory) _ (eq-eqb size memory r.whole)
        (every_pair_in nodes clusters (cluster_sound s) (λ node l hv hl.
        and_both (settled (cluster_at s (record_of node l))) _ (r.settling (record_of node l) (omega arith))
        (every_in segments (λ i. claimable (segment node l i) (map_at (table_at s) node l i)) (λ i hi.
        and_both (sound_segment (segment node l i)) _ (sound_segment_lem node l i hv hl hi) (sound_free node l i hv hl hi)))))

  tested_is : tested s size ≡ sound s size
  tested_is =
      tests_equal (tested s size) (sound s size)
      (λ e. sound_in_lem s size (tested_sound e))
      (λ e. sound_tested (sound_out s size e))

  -- the code's loop over the nodes has come to its end
  pub tested_told : (node : ℕ) (ok : Bool) → Running nodes (λ v. every clusters (cluster_sound s v)) node ok
      → nodes ≤ node → (eqb size memory && ok) ≡ sound s size
  tested_told node ok r h = ap (λ (t : Bool). eqb size memory && t) (running_all _ _ node ok r h) ∙ tested_is
