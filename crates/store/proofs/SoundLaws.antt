-- Soundness as facts: one law out of it, `sound_out`, and one into it, `sound_in_lem`, clause by clause; no other law looks
-- inside `sound`. The starting store is sound: every record in it is inactive and every segment absent.
-- Assumes nothing.
use mathlib.Core.Path.{◌≡◌, refl, sym, ap, ap₂, ◌∙◌}
use mathlib.Core.Logic.{◌≢◌, ◌⊎◌, inl, inr}
use mathlib.Core.Bool.{Bool, true, false, not, ◌&&◌, ◌||◌, or-true, and-true}
use Prim.Native.Nat.{ℕ, ◌<◌}
use native.Mathlib.Omega.{arith}
use native.Mathlib.Decide.{ℕ_discrete}
use lib.Dec.{ltb, eqb}
use lib.ListN.{get_or-replicate}
use borrow.Author.Tests.{eqb-true, eq-eqb}
use Rattle.loops.specs.Below.{every}
use Rattle.loops.proofs.BelowLaws.{and_left, and_right, and_both, every_in, every_at, every_pair_in, every_pair_at}
use Rattle.store.specs.Places.{Place, None, present_at}
use Rattle.store.specs.declared.Segment.{Segment}
use Rattle.store.specs.declared.Cluster.{Cluster}
use Rattle.store.specs.declared.Store.{Store}
use Rattle.sizes.specs.Sizes.{nodes, clusters, segments, records, memory}
use Rattle.store.specs.Records.{absent_segment, inactive, starting_store}
use Rattle.store.specs.Records.{table_of, record_of, no_cluster, cluster_at, table_at, segment_of, place_of, place_on}
use Rattle.store.specs.Sound.{in_ranges, ends_inside, inside, is_absent, sound_mark, sound_segment, apart, node_apart}
use Rattle.store.specs.Sound.{zero_bytes, idle, sound_width, allowed, below, sized, settled, sound}

-- the facts of soundness, in the order of its clauses
pub record Sound (s : Store) (size : ℕ) : Type 0 where
  pub whole : size ≡ memory
  pub ranged : (n i : ℕ) → n < records → i < segments → sound_segment (segment_of (table_at s n) i) ≡ true
  pub apartness : (node l i m j : ℕ) → node < nodes → l < clusters → i < segments → m < clusters → j < segments
      → (l ≢ m) ⊎ (i ≢ j) → apart (place_on (table_at s) node l i) (place_on (table_at s) node m j) ≡ true
  pub settling : (n : ℕ) → n < records → settled (cluster_at s n) ≡ true

-- a segment that is sound by itself lies inside its node's memory
pub segment_inside : (g : Segment) → sound_segment g ≡ true → inside g.place ≡ true
unfolding sound_segment
segment_inside g e = and_left (inside g.place) (sound_mark g) e

-- and is not frozen if it is absent
pub segment_mark : (g : Segment) → sound_segment g ≡ true → sound_mark g ≡ true
unfolding sound_segment
segment_mark g e = and_right (inside g.place) (sound_mark g) e

-- of a present one the mark is not asked
pub present_mark : (g : Segment) → is_absent g.place ≡ false → sound_mark g ≡ true
unfolding sound_mark
present_mark g e = ap (λ (t : Bool). not (t && g.frozen)) e

pub segment_present_lem : (g : Segment) (base length : ℕ) → g.place ≡ present_at base length
    → sound_segment g ≡ inside (present_at base length)
unfolding sound_segment
segment_present_lem g base length e =
    ap₂ (λ (p : Place) (t : Bool). inside p && t) e (present_mark g (ap is_absent e)) ∙ and-true (inside (present_at base length))

-- the width that the code's test of the active byte asks for
pub sound_width_lem : (active b : Bool) (w : ℕ) → active ≡ b → sound_width b w ≡ sound_width active w
sound_width_lem active b w e = ap (λ (t : Bool). sound_width t w) (sym e)

pub settled_active : (c : Cluster) → c.active ≡ true → sized c ≡ true → settled c ≡ true
unfolding settled
settled_active c e z = ap₂ (λ (t u : Bool). (t || idle c) && u) e z

pub sized_settled : (c : Cluster) → settled c ≡ true → sized c ≡ true
unfolding settled
sized_settled c e = and_right (c.active || idle c) (sized c) e

-- what an inactive cluster is, and the width of one that is active or not
module _ (c : Cluster) (e : settled c ≡ true) where
  pub settled_idle : c.active ≡ false → idle c ≡ true
  unfolding settled
  settled_idle q = ap (λ (b : Bool). b || idle c) (sym q) ∙ and_left (c.active || idle c) (sized c) e

  pub settled_width : (b : Bool) → c.active ≡ b → sound_width b c.width ≡ true
  unfolding sized
  settled_width b q =
      sound_width_lem c.active b c.width q
      ∙ and_left (sound_width c.active c.width) (below c) (sized_settled c e)

-- segment i of a record that is sized
pub sized_at : (c : Cluster) → sized c ≡ true → (i : ℕ) → i < segments → allowed (place_of (table_of c) i) i c.width ≡ true
unfolding sized below
sized_at c z i h =
    every_at segments (λ i. allowed (place_of (table_of c) i) i c.width)
    (and_right (sound_width c.active c.width) (below c) z) i h

-- what the width allows: an absent segment anywhere, any below it
module _ (p : Place) (i w : ℕ) where
  pub allowed_absent : p ≡ None → allowed p i w ≡ true
  allowed_absent e = ap (λ (q : Place). allowed q i w) e ∙ or-true (ltb i w)

  pub allowed_below : ltb i w ≡ true → allowed p i w ≡ true
  allowed_below e = ap (λ (t : Bool). t || is_absent p) e

pub settled_inactive : settled inactive ≡ true
unfolding settled sized below idle zero_bytes every
settled_inactive = refl

-- ---- out of soundness, and into it

module _ (s : Store) (size : ℕ) where
  -- the four clauses
  one : Bool
  one = eqb size memory

  segment : ℕ → ℕ → Bool
  segment n i = sound_segment (segment_of (table_at s n) i)

  two : Bool
  two = every records (λ n. every segments (segment n))

  three : Bool
  three = every nodes (node_apart (table_at s))

  four : Bool
  four = every records (λ n. settled (cluster_at s n))

  -- a pair of the third clause: one segment, or two apart
  pair : ℕ → ℕ → ℕ → ℕ → ℕ → Bool
  pair node l i m j = eqb l m && eqb i j || apart (place_on (table_at s) node l i) (place_on (table_at s) node m j)

  pair_out : (node l i m j : ℕ) → (l ≢ m) ⊎ (i ≢ j) → pair node l i m j ≡ true
      → apart (place_on (table_at s) node l i) (place_on (table_at s) node m j) ≡ true
  unfolding pair
  pair_out node l i m j d e = go (eqb l m && eqb i j) refl e
    where
      go : (t : Bool) → (eqb l m && eqb i j) ≡ t
          → (t || apart (place_on (table_at s) node l i) (place_on (table_at s) node m j)) ≡ true
          → apart (place_on (table_at s) node l i) (place_on (table_at s) node m j) ≡ true
      go false q e = e
      go true q e = absurd (differ d)
        where
          differ : (l ≢ m) ⊎ (i ≢ j) → ⊥
          differ (inl n) = n (eqb-true l m (and_left (eqb l m) (eqb i j) q))
          differ (inr n) = n (eqb-true i j (and_right (eqb l m) (eqb i j) q))

  pub sound_out : sound s size ≡ true → Sound s size
  unfolding sound node_apart one segment two three four pair
  sound_out e =
      record {
        whole = eqb-true size memory (and_left one two first);
        ranged = λ n i. every_pair_at records segments segment (and_right one two first) n i;
        apartness = λ node l i m j hv hl hi hm hj d.
            pair_out node l i m j d
            (every_pair_at clusters segments (pair node l i)
            (every_pair_at clusters segments (λ l i. every clusters (λ m. every segments (pair node l i m)))
            (every_at nodes (node_apart (table_at s)) (and_right (one && two) three front) node hv) l i hl hi) m j hm hj);
        settling = every_at records (λ n. settled (cluster_at s n)) (and_right (one && two && three) four e);
      }
    where
      front : (one && two && three) ≡ true
      front = and_left (one && two && three) four e

      first : (one && two) ≡ true
      first = and_left (one && two) three front

  pair_in : Sound s size → (node l i m j : ℕ) → node < nodes → l < clusters → i < segments → m < clusters → j < segments
      → pair node l i m j ≡ true
  unfolding pair
  pair_in r node l i m j hv hl hi hm hj = go (ℕ_discrete l m) (ℕ_discrete i j)
    where
      other : (l ≢ m) ⊎ (i ≢ j) → pair node l i m j ≡ true
      other d =
          ap (λ (t : Bool). eqb l m && eqb i j || t) (r.apartness node l i m j hv hl hi hm hj d)
          ∙ or-true (eqb l m && eqb i j)

      go : Dec (l ≡ m) → Dec (i ≡ j) → pair node l i m j ≡ true
      go (yes p) (yes q) = rw (eq-eqb l m p, eq-eqb i j q)
      go (no p) d = other (inl p)
      go (yes p) (no q) = other (inr q)

  pub sound_in_lem : Sound s size → sound s size ≡ true
  unfolding sound node_apart one segment two three four pair
  sound_in_lem r =
      and_both (one && two && three) four
      (and_both (one && two) three
      (and_both one two (eq-eqb size memory r.whole) (every_pair_in records segments segment r.ranged))
      (every_in nodes (node_apart (table_at s)) (λ node hv.
      every_pair_in clusters segments (λ l i. every clusters (λ m. every segments (pair node l i m))) (λ l i hl hi.
      every_pair_in clusters segments (pair node l i) (λ m j hm hj. pair_in r node l i m j hv hl hi hm hj)))))
      (every_in records (λ n. settled (cluster_at s n)) r.settling)

-- ---- the starting store

pub sound_starting : sound starting_store memory ≡ true
unfolding sound_segment sound_mark inside in_ranges ends_inside apart
sound_starting =
    sound_in_lem starting_store memory (record {
      whole = refl;
      ranged = λ n i hn hi. ap sound_segment (vacant n i hn hi);
      apartness = λ node l i m j hv hl hi hm hj d.
          ap (λ (g : Segment). apart g.place (place_on (table_at starting_store) node m j))
          (vacant (record_of node l) i (omega arith) hi);
      settling = λ n hn. ap settled (record_at_lem n hn) ∙ settled_inactive;
    })
  where
    record_at_lem : (n : ℕ) → n < records → cluster_at starting_store n ≡ inactive
    record_at_lem n h = get_or-replicate records n inactive no_cluster h

    vacant : (n i : ℕ) → n < records → i < segments → segment_of (table_at starting_store n) i ≡ absent_segment
    vacant n i h k =
        ap (λ (c : Cluster). segment_of (table_of c) i) (record_at_lem n h)
        ∙ get_or-replicate segments i absent_segment absent_segment k
