-- Soundness after a change of one record. Each segment of the new record lies where it lay, or is absent, or is the one
-- new segment, which lies inside and is apart from all segments of its node: so any two are apart again.
-- Assumes nothing.
use mathlib.Core.Path.{◌≡◌, refl, sym, ap, ◌∙◌, subst}
use mathlib.Core.Logic.{◌≢◌, ◌⊎◌, inl, inr}
use mathlib.Core.Bool.{true, false}
use mathlib.Core.List.{List}
use mathlib.Core.Option.{some}
use Prim.Native.Nat.{ℕ, ◌≤◌, ◌<◌}
use native.Mathlib.Omega.{arith}
use lib.Dec.{ltb}
use Rattle.loops.proofs.BelowLaws.{and_left, and_both, every_in}
use native.Mathlib.Decide.{ℕ_discrete, dec_lt}
use lib.ListN.{length, get_or, set, replicate, get_or-replicate}
use lib.Seq.{get_or-set_same, get_or-set_other, set_out}
use Rattle.store.specs.Places.{Place, None, present_at}
use Rattle.store.specs.declared.Segment.{Segment}
use Rattle.store.specs.declared.Cluster.{Cluster}
use Rattle.store.specs.declared.Store.{Store}
use Rattle.sizes.specs.Sizes.{nodes, clusters, segments, records}
use Rattle.store.specs.Records.{segment_at, absent_segment, inactive, started}
use Rattle.store.specs.Records.{Table, Tables, table_of, record_of, no_cluster, cluster_at, table_at}
use Rattle.store.specs.Records.{segment_of, place_of, place_at, place_on}
use Rattle.store.specs.Records.{put_record, with_segment, with_place, with_mark}
use Rattle.store.specs.Sound.{in_ranges, ends_inside, inside, is_absent, sound_mark, sound_segment, apart, settled, sound}
use Rattle.store.specs.Sound.{is_width, sound_width, allowed, below, sized}
use Rattle.store.specs.Placement.{new_base}
use Rattle.store.proofs.PlaceLaws.{apart_sym}
use Rattle.store.proofs.PlacementLaws.{new_base_fits}
use Rattle.store.proofs.SoundLaws.{Sound, segment_inside, segment_mark, segment_present_lem, present_mark, sound_out, sound_in_lem}
use Rattle.store.proofs.SoundLaws.{settled_active, settled_inactive, sized_settled, sized_at, allowed_absent, allowed_below}

-- ---- one record replaced

module _ (s : Store) (n : ℕ) (c : Cluster) where
  pub put_other : (m : ℕ) → m ≢ n → cluster_at (put_record s n c) m ≡ cluster_at s m
  put_other m h = get_or-set_other s.clusters n m c no_cluster h

  pub put_same : n < length s.clusters → cluster_at (put_record s n c) n ≡ c
  put_same h = get_or-set_same s.clusters n c no_cluster h

  pub put_out : length s.clusters ≤ n → put_record s n c ≡ s
  put_out h = ap (λ (l : List Cluster). record { clusters = l }) (set_out s.clusters n c h)

-- ---- the width of a record

-- a new cluster of one of the three widths
pub sized_started : (w : ℕ) (read write : List ℕ) → is_width w ≡ true → sized (started w read write) ≡ true
unfolding sized below
sized_started w read write e =
    and_both (is_width w) (below (started w read write)) e
    (every_in segments _ (λ i h.
    allowed_absent _ i w (ap (λ (g : Segment). g.place) (get_or-replicate segments i absent_segment absent_segment h))))

-- another segment in its place, which the width allows
pub sized_with : (c : Cluster) (i : ℕ) (g : Segment) → sized c ≡ true
    → (i < segments → allowed g.place i c.width ≡ true) → sized (with_segment c i g) ≡ true
unfolding sized below
sized_with c i g z t =
    and_both (sound_width c.active c.width) (below (with_segment c i g))
    (and_left (sound_width c.active c.width) (below c) z)
    (every_in segments _ (λ k h. go k h (ℕ_discrete k i) (dec_lt i (length c.segments))))
  where
    go : (k : ℕ) → k < segments → Dec (k ≡ i) → Dec (i < length c.segments)
        → allowed (place_of (table_of (with_segment c i g)) k) k c.width ≡ true
    go k h (no q) d =
        ap (λ (x : Segment). allowed x.place k c.width) (get_or-set_other c.segments i k g absent_segment q)
        ∙ sized_at c z k h
    go k h (yes q) (no d) =
        ap (λ (l : List Segment). allowed (get_or l k absent_segment).place k c.width)
        (set_out c.segments i g (omega arith))
        ∙ sized_at c z k h
    go k h (yes q) (yes d) =
        ap (λ (x : ℕ). allowed (get_or (set c.segments i g) x absent_segment).place x c.width) q
        ∙ ap (λ (x : Segment). allowed x.place i c.width) (get_or-set_same c.segments i g absent_segment d)
        ∙ t (subst (λ (x : ℕ). x < segments) q h)

-- how segment i of a new record at n comes about, where segment new may be another
data Fate (s : Store) (node n new i : ℕ) (g : Segment) : Type 0 where
  kept : g.place ≡ place_at (table_at s) n i → sound_mark g ≡ true → Fate s node n new i g
  gone : g ≡ absent_segment → Fate s node n new i g
  fresh : i ≡ new → sound_segment g ≡ true
      → ((m j : ℕ) → m < clusters → j < segments → apart g.place (place_on (table_at s) node m j) ≡ true)
      → Fate s node n new i g

absent_apart : (p : Place) → apart p None ≡ true
unfolding apart
absent_apart p = apart_sym p None

module _ (s : Store) (size : ℕ) (r : Sound s size) (node local new : ℕ) (hv : node < nodes) (hl : local < clusters) where
  abbrev n : ℕ
  n = record_of node local

  fate_sound : (i : ℕ) (g : Segment) → i < segments → Fate s node n new i g → sound_segment g ≡ true
  unfolding sound_segment sound_mark inside in_ranges ends_inside
  fate_sound i g hi (kept e m) =
      and_both (inside g.place) (sound_mark g)
      (ap inside e ∙ segment_inside (segment_of (table_at s n) i) (r.ranged n i (omega arith) hi)) m
  fate_sound i g hi (gone e) = ap sound_segment e
  fate_sound i g hi (fresh q t f) = t

  fate_other : (i m j : ℕ) (g : Segment) → i < segments → m < clusters → j < segments → m ≢ local
      → Fate s node n new i g → apart g.place (place_on (table_at s) node m j) ≡ true
  unfolding apart
  fate_other i m j g hi hm hj d (kept e k) = rw e (r.apartness node local i m j hv hl hi hm hj (inl (λ q. d (sym q))))
  fate_other i m j g hi hm hj d (gone e) = rw e refl
  fate_other i m j g hi hm hj d (fresh q t f) = f m j hm hj

  fate_own : (i j : ℕ) (g h : Segment) → i < segments → j < segments → i ≢ j
      → Fate s node n new i g → Fate s node n new j h → apart g.place h.place ≡ true
  unfolding apart
  fate_own i j g h hi hj d (gone e) w = rw e refl
  fate_own i j g h hi hj d (kept e k) (gone e') = rw e' (absent_apart g.place)
  fate_own i j g h hi hj d (fresh q t f) (gone e) = rw e (absent_apart g.place)
  fate_own i j g h hi hj d (kept e k) (kept e' k') = rw (e, e') (r.apartness node local i local j hv hl hi hl hj (inr d))
  fate_own i j g h hi hj d (kept e k) (fresh q t f) = rw e (apart_sym _ h.place ∙ f local i hl hi)
  fate_own i j g h hi hj d (fresh q t f) (kept e k) = rw e (f local j hl hj)
  fate_own i j g h hi hj d (fresh q t f) (fresh q' t' f') = absurd (d (q ∙ sym q'))

  module _ (c : Cluster) (calm : settled c ≡ true)
      (fates : (i : ℕ) → i < segments → Fate s node n new i (segment_of (table_of c) i)) where
    abbrev after : Tables
    after = table_at (put_record s n c)

    module _ (held : n < length s.clusters) where
      here : (k i : ℕ) → k ≡ n → segment_of (after k) i ≡ segment_of (table_of c) i
      here k i q =
          ap (λ (x : ℕ). segment_of (after x) i) q
          ∙ ap (λ (d : Cluster). segment_of (table_of d) i) (put_same s n c held)

      there : (k i : ℕ) → k ≢ n → segment_of (after k) i ≡ segment_of (table_at s k) i
      there k i q = ap (λ (d : Cluster). segment_of (table_of d) i) (put_other s n c k q)

      ranged_put : (k i : ℕ) → k < records → i < segments → sound_segment (segment_of (after k) i) ≡ true
      ranged_put k i hk hi = go (ℕ_discrete k n)
        where
          go : Dec (k ≡ n) → sound_segment (segment_of (after k) i) ≡ true
          go (yes q) = ap sound_segment (here k i q) ∙ fate_sound i (segment_of (table_of c) i) hi (fates i hi)
          go (no q) = ap sound_segment (there k i q) ∙ r.ranged k i hk hi

      settled_put : (k : ℕ) → k < records → settled (cluster_at (put_record s n c) k) ≡ true
      settled_put k hk = go (ℕ_discrete k n)
        where
          go : Dec (k ≡ n) → settled (cluster_at (put_record s n c) k) ≡ true
          go (yes q) =
              ap (λ (x : ℕ). settled (cluster_at (put_record s n c) x)) q ∙ ap settled (put_same s n c held) ∙ calm
          go (no q) = ap settled (put_other s n c k q) ∙ r.settling k hk

      apart_put : (v l i m j : ℕ) → v < nodes → l < clusters → i < segments → m < clusters → j < segments
          → (l ≢ m) ⊎ (i ≢ j) → apart (place_on after v l i) (place_on after v m j) ≡ true
      apart_put v l i m j bv bl bi bm bj d = go (ℕ_discrete (record_of v l) n) (ℕ_discrete (record_of v m) n)
        where
          from : (p q : Segment) → segment_of (after (record_of v l)) i ≡ p → segment_of (after (record_of v m)) j ≡ q
              → apart p.place q.place ≡ true → apart (place_on after v l i) (place_on after v m j) ≡ true
          from p q e f a =
              ap (λ (g : Segment). apart g.place (place_on after v m j)) e
              ∙ ap (λ (g : Segment). apart p.place g.place) f
              ∙ a

          mixed : (i m j : ℕ) → i < segments → m < clusters → j < segments → v ≡ node → m ≢ local
              → apart (place_of (table_of c) i) (place_on (table_at s) v m j) ≡ true
          mixed i m j bi bm bj e u =
              ap (λ (x : ℕ). apart (place_of (table_of c) i) (place_on (table_at s) x m j)) e
              ∙ fate_other i m j (segment_of (table_of c) i) bi bm bj u (fates i bi)

          go : Dec (record_of v l ≡ n) → Dec (record_of v m ≡ n) → apart (place_on after v l i) (place_on after v m j) ≡ true
          go (no p) (no q) = from _ _ (there _ i p) (there _ j q) (r.apartness v l i m j bv bl bi bm bj d)
          go (yes p) (yes q) =
              from _ _ (here _ i p) (here _ j q) (fate_own i j _ _ bi bj (other d) (fates i bi) (fates j bj))
            where
              other : (l ≢ m) ⊎ (i ≢ j) → i ≢ j
              other (inl u) = absurd (u (omega arith))
              other (inr u) = u
          go (yes p) (no q) =
              from _ _ (here _ i p) (there _ j q) (mixed i m j bi bm bj (omega arith) (λ u. q (omega arith)))
          go (no p) (yes q) =
              from _ _ (there _ i p) (here _ j q)
              (apart_sym (place_on (table_at s) v l i) (place_of (table_of c) j)
              ∙ mixed j l i bj bl bi (omega arith) (λ u. p (omega arith)))

    sound_put : Sound (put_record s n c) size
    sound_put = go (dec_lt n (length s.clusters))
      where
        go : Dec (n < length s.clusters) → Sound (put_record s n c) size
        go (yes h) =
            record { whole = r.whole; ranged = ranged_put h; apartness = apart_put h; settling = settled_put h }
        go (no h) = rw (put_out s n c (omega arith)) r

-- ---- the changes of the calls

module _ (s : Store) (size : ℕ) (e : sound s size ≡ true) (node local : ℕ) (hv : node < nodes) (hl : local < clusters) where
  put : (new : ℕ) (c : Cluster) → settled c ≡ true
      → ((i : ℕ) → i < segments → Fate s node (record_of node local) new i (segment_of (table_of c) i))
      → sound (put_record s (record_of node local) c) size ≡ true
  put new c t f = sound_in_lem _ size (sound_put s size (sound_out s size e) node local new hv hl c t f)

  -- a segment that is as it was
  stays : (new i : ℕ) → i < segments → (g : Segment) → g ≡ segment_of (table_at s (record_of node local)) i
      → Fate s node (record_of node local) new i g
  stays new i h g q =
      kept (ap (λ (x : Segment). x.place) q)
      (ap sound_mark q
      ∙ segment_mark (segment_of (table_at s (record_of node local)) i)
      ((sound_out s size e).ranged (record_of node local) i (omega arith) h))

  -- a record with the same table: call 9
  pub sound_same : (c : Cluster) → settled c ≡ true → table_of c ≡ table_at s (record_of node local)
      → sound (put_record s (record_of node local) c) size ≡ true
  sound_same c t q = put 0 c t (λ i h. stays 0 i h _ (ap (λ (x : Table). segment_of x i) q))

  -- a record with absent segments alone: calls 1 and 2
  pub sound_empty : (c : Cluster) → settled c ≡ true → c.segments ≡ replicate segments absent_segment
      → sound (put_record s (record_of node local) c) size ≡ true
  sound_empty c t q =
      put 0 c t (λ i h. gone
      (ap (λ (l : List Segment). get_or l i absent_segment) q ∙ get_or-replicate segments i absent_segment absent_segment h))

  pub sound_inactive : sound (put_record s (record_of node local) inactive) size ≡ true
  sound_inactive = sound_empty inactive settled_inactive refl

  pub sound_started : (w : ℕ) (read write : List ℕ) → is_width w ≡ true
      → sound (put_record s (record_of node local) (started w read write)) size ≡ true
  sound_started w read write t =
      sound_empty (started w read write) (settled_active (started w read write) refl (sized_started w read write t)) refl

  module _ (i : ℕ) (active : (cluster_at s (record_of node local)).active ≡ true) where
    abbrev c : Cluster
    c = cluster_at s (record_of node local)

    fitting : sized c ≡ true
    fitting = sized_settled c ((sound_out s size e).settling (record_of node local) (omega arith))

    -- segment i replaced by one that the width allows and whose fate is good
    one : (g : Segment) → (i < segments → allowed g.place i c.width ≡ true) → Fate s node (record_of node local) i i g
        → sound (put_record s (record_of node local) (with_segment c i g)) size ≡ true
    one g z f =
        put i (with_segment c i g) (settled_active (with_segment c i g) active (sized_with c i g fitting z))
        (λ k h. fate k h (ℕ_discrete k i) (dec_lt i (length c.segments)))
      where
        fate : (k : ℕ) → k < segments → Dec (k ≡ i) → Dec (i < length c.segments)
            → Fate s node (record_of node local) i k (segment_of (table_of (with_segment c i g)) k)
        fate k h (no q) d = stays i k h _ (get_or-set_other c.segments i k g absent_segment q)
        fate k h (yes q) (no d) =
            stays i k h _ (ap (λ (l : List Segment). get_or l k absent_segment) (set_out c.segments i g (omega arith)))
        fate k h (yes q) (yes d) = rw new (subst (λ (x : ℕ). Fate s node (record_of node local) i x g) (sym q) f)
          where
            new : segment_of (table_of (with_segment c i g)) k ≡ g
            new =
                ap (λ (x : ℕ). get_or (set c.segments i g) x absent_segment) q
                ∙ get_or-set_same c.segments i g absent_segment d

    -- a segment below the width, made at the base that placement gives: call 3
    pub sound_made : ltb i c.width ≡ true → (base length : ℕ) → new_base (table_at s) node length ≡ some base
        → sound (put_record s (record_of node local) (with_place (cluster_at s (record_of node local)) i (present_at base length)))
        size ≡ true
    sound_made z base length q =
        let f = new_base_fits (table_at s) node length base q in
        one (segment_at (present_at base length)) (λ h. allowed_below (present_at base length) i c.width z)
        (fresh refl (segment_present_lem (segment_at (present_at base length)) base length refl ∙ f.within) f.free)

    -- a segment deleted: call 4
    pub sound_removed : sound (put_record s (record_of node local) (with_place (cluster_at s (record_of node local)) i None))
        size ≡ true
    sound_removed = one absent_segment (λ h. allowed_absent None i c.width refl) (gone refl)

    -- a present segment frozen: call 10
    pub sound_frozen : is_absent (place_of (table_of c) i) ≡ false
        → sound (put_record s (record_of node local) (with_mark c i)) size ≡ true
    sound_frozen h = one _ (sized_at c fitting i) (kept refl (present_mark _ h))
