-- What a call done leaves of two copies that have in common what writers may know: again that. The table and the write password of
-- a record that it puts come from those of the one that was there; bytes go to one place in both memories; and a place that comes
-- to be another cluster's has just been filled with zeros.
-- Assumes nothing.
use mathlib.Core.Path.{◌≡◌, refl, sym, ap, ◌∙◌, subst}
use mathlib.Core.Logic.{◌≢◌, ◌⊎◌, inl, inr}
use Prim.Native.Nat.{ℕ, ◌+◌, ◌≤◌, ◌<◌}
use native.Mathlib.Omega.{arith}
use native.Mathlib.Decide.{dec_lt}
use mathlib.Core.Bool.{true, false}
use mathlib.Core.List.{List}
use lib.Dec.{eqb}
use lib.ListN.{length, get_or, set, take, replicate, length-set, length-replicate, get_or-replicate, get_or-eq_default}
use Rattle.sizes.specs.Sizes.{nodes, clusters, segments}
use Rattle.handle.specs.Handles.{Name}
use Rattle.store.specs.declared.Segment.{Segment}
use Rattle.store.specs.declared.Cluster.{Cluster}
use Rattle.store.specs.declared.Store.{Store}
use Rattle.store.specs.Records.{Table, Tables, absent_segment, inactive, started, table_of, record_of, cluster_at, table_at, place_of}
use Rattle.store.specs.Records.{segment_at, marked_at, segment_of, place_at, place_on, put_record, with_segment, with_place, length_of, read_mode}
use Rattle.store.specs.Records.{with_password}
use Rattle.calls.specs.Calls.{Copy, Call, call, Arguments, Kind, new_cluster, delete_cluster, new_segment, delete_segment}
use Rattle.calls.specs.Calls.{read, write, weaken, reduce, new_password, freeze, join, validate, look}
use Rattle.calls.specs.Calls.{node_for, local_for, record_for, place_for, start_for}
use Rattle.calls.specs.Steps.{overwritten, put_cluster, put_bytes, about, new_place, new_start, cluster_made, cluster_deleted}
use Rattle.calls.specs.Steps.{segment_made, segment_deleted, segment_written, password_replaced, segment_marked, left}
use Rattle.isolation.specs.Copies.{SoundCopy, Done, InPlace, set_apart}
use Rattle.isolation.specs.Writers.{OthersBytes, SameToWriters}
use Rattle.calls.proofs.CallLaws.{InRange}
use Rattle.calls.proofs.DoneLaws.{done_range}
use Rattle.isolation.proofs.AwayLaws.{same_records, same_tables}
use Rattle.isolation.proofs.EntryLaws.{put_cases, segment_cases}
use Rattle.isolation.proofs.KeptLaws.{tables, new_fits, write_fits}
use Rattle.isolation.proofs.PairLaws.{put_both, length_both, bytes_both}

-- a record that has no segments
pub vacant : (v i p : ℕ) → InPlace v (get_or (replicate segments absent_segment) i absent_segment).place p → ⊥
vacant v i p u = subst (λ (g : Segment). InPlace v g.place p) (go (dec_lt i segments)) u
  where
    go : Dec (i < segments) → get_or (replicate segments absent_segment) i absent_segment ≡ absent_segment
    go (yes h) = get_or-replicate segments i absent_segment absent_segment h
    go (no h) =
        let e : length (replicate segments absent_segment) ≤ i = omega arith in
        get_or-eq_default (replicate segments absent_segment) absent_segment e

module _ (node local : ℕ) (a b : Copy) (same : SameToWriters node local a b) where
  pub same_to_writers : tables a ≡ tables b
  same_to_writers = same_tables (set_apart node local) a.store b.store same.others same.table

  pub writes : (n : ℕ) → (cluster_at a.store n).write ≡ (cluster_at b.store n).write
  writes = same_records (λ (c : Cluster). c.write) (set_apart node local) a.store b.store same.others same.write

  -- ---- what it leaves

  -- records put that have their table and their write password in common, and bytes that agree in the segments of others
  put_same_record : (n : ℕ) (d e : Cluster) (l m : List ℕ) → (n ≢ set_apart node local → d ≡ e) → table_of d ≡ table_of e
      → d.write ≡ e.write → length l ≡ length m
      → OthersBytes node local (table_at (put_record a.store n d)) l m
      → SameToWriters node local (record { store = put_record a.store n d; memory = l })
      (record { store = put_record b.store n e; memory = m })
  put_same_record n d e l m other table key size bytes =
      record {
        records = length-set a.store.clusters n d ∙ same.records ∙ sym (length-set b.store.clusters n e);
        others = λ k kz. found (λ (c : Cluster). c) k (same.others k kz) (λ q. other (λ z. kz (q ∙ z)));
        table = found table_of _ same.table (λ q. table);
        write = found (λ (c : Cluster). c.write) _ same.write (λ q. key);
        size = size;
        bytes = bytes;
      }
    where
      found : {A : Type 0} (g : Cluster → A) (k : ℕ) → g (cluster_at a.store k) ≡ g (cluster_at b.store k)
          → (k ≡ n → g d ≡ g e) → g (cluster_at (put_record a.store n d) k) ≡ g (cluster_at (put_record b.store n e) k)
      found g k = put_both g a.store b.store same.records n k d e

  -- a change of the call's own record, made of its table and its write password, that leaves it its table or no segment
  change : (x : Call) (h : Cluster → Cluster) → table_of (h (about x a)) ≡ table_of (h (about x b))
      → (h (about x a)).write ≡ (h (about x b)).write
      → ((v i p : ℕ) → InPlace v (place_of (table_of (h (about x a))) i) p → InPlace v (place_of (tables a (record_for x)) i) p)
      → SameToWriters node local (put_cluster a (record_for x) (h (about x a))) (put_cluster b (record_for x) (h (about x b)))
  change x h table key old =
      put_same_record (record_for x) (h (about x a)) (h (about x b)) a.memory b.memory
      (λ ne. ap h (same.others (record_for x) ne)) table key same.size
      (λ v l i p hv hl hi ne u.
      same.bytes v l i p hv hl hi ne (go v l i p (put_cases a.store (record_for x) (record_of v l) (h (about x a))) u))
    where
      after : Store
      after = put_record a.store (record_for x) (h (about x a))

      go : (v l i p : ℕ)
          → (cluster_at after (record_of v l) ≡ cluster_at a.store (record_of v l))
          ⊎ ((record_of v l ≡ record_for x) × (cluster_at after (record_of v l) ≡ h (about x a)))
          → InPlace v (place_on (table_at after) v l i) p → InPlace v (place_on (tables a) v l i) p
      go v l i p (inl q) u = subst (λ (c : Cluster). InPlace v (place_of (table_of c) i) p) q u
      go v l i p (inr (q, r)) u =
          subst (λ (n : ℕ). InPlace v (place_at (tables a) n i) p) (sym q)
          (old v i p (subst (λ (c : Cluster). InPlace v (place_of (table_of c) i) p) r u))

  module _ (x : Call) where
    abbrev own : ℕ
    own = record_for x

    abbrev at : ℕ
    at = x.args.segment

    -- the segment that the call names replaced by one made of the table, and the memories too
    segment_same : (s : Table → Segment) (m n : List ℕ) → length m ≡ length n → OthersBytes node local (tables a) m n
        → ((v l p : ℕ) → v < nodes → l < clusters → at < segments → record_of v l ≢ set_apart node local → record_of v l ≡ own
        → InPlace v (s (tables a own)).place p → get_or m p 0 ≡ get_or n p 0)
        → SameToWriters node local
        (record { store = put_record a.store own (with_segment (about x a) at (s (tables a own))); memory = m })
        (record { store = put_record b.store own (with_segment (about x b) at (s (tables b own))); memory = n })
    segment_same s m n size old new =
        put_same_record own _ _ m n
        (λ ne. ap (λ (c : Cluster). with_segment c at (s (table_of c))) (same.others own ne))
        (λ j. record {
          active = (same_to_writers j own).active;
          width = (same_to_writers j own).width;
          segments = set (same_to_writers j own).segments at (s (same_to_writers j own));
        })
        (writes own) size
        (λ v l i p hv hl hi ne u.
        go v l i p hv hl hi ne (segment_cases a.store own at (s (tables a own)) (record_of v l) i) u)
      where
        after : Tables
        after = table_at (put_record a.store own (with_segment (about x a) at (s (tables a own))))

        go : (v l i p : ℕ) → v < nodes → l < clusters → i < segments → record_of v l ≢ set_apart node local
            → (segment_of (after (record_of v l)) i ≡ segment_of (tables a (record_of v l)) i)
            ⊎ ((record_of v l ≡ own) × (i ≡ at) × (segment_of (after (record_of v l)) i ≡ s (tables a own)))
            → InPlace v (place_on after v l i) p → get_or m p 0 ≡ get_or n p 0
        go v l i p hv hl hi ne (inl q) u =
            old v l i p hv hl hi ne (subst (λ (g : Segment). InPlace v g.place p) q u)
        go v l i p hv hl hi ne (inr (q, h, r)) u =
            new v l p hv hl (subst (λ (k : ℕ). k < segments) h hi) ne q
            (subst (λ (g : Segment). InPlace v g.place p) r u)

  -- bytes put at one place of both memories
  put_old : (k : ℕ) (bs : List ℕ) → k + length bs ≤ length a.memory
      → OthersBytes node local (tables a) (overwritten a.memory k bs) (overwritten b.memory k bs)
  put_old k bs fit v l i p hv hl hi ne u =
      bytes_both a.memory b.memory same.size k bs fit p (λ out. same.bytes v l i p hv hl hi ne u)

  module _ (f : Name → List ℕ → ℕ → List ℕ) (k : SoundCopy a) (g : Arguments) where
    made_same : Done f (call new_segment g) a
        → SameToWriters node local (segment_made (call new_segment g) a) (segment_made (call new_segment g) b)
    unfolding segment_made
    made_same e =
        let fit = new_fits f g a k e in
        subst
        (λ (ts : Tables).
        SameToWriters node local (segment_made x a)
        (put_bytes (put_cluster b (record_for x) (with_place (about x b) g.segment (new_place x ts))) (new_start x ts) cleared))
        same_to_writers
        (segment_same x (λ t. segment_at (new_place x (tables a))) (overwritten a.memory start cleared)
        (overwritten b.memory start cleared) (length_both a.memory b.memory same.size start cleared fit)
        (put_old start cleared fit)
        (λ v l p hv hl hi ne q u.
        bytes_both a.memory b.memory same.size start cleared fit p (λ out. inside v l p hl q u out)))
      where
        x : Call
        x = call new_segment g

        cleared : List ℕ
        cleared = replicate g.size 0

        start : ℕ
        start = new_start x (tables a)

        w : InRange (node_for x) (local_for x)
        w = done_range f x a.store (length a.memory) e

        inside : {A : Type 0} (v l p : ℕ) → l < clusters → record_of v l ≡ record_for x → InPlace v (new_place x (tables a)) p
            → (start ≤ p → p < start + length cleared → ⊥) → A
        inside v l p hl q u out =
            let wl = w.local_low in
            let u0 = u.0 in
            let u1 = u.1 in
            absurd (out (omega arith) (rw (length-replicate {A = ℕ} g.size 0) (omega arith)))

    written_same : Done f (call write g) a
        → SameToWriters node local (segment_written (call write g) a) (segment_written (call write g) b)
    unfolding segment_written
    written_same e =
        let x : Call = call write g in
        let long : Tables → List ℕ = λ ts. take (length_of (place_for x ts)) g.bytes in
        let fit = write_fits f g a k e in
        subst (λ (ts : Tables). SameToWriters node local (segment_written x a) (put_bytes b (start_for x ts) (long ts)))
        same_to_writers
        (record {
          records = same.records;
          others = same.others;
          table = same.table;
          write = same.write;
          size = length_both a.memory b.memory same.size (start_for x (tables a)) (long (tables a)) fit;
          bytes = put_old (start_for x (tables a)) (long (tables a)) fit;
        })

    pub left_same : (kind : Kind) → Done f (call kind g) a
        → SameToWriters node local (left kind (call kind g) a) (left kind (call kind g) b)
    unfolding left cluster_made cluster_deleted segment_deleted password_replaced segment_marked
    left_same new_cluster e =
        change (call new_cluster g) (λ c. started g.width g.first g.second) refl refl (λ v i p u. absurd (vacant v i p u))
    left_same delete_cluster e =
        change (call delete_cluster g) (λ c. inactive) refl refl (λ v i p u. absurd (vacant v i p u))
    left_same new_segment e = made_same e
    left_same delete_segment e =
        segment_same (call delete_segment g) (λ t. absent_segment) a.memory b.memory same.size same.bytes
        (λ v l p hv hl hi ne q u. absurd u)
    left_same read e = same
    left_same write e = written_same e
    left_same weaken e = same
    left_same reduce e = same
    left_same new_password e =
        let x : Call = call new_password g in
        change x (λ c. with_password c g.mode g.first) (λ j. same_to_writers j (record_for x))
        (λ j. elim (eqb g.mode read_mode) [ true ↦ writes (record_for x) j | false ↦ g.first ]) (λ v i p u. u)
    left_same freeze e =
        let x : Call = call freeze g in
        segment_same x (λ t. marked_at (place_of t g.segment)) a.memory b.memory same.size same.bytes
        (λ v l p hv hl hi ne q u.
        same.bytes v l g.segment p hv hl hi ne
        (subst (λ (n : ℕ). InPlace v (place_at (tables a) n g.segment) p) (sym q) u))
    left_same join e = same
    left_same validate e = same
    left_same look e = same
