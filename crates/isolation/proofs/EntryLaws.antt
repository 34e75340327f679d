-- What a call leaves alone in the record of its own cluster. The record put is made from the old one, and a store that
-- lacks the record stays as it is.
-- Assumes nothing.
use mathlib.Core.Path.{◌≡◌, refl, sym, ap, ◌∙◌, subst}
use mathlib.Core.Logic.{◌⊎◌, inl, inr}
use Prim.Native.Nat.{ℕ, ◌<◌}
use native.Mathlib.Omega.{arith}
use native.Mathlib.Decide.{ℕ_discrete, dec_lt}
use mathlib.Core.List.{List}
use lib.ListN.{length, get_or}
use lib.Seq.{get_or-set_same, get_or-set_other, set_out}
use Rattle.handle.specs.Handles.{Name}
use Rattle.store.specs.Places.{Place, None}
use Rattle.store.specs.declared.Segment.{Segment}
use Rattle.store.specs.declared.Cluster.{Cluster}
use Rattle.store.specs.declared.Store.{Store}
use Rattle.store.specs.Records.{Table, segment_at, absent_segment, table_of, cluster_at, table_at, segment_of, put_record, with_segment}
use Rattle.store.specs.Records.{with_place, with_mark}
use Rattle.store.specs.Records.{read_mode, write_mode, primary_of}
use Rattle.store.proofs.ChangeLaws.{put_other, put_same, put_out}
use Rattle.calls.specs.Calls.{Copy, Call, call, Arguments, Kind, new_cluster, delete_cluster, new_segment, delete_segment}
use Rattle.calls.specs.Calls.{read, write, weaken, reduce, new_password, freeze, join, validate, look, record_for}
use Rattle.store.specs.Records.{with_password}
use Rattle.calls.specs.Steps.{about, new_place, effects}
use Rattle.calls.specs.Steps.{left}
use Rattle.isolation.specs.Copies.{Done}
use Rattle.isolation.specs.Effects.{other_mode, OtherSegments, OtherPassword, OtherMarks, Entries, EntriesStay}
use Rattle.calls.proofs.DoneLaws.{done_mode}
use Rattle.calls.proofs.FreezeLaws.{present_in, freeze_present}
use Rattle.isolation.proofs.KeptLaws.{by_number}

-- a record put, seen at some record: as it was, or the new one
pub put_cases : (s : Store) (n m : ℕ) (d : Cluster)
    → (cluster_at (put_record s n d) m ≡ cluster_at s m) ⊎ ((m ≡ n) × (cluster_at (put_record s n d) m ≡ d))
put_cases s n m d = go (ℕ_discrete m n) (dec_lt n (length s.clusters))
  where
    go : Dec (m ≡ n) → Dec (n < length s.clusters)
        → (cluster_at (put_record s n d) m ≡ cluster_at s m) ⊎ ((m ≡ n) × (cluster_at (put_record s n d) m ≡ d))
    go (no t) h = inl (put_other s n d m t)
    go (yes t) (no h) = inl (ap (λ (z : Store). cluster_at z m) (put_out s n d (omega arith)))
    go (yes t) (yes h) = inr (t, ap (cluster_at (put_record s n d)) t ∙ put_same s n d h)

-- a segment replaced in a record, seen at some segment of some record: as it was, or the new one
pub segment_cases : (s : Store) (n i : ℕ) (g : Segment) (m j : ℕ)
    → let t = table_at (put_record s n (with_segment (cluster_at s n) i g)) m in
    (segment_of t j ≡ segment_of (table_at s m) j) ⊎ ((m ≡ n) × (j ≡ i) × (segment_of t j ≡ g))
segment_cases s n i g m j = go (put_cases s n m d) (ℕ_discrete j i) (dec_lt i (length (cluster_at s n).segments))
  where
    d : Cluster
    d = with_segment (cluster_at s n) i g

    t : Table
    t = table_at (put_record s n d) m

    was : (m ≡ n) × (cluster_at (put_record s n d) m ≡ d) → segment_of (table_of d) j ≡ segment_of (table_at s n) j
        → segment_of t j ≡ segment_of (table_at s m) j
    was (q, r) e =
        ap (λ (c : Cluster). segment_of (table_of c) j) r ∙ e ∙ ap (λ (k : ℕ). segment_of (table_at s k) j) (sym q)

    go : (cluster_at (put_record s n d) m ≡ cluster_at s m) ⊎ ((m ≡ n) × (cluster_at (put_record s n d) m ≡ d)) → Dec (j ≡ i)
        → Dec (i < length (cluster_at s n).segments)
        → (segment_of t j ≡ segment_of (table_at s m) j) ⊎ ((m ≡ n) × (j ≡ i) × (segment_of t j ≡ g))
    go (inl q) h k = inl (ap (λ (c : Cluster). segment_of (table_of c) j) q)
    go (inr q) (no h) k = inl (was q (get_or-set_other (cluster_at s n).segments i j g absent_segment h))
    go (inr q) (yes h) (no k) =
        inl (was q (ap (λ (l : List Segment). get_or l j absent_segment) (set_out (cluster_at s n).segments i g (omega arith))))
    go (inr q) (yes h) (yes k) =
        inr (
          q.0,
          h,
          ap (λ (c : Cluster). segment_of (table_of c) j) q.1
              ∙ ap (segment_of (table_of d)) h
              ∙ get_or-set_same (cluster_at s n).segments i g absent_segment k,
        )

-- so a law of the old record and of the new one is a law of what is found there
by_cases : (P : Cluster → Type 0) (s : Store) (n : ℕ) (d : Cluster) → P (cluster_at s n) → P d
    → P (cluster_at (put_record s n d) n)
by_cases P s n d old new = go (put_cases s n n d)
  where
    go : (cluster_at (put_record s n d) n ≡ cluster_at s n) ⊎ ((n ≡ n) × (cluster_at (put_record s n d) n ≡ d))
        → P (cluster_at (put_record s n d) n)
    go (inl q) = subst P (sym q) old
    go (inr q) = subst P (sym q.1) new

entries_same : (k : Kind) (x : Call) (a : Cluster) → Entries k x a a
entries_same new_cluster x a = tt
entries_same delete_cluster x a = tt
entries_same new_segment x a = record { active = refl; width = refl; read = refl; write = refl; segments = λ j ne. refl }
entries_same delete_segment x a = record { active = refl; width = refl; read = refl; write = refl; segments = λ j ne. refl }
entries_same read x a = refl
entries_same write x a = refl
entries_same weaken x a = refl
entries_same reduce x a = refl
entries_same new_password x a = record { table = refl; password = refl }
entries_same freeze x a = record { others = record { active = refl; width = refl; read = refl; write = refl; segments = λ j ne. refl }; place = refl }
entries_same join x a = refl
entries_same validate x a = refl
entries_same look x a = refl

-- a segment replaced leaves the others
placed : (x : Call) (a : Cluster) (g : Segment) → OtherSegments x a (with_segment a x.args.segment g)
placed x a g =
    record {
      active = refl;
      width = refl;
      read = refl;
      write = refl;
      segments = λ j ne. get_or-set_other a.segments x.args.segment j g absent_segment ne;
    }

-- a password replaced leaves the other one, in either mode
pub other_stays : (a : Cluster) (m : ℕ) (p : List ℕ) → (m ≡ read_mode) ⊎ (m ≡ write_mode)
    → primary_of (with_password a m p) (other_mode m) ≡ primary_of a (other_mode m)
other_stays a m p (inl q) =
    ap (λ (m : ℕ). primary_of (with_password a m p) (other_mode m)) q ∙ ap (λ (m : ℕ). primary_of a (other_mode m)) (sym q)
other_stays a m p (inr q) =
    ap (λ (m : ℕ). primary_of (with_password a m p) (other_mode m)) q ∙ ap (λ (m : ℕ). primary_of a (other_mode m)) (sym q)

module _ (f : Name → List ℕ → ℕ → List ℕ) (g : Arguments) (c : Copy) where
  pub left_entries : (k : Kind) → Done f (call k g) c
      → Entries k (call k g) (about (call k g) c) (cluster_at (left k (call k g) c).store (record_for (call k g)))
  unfolding effects
  left_entries new_cluster e = tt
  left_entries delete_cluster e = tt
  left_entries new_segment e =
      let x : Call = call new_segment g in
      let p : Place = new_place x (table_at c.store) in
      by_cases (OtherSegments x (about x c)) c.store (record_for x) (with_place (about x c) g.segment p)
      (entries_same new_segment x (about x c)) (placed x (about x c) (segment_at p))
  left_entries delete_segment e =
      let x : Call = call delete_segment g in
      by_cases (OtherSegments x (about x c)) c.store (record_for x) (with_place (about x c) g.segment None)
      (entries_same delete_segment x (about x c)) (placed x (about x c) absent_segment)
  left_entries read e = refl
  left_entries write e = refl
  left_entries weaken e = refl
  left_entries reduce e = refl
  left_entries new_password e =
      let x : Call = call new_password g in
      by_cases (OtherPassword x (about x c)) c.store (record_for x) (with_password (about x c) g.mode g.first)
      (entries_same new_password x (about x c))
      (record {
        table = refl;
        password =
            other_stays (about x c) g.mode g.first (done_mode f x c.store (length c.memory) e);
      })
  left_entries freeze e =
      let x : Call = call freeze g in
      by_cases (OtherMarks x (about x c)) c.store (record_for x) (with_mark (about x c) g.segment)
      (entries_same freeze x (about x c))
      (record {
        others = placed x (about x c) _;
        place =
            ap (λ (z : Segment). z.place)
            (get_or-set_same (about x c).segments g.segment _ absent_segment
            (present_in (about x c) g.segment (freeze_present f g c e)));
      })
  left_entries join e = refl
  left_entries validate e = refl
  left_entries look e = refl

pub entries_stay : (f : Name → List ℕ → ℕ → List ℕ) → EntriesStay f
entries_stay f x c =
    by_number f (λ d. Entries x.kind x (about x c) (cluster_at d.store (record_for x))) x c
    (entries_same x.kind x (about x c)) (left_entries f x.args c x.kind)
