-- The copies of the lists about writers: they are sound, and any two of them have in common what writers may know. Record 10 is the one
-- other cluster that has a segment.
-- Assumes nothing.
use mathlib.Core.Path.{◌≡◌, refl, sym, ap, ◌∙◌, subst}
use Prim.Native.Nat.{ℕ, ◌≤◌, ◌<◌}
use native.Mathlib.Omega.{arith}
use native.Mathlib.Decide.{ℕ_discrete}
use mathlib.Core.Logic.{◌≢◌, ◌⊎◌, inl, inr}
use mathlib.Core.Bool.{true}
use lib.ListN.{length, get_or, replicate, get_or-replicate}
use lib.Seq.{get_or-set_other}
use Rattle.sizes.specs.Sizes.{nodes, clusters, records, segments}
use Rattle.store.specs.Places.{present_at}
use Rattle.store.specs.declared.Segment.{Segment}
use Rattle.store.specs.declared.Cluster.{Cluster}
use Rattle.store.specs.Records.{segment_at, absent_segment, inactive, starting_store, table_of, record_of, no_cluster, cluster_at}
use Rattle.store.specs.Records.{table_at, place_of, place_on, put_record}
use Rattle.store.proofs.QuickLaws.{quick, quickly, sound_quick}
use Rattle.store.proofs.ChangeLaws.{put_other}
use Rattle.isolation.specs.Copies.{SoundCopy, InPlace}
use Rattle.isolation.specs.Writers.{SameToWriters}
use Rattle.isolation.specs.WriterLists.{tenth, second, kept, keeping}
use Rattle.isolation.proofs.EntryLaws.{put_cases}
use Rattle.isolation.proofs.WriterLeftLaws.{vacant}

quick_keeping : (r b z : ℕ) → quick (kept r) (length (keeping r b z).memory) ≡ true
unfolding quickly
quick_keeping r b z = refl

pub sound_keeping : (r b z : ℕ) → SoundCopy (keeping r b z)
sound_keeping r b z = sound_quick (kept r) (length (keeping r b z).memory) ∙ quick_keeping r b z

-- record 10 has the one segment of another cluster
module _ (r v l i p : ℕ) (hv : v < nodes) (hl : l < clusters) (ne : record_of v l ≢ 2) where
  its_segment : InPlace v (place_on (table_at (kept r)) v l i) p → (4096 ≤ p) × (p < 4098)
  its_segment u =
      by_record (put_cases starting_store 10 (record_of v l) tenth)
      (subst (λ (d : Cluster). InPlace v (place_of (table_of d) i) p) (put_other (put_record starting_store 10 tenth) 2 (second r) (record_of v l) ne) u)
    where
      by_segment : record_of v l ≡ 10 → Dec (i ≡ 0) → InPlace v (place_of (table_of tenth) i) p → (4096 ≤ p) × (p < 4098)
      by_segment q (yes e) w =
          let here : InPlace v (present_at 0 2) p = subst (λ (k : ℕ). InPlace v (place_of (table_of tenth) k) p) e w in
          let lo = here.0 in
          let hi = here.1 in
          (omega arith, omega arith)
      by_segment q (no e) w =
          absurd (vacant v i p
          (subst (λ (g : Segment). InPlace v g.place p)
          (get_or-set_other (replicate segments absent_segment) 0 i (segment_at (present_at 0 2)) absent_segment e) w))

      by_record : (cluster_at (put_record starting_store 10 tenth) (record_of v l) ≡ cluster_at starting_store (record_of v l))
          ⊎ ((record_of v l ≡ 10) × (cluster_at (put_record starting_store 10 tenth) (record_of v l) ≡ tenth))
          → InPlace v (place_of (table_of (cluster_at (put_record starting_store 10 tenth) (record_of v l))) i) p
          → (4096 ≤ p) × (p < 4098)
      by_record (inl q) w =
          absurd (vacant v i p
          (subst (λ (d : Cluster). InPlace v (place_of (table_of d) i) p)
          (q ∙ get_or-replicate records (record_of v l) inactive no_cluster (omega arith)) w))
      by_record (inr (q, e)) w =
          by_segment q (ℕ_discrete i 0) (subst (λ (d : Cluster). InPlace v (place_of (table_of d) i) p) e w)

-- with the same bytes in every copy
its_bytes : (r s b c y z p : ℕ) → (4096 ≤ p) × (p < 4098)
    → get_or (keeping r b y).memory p 0 ≡ get_or (keeping s c z).memory p 0
its_bytes r s b c y z p (lo, hi) = go (ℕ_discrete p 4096)
  where
    at : (k : ℕ) → p ≡ k → get_or (keeping r b y).memory k 0 ≡ get_or (keeping s c z).memory k 0
        → get_or (keeping r b y).memory p 0 ≡ get_or (keeping s c z).memory p 0
    at k e q =
        ap (λ (j : ℕ). get_or (keeping r b y).memory j 0) e ∙ q ∙ ap (λ (j : ℕ). get_or (keeping s c z).memory j 0) (sym e)

    go : Dec (p ≡ 4096) → get_or (keeping r b y).memory p 0 ≡ get_or (keeping s c z).memory p 0
    go (yes e) = at 4096 e refl
    go (no e) = at 4097 (omega arith) refl

pub same_keeping : (r s b c y z : ℕ) → SameToWriters 0 2 (keeping r b y) (keeping s c z)
same_keeping r s b c y z =
    record {
      records = refl;
      others = λ n ne.
          put_other (put_record starting_store 10 tenth) 2 (second r) n ne
          ∙ sym (put_other (put_record starting_store 10 tenth) 2 (second s) n ne);
      table = refl;
      write = refl;
      size = refl;
      bytes = λ v l i p hv hl hi ne u. its_bytes r s b c y z p (its_segment r v l i p hv hl ne u);
    }
