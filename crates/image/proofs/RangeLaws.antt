-- Whatever an image holds is in range: two bytes hold a word, and a length of zero is that of an absent segment. So is a
-- store with one record replaced, where the new record is.
-- Assumes nothing.
use mathlib.Core.Path.{◌≡◌, refl, sym, ◌∙◌, subst}
use mathlib.Core.Bool.{Bool, true, false}
use mathlib.Core.List.{List}
use Prim.Native.Nat.{ℕ, ◌<◌}
use native.Mathlib.Decide.{ℕ_discrete}
use native.Mathlib.Omega.{arith}
use borrow.Author.Tests.{eqb-false, ltb-true, ltb-false}
use lib.Dec.{eqb, ltb}
use lib.ListN.{length, length-set, get_or-replicate}
use lib.Seq.{get_or-set_same, get_or-set_other}
use Rattle.loops.proofs.TabulateLaws.{length_tabulate, get_d_tabulate}
use Rattle.sizes.specs.Sizes.{records, segments, password_bytes}
use Rattle.bits.specs.Bytes.{Bytes}
use Rattle.store.specs.Places.{Place, None}
use Rattle.store.specs.declared.Segment.{Segment}
use Rattle.store.specs.declared.Cluster.{Cluster}
use Rattle.store.specs.declared.Store.{Store}
use Rattle.store.specs.Records.{absent_segment, inactive, started, no_cluster, cluster_at, table_of, place_of}
use Rattle.store.specs.Records.{segment_at, marked_at, put_record, with_segment, with_place, with_mark, read_mode, with_password}
use Rattle.store.proofs.ChangeLaws.{put_other, put_same}
use Rattle.store.proofs.RecordLaws.{place_beyond}
use Rattle.image.specs.Parts.{slot, part}
use Rattle.image.specs.Images.{segment_bytes, record_bytes, image_bytes, segments_at, width_at, read_at, write_at, base_in, length_in}
use Rattle.image.specs.Images.{place_with, place_in, segment_held, segments_in, cluster_in, store_in}
use Rattle.image.specs.Ranges.{widths, PlaceFits, ClusterFits, StoreFits}
use Rattle.image.proofs.PartLaws.{bytes_part, bytes_slot}
use Rattle.image.proofs.SegmentLaws.{base_below, length_below}

-- ---- what bytes hold

place_held : (q : List ℕ) → Bytes segment_bytes q → PlaceFits (place_in q)
unfolding PlaceFits place_in
place_held q h = go (eqb (length_in q) 0) refl
  where
    go : (t : Bool) → eqb (length_in q) 0 ≡ t → PlaceFits (place_with t (base_in q) (length_in q))
    go true e = tt
    go false e =
        let z : length_in q ≡ 0 → ⊥ = eqb-false (length_in q) 0 e in
        record { starts = base_below q h; some = omega arith; ends = length_below q h }

pub cluster_held : (q : List ℕ) → Bytes record_bytes q → ClusterFits (cluster_in q)
unfolding cluster_in segments_in
cluster_held q h =
    record {
      wide = h.below width_at;
      read = (bytes_part record_bytes q read_at write_at h (omega arith)).long;
      write = (bytes_part record_bytes q write_at segments_at h (omega arith)).long;
      room = length_tabulate segments (segment_held (part q segments_at record_bytes));
      places =
          λ i l.
          subst (λ (g : Segment). PlaceFits g.place)
          (sym (get_d_tabulate segments (segment_held (part q segments_at record_bytes)) absent_segment i l))
          (place_held (slot segment_bytes (part q segments_at record_bytes) i)
          (bytes_slot segment_bytes segments (part q segments_at record_bytes) i
          (bytes_part record_bytes q segments_at record_bytes h (omega arith)) l));
    }

pub store_held : (b : List ℕ) → Bytes image_bytes b → StoreFits (store_in b)
unfolding store_in
store_held b h =
    record {
      whole = length_tabulate records (λ n. cluster_in (slot record_bytes b n));
      each =
          λ n l.
          subst ClusterFits (sym (get_d_tabulate records (λ k. cluster_in (slot record_bytes b k)) no_cluster n l))
          (cluster_held (slot record_bytes b n) (bytes_slot record_bytes records b n h l));
    }

-- ---- changes

pub put_fits : (s : Store) (n : ℕ) (c : Cluster) → StoreFits s → ClusterFits c → StoreFits (put_record s n c)
put_fits s n c f g = record { whole = length-set s.clusters n c ∙ f.whole; each = λ k h. at k h (ℕ_discrete k n) }
  where
    at : (k : ℕ) → k < records → Dec (k ≡ n) → ClusterFits (cluster_at (put_record s n c) k)
    at k h (yes e) =
        subst (λ (i : ℕ). ClusterFits (cluster_at (put_record s n c) i)) (sym e)
        (subst ClusterFits (sym (put_same s n c (let z = f.whole in omega arith))) g)
    at k h (no e) = subst ClusterFits (sym (put_other s n c k e)) (f.each k h)

pub absent_fits : PlaceFits None
unfolding PlaceFits
absent_fits = tt

segment_fits : (c : Cluster) (i : ℕ) (g : Segment) → ClusterFits c → PlaceFits g.place → ClusterFits (with_segment c i g)
segment_fits c i g f p =
    record {
      wide = f.wide;
      read = f.read;
      write = f.write;
      room = length-set c.segments i g ∙ f.room;
      places = λ k h. at k h (ℕ_discrete k i);
    }
  where
    at : (k : ℕ) → k < segments → Dec (k ≡ i) → PlaceFits (place_of (table_of (with_segment c i g)) k)
    at k h (yes e) =
        subst (λ (j : ℕ). PlaceFits (place_of (table_of (with_segment c i g)) j)) (sym e)
        (subst (λ (s : Segment). PlaceFits s.place)
        (sym (get_or-set_same c.segments i g absent_segment (let z = f.room in omega arith))) p)
    at k h (no e) =
        subst (λ (s : Segment). PlaceFits s.place)
        (sym (get_or-set_other c.segments i k g absent_segment e)) (f.places k h)

pub place_fits : (c : Cluster) (i : ℕ) (p : Place) → ClusterFits c → PlaceFits p → ClusterFits (with_place c i p)
place_fits c i p f g = segment_fits c i (segment_at p) f g

pub mark_fits : (c : Cluster) (i : ℕ) → ClusterFits c → ClusterFits (with_mark c i)
mark_fits c i f = segment_fits c i (marked_at (place_of (table_of c) i)) f (there (ltb i segments) refl)
  where
    there : (t : Bool) → ltb i segments ≡ t → PlaceFits (place_of (table_of c) i)
    there true h = f.places i (ltb-true i segments h)
    there false h = subst PlaceFits (place_beyond c i f.room (ltb-false i segments h)) absent_fits

-- absent segments alone
none_fit : (i : ℕ) → i < segments → PlaceFits (place_of (table_of inactive) i)
none_fit i h =
    subst (λ (g : Segment). PlaceFits g.place) (sym (get_or-replicate segments i absent_segment absent_segment h))
    absent_fits

pub started_fits : (v : ℕ) (r w : List ℕ) → v < widths → length r ≡ password_bytes → length w ≡ password_bytes
    → ClusterFits (started v r w)
started_fits v r w lv lr lw = record { wide = lv; read = lr; write = lw; room = refl; places = none_fit }

pub inactive_fits : ClusterFits inactive
inactive_fits = record { wide = omega arith; read = refl; write = refl; room = refl; places = none_fit }

pub password_fits : (c : Cluster) (mode : ℕ) (p : List ℕ) → ClusterFits c → length p ≡ password_bytes
    → ClusterFits (with_password c mode p)
password_fits c mode p f e = go (eqb mode read_mode) refl
  where
    made : Bool → Cluster
    made t =
        record {
          active = c.active;
          width = c.width;
          read = elim t [ true ↦ p | false ↦ c.read ];
          write = elim t [ true ↦ c.write | false ↦ p ];
          segments = c.segments;
        }

    go : (t : Bool) → eqb mode read_mode ≡ t → ClusterFits (made t)
    go true q = record { wide = f.wide; read = e; write = f.write; room = f.room; places = f.places }
    go false q = record { wide = f.wide; read = f.read; write = e; room = f.room; places = f.places }
