-- Two copies that are alike stay alike, and answer alike, under a call done that is about another cluster than the one
-- set apart: it meets equal records, puts equal records and equal bytes at equal places, and what it reads lies outside
-- the segments of the cluster set apart.
-- Assumes nothing.
use mathlib.Core.Path.{◌≡◌, refl, sym, ap, ◌∙◌, subst}
use mathlib.Core.Logic.{◌≢◌}
use Prim.Native.Nat.{ℕ, ◌+◌, ◌≤◌, ◌<◌}
use mathlib.Core.Bool.{true}
use mathlib.Core.List.{List}
use lib.ListN.{length, take, replicate, length-set}
use Rattle.sizes.specs.Sizes.{nodes, clusters}
use Rattle.handle.specs.Handles.{Name}
use Rattle.store.specs.Places.{None}
use Rattle.store.specs.declared.Cluster.{Cluster}
use Rattle.store.specs.declared.Store.{Store}
use Rattle.store.specs.Records.{Table, Tables, inactive, started, table_of, table_at, place_of, put_record}
use Rattle.store.specs.Records.{with_place, with_mark, length_of, primary_of, with_password}
use Rattle.store.proofs.ChangeLaws.{put_other}
use Rattle.calls.specs.Calls.{Copy, Call, call, Arguments, Kind, new_cluster, delete_cluster, new_segment, delete_segment}
use Rattle.calls.specs.Calls.{read, write, weaken, reduce, new_password, freeze, join, validate, look, opens}
use Rattle.calls.specs.Calls.{node_for, local_for, record_for, place_for, start_for}
use Rattle.calls.specs.Steps.{put_cluster, put_bytes, about, new_place}
use Rattle.calls.specs.Steps.{new_start}
use Rattle.calls.specs.Steps.{cluster_made, cluster_deleted, segment_made, segment_deleted, segment_written}
use Rattle.calls.specs.Steps.{password_replaced, segment_marked}
use Rattle.calls.specs.Steps.{left, given}
use Rattle.isolation.specs.Copies.{SoundCopy, Done, InPlace, set_apart, Alike, Shut}
use Rattle.isolation.proofs.AddressLaws.{place_outside}
use Rattle.calls.proofs.CallLaws.{InRange}
use Rattle.calls.proofs.DoneLaws.{done_range, new_away}
use Rattle.isolation.proofs.AwayLaws.{shut_away}
use Rattle.isolation.proofs.KeptLaws.{tables, facts, low_segment, new_fits, write_fits}
use Rattle.isolation.proofs.NumberLaws.{alike_tables}
use Rattle.isolation.proofs.PairLaws.{put_both, length_both, bytes_both, reads_segment, reading_opens, moded_opens, same_given}

module _ (node local : ℕ) where
  pub put_table : (s : Store) (n : ℕ) (d : Cluster) → n ≢ set_apart node local
      → table_at (put_record s n d) (set_apart node local) ≡ table_at s (set_apart node local)
  put_table s n d ne = ap table_of (put_other s n d (set_apart node local) (λ q. ne (sym q)))

  module _ (a b : Copy) (al : Alike node local a b) where
    -- ---- one record put, one part overwritten

    alike_put : (n : ℕ) (d : Cluster) → n ≢ set_apart node local → Alike node local (put_cluster a n d) (put_cluster b n d)
    alike_put n d ne =
        record {
          records = length-set a.store.clusters n d ∙ al.records ∙ sym (length-set b.store.clusters n d);
          others = λ m mz.
              put_both (λ (c : Cluster). c) a.store b.store al.records n m d d (al.others m mz) (λ q. refl);
          table = put_both table_of a.store b.store al.records n _ d d al.table (λ q. refl);
          size = al.size;
          bytes = λ p out.
              al.bytes p
              (λ i hi u.
              out i hi (subst (λ (t : Table). InPlace node (place_of t i) p) (sym (put_table a.store n d ne)) u));
        }

    alike_bytes : (at : ℕ) (bs : List ℕ) → at + length bs ≤ length a.memory
        → Alike node local (put_bytes a at bs) (put_bytes b at bs)
    alike_bytes at bs fit =
        record {
          records = al.records;
          others = al.others;
          table = al.table;
          size = length_both a.memory b.memory al.size at bs fit;
          bytes = λ p out. bytes_both a.memory b.memory al.size at bs fit p (λ away. al.bytes p out);
        }

    -- a change made from the cluster's own record
    change : (x : Call) (g : Cluster → Cluster) → record_for x ≢ set_apart node local
        → Alike node local (put_cluster a (record_for x) (g (about x a))) (put_cluster b (record_for x) (g (about x b)))
    change x g ne =
        subst
        (λ (d : Cluster).
        Alike node local (put_cluster a (record_for x) (g (about x a))) (put_cluster b (record_for x) (g d)))
        (al.others (record_for x) ne) (alike_put (record_for x) (g (about x a)) ne)

-- ---- what a call done leaves and gives

module _ (node local : ℕ) (high : node < nodes) (low : local < clusters) (f : Name → List ℕ → ℕ → List ℕ) (a b : Copy)
    (al : Alike node local a b) (k : SoundCopy a) (active : (tables a (set_apart node local)).active ≡ true)
    (g : Arguments) where
  abbrev Closed : Kind → Type 0
  Closed kind = Shut node local f (call kind g) a.store

  same_tables : tables a ≡ tables b
  same_tables = alike_tables node local a b al

  elsewhere : (kind : Kind) → opens kind ≡ true → Done f (call kind g) a → Closed kind
      → record_for (call kind g) ≢ set_apart node local
  elsewhere kind o e h = shut_away f (call kind g) a.store (length a.memory) e o node local low h

  made_alike : Done f (call new_segment g) a → record_for (call new_segment g) ≢ set_apart node local
      → Alike node local (segment_made (call new_segment g) a) (segment_made (call new_segment g) b)
  unfolding segment_made
  made_alike e ne =
      let x : Call = call new_segment g in
      let cleared : List ℕ = replicate g.size 0 in
      let made : Cluster → Cluster = λ d. with_place d g.segment (new_place x (tables a)) in
      subst
      (λ (ts : Tables).
      Alike node local (segment_made x a)
      (put_bytes (put_cluster b (record_for x) (with_place (about x b) g.segment (new_place x ts))) (new_start x ts)
      cleared))
      same_tables
      (alike_bytes node local (put_cluster a (record_for x) (made (about x a)))
      (put_cluster b (record_for x) (made (about x b))) (change node local a b al x made ne) (new_start x (tables a))
      cleared
      (new_fits f g a k e))

  written_alike : Done f (call write g) a
      → Alike node local (segment_written (call write g) a) (segment_written (call write g) b)
  unfolding segment_written
  written_alike e =
      let x : Call = call write g in
      subst
      (λ (ts : Tables).
      Alike node local (segment_written x a) (put_bytes b (start_for x ts) (take (length_of (place_for x ts)) g.bytes)))
      same_tables
      (alike_bytes node local a b al (start_for x (tables a)) (take (length_of (place_for x (tables a))) g.bytes)
      (write_fits f g a k e))

  pub left_alike : (kind : Kind) → Closed kind → Done f (call kind g) a
      → Alike node local (left kind (call kind g) a) (left kind (call kind g) b)
  unfolding left cluster_made cluster_deleted segment_deleted password_replaced segment_marked
  left_alike new_cluster h e =
      change node local a b al (call new_cluster g) (λ d. started g.width g.first g.second)
      (new_away f g a.store (length a.memory) e (set_apart node local) active)
  left_alike delete_cluster h e =
      change node local a b al (call delete_cluster g) (λ d. inactive) (elsewhere delete_cluster refl e h)
  left_alike new_segment h e = made_alike e (elsewhere new_segment refl e h)
  left_alike delete_segment h e =
      change node local a b al (call delete_segment g) (λ d. with_place d g.segment None)
      (elsewhere delete_segment refl e h)
  left_alike read h e = al
  left_alike write h e = written_alike e
  left_alike weaken h e = al
  left_alike reduce h e = al
  left_alike new_password h e =
      change node local a b al (call new_password g) (λ d. with_password d g.mode g.first)
      (elsewhere new_password refl e h)
  left_alike freeze h e =
      change node local a b al (call freeze g) (λ d. with_mark d g.segment) (elsewhere freeze refl e h)
  left_alike join h e = al
  left_alike validate h e = al
  left_alike look h e = al

  -- the segment that a call reads lies outside those of the cluster set apart, and a password is that of another cluster
  pub given_alike : (kind : Kind) → Closed kind → Done f (call kind g) a
      → given f kind (call kind g) a ≡ given f kind (call kind g) b
  given_alike kind h e =
      same_given f g a b k same_tables al.size kind e
      (λ r p u.
      al.bytes p
      (place_outside a.store (length a.memory) (facts a k) node local high low (node_for x) (local_for x) g.segment
      v.node_low v.local_low (low_segment f g a k kind (reads_segment kind r) e)
      (elsewhere kind (reading_opens kind r) e h) p u))
      (λ m.
      ap (λ (d : Cluster). primary_of d g.mode) (al.others (record_for x) (elsewhere kind (moded_opens kind m) e h)))
    where
      x : Call
      x = call kind g

      v : InRange (node_for x) (local_for x)
      v = done_range f x a.store (length a.memory) e
