-- What a read sees of a segment written or made, and what deleting leaves. The part that was overwritten is what was
-- put there, and the read is of that very part: a write leaves the tables alone, and a new segment stands where it was
-- made.
-- Assumes nothing.
use mathlib.Core.Path.{◌≡◌, refl, sym, ap, ◌∙◌, subst}
use Prim.Native.Nat.{ℕ, ◌<◌}
use native.Mathlib.Omega.{arith}
use native.Mathlib.Decide.{dec_lt}
use mathlib.Core.Bool.{true}
use mathlib.Core.List.{List, ◌++◌}
use lib.ListN.{length, get_or, set, take, drop, replicate, length-replicate, get_or-eq_default}
use lib.Seq.{get_or-set_same, set_out}
use Rattle.handle.specs.Handles.{Name}
use Rattle.store.specs.Places.{Place, None}
use Rattle.store.specs.declared.Segment.{Segment}
use Rattle.store.specs.declared.Cluster.{Cluster}
use Rattle.store.specs.Records.{Tables, segment_at, absent_segment, inactive, table_of, record_of, cluster_at, place_of, place_at}
use Rattle.store.specs.Records.{with_place, base_of, length_of, address}
use Rattle.store.proofs.ChangeLaws.{put_same}
use Rattle.calls.specs.Calls.{Copy, Call, call, Arguments, delete_cluster, new_segment, delete_segment, read, write}
use Rattle.calls.specs.Calls.{node_for, record_for, place_for, start_for}
use Rattle.calls.specs.Steps.{Outcome, overwritten, about, new_place, new_start}
use Rattle.calls.specs.Steps.{cluster_deleted, segment_made, segment_deleted, segment_written, left, segment_read, given}
use Rattle.calls.specs.Steps.{step}
use Rattle.isolation.specs.Copies.{Done}
use Rattle.isolation.specs.Effects.{SameSegment, WrittenReads, NewReads, ClusterGone, SegmentGone}
use Rattle.calls.proofs.MemoryLaws.{part_overwritten}
use Rattle.calls.proofs.DoneLaws.{done_range, done_active}
use Rattle.calls.proofs.StepLaws.{step_done}
use Rattle.isolation.proofs.KeptLaws.{tables, new_fits, low_segment, write_fits, length_data}
use Rattle.calls.proofs.MadeWordLaws.{active_in}

same_place : (x y : Call) (ts : Tables) → SameSegment x y → place_for y ts ≡ place_for x ts
same_place x y ts s = λ t. place_at ts (record_of (s.node t) (s.local t)) (s.segment t)

module _ (f : Name → List ℕ → ℕ → List ℕ) where
  -- a read done of a place p, whose bytes in the memory are bs
  read_is : (h : Arguments) (d : Copy) (v : ℕ) (p : Place) (bs : List ℕ) → Done f (call read h) d
      → node_for (call read h) ≡ v → place_for (call read h) (tables d) ≡ p
      → take (length_of p) (drop (address v (base_of p)) d.memory) ≡ bs
      → (step f (call read h) d).reply.buffer ≡ bs ++ drop (length_of p) h.bytes
  unfolding given segment_read
  read_is h d v p bs e q place part =
      ap (λ (o : Outcome). o.reply.buffer) (step_done f (call read h) d e)
      ∙ (λ t.
      take (length_of (place t)) (drop (address (q t) (base_of (place t))) d.memory)
      ++ drop (length_of (place t)) h.bytes)
      ∙ ap (λ (b : List ℕ). b ++ drop (length_of p) h.bytes) part

  pub written_reads : WrittenReads f
  unfolding left segment_written
  written_reads g h c k s e =
      subst
      (λ (o : Outcome).
      Done f y o.copy → (step f y o.copy).reply.buffer ≡ take n g.bytes ++ drop n h.bytes)
      (sym (step_done f x c e))
      (λ z.
      read_is h (left write x c) (node_for x) (place_for x (tables c)) written z s.node
      (same_place x y (tables c) s) part)
    where
      x : Call
      x = call write g

      y : Call
      y = call read h

      n : ℕ
      n = length_of (place_for x (tables c))

      written : List ℕ
      written = take n g.bytes

      part : take n (drop (start_for x (tables c)) (overwritten c.memory (start_for x (tables c)) written)) ≡ written
      part =
          ap (λ (k : ℕ). take k (drop (start_for x (tables c)) (overwritten c.memory (start_for x (tables c)) written)))
          (sym (length_data f g c k e))
          ∙ part_overwritten c.memory (start_for x (tables c)) written (write_fits f g c k e)

  pub new_reads : NewReads f
  unfolding left segment_made
  new_reads g h c k shape s e =
      subst
      (λ (o : Outcome).
      Done f y o.copy → (step f y o.copy).reply.buffer ≡ cleared ++ drop g.size h.bytes)
      (sym (step_done f x c e))
      (λ z. read_is h (left new_segment x c) (node_for x) (new_place x (tables c)) cleared z s.node place part)
    where
      x : Call
      x = call new_segment g

      y : Call
      y = call read h

      cleared : List ℕ
      cleared = replicate g.size 0

      made : Cluster
      made = with_place (about x c) g.segment (new_place x (tables c))

      active : (tables c (record_for x)).active ≡ true
      active = done_active f x c.store (length c.memory) e refl

      low : g.segment < length (about x c).segments
      low =
          let v = done_range f x c.store (length c.memory) e in
          let n = v.node_low in
          let l = v.local_low in
          let i = low_segment f g c k new_segment refl e in
          let sixteen = shape.segments (record_for x) (omega arith) in
          omega arith

      place : place_for y (tables (left new_segment x c)) ≡ new_place x (tables c)
      place =
          same_place x y (tables (left new_segment x c)) s
          ∙ ap (λ (d : Cluster). place_of (table_of d) g.segment)
          (put_same c.store (record_for x) made (active_in c.store (record_for x) active))
          ∙ ap (λ (z : Segment). z.place)
          (get_or-set_same (about x c).segments g.segment (segment_at (new_place x (tables c))) absent_segment low)

      part : take g.size (drop (new_start x (tables c)) (overwritten c.memory (new_start x (tables c)) cleared))
          ≡ cleared
      part =
          ap (λ (k : ℕ). take k (drop (new_start x (tables c)) (overwritten c.memory (new_start x (tables c)) cleared)))
          (sym (length-replicate {A = ℕ} g.size 0))
          ∙ part_overwritten c.memory (new_start x (tables c)) cleared (new_fits f g c k e)

  -- ---- what is deleted

  pub cluster_gone : ClusterGone f
  unfolding left cluster_deleted
  cluster_gone g c e =
      let x : Call = call delete_cluster g in
      ap (λ (o : Outcome). cluster_at o.copy.store (record_for x)) (step_done f x c e)
      ∙ put_same c.store (record_for x) inactive
      (active_in c.store (record_for x) (done_active f x c.store (length c.memory) e refl))

  -- a segment made absent is absent, within the list of segments and past it
  absent_set : (l : List Segment) (i : ℕ) → get_or (set l i absent_segment) i absent_segment ≡ absent_segment
  absent_set l i = go (dec_lt i (length l))
    where
      go : Dec (i < length l) → get_or (set l i absent_segment) i absent_segment ≡ absent_segment
      go (yes h) = get_or-set_same l i absent_segment absent_segment h
      go (no h) =
          ap (λ (k : List Segment). get_or k i absent_segment) (set_out l i absent_segment (omega arith))
          ∙ get_or-eq_default l absent_segment (omega arith)

  pub segment_gone : SegmentGone f
  unfolding left segment_deleted
  segment_gone g c e =
      let x : Call = call delete_segment g in
      ap (λ (o : Outcome). place_for x (tables o.copy)) (step_done f x c e)
      ∙ ap (λ (d : Cluster). place_of (table_of d) g.segment)
      (put_same c.store (record_for x) (with_place (about x c) g.segment None)
      (active_in c.store (record_for x) (done_active f x c.store (length c.memory) e refl)))
      ∙ ap (λ (z : Segment). z.place) (absent_set (about x c).segments g.segment)
