-- Document 01, "The calls", the column "Done, it gives and leaves", by what can be seen of it afterwards. For every
-- conversion f and a call done:
--     Shaped s           the store has all its records, and each has all its segments
--     name_for x          the name of the cluster that a call is about
--     opened b           the handle that the bytes of a reply hold, as many as it says
--     BytesAlone b       each of b is below 256; how many there are is open, since only three lengths get past row 25
--     Refers n w r h     the handle h names n, has the width w, is not gapped, and references exactly the segments that r gives
--     MadeOpens          call 1: the two handles name the cluster, have the width asked for, reference every segment, and
--                        validate, one for reading and one for writing, on the copy left
--     RenewedOpens       call 9: the new handle names the cluster, has the width of the one presented, references every
--                        segment and validates in the mode named; the other password stays
--     ReducedOpens       call 8: the handle has the same width, validates in the mode named, and references the same segments
--     JoinedOpens        call 11: the copy stays, and one handle is given, nothing else; it has the width of the two,
--                        validates in the mode named, references exactly the segments that either of the two references, and
--                        is not primary
--     WeakenedOpens      call 7: the handle has the same width, validates in each mode in which the old one does, and
--                        references those segments of the old one that the mask keeps
--     other_mode m        the mode that m is not
--     SameSegment x y    two calls are about the same segment
--     WrittenReads       call 6 and then 5: the buffer begins with what was written
--     NewReads           call 3 and then 5: the buffer begins with zeros
--     ClusterGone        call 2: the record is that of the starting store
--     SegmentGone        call 4: the segment is absent
-- And of a call done or refused:
--     OtherSegments      the record a has become b: active or not, width, passwords and the other segments are as they were
--     OtherPassword      its table and the password of the other mode are as they were
--     OtherMarks         all is as it was but for the mark of the segment that the call names; what a freeze makes of that
--                        mark is said in `FreezeInWords` of `calls`
--     Entries k x a b    what a call of the kind k leaves alone in its own cluster's record, a before it and b after
--     EntriesStay        every call leaves these alone
-- Assumes nothing.
use Rattle.std.specs.Prelude.{◌≡◌, ◌≢◌, ℕ, ◌<◌, Bool, true, false, ◌&&◌, List, [], ◌++◌, eqb, length, get_or, take, drop, replicate}
use Rattle.bits.specs.Sets.{has}
use Rattle.sizes.specs.Sizes as N
use Rattle.handle.specs.declared.Handle.{Handle}
use Rattle.handle.specs.declared.HandleBytes.{HandleBytes}
use Rattle.handle.specs.Selectors.{references, either, all_flat, gapped}
use Rattle.handle.specs.Handles.{Name, name_of, width_of, decoded, bytes_in}
use Rattle.store.specs.Places.{None}
use Rattle.store.specs.declared.Cluster.{Cluster}
use Rattle.store.specs.declared.Store.{Store}
use Rattle.store.specs.Records.{inactive, table_of, cluster_at, table_at, segment_of, place_of}
use Rattle.calls.specs.Calls.{Copy, Call, call, Arguments, Kind, new_cluster, delete_cluster, new_segment, delete_segment}
use Rattle.store.specs.Records.{read_mode, write_mode, length_of, primary_of}
use Rattle.calls.specs.Calls.{read, write, weaken, reduce, new_password, freeze, join, validate, look}
use Rattle.calls.specs.Calls.{handle_of, other_of, node_for, local_for, record_for, place_for}
use Rattle.calls.specs.Numbers.{valid}
use Rattle.calls.specs.Steps.{Outcome, step}
use Rattle.calls.specs.Literals.{none, told}
use Rattle.isolation.specs.Copies.{SoundCopy, Done, SixteenBytes}

pub record Shaped (s : Store) : Type 0 where
  pub records : length s.clusters ≡ N.records
  pub segments : (n : ℕ) → n < N.records → length (cluster_at s n).segments ≡ N.segments

pub record SameSegment (x y : Call) : Type 0 where
  pub node : node_for y ≡ node_for x
  pub local : local_for y ≡ local_for x
  pub segment : y.args.segment ≡ x.args.segment

abbrev pub other_mode : ℕ → ℕ
other_mode m = elim (eqb m read_mode) [ true ↦ write_mode | false ↦ read_mode ]

abbrev pub name_for : Call → Name
name_for x = record { node = node_for x; local = local_for x }

abbrev pub opened : HandleBytes → Handle
opened b = decoded (bytes_in b)

abbrev pub BytesAlone : List ℕ → Type 0
BytesAlone b = (i : ℕ) → get_or b i 0 < 256

pub record Refers (n : Name) (w : ℕ) (r : ℕ → Bool) (h : Handle) : Type 0 where
  pub named : name_of h ≡ n
  pub wide : width_of h ≡ w
  pub ungapped : gapped w h.selector ≡ false
  pub refers : (i : ℕ) → i < w → references h.selector i ≡ r i

module _ (f : Name → List ℕ → ℕ → List ℕ) where
  -- ---- the handles

  pub record Made (x : Call) (o : Outcome) : Type 0 where
    pub reader : Refers (name_for x) x.args.width (λ i. true) (opened o.reply.first)
    pub writer : Refers (name_for x) x.args.width (λ i. true) (opened o.reply.second)
    pub reading : valid f read_mode (opened o.reply.first) o.copy.store ≡ true
    pub writing : valid f write_mode (opened o.reply.second) o.copy.store ≡ true

  abbrev pub MadeOpens : Type 0
  MadeOpens =
      (g : Arguments) (c : Copy) → let x = call new_cluster g in
      Shaped c.store → length g.first ≡ N.password_bytes → length g.second ≡ N.password_bytes
      → Done f x c → Made x (step f x c)

  pub record Renewed (x : Call) (c : Copy) (o : Outcome) : Type 0 where
    pub handle : Refers (name_for x) (width_of (handle_of x)) (λ i. true) (opened o.reply.first)
    pub opens : valid f x.args.mode (opened o.reply.first) o.copy.store ≡ true
    pub other : primary_of (cluster_at o.copy.store (record_for x)) (other_mode x.args.mode)
        ≡ primary_of (cluster_at c.store (record_for x)) (other_mode x.args.mode)

  abbrev pub RenewedOpens : Type 0
  RenewedOpens =
      (g : Arguments) (c : Copy) → length g.first ≡ N.password_bytes → Done f (call new_password g) c
      → Renewed (call new_password g) c (step f (call new_password g) c)

  pub record Reduced (x : Call) (o : Outcome) : Type 0 where
    pub opens : valid f x.args.mode (opened o.reply.first) o.copy.store ≡ true
    pub handle : Refers (name_for x) (width_of (handle_of x)) (references (handle_of x).selector) (opened o.reply.first)

  abbrev pub ReducedOpens : Type 0
  ReducedOpens =
      SixteenBytes f → (g : Arguments) (c : Copy) → let x = call reduce g in
      BytesAlone g.handle
      → length (primary_of (cluster_at c.store (record_for x)) g.mode) ≡ N.password_bytes
      → Done f x c → Reduced x (step f x c)

  pub record Joined (x : Call) (c : Copy) (o : Outcome) : Type 0 where
    pub stays : o.copy ≡ c
    pub told : o.reply ≡ told 0 (bytes_in o.reply.first) none 0 0 []
    pub opens : valid f x.args.mode (opened o.reply.first) o.copy.store ≡ true
    pub handle : Refers (name_for x) (width_of (handle_of x)) (either (handle_of x).selector (other_of x).selector) (opened o.reply.first)
    pub not_primary_lem : all_flat (width_of (opened o.reply.first)) (opened o.reply.first).selector ≡ false

  abbrev pub JoinedOpens : Type 0
  JoinedOpens =
      SixteenBytes f → (g : Arguments) (c : Copy) → let x = call join g in
      BytesAlone g.handle → Done f x c → Joined x c (step f x c)

  pub record Weakened (x : Call) (c : Copy) (o : Outcome) : Type 0 where
    pub opens : (m : ℕ) → length (primary_of (cluster_at c.store (record_for x)) m) ≡ N.password_bytes
        → valid f m (handle_of x) c.store ≡ true → valid f m (opened o.reply.first) c.store ≡ true
    pub handle : Refers (name_for x) (width_of (handle_of x)) (λ i. references (handle_of x).selector i && has i x.args.mask)
        (opened o.reply.first)

  abbrev pub WeakenedOpens : Type 0
  WeakenedOpens =
      SixteenBytes f → (g : Arguments) (c : Copy) → let x = call weaken g in
      BytesAlone g.handle → Done f x c → Weakened x c (step f x c)

  -- ---- the segments

  abbrev pub WrittenReads : Type 0
  WrittenReads =
      (g h : Arguments) (c : Copy) → let x = call write g in
      let y = call read h in
      let d = (step f x c).copy in
      let n = length_of (place_for x (table_at c.store)) in
      SoundCopy c → SameSegment x y → Done f x c → Done f y d
      → (step f y d).reply.buffer ≡ take n g.bytes ++ drop n h.bytes

  abbrev pub NewReads : Type 0
  NewReads =
      (g h : Arguments) (c : Copy) → let x = call new_segment g in
      let y = call read h in
      let d = (step f x c).copy in
      SoundCopy c → Shaped c.store → SameSegment x y → Done f x c → Done f y d
      → (step f y d).reply.buffer ≡ replicate g.size 0 ++ drop g.size h.bytes

  -- ---- what is deleted

  abbrev pub ClusterGone : Type 0
  ClusterGone =
      (g : Arguments) (c : Copy) → let x = call delete_cluster g in
      Done f x c → cluster_at (step f x c).copy.store (record_for x) ≡ inactive

  abbrev pub SegmentGone : Type 0
  SegmentGone =
      (g : Arguments) (c : Copy) → let x = call delete_segment g in
      Done f x c → place_for x (table_at (step f x c).copy.store) ≡ None

-- ---- the record of the cluster that a call is about

pub record OtherSegments (x : Call) (a b : Cluster) : Type 0 where
  pub active : b.active ≡ a.active
  pub width : b.width ≡ a.width
  pub read : b.read ≡ a.read
  pub write : b.write ≡ a.write
  pub segments : (j : ℕ) → j ≢ x.args.segment → segment_of (table_of b) j ≡ segment_of (table_of a) j

pub record OtherPassword (x : Call) (a b : Cluster) : Type 0 where
  pub table : table_of b ≡ table_of a
  pub password : primary_of b (other_mode x.args.mode) ≡ primary_of a (other_mode x.args.mode)

pub record OtherMarks (x : Call) (a b : Cluster) : Type 0 where
  pub others : OtherSegments x a b
  pub place : place_of (table_of b) x.args.segment ≡ place_of (table_of a) x.args.segment

abbrev pub Entries : Kind → Call → Cluster → Cluster → Type 0
Entries new_cluster x a b = Unit {0}
Entries delete_cluster x a b = Unit {0}
Entries new_segment x a b = OtherSegments x a b
Entries delete_segment x a b = OtherSegments x a b
Entries read x a b = b ≡ a
Entries write x a b = b ≡ a
Entries weaken x a b = b ≡ a
Entries reduce x a b = b ≡ a
Entries new_password x a b = OtherPassword x a b
Entries freeze x a b = OtherMarks x a b
Entries join x a b = b ≡ a
Entries validate x a b = b ≡ a
Entries look x a b = b ≡ a

abbrev pub EntriesStay : (Name → List ℕ → ℕ → List ℕ) → Type 0
EntriesStay f =
    (x : Call) (c : Copy)
    → Entries x.kind x (cluster_at c.store (record_for x)) (cluster_at (step f x c).copy.store (record_for x))
