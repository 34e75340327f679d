-- Document 01, "Numbers a call may be turned down with", row by row in the table's own words and numbers, with document
-- 02's 21; its 22, in two places; its call 10, which has the rows of call 4; its call 11, of two handles, with 23 and 24;
-- its 12, of one mode; its widths, with 25, in two places; and the look, which has the rows of call 5 but 15, and row 5.
-- Nothing here is a test, and `number`
-- (Numbers) is held to it both ways. The calls that a row names are listed by kind, in the order of their codes, validation
-- and the look last; validation stands with call 8, whose number it gives. The cluster of node v and local number l is
-- record v * 8 + l. Bits, subselectors and references are the handle crate's words.
--     Named ks x           the call x is of one of the kinds ks
--     Handled x            the call takes a handle: all but 1
--     Joining x            it takes a second one: 11
--     Some P x             P holds of the handle that it takes, or of the second one of a join
--     HandleInWords b      the handle that bytes hold: node (high byte first), local number, password, selector; of 21 bytes
--                          it has width 4 and its subselectors 0 and 2 are the low halves of bytes 19 and 20, 1 and 3 the
--                          high halves; of 23 it has width 8 and a byte for each; of 27, width 16 and two bytes for each,
--                          high byte first; of any other length it has no width
--     Flat h k             subselector k of h has all bits of its width
--     SamePassword p q     the sixteen bytes of p are those of q
--     cluster s v l        the record of the cluster of node v and local number l
--     cluster_of h s        that of the cluster which a handle names
--     Current m c p        p is the password of the record c for the mode m
--     place x s            the place of the segment which the call names, in the cluster of its handle
--     Frozen x s i         segment i of that cluster is frozen
--     Converted g h k p q  the step of validation by subselector k: a flat one is skipped and q is p; by another p goes
--                          through the conversion g with it and comes out as q
--     Chain g p h          the chain from the primary password p, by subselector 0 first, ends as the handle's password
--     ReadMode, WriteMode  the mode needed: read for 5 and a look, write for 2, 3, 4, 6 and 10, the one named for 8, 9 and 11
--     Valid f x h s        the handle has the width of its cluster and validates in the mode that the call needs
--     NoLength b           b has neither 21 nor 23 nor 27 bytes
--     BadLength .. Spent   the twenty-four rows
--     Entry, table         a number and its words; the table, nearest the top first
--     Nothing ls           no words of ls hold
--     Told ls n            the words of the entry with number n hold, and none above it
--     TableInWords         0 is given just where nothing applies, n just where row n applies and nothing above it; it
--                          holds of every call, store, size and conversion
-- Assumes nothing.
use Rattle.std.specs.Prelude.{◌≡◌, ◌≢◌, ◌⊎◌, ◌↔◌, ℕ, ◌+◌, ◌*◌, ◌-◌, ◌/◌, ◌%◌, ◌^◌, ◌≤◌, ◌<◌, true, false, List, [], ◌∷◌, length, get_or}
use Rattle.handle.specs.declared.Handle.{Handle}
use Rattle.handle.specs.Handles.{Name, name_of, node_of, width_of, decoded}
use Rattle.handle.specs.Words.{Bit, subselector, References}
use Rattle.store.specs.Places.{Place, None, present_at}
use Rattle.store.specs.declared.Cluster.{Cluster}
use Rattle.store.specs.declared.Store.{Store}
use Rattle.store.specs.Records.{table_of, cluster_at, place_of, frozen_of}
use Rattle.store.specs.SoundWords.{SoundInWords}
use Rattle.store.specs.PlacementWords.{Room}
use Rattle.calls.specs.Calls.{Call, Kind, new_cluster, delete_cluster, new_segment, delete_segment, read, write, weaken}
use Rattle.calls.specs.Calls.{reduce, new_password, freeze, join, validate, look, handle_of, other_of}
use Rattle.calls.specs.Numbers.{number}

-- ---- the calls that a row names

unfoldable pub Named : List Kind → Call → Type 0
Named [] x = ⊥
Named (k ∷ ks) x = (x.kind ≡ k) ⊎ Named ks x

abbrev pub Handled : Call → Type 0
Handled x = x.kind ≢ new_cluster

abbrev pub Joining : Call → Type 0
Joining x = Named (join ∷ []) x

abbrev pub Some : (Handle → Type 0) → Call → Type 0
Some P x = (Handled x × P (handle_of x)) ⊎ (Joining x × P (other_of x))

-- 2 to 6, 8 to 11, and a look
abbrev pub Opening : Call → Type 0
Opening x =
    Named
    (delete_cluster
    ∷ new_segment
    ∷ delete_segment
    ∷ read
    ∷ write
    ∷ reduce
    ∷ new_password
    ∷ freeze
    ∷ join
    ∷ validate
    ∷ look
    ∷ [])
    x

-- ---- handles and clusters

abbrev pub NoLength : List ℕ → Type 0
NoLength b = (length b ≢ 21) × (length b ≢ 23) × (length b ≢ 27)

-- what the bytes of every handle begin with
pub record Begun (b : List ℕ) : Type 0 where
  pub node : node_of (decoded b) ≡ get_or b 0 0 * 256 + get_or b 1 0
  pub local : (decoded b).local ≡ get_or b 2 0
  pub password : (k : ℕ) → k < 16 → get_or (decoded b).password k 0 ≡ get_or b (3 + k) 0

pub record HandleInWords (b : List ℕ) : Type 0 where
  pub of21 : length b ≡ 21 → Begun b × (width_of (decoded b) ≡ 4)
      × (subselector (decoded b) 0 ≡ get_or b 19 0 % 16) × (subselector (decoded b) 1 ≡ get_or b 19 0 / 16)
      × (subselector (decoded b) 2 ≡ get_or b 20 0 % 16) × (subselector (decoded b) 3 ≡ get_or b 20 0 / 16)
  pub of23 : length b ≡ 23 → Begun b × (width_of (decoded b) ≡ 8)
      × ((k : ℕ) → k < 4 → subselector (decoded b) k ≡ get_or b (19 + k) 0)
  pub of27 : length b ≡ 27 → Begun b × (width_of (decoded b) ≡ 16)
      × ((k : ℕ) → k < 4 → subselector (decoded b) k ≡ get_or b (19 + 2 * k) 0 * 256 + get_or b (20 + 2 * k) 0)
  pub other : NoLength b → width_of (decoded b) ≡ 0

abbrev pub SamePassword : List ℕ → List ℕ → Type 0
SamePassword p q = (k : ℕ) → k < 16 → get_or p k 0 ≡ get_or q k 0

abbrev pub cluster : Store → ℕ → ℕ → Cluster
cluster s v l = cluster_at s (v * 8 + l)

abbrev pub cluster_of : Handle → Store → Cluster
cluster_of h s = cluster s (node_of h) h.local

abbrev pub Current : ℕ → Cluster → List ℕ → Type 0
Current m c p = ((m ≡ 1) × SamePassword p c.read) ⊎ ((m ≡ 2) × SamePassword p c.write)

abbrev pub place : Call → Store → Place
place x s = place_of (table_of (cluster_of (handle_of x) s)) x.args.segment

abbrev pub Frozen : Call → Store → ℕ → Type 0
Frozen x s i = frozen_of (table_of (cluster_of (handle_of x) s)) i ≡ true

-- ---- validation

abbrev pub Flat : Handle → ℕ → Type 0
Flat h k = subselector h k ≡ 2 ^ width_of h - 1

abbrev pub Converted : (List ℕ → ℕ → List ℕ) → Handle → ℕ → List ℕ → List ℕ → Type 0
Converted g h k p q = (Flat h k × (q ≡ p)) ⊎ ((¬ Flat h k) × (q ≡ g p (subselector h k)))

pub record Chain (g : List ℕ → ℕ → List ℕ) (p : List ℕ) (h : Handle) : Type 0 where
  pub after0 : List ℕ
  pub after1 : List ℕ
  pub after2 : List ℕ
  pub after3 : List ℕ
  pub by0 : Converted g h 0 p after0
  pub by1 : Converted g h 1 after0 after1
  pub by2 : Converted g h 2 after1 after2
  pub by3 : Converted g h 3 after2 after3
  pub ends : SamePassword after3 h.password

abbrev pub ReadMode : Call → Type 0
ReadMode x =
    Named (read ∷ look ∷ []) x ⊎ (Named (reduce ∷ new_password ∷ join ∷ validate ∷ []) x × (x.args.mode ≡ 1))

abbrev pub WriteMode : Call → Type 0
WriteMode x =
    Named (delete_cluster ∷ new_segment ∷ delete_segment ∷ write ∷ freeze ∷ []) x
    ⊎ (Named (reduce ∷ new_password ∷ join ∷ validate ∷ []) x × (x.args.mode ≡ 2))

abbrev pub Valid : (Name → List ℕ → ℕ → List ℕ) → Call → Handle → Store → Type 0
Valid f x h s =
    ((cluster_of h s).width ≡ width_of h)
    × ((ReadMode x × Chain (f (name_of h)) (cluster_of h s).read h)
    ⊎ (WriteMode x × Chain (f (name_of h)) (cluster_of h s).write h))

-- ---- the rows

-- 25: a handle's length is none of the three
abbrev pub BadLength : Call → Type 0
BadLength x = (Handled x × NoLength x.args.handle) ⊎ (Joining x × NoLength x.args.other)

-- 1, all but 7: the store is not sound
abbrev pub Unsound : ℕ → Call → Store → Type 0
Unsound size x s = (x.kind ≢ weaken) × ¬ SoundInWords s size

-- 2: node above 3 or local number above 7, in a handle or the call. Calls 1 to 4, 10 and a look name a current node, 1 a
-- local number
abbrev pub NoSuchPlace : Call → Type 0
NoSuchPlace x =
    Some (λ h. (3 < node_of h) ⊎ (7 < h.local)) x
    ⊎ (Named (new_cluster ∷ delete_cluster ∷ new_segment ∷ delete_segment ∷ freeze ∷ look ∷ []) x × (3 < x.args.current))
    ⊎ (Named (new_cluster ∷ []) x × (7 < x.args.local))

-- 3: mode not 1 or 2; segment at or above the handle's width; size 0 or above 4,096; width not 4, 8 or 16. A mode is named by
-- 8, 9 and 11, a segment by 3 to 6, 10 and a look, a size by 3, a width by 1
abbrev pub Field : Call → Type 0
Field x =
    (Named (reduce ∷ new_password ∷ join ∷ validate ∷ []) x × (x.args.mode ≢ 1) × (x.args.mode ≢ 2))
    ⊎ (Named (new_segment ∷ delete_segment ∷ read ∷ write ∷ freeze ∷ look ∷ []) x × (width_of (handle_of x) ≤ x.args.segment))
    ⊎ (Named (new_segment ∷ []) x × ((x.args.size ≡ 0) ⊎ (4096 < x.args.size)))
    ⊎ (Named (new_cluster ∷ []) x × (x.args.width ≢ 4) × (x.args.width ≢ 8) × (x.args.width ≢ 16))

-- 4: a handle's selector is gapped: a flat subselector j stands below one, k, that is not flat
abbrev pub GappedHandle : Handle → Type 0
GappedHandle h = (j : ℕ) × (k : ℕ) × (j < k) × (k < 4) × Flat h j × ¬ Flat h k

abbrev pub Gapped : Call → Type 0
Gapped x = Some GappedHandle x

-- 24, for 11: the two names of node and cluster differ
abbrev pub Apart : Call → Type 0
Apart x = Joining x × ((node_of (handle_of x) ≢ node_of (other_of x)) ⊎ ((handle_of x).local ≢ (other_of x).local))

-- 5, for 2, 3, 4, 10 and a look: the current node is not the handle's
abbrev pub Elsewhere : Call → Type 0
Elsewhere x =
    Named (delete_cluster ∷ new_segment ∷ delete_segment ∷ freeze ∷ look ∷ []) x × (x.args.current ≢ node_of (handle_of x))

-- 6, for 1: the cluster is active
abbrev pub InUse : Call → Store → Type 0
InUse x s = Named (new_cluster ∷ []) x × ((cluster s x.args.current x.args.local).active ≡ true)

-- 7, for 1: the two passwords are equal
abbrev pub Twins : Call → Type 0
Twins x = Named (new_cluster ∷ []) x × SamePassword x.args.first x.args.second

-- 8, for 2 to 6, 8 to 11 and a look: a handle's cluster is inactive
abbrev pub Inactive : Call → Store → Type 0
Inactive x s = Opening x × Some (λ h. (cluster_of h s).active ≡ false) x

-- 25, for 2 to 6, 8 to 11 and a look: a handle's width is not its cluster's
abbrev pub OtherWidth : Call → Store → Type 0
OtherWidth x s = Opening x × Some (λ h. (cluster_of h s).width ≢ width_of h) x

-- 9, for 2 to 6, 8 to 11 and a look: a handle does not validate in the mode needed
abbrev pub Violated : (Name → List ℕ → ℕ → List ℕ) → Call → Store → Type 0
Violated f x s = Opening x × Some (λ h. ¬ Valid f x h s) x

-- 23, for 11: the union is all of the width, each segment referenced by the one handle or the other
abbrev pub Whole : Call → Type 0
Whole x = Joining x × ((i : ℕ) → i < width_of (handle_of x) → References (handle_of x) i ⊎ References (other_of x) i)

-- 10, for 2, 3, 4, 9, 10: some subselector is not flat
abbrev pub NotPrimary : Call → Type 0
NotPrimary x =
    Named (delete_cluster ∷ new_segment ∷ delete_segment ∷ new_password ∷ freeze ∷ []) x
    × ((k : ℕ) × (k < 4) × ¬ Flat (handle_of x) k)

-- 22, for 2: any of the cluster's segments is frozen, of the sixteen that its record has room for
abbrev pub ClusterFrozen : Call → Store → Type 0
ClusterFrozen x s = Named (delete_cluster ∷ []) x × ((i : ℕ) × (i < 16) × Frozen x s i)

-- 11, for 5, 6 and a look: the handle does not reference the segment
abbrev pub NotReferenced : Call → Type 0
NotReferenced x = Named (read ∷ write ∷ look ∷ []) x × ¬ References (handle_of x) x.args.segment

-- 12, for 9: the new password equals the current one of the mode named
abbrev pub OldPassword : Call → Store → Type 0
OldPassword x s = Named (new_password ∷ []) x × Current x.args.mode (cluster_of (handle_of x) s) x.args.first

-- 13, for 3: the segment is present
abbrev pub SegmentPresent : Call → Store → Type 0
SegmentPresent x s = Named (new_segment ∷ []) x × ((base : ℕ) × (length : ℕ) × (place x s ≡ present_at base length))

-- 14, for 4, 5, 6, 10 and a look: the segment is absent
abbrev pub SegmentAbsent : Call → Store → Type 0
SegmentAbsent x s = Named (delete_segment ∷ read ∷ write ∷ freeze ∷ look ∷ []) x × (place x s ≡ None)

-- 22, for 4, 6: the segment is frozen
abbrev pub SegmentFrozen : Call → Store → Type 0
SegmentFrozen x s = Named (delete_segment ∷ write ∷ []) x × Frozen x s x.args.segment

-- 15, for 5, 6, and not for a look: the buffer or the data is shorter than the segment
abbrev pub Short : Call → Store → Type 0
Short x s =
    Named (read ∷ write ∷ []) x
    × ((base : ℕ) × (n : ℕ) × (place x s ≡ present_at base n) × (length x.args.bytes < n))

-- 16, for 3: no base exists
abbrev pub NoRoom : Call → Store → Type 0
NoRoom x s = Named (new_segment ∷ []) x × ((base : ℕ) → ¬ Room s (node_of (handle_of x)) x.args.size base)

-- 21, for 7: nothing would be left, no segment that is referenced and whose mask bit is set
abbrev pub Empty : Call → Type 0
Empty x =
    Named (weaken ∷ []) x
    × ((i : ℕ) → i < width_of (handle_of x) → ¬ (References (handle_of x) i × Bit i x.args.mask))

-- 17, for 7: something would be excluded, a referenced segment whose mask bit is clear, and no subselector is flat
abbrev pub Spent : Call → Type 0
Spent x =
    Named (weaken ∷ []) x
    × ((i : ℕ) × (i < width_of (handle_of x)) × References (handle_of x) i × ¬ Bit i x.args.mask)
    × ((k : ℕ) → k < 4 → ¬ Flat (handle_of x) k)

-- ---- the table

pub record Entry : Type 1 where
  pub number : ℕ
  pub words : Type 0

abbrev entry : ℕ → Type 0 → Entry
entry n w = record { number = n; words = w }

abbrev pub Nothing : List Entry → Type 0
Nothing [] = Unit {0}
Nothing (l ∷ ls) = (¬ l.words) × Nothing ls

abbrev pub Told : List Entry → ℕ → Type 0
Told [] n = ⊥
Told (l ∷ ls) n = ((n ≡ l.number) × l.words) ⊎ ((¬ l.words) × Told ls n)

module _ (f : Name → List ℕ → ℕ → List ℕ) (x : Call) (s : Store) (size : ℕ) where
  abbrev pub table : List Entry
  table =
      entry 25 (BadLength x)
      ∷ entry 1 (Unsound size x s)
      ∷ entry 2 (NoSuchPlace x)
      ∷ entry 3 (Field x)
      ∷ entry 4 (Gapped x)
      ∷ entry 24 (Apart x)
      ∷ entry 5 (Elsewhere x)
      ∷ entry 6 (InUse x s)
      ∷ entry 7 (Twins x)
      ∷ entry 8 (Inactive x s)
      ∷ entry 25 (OtherWidth x s)
      ∷ entry 9 (Violated f x s)
      ∷ entry 23 (Whole x)
      ∷ entry 10 (NotPrimary x)
      ∷ entry 22 (ClusterFrozen x s)
      ∷ entry 11 (NotReferenced x)
      ∷ entry 12 (OldPassword x s)
      ∷ entry 13 (SegmentPresent x s)
      ∷ entry 14 (SegmentAbsent x s)
      ∷ entry 22 (SegmentFrozen x s)
      ∷ entry 15 (Short x s)
      ∷ entry 16 (NoRoom x s)
      ∷ entry 21 (Empty x)
      ∷ entry 17 (Spent x)
      ∷ []

  pub record TableInWords : Type 0 where
    pub done : (number f x s size ≡ 0) ↔ Nothing table
    pub told : (n : ℕ) → 0 < n → (number f x s size ≡ n) ↔ Told table n
