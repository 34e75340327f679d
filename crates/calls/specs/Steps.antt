-- Document 01, "The calls": what a call done gives and leaves; what a refusal gives; and "Two copies": a list of calls,
-- each working on what the one before it left. With the look of document 02, §2, whose bytes shown are part of the reply,
-- its §3, call 10, its §5, call 11, and its §8, widths.
--     Reply               the number, two handles as bytes and their length, a count, a length, the buffer afterwards, and
--                         the bytes shown; a handle that is not given has length 0, a count or length that is not told is
--                         zero, and where nothing is shown there are no bytes
--     Outcome, Ran        the copy that a call leaves, and its reply; the copy that a list leaves, and its replies
--     no_bytes             the bytes of a handle that is not given
--     plain n b           the reply with the number n and the buffer b alone
--     handles a b n       the reply of a call done with the handles a and b and the count n
--     read_reply n b       the reply of a read done: the length n and the buffer b
--     look_reply n bs      the reply of a look: the number n and the bytes shown
--     weaken_reply w       the handle crate's reply to a weakening, as a reply
--     overwritten m a bs  the bytes m with bs from place a on
--     within p m          the part p of the bytes m
--     put_cluster          the copy with one record replaced
--     put_bytes            the copy with some bytes of its memory overwritten
--     about               the record of the cluster that a call is about
--     new_base_for, new_place, new_start    the base, the place and the start in the slice of the segment that call 3 makes
-- What each call leaves, and the copy as it was for the others:
--     cluster_made         1: the cluster is active, with its width and the two passwords
--     cluster_deleted      2: the record is inactive, as in the starting store
--     segment_made         3: the segment is present at the base that placement gives, not frozen, and its bytes are zero
--     segment_deleted      4: the segment is absent; memory bytes stay
--     segment_written      6: the segment holds the first length bytes of the data
--     password_replaced    9: the primary password of the mode named is the new one
--     segment_marked       10: the segment is frozen
--     left k              the copy that a call of the kind k leaves, once done
-- What each call gives:
--     segment_read         5: the first length bytes of the buffer hold the segment
--     segment_shown        a look: the part of the memory that is the segment
--     new_primary          1: a primary handle of the cluster made
--     weaker f            7: the handle weakened by the mask
--     reduced_from f       8: the handle reduced, from the primary password of the mode named
--     joined_from f        11: the two handles joined, from the same
--     given f k           the reply of a call of the kind k, once done
-- And as a whole:
--     outcome f n         what is left and given where the number is n: a refusal leaves the copy and the buffer alone
--     step f              what a call leaves and gives on a copy
--     followed r n        the reply r, and then the list's
--     run_by p             the replies of a list of calls, each carried out by p on the copy that the one before it left, and
--                         the copy at its end
--     run f               that list carried out by the step
--     aes_step             the step by the product's conversion
--     effects             a name that opens what each call leaves and gives
-- Assumes nothing.
use Rattle.std.specs.Prelude.{ℕ, zero, suc, ◌+◌, ◌-◌, List, [], ◌∷◌, ◌++◌, length, take, drop, replicate}
use Rattle.handle.specs.declared.Handle.{Handle}
use Rattle.handle.specs.declared.HandleBytes.{HandleBytes}
use Rattle.handle.specs.Handles.{Weakened}
use Rattle.handle.specs.Widths.{width_from}
use Rattle.handle.specs.Selectors.{referenced}
use Rattle.handle.specs.Handles.{Name, name_of, width_of, laid, written, encoded, weakened, reduced, joined}
use Rattle.handle.specs.Conversion.{product}
use Rattle.handle.specs.Opens.{primary_handle}
use Rattle.store.specs.Places.{Place, None, present_at}
use Rattle.store.specs.declared.Cluster.{Cluster}
use Rattle.store.specs.Records.{Tables, inactive, started, cluster_at, table_at, put_record, with_place, with_mark, with_password}
use Rattle.store.specs.Placement.{placement}
use Rattle.calls.specs.Calls.{Copy, Call, Kind, new_cluster, delete_cluster, new_segment, delete_segment}
use Rattle.store.specs.Records.{length_of, address, primary_of}
use Rattle.calls.specs.Calls.{read, write, weaken, reduce, new_password, freeze, join, validate, look}
use Rattle.calls.specs.Calls.{handle_of, other_of, buffer, node_for, local_for, record_for, place_for}
use Rattle.calls.specs.Calls.{start_for, part_for}
use Rattle.calls.specs.declared.Part.{Part}
use Rattle.calls.specs.Numbers.{number}

-- ---- replies

pub record Reply : Type 0 where
  pub number : ℕ
  pub first : HandleBytes
  pub second : HandleBytes
  pub count : ℕ
  pub length : ℕ
  pub buffer : List ℕ
  pub shown : List ℕ

pub record Outcome : Type 0 where
  pub copy : Copy
  pub reply : Reply

pub record Ran : Type 0 where
  pub replies : List Reply
  pub copy : Copy

abbrev pub followed : Reply → Ran → Ran
followed r n = record { replies = r ∷ n.replies; copy = n.copy }

abbrev pub run_by : (Call → Copy → Outcome) → List Call → Copy → Ran
run_by p [] c = record { replies = []; copy = c }
run_by p (x ∷ xs) c = followed (p x c).reply (run_by p xs (p x c).copy)

abbrev pub no_bytes : List ℕ
no_bytes = []

abbrev pub plain : ℕ → List ℕ → Reply
plain n b = record { number = n; first = laid no_bytes; second = laid no_bytes; count = 0; length = 0; buffer = b; shown = [] }

abbrev pub handles : List ℕ → List ℕ → ℕ → Reply
handles a b n = record { number = 0; first = laid a; second = laid b; count = n; length = 0; buffer = []; shown = [] }

abbrev pub read_reply : ℕ → List ℕ → Reply
read_reply n b = record { number = 0; first = laid no_bytes; second = laid no_bytes; count = 0; length = n; buffer = b; shown = [] }

abbrev pub look_reply : ℕ → List ℕ → Reply
look_reply n bs = record { number = n; first = laid no_bytes; second = laid no_bytes; count = 0; length = 0; buffer = []; shown = bs }

abbrev pub weaken_reply : Weakened → Reply
weaken_reply w =
    record {
      number = w.number;
      first = written w.handle;
      second = laid no_bytes;
      count = w.count;
      length = 0;
      buffer = [];
      shown = [];
    }

-- ---- changes

abbrev pub overwritten : List ℕ → ℕ → List ℕ → List ℕ
overwritten m a bs = take a m ++ (bs ++ drop (a + length bs) m)

abbrev pub within : Part → List ℕ → List ℕ
within p m = take (p.to - p.from) (drop p.from m)

abbrev pub put_cluster : Copy → ℕ → Cluster → Copy
put_cluster c n d = record { store = put_record c.store n d; memory = c.memory }

abbrev pub put_bytes : Copy → ℕ → List ℕ → Copy
put_bytes c a bs = record { store = c.store; memory = overwritten c.memory a bs }

abbrev pub about : Call → Copy → Cluster
about x c = cluster_at c.store (record_for x)

abbrev pub new_base_for : Call → Tables → ℕ
new_base_for x ts = (placement ts (node_for x) x.args.size).base

abbrev pub new_place : Call → Tables → Place
new_place x ts = present_at (new_base_for x ts) x.args.size

abbrev pub new_start : Call → Tables → ℕ
new_start x ts = address (node_for x) (new_base_for x ts)

unfoldable pub cluster_made : Call → Copy → Copy
cluster_made x c = put_cluster c (record_for x) (started x.args.width x.args.first x.args.second)

unfoldable pub cluster_deleted : Call → Copy → Copy
cluster_deleted x c = put_cluster c (record_for x) inactive

unfoldable pub segment_made : Call → Copy → Copy
segment_made x c =
    let ts = table_at c.store in
    put_bytes (put_cluster c (record_for x) (with_place (about x c) x.args.segment (new_place x ts))) (new_start x ts)
    (replicate x.args.size 0)

unfoldable pub segment_deleted : Call → Copy → Copy
segment_deleted x c = put_cluster c (record_for x) (with_place (about x c) x.args.segment None)

unfoldable pub segment_written : Call → Copy → Copy
segment_written x c =
    let ts = table_at c.store in
    put_bytes c (start_for x ts) (take (length_of (place_for x ts)) (buffer x))

unfoldable pub password_replaced : Call → Copy → Copy
password_replaced x c = put_cluster c (record_for x) (with_password (about x c) x.args.mode x.args.first)

unfoldable pub segment_marked : Call → Copy → Copy
segment_marked x c = put_cluster c (record_for x) (with_mark (about x c) x.args.segment)

unfoldable pub left : Kind → Call → Copy → Copy
left new_cluster x c = cluster_made x c
left delete_cluster x c = cluster_deleted x c
left new_segment x c = segment_made x c
left delete_segment x c = segment_deleted x c
left read x c = c
left write x c = segment_written x c
left weaken x c = c
left reduce x c = c
left new_password x c = password_replaced x c
left freeze x c = segment_marked x c
left join x c = c
left validate x c = c
left look x c = c

-- ---- what a call done gives

unfoldable pub segment_read : Call → Copy → Reply
segment_read x c =
    let ts = table_at c.store in
    let n = length_of (place_for x ts) in
    read_reply n (take n (drop (start_for x ts) c.memory) ++ drop n (buffer x))

unfoldable pub segment_shown : Call → Copy → Reply
segment_shown x c = look_reply 0 (within (part_for x (table_at c.store)) c.memory)

abbrev pub new_primary : Call → List ℕ → List ℕ
new_primary x p =
    encoded (primary_handle (width_from x.args.width) (record { node = node_for x; local = local_for x }) p)

module _ (f : Name → List ℕ → ℕ → List ℕ) where
  abbrev pub weaker : Call → Handle
  weaker x = weakened (width_of (handle_of x)) (f (name_of (handle_of x))) (handle_of x) x.args.mask

  abbrev pub reduced_from : Call → Copy → Handle
  reduced_from x c =
      reduced (width_of (handle_of x)) (f (name_of (handle_of x))) (handle_of x) (primary_of (about x c) x.args.mode)

  abbrev pub joined_from : Call → Copy → Handle
  joined_from x c =
      joined (width_of (handle_of x)) (f (name_of (handle_of x))) (handle_of x) (other_of x) (primary_of (about x c) x.args.mode)

  unfoldable pub given : Kind → Call → Copy → Reply
  given new_cluster x c = handles (new_primary x x.args.first) (new_primary x x.args.second) 0
  given delete_cluster x c = plain 0 []
  given new_segment x c = plain 0 []
  given delete_segment x c = plain 0 []
  given read x c = segment_read x c
  given write x c = plain 0 (buffer x)
  given weaken x c =
      handles (encoded (weaker x)) no_bytes (referenced (width_of (handle_of x)) (weaker x).selector)
  given reduce x c = handles (encoded (reduced_from x c)) no_bytes 0
  given new_password x c =
      handles (encoded (primary_handle (handle_of x).width (name_of (handle_of x)) x.args.first)) no_bytes 0
  given freeze x c = plain 0 []
  given join x c = handles (encoded (joined_from x c)) no_bytes 0
  given validate x c = plain 0 []
  given look x c = segment_shown x c

  -- ---- a call, and a list of calls

  abbrev pub outcome : ℕ → Call → Copy → Outcome
  outcome zero x c = record { copy = left x.kind x c; reply = given x.kind x c }
  outcome (suc n) x c = record { copy = c; reply = plain (suc n) (buffer x) }

  unfoldable pub step : Call → Copy → Outcome
  step x c = outcome (number f x c.store (length c.memory)) x c

  abbrev pub run : List Call → Copy → Ran
  run = run_by step

abbrev pub aes_step : Call → Copy → Outcome
aes_step = step product

unfoldable pub effects : Unit {0}
unfolding left given cluster_made cluster_deleted segment_made segment_deleted segment_written password_replaced
    segment_marked segment_read segment_shown
effects = tt
