-- Document 01, "The calls" and the first sentences of "Two copies", with the look of document 02, §2, its §3, call 10, and
-- its §5, call 11, and its §8, widths: what a call carries and what it looks at.
--     Copy                    the records of all clusters and the bytes of the slice
--     start                   the starting store, with a memory of zeros
--     Kind                    the eleven calls, validation and the look
--     Arguments               what a call may carry: handles as bytes of any length, passwords as sixteen; `width` is that
--                             of a new cluster, `other` the second handle of a join, `bytes` are a read's buffer or a
--                             write's data
--     Call, call              a kind and its arguments
--     making_cluster .. looking    each call by name, with what it uses; its other arguments are zero or empty
--     code                    the code by which the tables name a kind; validation has the rows of call 8, a look those of
--                             call 5 except row 15, and row 5
--     is_look                  the kind is the look, which has no code of its own
--     among cs k              the code of k is one of cs
--     opens                   the kinds that open a cluster by a handle
--     Uses, uses              which arguments a kind looks at; no other argument counts
--     needed                  the mode that the handle must validate in: the one named, else read for call 5 and a look,
--                             write for the others
--     handle_of, other_of       the handle that the bytes hold, and that of the second ones
--     taken u h, presented    the handle h where u is true; the handles that a call presents: one, or the two of a join
--     buffer                  the buffer or data that comes with a call
--     node_for, local_for       the node and the local number of the cluster that a call is about: named by the call,
--                             else by its handle; of a join by the first
--     record_for, record_named  its record's number; that of the cluster that a handle names
--     place_for                the place of the segment that a call is about
--     frozen_for               that segment is frozen
--     start_for                where the segment that a call is about begins in the slice
--     part_for                 where it begins and ends there: decided by the call and the tables, never by a byte
--     any_of                   some handle of a list passes
-- Assumes nothing.
use Rattle.std.specs.Prelude.{ℕ, ◌+◌, Bool, true, false, ◌||◌, List, [], ◌∷◌, ◌++◌, eqb, replicate}
use Rattle.sizes.specs.Sizes.{memory}
use Rattle.handle.specs.declared.Handle.{Handle}
use Rattle.handle.specs.Handles.{node_of, decoded}
use Rattle.store.specs.Places.{Place}
use Rattle.store.specs.declared.Store.{Store}
use Rattle.store.specs.Records.{Tables, starting_store, record_of, place_at, frozen_of, base_of, length_of, address, read_mode}
use Rattle.store.specs.Records.{write_mode}
use Rattle.calls.specs.declared.Part.{Part}

pub record Copy : Type 0 where
  pub store : Store
  pub memory : List ℕ

abbrev pub start : Copy
start = record { store = starting_store; memory = replicate memory 0 }

-- ---- calls

pub data Kind : Type 0 where
  new_cluster delete_cluster new_segment delete_segment read write weaken reduce new_password freeze join validate look : Kind

pub record Arguments : Type 0 where
  pub current : ℕ
  pub local : ℕ
  pub width : ℕ
  pub mode : ℕ
  pub segment : ℕ
  pub size : ℕ
  pub mask : ℕ
  pub handle : List ℕ
  pub other : List ℕ
  pub first : List ℕ
  pub second : List ℕ
  pub bytes : List ℕ

pub record Call : Type 0 where
  pub kind : Kind
  pub args : Arguments

abbrev pub call : Kind → Arguments → Call
call k g = record { kind = k; args = g }

-- the fields in the order of the record
abbrev arguments : ℕ → ℕ → ℕ → ℕ → ℕ → ℕ → ℕ → List ℕ → List ℕ → List ℕ → List ℕ → List ℕ → Arguments
arguments current local width mode segment size mask handle other first second bytes =
    record {
      current = current;
      local = local;
      width = width;
      mode = mode;
      segment = segment;
      size = size;
      mask = mask;
      handle = handle;
      other = other;
      first = first;
      second = second;
      bytes = bytes;
    }

abbrev pub making_cluster : ℕ → ℕ → ℕ → List ℕ → List ℕ → Call
making_cluster current local width first second =
    call new_cluster (arguments current local width 0 0 0 0 [] [] first second [])

abbrev pub deleting_cluster : ℕ → List ℕ → Call
deleting_cluster current handle = call delete_cluster (arguments current 0 0 0 0 0 0 handle [] [] [] [])

abbrev pub making_segment : ℕ → ℕ → ℕ → List ℕ → Call
making_segment current segment size handle = call new_segment (arguments current 0 0 0 segment size 0 handle [] [] [] [])

abbrev pub deleting_segment : ℕ → ℕ → List ℕ → Call
deleting_segment current segment handle = call delete_segment (arguments current 0 0 0 segment 0 0 handle [] [] [] [])

abbrev pub reading : ℕ → List ℕ → List ℕ → Call
reading segment handle buffer = call read (arguments 0 0 0 0 segment 0 0 handle [] [] [] buffer)

abbrev pub writing : ℕ → List ℕ → List ℕ → Call
writing segment handle written = call write (arguments 0 0 0 0 segment 0 0 handle [] [] [] written)

abbrev pub weakening_by : ℕ → List ℕ → Call
weakening_by mask handle = call weaken (arguments 0 0 0 0 0 0 mask handle [] [] [] [])

abbrev pub reducing : ℕ → List ℕ → Call
reducing mode handle = call reduce (arguments 0 0 0 mode 0 0 0 handle [] [] [] [])

abbrev pub renewing : ℕ → List ℕ → List ℕ → Call
renewing mode handle password = call new_password (arguments 0 0 0 mode 0 0 0 handle [] password [] [])

abbrev pub freezing : ℕ → ℕ → List ℕ → Call
freezing current segment handle = call freeze (arguments current 0 0 0 segment 0 0 handle [] [] [] [])

abbrev pub joining : ℕ → List ℕ → List ℕ → Call
joining mode handle other = call join (arguments 0 0 0 mode 0 0 0 handle other [] [] [])

abbrev pub validating : ℕ → List ℕ → Call
validating mode handle = call validate (arguments 0 0 0 mode 0 0 0 handle [] [] [] [])

abbrev pub looking : ℕ → ℕ → List ℕ → Call
looking current segment handle = call look (arguments current 0 0 0 segment 0 0 handle [] [] [] [])

abbrev pub code : Kind → ℕ
code new_cluster = 1
code delete_cluster = 2
code new_segment = 3
code delete_segment = 4
code read = 5
code write = 6
code weaken = 7
code reduce = 8
code new_password = 9
code freeze = 10
code join = 11
code validate = 8
code look = 5

abbrev pub among : List ℕ → Kind → Bool
among [] k = false
among (c ∷ cs) k = eqb (code k) c || among cs k

abbrev pub is_look : Kind → Bool
is_look new_cluster = false
is_look delete_cluster = false
is_look new_segment = false
is_look delete_segment = false
is_look read = false
is_look write = false
is_look weaken = false
is_look reduce = false
is_look new_password = false
is_look freeze = false
is_look join = false
is_look validate = false
is_look look = true

abbrev pub opens : Kind → Bool
opens k = among (2 ∷ 3 ∷ 4 ∷ 5 ∷ 6 ∷ 8 ∷ 9 ∷ 10 ∷ 11 ∷ []) k

-- ---- what a kind looks at

pub record Uses : Type 0 where
  pub current : Bool
  pub local : Bool
  pub width : Bool
  pub mode : Bool
  pub segment : Bool
  pub size : Bool
  pub mask : Bool
  pub handle : Bool
  pub other : Bool
  pub first : Bool
  pub second : Bool
  pub bytes : Bool

abbrev columns : Bool → Bool → Bool → Bool → Bool → Bool → Bool → Bool → Bool → Bool → Bool → Bool → Uses
columns c l w m s z k h t p q b =
    record {
      current = c;
      local = l;
      width = w;
      mode = m;
      segment = s;
      size = z;
      mask = k;
      handle = h;
      other = t;
      first = p;
      second = q;
      bytes = b;
    }

-- x where an argument is looked at, o where it is not
abbrev x : Bool
x = true

abbrev o : Bool
o = false

-- the columns: current, local, width, mode, segment, size, mask, handle, other, first, second, bytes
abbrev pub uses : Kind → Uses
uses new_cluster = columns x x x o o o o o o x x o
uses delete_cluster = columns x o o o o o o x o o o o
uses new_segment = columns x o o o x x o x o o o o
uses delete_segment = columns x o o o x o o x o o o o
uses read = columns o o o o x o o x o o o x
uses write = columns o o o o x o o x o o o x
uses weaken = columns o o o o o o x x o o o o
uses reduce = columns o o o x o o o x o o o o
uses new_password = columns o o o x o o o x o x o o
uses freeze = columns x o o o x o o x o o o o
uses join = columns o o o x o o o x x o o o
uses validate = columns o o o x o o o x o o o o
uses look = columns x o o o x o o x o o o o

abbrev pub needed : Call → ℕ
needed x =
    elim (uses x.kind).mode [
      | true ↦ x.args.mode
      | false ↦ elim (among (5 ∷ []) x.kind) [ true ↦ read_mode | false ↦ write_mode ]
    ]

abbrev pub handle_of : Call → Handle
handle_of x = decoded x.args.handle

abbrev pub other_of : Call → Handle
other_of x = decoded x.args.other

abbrev pub taken : Bool → Handle → List Handle
taken u h = elim u [ true ↦ h ∷ [] | false ↦ [] ]

abbrev pub presented : Call → List Handle
presented x = taken (uses x.kind).handle (handle_of x) ++ taken (uses x.kind).other (other_of x)

abbrev pub any_of : (Handle → Bool) → List Handle → Bool
any_of p [] = false
any_of p (h ∷ hs) = p h || any_of p hs

abbrev pub buffer : Call → List ℕ
buffer x = elim (uses x.kind).bytes [ true ↦ x.args.bytes | false ↦ [] ]

-- ---- the cluster and the segment that it is about

abbrev pub node_for : Call → ℕ
node_for x = elim (uses x.kind).local [ true ↦ x.args.current | false ↦ node_of (handle_of x) ]

abbrev pub local_for : Call → ℕ
local_for x = elim (uses x.kind).local [ true ↦ x.args.local | false ↦ (handle_of x).local ]

abbrev pub record_for : Call → ℕ
record_for x = record_of (node_for x) (local_for x)

abbrev pub record_named : Handle → ℕ
record_named h = record_of (node_of h) h.local

abbrev pub place_for : Call → Tables → Place
place_for x ts = place_at ts (record_for x) x.args.segment

abbrev pub frozen_for : Call → Tables → Bool
frozen_for x ts = frozen_of (ts (record_for x)) x.args.segment

abbrev pub start_for : Call → Tables → ℕ
start_for x ts = address (node_for x) (base_of (place_for x ts))

abbrev pub part_for : Call → Tables → Part
part_for x ts = record { from = start_for x ts; to = start_for x ts + length_of (place_for x ts) }
