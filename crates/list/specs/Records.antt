-- Document 01, "The list of calls": a record of 64 bytes, and the call that it encodes; with codes 10 and 11 of document 02,
-- §3 and §5. A list carries the width 8 only (document 02, §8).
--     record_bytes, most_bytes    the bytes of a record; the most bytes that a list has, 255 records
--     most_data                  the most bytes of data that a record holds
--     list_width, handle_bytes    the width of the clusters that a list makes; the bytes of a handle of that width
--     record_in list k           the 64 bytes of record k, numbered from 1
--     byte r i                  byte i of a record
--     field r a n               n bytes of a record, from byte a on
--     code_of r                  byte 1: the code
--     data_length r              byte 5: the length of a write's data
--     own_calls, other_calls      the kinds that a code may name: 1 to 4 and 10, which name a current node; 5 to 9 and 11
--     kind_among ks c            the kind among ks whose code is c, if there is one
--     kind_of c                  the kind of the code c, none outside 1 to 11
--     arguments_of k r b         the arguments of a call of the kind k: byte 2 the current node, 3 the mode, 4 the segment,
--                               the mask, or the local number of call 1, whose width is 8; 6 and 7 the size, high byte
--                               first; 8 to 30 the handle; 32 to 54 the second handle of a join; 32 to 47 and 48 to 63 the
--                               passwords; a write's data, from 32 on, or the buffer b
-- Assumes nothing.
use Rattle.std.specs.Prelude.{ℕ, ◌+◌, ◌-◌, ◌*◌, true, false, List, [], ◌∷◌, ◌++◌, eqb, get_or, take, drop}
use Rattle.std.proofs.Math.Option.{Option, none, some}
use Rattle.sizes.specs.Sizes.{password_bytes}
use Rattle.handle.specs.declared.Width.TheVariants.{Eight}
use Rattle.handle.specs.Widths.{bits_of, length_of}
use Rattle.calls.specs.Calls.{Kind, new_cluster, delete_cluster, new_segment, delete_segment, read, write, weaken, reduce}
use Rattle.calls.specs.Calls.{new_password, freeze, join, Arguments, code, among}

abbrev pub record_bytes : ℕ
record_bytes = 64

abbrev pub most_bytes : ℕ
most_bytes = 255 * record_bytes

abbrev pub most_data : ℕ
most_data = 32

abbrev pub list_width : ℕ
list_width = bits_of Eight

abbrev pub handle_bytes : ℕ
handle_bytes = length_of Eight

abbrev pub record_in : List ℕ → ℕ → List ℕ
record_in list k = take record_bytes (drop ((k - 1) * record_bytes) list)

-- ---- its bytes

abbrev pub byte : List ℕ → ℕ → ℕ
byte r i = get_or r i 0

abbrev pub field : List ℕ → ℕ → ℕ → List ℕ
field r a n = take n (drop a r)

abbrev pub code_of : List ℕ → ℕ
code_of r = byte r 1

abbrev pub data_length : List ℕ → ℕ
data_length r = byte r 5

-- ---- the call that it encodes

abbrev pub own_calls : List Kind
own_calls = new_cluster ∷ delete_cluster ∷ new_segment ∷ delete_segment ∷ freeze ∷ []

abbrev pub other_calls : List Kind
other_calls = read ∷ write ∷ weaken ∷ reduce ∷ new_password ∷ join ∷ []

abbrev pub kind_among : List Kind → ℕ → Option Kind
kind_among [] c = none
kind_among (k ∷ ks) c = elim (eqb (code k) c) [ true ↦ some k | false ↦ kind_among ks c ]

unfoldable pub kind_of : ℕ → Option Kind
kind_of c = kind_among (own_calls ++ other_calls) c

abbrev pub arguments_of : Kind → List ℕ → List ℕ → Arguments
arguments_of k r b =
    record {
      current = byte r 2;
      local = byte r 4;
      width = list_width;
      mode = byte r 3;
      segment = byte r 4;
      size = byte r 6 * 256 + byte r 7;
      mask = byte r 4;
      handle = field r 8 handle_bytes;
      other = field r 32 handle_bytes;
      first = field r 32 password_bytes;
      second = field r 48 password_bytes;
      bytes = elim (among (6 ∷ []) k) [ true ↦ field r 32 (data_length r) | false ↦ b ];
    }
