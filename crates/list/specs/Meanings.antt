-- Document 01, "The list of calls": what the check of a list says, and which bytes of a record count.
--     ListMeans list          18 for a length that is no list's; an empty list has no record; of any other list 0 with the
--                             length, 19 and 20 mean of the way from record 1 what the table says, and say it whenever
--                             it is so
--     LongRefused             every input longer than a list gives the line of 18: so does its beginning, where that is
--                             longer than a list too
--     LengthInWords           a length is no list's exactly where it is no multiple of 64, or above 16,320
--     SameUse k r q b         two records agree in the code, in the arguments that a call of the kind k uses, and, for a
--                             write, in the data length
--     UnusedBytes             such records do the same: unused bytes are ignored
--     BadCode                 a code outside 1 to 11 is 3, whatever the other bytes are
--     NoLook                  no code is that of a look
--     MisfitNumbers r b sd h  the record r is refused with 1 where sd, which says that the store is sound, is false; else
--                             with 2 where the node of h is above 3 or its local number above 7; else with 3
--     MisfitInWords           so is a write of 64 bytes whose data length is above 32, by its handle
-- Assumes nothing.
use Rattle.std.specs.Prelude.{◌≡◌, ◌≢◌, ◌↔◌, ◌⊎◌, ℕ, ◌%◌, ◌≤◌, ◌<◌, Bool, true, false, List, length}
use Rattle.std.proofs.Math.Option.{some}
use Rattle.handle.specs.declared.Handle.{Handle}
use Rattle.handle.specs.Handles.{decoded}
use Rattle.store.specs.Sound.{sound}
use Rattle.calls.specs.Calls.{Kind, look, uses}
use Rattle.chain.specs.Way.{done, refusal}
use Rattle.chain.specs.Means.{Whole, Leaves, Again}
use Rattle.chain.specs.Bytes.{count, next_in}
use Rattle.isolation.specs.Checks.{trimmed}
use Rattle.lines.specs.Lines.{refused_line}
use Rattle.list.specs.Records.{record_bytes, most_bytes, byte, field, code_of, kind_of, arguments_of}
use Rattle.numbers.specs.Numbers.{length_number, link_number, loop_number}
use Rattle.list.specs.Runs.{Bench, refused, performed}
use Rattle.list.specs.Texts.{bad_length, checked, output}

pub record ListMeans (list : List ℕ) : Type 0 where
  pub no_list : bad_length (length list) ≡ true → checked list ≡ refusal length_number
  pub empty : length list ≡ 0 → checked list ≡ done 0
  pub whole : bad_length (length list) ≡ false → (length list ≡ 0 → ⊥) → (m : ℕ)
      → (checked list ≡ done m) ↔ Whole (count list record_bytes) (next_in list record_bytes) 1 m
  pub leaves : bad_length (length list) ≡ false → (length list ≡ 0 → ⊥)
      → ((checked list).number ≡ link_number) ↔ Leaves (count list record_bytes) (next_in list record_bytes) 1
  pub again : bad_length (length list) ≡ false → (length list ≡ 0 → ⊥)
      → ((checked list).number ≡ loop_number) ↔ Again (count list record_bytes) (next_in list record_bytes) 1

abbrev pub LongRefused : Type 0
LongRefused = (list : List ℕ) → most_bytes < length list → output list ≡ refused_line length_number

abbrev pub LengthInWords : Type 0
LengthInWords = (n : ℕ) → (bad_length n ≡ true) ↔ ((n % 64 ≡ 0 → ⊥) ⊎ (16320 < n))

pub record SameUse (k : Kind) (r q b : List ℕ) : Type 0 where
  pub codes : byte r 1 ≡ byte q 1
  pub arguments : trimmed (uses k) (arguments_of k r b) ≡ trimmed (uses k) (arguments_of k q b)
  pub data_lengths : byte r 1 ≡ 6 → byte r 5 ≡ byte q 5

abbrev pub UnusedBytes : Type 0
UnusedBytes =
    (k : Kind) (r q : List ℕ) (b : Bench) → kind_of (code_of r) ≡ some k → SameUse k r q b.buffer
    → performed r b ≡ performed q b

abbrev pub BadCode : Type 0
BadCode = (r : List ℕ) (b : Bench) → (byte r 1 ≡ 0) ⊎ (11 < byte r 1) → performed r b ≡ refused 3 b

abbrev pub NoLook : Type 0
NoLook = (c : ℕ) → kind_of c ≢ some look

pub record MisfitNumbers (r : List ℕ) (b : Bench) (sd : Bool) (h : Handle) : Type 0 where
  pub unsound : sd ≡ false → performed r b ≡ refused 1 b
  pub no_place : sd ≡ true → (3 < h.node) ⊎ (7 < h.local) → performed r b ≡ refused 2 b
  pub misfit : sd ≡ true → h.node ≤ 3 → h.local ≤ 7 → performed r b ≡ refused 3 b

abbrev pub MisfitInWords : Type 0
MisfitInWords =
    (r : List ℕ) (b : Bench) → length r ≡ 64 → byte r 1 ≡ 6 → 32 < byte r 5
    → MisfitNumbers r b (sound b.copy.store (length b.copy.memory)) (decoded (field r 8 23))
