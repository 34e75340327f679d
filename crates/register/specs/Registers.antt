-- Document 02, §9: a register of handles given out, as bytes e of two an entry, numbered from 1.
--     Told, Opened       the answer of a question: 0, or the number of the refusal and the lowest entry that fails, 0 for the call as
--                        a whole; of the second question also how many entries open the segment
--     told n k, opened n k c      an answer: the number n, the entry k, how many c
--     told_of r, opened_of r      the answer that a result of the code tells
--     entries e          how many entries there are
--     parent_of e k       the entry that entry k was weakened from; zero stands for the handle supplied
--     mask_of e k         the mask used
--     way_of e k          the answer of the way from entry k to zero: 19 at a missing entry, 20 where it comes round
--     masks_of e k m      the masks of the first m entries on the way from entry k, its own first
-- Over a conversion f, which takes a cluster's name, a password and a parameter to a password, and from the handle h that
-- the caller supplies:
--     Made               what becomes of an entry: a number, and where that is 0 a handle
--     stepped r m        what a weakening by the mask m makes of r; a refusal is handed on
--     steps h ms         the weakenings by the masks ms, the LAST of them first: from the handle supplied downwards
--     made h e k         entry k: its way's number, or what the steps along the way give
--     fails h e i        entry i + 1 fails
--     lowest h e         the lowest entry that fails, and its number; 0 and 0 where none does
--     whole_number        the number for the call as a whole: 25, 2, 3, 4, 18, 15, or 0
--     handles_told, handles_left    the first question: number and entry; the buffer after it
--     opens, openers_up_to          entry k references segment s; those of the first n entries that do, in rising order
--     openers_told, openers_left    the second question: number, entry and how many; the buffer after it
-- Assumes nothing.
use Rattle.std.specs.Prelude.{ℕ, zero, suc, ◌+◌, ◌-◌, ◌*◌, ◌/◌, ◌%◌, Bool, true, false, not, ◌||◌, List, [], ◌∷◌, ◌++◌, map, eqb, ltb, length, get_or, drop, Result, Ok, Err}
use Rattle.std.proofs.Math.Option.{Option, none, some}
use Rattle.loops.specs.Search.{least}
use Rattle.chain.specs.Way.{records}
use Rattle.chain.specs.Bytes.{count, next_in, way_in}
use Rattle.chain.specs.Way.{Walked}
use Rattle.handle.specs.declared.Handle.{Handle}
use Rattle.handle.specs.declared.Width.TheVariants.{Eight}
use Rattle.handle.specs.Widths.{length_of}
use Rattle.handle.specs.Selectors.{references, gapped}
use Rattle.handle.specs.Handles.{Name, name_of, width_of, no_handle, encoded, decoded, weakening}
use Rattle.handle.specs.Handles.{Row, first_of, no_such_place}
use Rattle.numbers.specs.Numbers.{wrong_length_number, place_number, field_number, gapped_number, short_number, length_number}
use Rattle.numbers.specs.Codes.{code}
use Rattle.register.specs.declared.Fault.{Fault}

pub record Told : Type 0 where
  pub number : ℕ
  pub entry : ℕ

pub record Opened : Type 0 where
  pub number : ℕ
  pub entry : ℕ
  pub count : ℕ

abbrev pub told : ℕ → ℕ → Told
told n k = record { number = n; entry = k }

abbrev pub opened : ℕ → ℕ → ℕ → Opened
opened n k c = record { number = n; entry = k; count = c }

abbrev pub told_of : {T : Type 0} → Result T Fault → Told
told_of (Ok x) = told 0 0
told_of (Err fault) = told (code fault.number) fault.entry

abbrev pub opened_of : Result ℕ Fault → Opened
opened_of (Ok c) = opened 0 0 c
opened_of (Err fault) = opened (code fault.number) fault.entry 0

abbrev pub entry_bytes : ℕ
entry_bytes = 2

abbrev pub most_entries : ℕ
most_entries = 255

abbrev pub handle_bytes : ℕ
handle_bytes = length_of Eight

abbrev pub last_segment : ℕ
last_segment = 7

-- ---- entries and their ways

abbrev pub entries : List ℕ → ℕ
entries e = count e entry_bytes

abbrev pub parent_of : List ℕ → ℕ → ℕ
parent_of e = next_in e entry_bytes

abbrev pub mask_of : List ℕ → ℕ → ℕ
mask_of e k = get_or e ((k - 1) * entry_bytes + 1) 0

abbrev pub way_of : List ℕ → ℕ → Walked
way_of e k = way_in e entry_bytes k

abbrev pub masks_of : List ℕ → ℕ → ℕ → List ℕ
masks_of e k m = map (mask_of e) (records (parent_of e) k m)

-- ---- what becomes of an entry

pub record Made : Type 0 where
  pub number : ℕ
  pub handle : Handle

abbrev pub given : Handle → Made
given h = record { number = 0; handle = h }

abbrev pub failed : ℕ → Made
failed n = record { number = n; handle = no_handle }

-- a reply's number and handle
abbrev pub settled : ℕ → Handle → Made
settled zero h = given h
settled (suc n) h = failed (suc n)

module _ (f : Name → List ℕ → ℕ → List ℕ) where
  abbrev pub weakened_by : Handle → ℕ → Made
  weakened_by h mask =
      settled
      (weakening (width_of h) (f (name_of h)) h mask).number
      (weakening (width_of h) (f (name_of h)) h mask).handle

  abbrev pub stepped_at : ℕ → Handle → ℕ → Made
  stepped_at zero h mask = weakened_by h mask
  stepped_at (suc n) h mask = failed (suc n)

  abbrev pub stepped : Made → ℕ → Made
  stepped r mask = stepped_at r.number r.handle mask

  unfoldable pub steps : Handle → List ℕ → Made
  steps h [] = given h
  steps h (m ∷ ms) = stepped (steps h ms) m

  abbrev pub ended : Handle → List ℕ → ℕ → ℕ → ℕ → Made
  ended h e k zero m = steps h (masks_of e k m)
  ended h e k (suc n) m = failed (suc n)

  unfoldable pub made : Handle → List ℕ → ℕ → Made
  made h e k = ended h e k (way_of e k).number (way_of e k).records

  abbrev pub fails : Handle → List ℕ → ℕ → Bool
  fails h e i = not (eqb (made h e (suc i)).number 0)

  abbrev pub tells : Handle → List ℕ → Option ℕ → Told
  tells h e none = told 0 0
  tells h e (some i) = told (made h e (suc i)).number (suc i)

  unfoldable pub lowest : Handle → List ℕ → Told
  lowest h e = tells h e (least (entries e) (fails h e))

-- ---- the call as a whole: the bytes b for the handle, whether the segment is beyond, so many bytes of entries, and of the
-- buffer, of which each entry needs so many

abbrev pub whole_rows : List ℕ → Bool → ℕ → ℕ → ℕ → List Row
whole_rows b beyond size room each =
    record { number = wrong_length_number; applies = not (eqb (length b) handle_bytes) }
    ∷ record { number = place_number; applies = no_such_place (decoded b) }
    ∷ record { number = field_number; applies = beyond }
    ∷ record { number = gapped_number; applies = gapped (width_of (decoded b)) (decoded b).selector }
    ∷ record {
      number = length_number;
      applies = not (eqb (size % entry_bytes) 0) || ltb most_entries (size / entry_bytes);
    }
    ∷ record { number = short_number; applies = ltb room (size / entry_bytes * each) }
    ∷ []

unfoldable pub whole_number : List ℕ → Bool → ℕ → ℕ → ℕ → ℕ
whole_number b beyond size room each = first_of (whole_rows b beyond size room each)

-- the number for the whole, then the answer for the entries
abbrev pub told_first : ℕ → Told → Told
told_first zero t = t
told_first (suc n) t = told (suc n) 0

-- a buffer where the number is that, and what is written where it is 0
abbrev pub leaves : ℕ → List ℕ → List ℕ → List ℕ
leaves zero written buffer = written ++ drop (length written) buffer
leaves (suc n) written buffer = buffer

abbrev pub one_if : Bool → ℕ → List ℕ
one_if true k = k ∷ []
one_if false k = []

-- the answer of the second question, where those are the openers
abbrev pub opened_as : ℕ → ℕ → ℕ → Opened
opened_as zero k c = opened 0 0 c
opened_as (suc n) k c = opened (suc n) k 0

abbrev pub opened_with : Told → List ℕ → Opened
opened_with t os = opened_as t.number t.entry (length os)

module _ (f : Name → List ℕ → ℕ → List ℕ) where
  -- ---- the first question

  unfoldable pub handles_told : List ℕ → List ℕ → ℕ → Told
  handles_told b e room = told_first (whole_number b false (length e) room handle_bytes) (lowest f (decoded b) e)

  -- the bytes of the handles of the first n entries
  unfoldable pub bytes_up_to : Handle → List ℕ → ℕ → List ℕ
  bytes_up_to h e zero = []
  bytes_up_to h e (suc n) = bytes_up_to h e n ++ encoded (made f h e (suc n)).handle

  unfoldable pub handles_left : List ℕ → List ℕ → List ℕ → List ℕ
  handles_left b e buffer =
      leaves (handles_told b e (length buffer)).number (bytes_up_to (decoded b) e (entries e)) buffer

  -- ---- the second question

  abbrev pub opens : Handle → List ℕ → ℕ → ℕ → Bool
  opens h e segment k = references (made f h e k).handle.selector segment

  unfoldable pub openers_up_to : Handle → List ℕ → ℕ → ℕ → List ℕ
  openers_up_to h e segment zero = []
  openers_up_to h e segment (suc n) = openers_up_to h e segment n ++ one_if (opens h e segment (suc n)) (suc n)

  unfoldable pub openers_entry : List ℕ → ℕ → List ℕ → ℕ → Told
  openers_entry b segment e room =
      told_first (whole_number b (ltb last_segment segment) (length e) room 1) (lowest f (decoded b) e)

  unfoldable pub openers_told : List ℕ → ℕ → List ℕ → ℕ → Opened
  openers_told b segment e room =
      opened_with (openers_entry b segment e room) (openers_up_to (decoded b) e segment (entries e))

  unfoldable pub openers_left : List ℕ → ℕ → List ℕ → List ℕ → List ℕ
  openers_left b segment e buffer =
      leaves (openers_entry b segment e (length buffer)).number (openers_up_to (decoded b) e segment (entries e)) buffer
