-- Document 01, "The list of calls": the check of the chain, and the text of the whole run.
--     bad_length n             not a multiple of 64, or above 16,320
--     checked list            the chain from record 1: 18 for the length, 19, 20, or how many records it has; an empty list
--                             has none
--     record_line list k p     the line of record k, which left and answered p
--     record_lines list ks b   the lines of the records ks, one after the other, from the bench b on
--     chain list m            the m records of the chain, in order
--     output list             the text of a run: the lines of the chain in its order and the last one, or that of a
--                             refused list
--     most_text                the bytes of the longest text: a line for each of 255 records, and the last
--     brief_text               the bytes that are enough for a text with no read: a brief line for each of 255 records,
--                             and the longest line once, since a line is put only where the longest one fits
--     is_read list k           record k is a read: its code is 5
--     quiet list              no record of the list, reached or not, is a read
--     room_for list            the bytes that are enough for the text of a list: fewer where it is quiet
--     output_within n list     what is put into n bytes: the text; nothing where they may not hold it
-- Assumes nothing.
use Rattle.std.specs.Prelude.{ℕ, zero, suc, ◌+◌, ◌*◌, ◌/◌, ◌%◌, Bool, not, ◌||◌, cond, List, [], ◌∷◌, ◌++◌, eqb, leb, ltb, length, take}
use Rattle.loops.specs.Below.{every}
use Rattle.chain.specs.Way.{Walked}
use Rattle.chain.specs.Way.{done, refusal, records}
use Rattle.chain.specs.Bytes.{count, next_in, way_in}
use Rattle.lines.specs.Lines.{call_line, end_word, end_line, refused_line}
use Rattle.lines.specs.Buffers.{longest, brief, longest_with}
use Rattle.list.specs.Records.{record_bytes, most_bytes, record_in, code_of}
use Rattle.list.specs.Runs.{Bench, starting, Performed, performed}
use Rattle.numbers.specs.Numbers.{length_number}

-- ---- the chain

unfoldable pub bad_length : ℕ → Bool
bad_length n = not (eqb (n % record_bytes) 0) || ltb most_bytes n

unfoldable pub checked : List ℕ → Walked
checked list =
    cond (bad_length (length list)) (refusal length_number)
    (cond (eqb (length list) 0) (done 0) (way_in list record_bytes 1))

abbrev pub chain : List ℕ → ℕ → List ℕ
chain list m = records (next_in list record_bytes) 1 m

-- ---- the lines

abbrev pub record_line : List ℕ → ℕ → Performed → List ℕ
record_line list k p =
    call_line k (code_of (record_in list k)) p.answer (take p.answer.length p.bench.buffer)

unfoldable pub record_lines : List ℕ → List ℕ → Bench → List ℕ
record_lines list [] b = []
record_lines list (k ∷ ks) b =
    let p = performed (record_in list k) b in
    record_line list k p ++ record_lines list ks p.bench

-- ---- the text

abbrev pub text_of : List ℕ → ℕ → ℕ → List ℕ
text_of list zero m = record_lines list (chain list m) starting ++ end_line m
text_of list (suc n) m = refused_line (suc n)

unfoldable pub output : List ℕ → List ℕ
output list = text_of list (checked list).number (checked list).records

abbrev pub most_text : ℕ
most_text = most_bytes / record_bytes * longest + longest_with end_word

abbrev pub brief_text : ℕ
brief_text = most_bytes / record_bytes * brief + longest

abbrev pub is_read : List ℕ → ℕ → Bool
is_read list k = eqb (code_of (record_in list k)) 5

unfoldable pub quiet : List ℕ → Bool
quiet list = every (count list record_bytes) (λ i. not (is_read list (suc i)))

unfoldable pub room_for : List ℕ → ℕ
room_for list = cond (quiet list) brief_text most_text

unfoldable pub output_within : ℕ → List ℕ → List ℕ
output_within n list = cond (leb (room_for list) n) (output list) []
