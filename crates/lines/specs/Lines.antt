-- Document 01, "The list of calls", with code 11 of document 02, §5: the lines that `benchrun` writes. A call is told by its
-- code, its answer a, and the bytes s of the segment that a read gave. Of a handle the bytes are told that its length counts.
--     Answer                 an answer written out: its number, 0 where the call is done, and what it gives
--     plain a                the answer that the code's a stands for
--     number_alone n         the answer that gives the number n and nothing else
--     spaced ws              words, a space before each
--     line w ws              the line of the word w and the words ws: one space between, a line feed after
--     gives code a s         what a call done gives: its handles (1, 8, 9, 11), its segment's bytes (5), or its handle and
--                            count (7); the count is decimal, the others are hexadecimal
--     told code a s          what stands after the number: of a call done what it gives, of a refused call nothing
--     call_line k code a s    the line of record k: record number, code and number in decimal, and what is told
--     RefusedStops           the line of a refused call stops at its number
--     OthersStop             so does that of any call but 1, 5, 7, 8, 9 and 11, done or refused
--     word_line w n           the line of a word and a number
--     end_line n              the last line, where the chain has n records
--     refused_line n          the single line of a list that is refused with n
-- Assumes nothing.
use Rattle.std.specs.Prelude.{◌≡◌, ◌≢◌, ℕ, cond, ◌||◌, List, [], ◌∷◌, ◌++◌, eqb}
use Rattle.handle.specs.Handles.{bytes_in}
use Rattle.lines.specs.Text.{ascii, space, line_feed, decimal, hexadecimal}
use Rattle.numbers.specs.Codes.{told as number_told}
use Rattle.handle.specs.declared.HandleBytes.{HandleBytes}
use Rattle.calls.specs.Answers as calls

pub record Answer : Type 0 where
  pub number : ℕ
  pub first : HandleBytes
  pub second : HandleBytes
  pub count : ℕ
  pub length : ℕ

abbrev pub plain : calls.Answer → Answer
plain a =
    record {
      number = number_told a;
      first = calls.gives calls.first calls.no_handle a;
      second = calls.gives calls.second calls.no_handle a;
      count = calls.gives calls.count 0 a;
      length = calls.gives calls.length 0 a;
    }

abbrev pub number_alone : ℕ → Answer
number_alone n = record { number = n; first = calls.no_handle; second = calls.no_handle; count = 0; length = 0 }

unfoldable pub spaced : List (List ℕ) → List ℕ
spaced [] = []
spaced (w ∷ ws) = (space ∷ w) ++ spaced ws

unfoldable pub line : List ℕ → List (List ℕ) → List ℕ
line w ws = w ++ spaced ws ++ (line_feed ∷ [])

unfoldable pub gives : ℕ → Answer → List ℕ → List (List ℕ)
gives code a s =
    cond (eqb code 1) (hexadecimal (bytes_in a.first) ∷ hexadecimal (bytes_in a.second) ∷ [])
    (cond (eqb code 8 || eqb code 9 || eqb code 11) (hexadecimal (bytes_in a.first) ∷ [])
    (cond (eqb code 5) (hexadecimal s ∷ [])
    (cond (eqb code 7) (hexadecimal (bytes_in a.first) ∷ decimal a.count ∷ []) [])))

unfoldable pub told : ℕ → Answer → List ℕ → List (List ℕ)
told code a s = cond (eqb a.number 0) (gives code a s) []

unfoldable pub call_line : ℕ → ℕ → Answer → List ℕ → List ℕ
call_line k code a s = line (decimal k) (decimal code ∷ decimal a.number ∷ told code a s)

abbrev pub RefusedStops : Type 0
RefusedStops =
    (k code : ℕ) (a : Answer) (s : List ℕ) → a.number ≢ 0
    → call_line k code a s ≡ line (decimal k) (decimal code ∷ decimal a.number ∷ [])

abbrev pub OthersStop : Type 0
OthersStop =
    (k code : ℕ) (a : Answer) (s : List ℕ) → code ≢ 1 → code ≢ 5 → code ≢ 7 → code ≢ 8 → code ≢ 9 → code ≢ 11
    → call_line k code a s ≡ line (decimal k) (decimal code ∷ decimal a.number ∷ [])

unfoldable pub word_line : List ℕ → ℕ → List ℕ
word_line w n = line w (decimal n ∷ [])

abbrev pub end_word : List ℕ
end_word = ascii "end"

abbrev pub refused_word : List ℕ
refused_word = ascii "list"

abbrev pub end_line : ℕ → List ℕ
end_line n = word_line end_word n

abbrev pub refused_line : ℕ → List ℕ
refused_line n = word_line refused_word n
