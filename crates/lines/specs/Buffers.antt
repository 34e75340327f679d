-- Lines in a lent buffer: the room that they need, what is put, and how the buffer is left.
--     byte_digits                  the decimal digits of a byte, at most
--     longest_head                 the bytes of three such numbers with a space between, at most
--     longest                     the bytes of a call's line, at most: the three numbers, a space, two digits for each
--                                 byte of a segment as long as a node's memory, the line feed
--     brief                       the same of any call but a read: the three numbers, two handles of the largest width, each
--                                 after a space and with two digits for a byte, the line feed
--     longest_with w               the bytes of the line of the word w and a byte, at most
--     call_line_within room ..      what is put into room bytes: the line of a call; nothing where the room is less than
--                                 the longest line, or the segment is longer than a node's memory
--     stopped_within room k c n     the same of a line that stops at its number n
--     StopsWithin                 the line of a refused call is that, whatever its number and whatever it gives, where the
--                                 segment is no longer than a node's memory
--     word_line_within room w n     the same as call_line_within for a word and a number
--     filled r                    how many bytes are put: none where there is no line
--     Begins before after r text  the buffer begins with the text, of r bytes, and goes on as before
--     Room l n                    n bytes more fit in the buffer of the line l
--     Adds before after text      the line has the text after what it had, in the same buffer, and all else there is as before
--     HasRoom out segment         out bytes hold the longest line, and so many bytes are no more than a segment has
-- Assumes nothing.
use Rattle.std.specs.Prelude.{ℕ, ◌+◌, ◌*◌, ◌≤◌, ◌≡◌, ◌≢◌, cond, ◌&&◌, List, [], ◌∷◌, ◌++◌, leb, length, take, drop, Option, None, Some}
use Rattle.sizes.specs.Sizes.{node_memory}
use Rattle.handle.specs.Widths.{most_bytes}
use Rattle.lines.specs.declared.Line.{Line}
use Rattle.lines.specs.Text.{decimal}
use Rattle.lines.specs.Lines.{Answer, line, call_line, word_line}

abbrev pub byte_digits : ℕ
byte_digits = 3

abbrev pub longest_head : ℕ
longest_head = byte_digits + 1 + byte_digits + 1 + byte_digits

abbrev pub longest : ℕ
longest = longest_head + 1 + 2 * node_memory + 1

abbrev pub brief : ℕ
brief = longest_head + 2 * (1 + 2 * most_bytes) + 1

abbrev pub longest_with : List ℕ → ℕ
longest_with w = length w + (1 + byte_digits + 1)

unfoldable pub call_line_within : ℕ → ℕ → ℕ → Answer → List ℕ → List ℕ
call_line_within room k code a s = cond (leb longest room && leb (length s) node_memory) (call_line k code a s) []

unfoldable pub stopped_within : ℕ → ℕ → ℕ → ℕ → List ℕ
stopped_within room k c n = cond (leb longest room) (line (decimal k) (decimal c ∷ decimal n ∷ [])) []

abbrev pub StopsWithin : Type 0
StopsWithin =
    (room k c : ℕ) (a : Answer) (s : List ℕ) → a.number ≢ 0 → length s ≤ node_memory
    → call_line_within room k c a s ≡ stopped_within room k c a.number

unfoldable pub word_line_within : ℕ → List ℕ → ℕ → List ℕ
word_line_within room w n = cond (leb (longest_with w) room) (word_line w n) []

abbrev pub filled : Option ℕ → ℕ
filled None = 0
filled (Some n) = n

pub record Begins (before after : List ℕ) (r : ℕ) (text : List ℕ) : Type 0 where
  pub size : r ≡ length text
  pub room : r ≤ length before
  pub start : take r after ≡ text
  pub rest : drop r after ≡ drop r before

abbrev pub Room : Line → ℕ → Type 0
Room l n = l.at + n ≤ length l.out.now

pub record Adds (before after : Line) (text : List ℕ) : Type 0 where
  pub same_buffer : after.out.ghost_name ≡ before.out.ghost_name
  pub kept : length after.out.now ≡ length before.out.now
  pub ends : after.at ≡ before.at + length text
  pub start : take after.at after.out.now ≡ take before.at before.out.now ++ text
  pub rest : drop after.at after.out.now ≡ drop after.at before.out.now

pub record HasRoom (out segment : ℕ) : Type 0 where
  pub wide : longest ≤ out
  pub short : segment ≤ node_memory
