-- Document 01, "Numbers a call may be turned down with", and document 02, §1 and §8: the numbers that definitions below or above
-- the table of the calls name by their words. The table itself is in `calls/specs/Numbers`, with the numbers written out.
--     unsound_number    unsound
--     place_number      no such place
--     field_number      field
--     gapped_number     gapped
--     short_number      short
--     no_room_number     no room
--     spent_number      spent
--     length_number     list length
--     link_number       link
--     loop_number       loop
--     empty_number      empty
--     wrong_length_number    length
-- Assumes nothing.
use Rattle.std.specs.Prelude.{ℕ}

abbrev pub unsound_number : ℕ
unsound_number = 1

abbrev pub place_number : ℕ
place_number = 2

abbrev pub field_number : ℕ
field_number = 3

abbrev pub gapped_number : ℕ
gapped_number = 4

abbrev pub short_number : ℕ
short_number = 15

abbrev pub no_room_number : ℕ
no_room_number = 16

abbrev pub spent_number : ℕ
spent_number = 17

abbrev pub length_number : ℕ
length_number = 18

abbrev pub link_number : ℕ
link_number = 19

abbrev pub loop_number : ℕ
loop_number = 20

abbrev pub empty_number : ℕ
empty_number = 21

abbrev pub wrong_length_number : ℕ
wrong_length_number = 25
