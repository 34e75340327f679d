-- Document 01, "The list of calls": records of one width lie in bytes one after the other, numbered from 1, and byte 0
-- of each is the number of its next.
--     count bytes width         how many whole records there are; none of width 0, since x / 0 is 0
--     next_in bytes width k      the next that record k names: its byte 0; asked of records alone, whatever it is elsewhere
--     way_in bytes width from    the answer of the way from the record `from`
-- Assumes nothing.
use Rattle.std.specs.Prelude.{ℕ, ◌-◌, ◌*◌, ◌/◌, List, length, get_or}
use Rattle.chain.specs.Way.{Walked}
use Rattle.chain.specs.Way.{way}

abbrev pub count : List ℕ → ℕ → ℕ
count bytes width = length bytes / width

abbrev pub next_in : List ℕ → ℕ → ℕ → ℕ
next_in bytes width k = get_or bytes ((k - 1) * width) 0

abbrev pub way_in : List ℕ → ℕ → ℕ → Walked
way_in bytes width from = way (count bytes width) (next_in bytes width) from
