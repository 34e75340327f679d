-- Document 01, "The list of calls" and rows 19 and 20 of the table of numbers: the way from a record to zero. There
-- are n records, numbered from 1; each names a next, and zero ends the way.
--     reached next k i          where the way from k is after i steps
--     numbered n k              k is the number of a record
--     met n next k              how many records the way from k meets before it stops at a number that is no record's;
--                               none if it is still on records after n steps
--     Walked                    the answer of a way: a number, 0 where it is whole, and how many records it meets
--     done m                    the answer 0, with how many records the way meets
--     refusal x                 the answer of a way refused with x: no records
--     stopped m k               the answer of a way that meets m records and stops at k
--     answered next k o         the answer of the way from k, where o is how many records it meets
--     way n next k              the answer of the way from k: 0 if it stops at zero; 19 if it stops beyond the last
--                               record; 20 if it is on records n + 1 times, and so comes to one of the n again
--     walked r                  the answer that the code's result stands for: how many records the way meets, or the number
--                               that it is refused with
--     records next k m          the first m records of the way from k, in order
-- Assumes nothing.
use Rattle.std.specs.Prelude.{ℕ, zero, suc, Bool, not, ◌&&◌, List, [], ◌∷◌, leb, Result, Ok, Err}
use Rattle.std.proofs.Math.Option.{Option, none, some}
use Rattle.loops.specs.Search.{least}
use Rattle.numbers.specs.declared.Number.{Number}
use Rattle.numbers.specs.Codes.{code}
use Rattle.numbers.specs.Numbers.{link_number, loop_number}

unfoldable pub reached : (ℕ → ℕ) → ℕ → ℕ → ℕ
reached next k zero = k
reached next k (suc i) = next (reached next k i)

unfoldable pub numbered : ℕ → ℕ → Bool
numbered n k = leb 1 k && leb k n

unfoldable pub met : ℕ → (ℕ → ℕ) → ℕ → Option ℕ
met n next k = least (suc n) (λ i. not (numbered n (reached next k i)))

pub record Walked : Type 0 where
  pub number : ℕ
  pub records : ℕ

abbrev pub done : ℕ → Walked
done m = record { number = 0; records = m }

abbrev pub refusal : ℕ → Walked
refusal x = record { number = x; records = 0 }

abbrev pub stopped : ℕ → ℕ → Walked
stopped m zero = done m
stopped m (suc k) = refusal link_number

abbrev pub answered : (ℕ → ℕ) → ℕ → Option ℕ → Walked
answered next k none = refusal loop_number
answered next k (some m) = stopped m (reached next k m)

unfoldable pub way : ℕ → (ℕ → ℕ) → ℕ → Walked
way n next k = answered next k (met n next k)

abbrev pub walked : Result ℕ Number → Walked
walked (Ok m) = done m
walked (Err n) = refusal (code n)

unfoldable pub records : (ℕ → ℕ) → ℕ → ℕ → List ℕ
records next k zero = []
records next k (suc m) = k ∷ records next (next k) m
