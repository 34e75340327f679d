-- Document 01, "The list of calls", and rows 19 and 20 of its table, written out: whole answers by numbers alone.
--     Walk, walks        records of some width in their bytes, the record where the way begins, and the answer: its
--                        number, and how many records the way meets
--     answers            a way that is whole, in the records' order and not; no records; 19 at the next of a record and at
--                        the beginning; 20 back at the first record, at a later one and at the same
--     WaysAnswered       they are the answers
-- Assumes nothing.
use Rattle.std.specs.Prelude.{ℕ, ◌≡◌, List, [], ◌∷◌, map}
use Rattle.chain.specs.Way.{Walked}
use Rattle.chain.specs.Bytes.{way_in}

pub record Walk : Type 0 where
  pub bytes : List ℕ
  pub width : ℕ
  pub from : ℕ
  pub answer : Walked

abbrev walks : List ℕ → ℕ → ℕ → ℕ → ℕ → Walk
walks b w k n m = record { bytes = b; width = w; from = k; answer = record { number = n; records = m } }

abbrev pub answers : List Walk
answers =
    walks (2 ∷ 3 ∷ 0 ∷ []) 1 1 0 3
    ∷ walks (3 ∷ 9 ∷ 0 ∷ 9 ∷ 2 ∷ 9 ∷ []) 2 1 0 3
    ∷ walks (3 ∷ 0 ∷ 0 ∷ []) 1 1 0 2
    ∷ walks (3 ∷ 0 ∷ 0 ∷ []) 1 3 0 1
    ∷ walks [] 1 0 0 0
    ∷ walks (2 ∷ 4 ∷ 0 ∷ []) 1 1 19 0
    ∷ walks (2 ∷ 3 ∷ 0 ∷ []) 1 4 19 0
    ∷ walks (2 ∷ 3 ∷ 1 ∷ []) 1 1 20 0
    ∷ walks (2 ∷ 3 ∷ 2 ∷ []) 1 1 20 0
    ∷ walks (1 ∷ 4 ∷ []) 1 1 20 0
    ∷ []

abbrev pub WaysAnswered : Type 0
WaysAnswered =
    map (λ (w : Walk). way_in w.bytes w.width w.from) answers ≡ map (λ (w : Walk). w.answer) answers
