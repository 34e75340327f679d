-- What the answer of a way says, in the words of document 01: zero ends the chain, and rows 19 and 20 of the table.
--     IsRecord n k              k is the number of a record
--     OnRecords n next k m      the first m places of the way from k are records
--     Whole n next k m          the way from k is on m records, no two of them the same, and then at zero
--     Leaves n next k           19: on records until then, the way from k comes to a number beyond the last record; that may
--                               be k itself, where k is no record
--     Again n next k            20: on records all the time, the way from k comes to one of them again
--     Means n next k            the answer says which of the three it is, and each of the three gives its answer
-- Assumes nothing.
use Rattle.std.specs.Prelude.{◌≡◌, ◌↔◌, ℕ, suc, ◌≤◌, ◌<◌}
use Rattle.numbers.specs.Numbers.{link_number, loop_number}
use Rattle.chain.specs.Way.{reached, done, way}

abbrev pub IsRecord : ℕ → ℕ → Type 0
IsRecord n k = (1 ≤ k) × (k ≤ n)

abbrev pub OnRecords : ℕ → (ℕ → ℕ) → ℕ → ℕ → Type 0
OnRecords n next k m = (i : ℕ) → i < m → IsRecord n (reached next k i)

pub record Whole (n : ℕ) (next : ℕ → ℕ) (k m : ℕ) : Type 0 where
  pub on : OnRecords n next k m
  pub zero_after : reached next k m ≡ 0
  pub distinct : (i j : ℕ) → i < j → j < m → reached next k i ≡ reached next k j → ⊥

pub record Leaves (n : ℕ) (next : ℕ → ℕ) (k : ℕ) : Type 0 where
  pub after : ℕ
  pub on : OnRecords n next k after
  pub beyond : n < reached next k after

pub record Again (n : ℕ) (next : ℕ → ℕ) (k : ℕ) : Type 0 where
  pub before : ℕ
  pub again : ℕ
  pub later : before < again
  pub on : OnRecords n next k (suc again)
  pub same : reached next k before ≡ reached next k again

pub record Means (n : ℕ) (next : ℕ → ℕ) (k : ℕ) : Type 0 where
  pub whole : (m : ℕ) → (way n next k ≡ done m) ↔ Whole n next k m
  pub leaves : ((way n next k).number ≡ link_number) ↔ Leaves n next k
  pub again : ((way n next k).number ≡ loop_number) ↔ Again n next k
