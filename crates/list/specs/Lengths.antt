-- Document 02, §8: the list carries the width 8 only. Its handles have 23 bytes and its clusters eight segments, so no call of
-- a list is turned down with 25.
--     HandlesOfEight r       both handles of the record r have the width 8
--     RightLength            of no call of a record a handle's length is none of the three: 25 does not apply in its first
--                            place
--     Eights b               every active cluster of the bench b has the width 8
--     EightsKept             what the call of a record leaves is such a bench again
--     NoLength               on such a bench the call of a record is not turned down with 25
--     numbers_of list ks b    the numbers that the calls of the records ks get, one after the other, from the bench b on
--     NoneIs n ns            none of the numbers ns is n
--     NoLengthInLists        from the starting store no call of the chain of a list gets 25
-- Assumes nothing.
use Rattle.std.specs.Prelude.{◌≡◌, ◌≢◌, ℕ, true, false, List, [], ◌∷◌, length}
use Rattle.handle.specs.Handles.{width_of, decoded}
use Rattle.store.specs.Records.{table_at}
use Rattle.calls.specs.Calls.{Kind, call}
use Rattle.calls.specs.Numbers as calls
use Rattle.chain.specs.Way.{done}
use Rattle.list.specs.Records.{record_in, field, arguments_of}
use Rattle.list.specs.Runs.{Bench, starting, performed}
use Rattle.list.specs.Texts.{checked, chain}

pub record HandlesOfEight (r : List ℕ) : Type 0 where
  pub first : width_of (decoded (field r 8 23)) ≡ 8
  pub second : width_of (decoded (field r 32 23)) ≡ 8

abbrev pub RightLength : Type 0
RightLength = (k : Kind) (r b : List ℕ) → length r ≡ 64 → calls.bad_length (call k (arguments_of k r b)) ≡ false

abbrev pub Eights : Bench → Type 0
Eights b = (n : ℕ) → (table_at b.copy.store n).active ≡ true → (table_at b.copy.store n).width ≡ 8

abbrev pub EightsKept : Type 0
EightsKept = (r : List ℕ) (b : Bench) → Eights b → Eights (performed r b).bench

abbrev pub NoLength : Type 0
NoLength = (r : List ℕ) (b : Bench) → length r ≡ 64 → Eights b → (performed r b).answer.number ≢ 25

abbrev pub numbers_of : List ℕ → List ℕ → Bench → List ℕ
numbers_of list [] b = []
numbers_of list (k ∷ ks) b =
    let p = performed (record_in list k) b in
    p.answer.number ∷ numbers_of list ks p.bench

abbrev pub NoneIs : ℕ → List ℕ → Type 0
NoneIs n [] = Unit {0}
NoneIs n (m ∷ ms) = (m ≢ n) × NoneIs n ms

abbrev pub NoLengthInLists : Type 0
NoLengthInLists =
    (list : List ℕ) (m : ℕ) → checked list ≡ done m → NoneIs 25 (numbers_of list (chain list m) starting)
