-- What every call that opens a cluster begins with, and how its record is put back. Inner contracts cite these.
--     Opens o s size b    the code's o has the handle that the bytes b hold, the record of its cluster in the records s, and
--                         whether these are sound with a slice of that many bytes
--     put_back s i r       the records s with record i as the core left it, and what it gives
--     DoneBy told s m b r    the core told something of what was opened so, and r is that with its record put back
-- Assumes nothing.
use Rattle.std.specs.Prelude.{◌≡◌, ℕ, List, [], length, Result}
use Rattle.numbers.specs.declared.Number.{Number}
use Rattle.store.specs.declared.Store.{Store}
use Rattle.store.specs.Records.{put_record}
use Rattle.calls.specs.declared.Done.{Done}
use Rattle.calls.specs.declared.Changed.{Changed}
use Rattle.calls.specs.Answers.{changed, finished}
use Rattle.refusals.specs.declared.Opened.{Opened}
use Rattle.refusals.specs.Given.{OpenedFrom, record_found}

pub record Opens (o : Opened) (s : Store) (size : ℕ) (b : List ℕ) : Type 0 where
  pub given : (m : List ℕ) → length m ≡ size → OpenedFrom o s m b

abbrev pub put_back : Store → ℕ → Changed → Done
put_back s i r = record { store = put_record s i r.cluster; given = r.given }

pub record DoneBy (told : Opened → Result Changed Number → Type 0) (s : Store) (m b : List ℕ) (r : Result Done Number) : Type 0 where
  pub opened : Opened
  pub left : Result Changed Number
  pub given : OpenedFrom opened s m b
  pub core : told opened left
  pub done : finished s m [] r ≡ changed (record_found opened.handle) s m left
