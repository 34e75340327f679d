-- How the code's answers are replies.
--     Answer                  what a call answers: what it gives, or the number of its refusal
--     copy_of s m             the copy of these records and this memory
--     no_handle               the handle that is not given
--     first g, second g       the handles that g gives, of length 0 where there is none
--     count g, length g       the count and the length that g gives, 0 where there is none
--     gives f d a             f of what the answer a gives; d where it is refused
--     replied a b             the reply that the code's answer a and the buffer b make; no bytes are shown
--     ended s m a b           what is left and given: the records s, the memory m, the answer a, the buffer b
--     changed i s m r         the same of a call on the records s that gives back record i, where it is done, and no buffer; a
--                             refusal leaves the records
--     finished s m b r        the same of a call on the records s that gives back all records, where it is done, and the buffer b
--     looked_as r             what the code tells of a look, as the record that a look tells: a part of no bytes if it is refused
-- Assumes nothing.
use Rattle.std.specs.Prelude.{ℕ, List, [], Result, Ok, Err}
use Rattle.numbers.specs.declared.Number.{Number}
use Rattle.numbers.specs.Codes.{code, told}
use Rattle.handle.specs.declared.HandleBytes.{HandleBytes}
use Rattle.handle.specs.Handles.{laid}
use Rattle.store.specs.declared.Store.{Store}
use Rattle.store.specs.Records.{put_record}
use Rattle.calls.specs.declared.Given.{Given}
use Rattle.calls.specs.declared.Given.TheVariants.{Nothing, Handle, Handles, Counted, Length}
use Rattle.calls.specs.declared.Done.{Done}
use Rattle.calls.specs.declared.Changed.{Changed}
use Rattle.calls.specs.declared.Part.{Part}
use Rattle.calls.specs.Calls.{Copy}
use Rattle.calls.specs.Steps.{Reply, Outcome, no_bytes}
use Rattle.calls.specs.Looks.{Looked, nowhere}

abbrev pub Answer : Type 0
Answer = Result Given Number

abbrev pub copy_of : Store → List ℕ → Copy
copy_of s m = record { store = s; memory = m }

abbrev pub no_handle : HandleBytes
no_handle = laid no_bytes

abbrev pub first : Given → HandleBytes
first Nothing = no_handle
first (Handle a) = a
first (Handles a b) = a
first (Counted a n) = a
first (Length n) = no_handle

abbrev pub second : Given → HandleBytes
second Nothing = no_handle
second (Handle a) = no_handle
second (Handles a b) = b
second (Counted a n) = no_handle
second (Length n) = no_handle

abbrev pub count : Given → ℕ
count Nothing = 0
count (Handle a) = 0
count (Handles a b) = 0
count (Counted a n) = n
count (Length n) = 0

abbrev pub length : Given → ℕ
length Nothing = 0
length (Handle a) = 0
length (Handles a b) = 0
length (Counted a n) = 0
length (Length n) = n

abbrev pub gives : {A : Type 0} → (Given → A) → A → Answer → A
gives f d (Ok g) = f g
gives f d (Err n) = d

abbrev pub replied : Answer → List ℕ → Reply
replied a b =
    record {
      number = told a;
      first = gives first no_handle a;
      second = gives second no_handle a;
      count = gives count 0 a;
      length = gives length 0 a;
      buffer = b;
      shown = [];
    }

abbrev pub ended : Store → List ℕ → Answer → List ℕ → Outcome
ended s m a b = record { copy = copy_of s m; reply = replied a b }

abbrev pub changed : ℕ → Store → List ℕ → Result Changed Number → Outcome
changed i s m (Ok d) = ended (put_record s i d.cluster) m (Ok d.given) []
changed i s m (Err n) = ended s m (Err n) []

abbrev pub finished : Store → List ℕ → List ℕ → Result Done Number → Outcome
finished s m b (Ok d) = ended d.store m (Ok d.given) b
finished s m b (Err n) = ended s m (Err n) b

abbrev pub looked_as : Result Part Number → Looked
looked_as (Ok p) = record { number = 0; part = p }
looked_as (Err n) = record { number = code n; part = nowhere }
