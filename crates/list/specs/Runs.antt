-- Document 01, "The list of calls": what the call of a record does.
--     Bench                   what the calls of a list work on: a copy, and a buffer
--     bench s m b             the bench of these records, this memory and this buffer
--     left s a m b            the records s, the memory m, the buffer b and the answer a
--     ran s r m b             what is left and answered by code that begins with the records s and ends so
--     buffer_bytes             the bytes of the buffer that reads get
--     starting                the starting store, and a buffer of zeros
--     Performed               the bench that a record leaves, and its answer
--     misfits k r             a write's data length is above 32
--     rows_above n rs          the rows of a list that stand above the row with the number n
--     misfit_rows x c          the rows of a write that misfits: those of the table above row 3, and row 3, which applies
--     refused n b             refused with n: the bench as it was, the number alone
--     answer_of r              the answer in a reply
--     stepped k x b           what the step of the call x, of the kind k, leaves and answers; a read alone has the buffer
--     performed r b           what the record r does: a code outside 1 to 11 is 3, and nothing else is looked at; a
--                             misfit is 3, after 1 and 2; else the step of the call that it encodes
-- Assumes nothing.
use Rattle.std.specs.Prelude.{ℕ, Bool, true, false, ◌&&◌, List, [], ◌∷◌, ◌++◌, eqb, ltb, length, replicate, Result, Ok, Err}
use Rattle.std.proofs.Math.Option.{Option, none, some}
use Rattle.handle.specs.Handles.{Row, first_of}
use Rattle.handle.specs.Conversion.{product}
use Rattle.store.specs.declared.Store.{Store}
use Rattle.calls.specs.Calls.{Copy, start, Kind, Call, call, among}
use Rattle.calls.specs.Numbers.{at, rows}
use Rattle.calls.specs.Steps.{Reply, Outcome, aes_step}
use Rattle.calls.specs.declared.Done.{Done}
use Rattle.calls.specs.Answers as answers
use Rattle.calls.specs.Answers.{copy_of}
use Rattle.lines.specs.Lines.{Answer, plain, number_alone}
use Rattle.refusals.specs.Rows.{row}
use Rattle.list.specs.Records.{most_data, code_of, data_length, kind_of, arguments_of}
use Rattle.numbers.specs.Numbers.{field_number}
use Rattle.numbers.specs.declared.Number.{Number}

pub record Bench : Type 0 where
  pub copy : Copy
  pub buffer : List ℕ

abbrev pub bench : Store → List ℕ → List ℕ → Bench
bench s m b = record { copy = copy_of s m; buffer = b }

abbrev pub buffer_bytes : ℕ
buffer_bytes = 4096

abbrev pub starting : Bench
starting = record { copy = start; buffer = replicate buffer_bytes 0 }

pub record Performed : Type 0 where
  pub bench : Bench
  pub answer : Answer

abbrev pub left : Store → answers.Answer → List ℕ → List ℕ → Performed
left s a m b = record { bench = bench s m b; answer = plain a }

abbrev pub ran : Store → Result Done Number → List ℕ → List ℕ → Performed
ran s (Ok d) m b = left d.store (Ok d.given) m b
ran s (Err n) m b = left s (Err n) m b

-- ---- a call refused by the list's own rules

abbrev pub misfits : Kind → List ℕ → Bool
misfits k r = among (6 ∷ []) k && ltb most_data (data_length r)

abbrev pub rows_above : ℕ → List Row → List Row
rows_above n [] = []
rows_above n (r ∷ rs) = elim (eqb r.number n) [ true ↦ [] | false ↦ r ∷ rows_above n rs ]

abbrev pub misfit_rows : Call → Copy → List Row
misfit_rows x c =
    rows_above field_number
    (at x c.store (rows product (length c.memory)))
    ++ (row field_number true ∷ [])

abbrev pub refused : ℕ → Bench → Performed
refused n b = record { bench = b; answer = number_alone n }

-- ---- a call that is carried out or refused by its step

abbrev pub answer_of : Reply → Answer
answer_of r =
    record { number = r.number; first = r.first; second = r.second; count = r.count; length = r.length }

abbrev pub after_step : Kind → Outcome → Bench → Performed
after_step k o b =
    record {
      bench =
          record { copy = o.copy; buffer = elim (among (5 ∷ []) k) [ true ↦ o.reply.buffer | false ↦ b.buffer ] };
      answer = answer_of o.reply;
    }

abbrev pub stepped : Kind → Call → Bench → Performed
stepped k x b = after_step k (aes_step x b.copy) b

abbrev pub performed_as : Option Kind → List ℕ → Bench → Performed
performed_as none r b = refused field_number b
performed_as (some k) r b =
    let x = call k (arguments_of k r b.buffer) in
    elim (misfits k r) [ true ↦ refused (first_of (misfit_rows x b.copy)) b | false ↦ stepped k x b ]

unfoldable pub performed : List ℕ → Bench → Performed
performed r b = performed_as (kind_of (code_of r)) r b
