-- The lists are computed, and that readers alter nothing is applied to the first.
-- Assumes nothing.
use mathlib.Core.Path.{◌≡◌, refl, sym, ap, ◌∙◌}
use Prim.Native.Nat.{ℕ}
use native.Mathlib.Omega.{arith}
use mathlib.Core.Bool.{true, false}
use mathlib.Core.List.{List}
use Rattle.handle.specs.Handles.{Name}
use Rattle.store.specs.Records.{Table, place_of, write_mode}
use Rattle.calls.specs.Numbers.{tests}
use Rattle.calls.specs.Steps.{Ran, effects, run}
use Rattle.calls.specs.Cases.{added}
use Rattle.calls.proofs.Computing.{computing}
use Rattle.isolation.specs.Copies.{Unaltered, keyed}
use Rattle.isolation.specs.Witness.{one}
use Rattle.isolation.specs.ReaderWitness.{reader_calls, reader_answers, reader_joins, join_answers, ReadersJoin}
use Rattle.isolation.specs.ReaderWitness.{ReadersList, Unharmed}
use Rattle.isolation.proofs.RunLaws.{numbers_of, numbered, run_by_lem, some_below, unwritten_below}
use Rattle.isolation.proofs.ReaderLaws.{readers_alter_nothing}
use Rattle.isolation.proofs.HoldingLaws.{four}
use Rattle.isolation.proofs.WitnessLaws.{sound_one}

joins_unwritten : some_below added (keyed 0 2 added write_mode) reader_joins one ≡ false
unfolding keyed tests effects computing
joins_unwritten = refl

joins_numbered : numbered added (numbers_of added join_answers) reader_joins one ≡ true
unfolding tests effects computing
joins_numbered = refl

join_replies : (run added reader_joins one).replies ≡ join_answers
unfolding effects computing
join_replies = ap (λ (r : Ran). r.replies) (run_by_lem added (numbers_of added join_answers) reader_joins one sound_one joins_numbered) ∙ refl

pub readers_join : ReadersJoin
readers_join =
    record { no_writer = unwritten_below added 0 2 reader_joins one sound_one joins_unwritten; replies = join_replies }

module _ (f : Name → List ℕ → ℕ → List ℕ) where
  unwritten : some_below f (keyed 0 2 f write_mode) reader_calls one ≡ false
  unfolding keyed tests effects computing
  unwritten = refl

  numbers : numbered f (numbers_of f reader_answers) reader_calls one ≡ true
  unfolding tests effects computing
  numbers = refl

  replies : (run f reader_calls one).replies ≡ reader_answers
  unfolding effects computing
  replies = ap (λ (r : Ran). r.replies) (run_by_lem f (numbers_of f reader_answers) reader_calls one sound_one numbers) ∙ refl

  pub readers_list : ReadersList f
  readers_list = record { no_writer = unwritten_below f 0 2 reader_calls one sound_one unwritten; replies = replies }

  pub unaltered : Unaltered 0 2 one (run f reader_calls one).copy
  unaltered =
      readers_alter_nothing 0 2 f (omega arith) (omega arith) reader_calls one sound_one refl readers_list.no_writer

  pub unharmed : Unharmed f
  unharmed =
      record {
        place = ap (λ (t : Table). place_of t 5) (sym unaltered.table);
        write = sym unaltered.write;
        bytes = λ p l. sym (unaltered.bytes p 5 (omega arith) (omega arith)) ∙ four 8 5 17 34 7 p l;
      }
