-- Writers, readers and what is frozen at a cluster of four and at one of sixteen: the lists are computed, for each sort, and the
-- theorems are applied to them.
-- Assumes nothing.
use mathlib.Core.Path.{◌≡◌, refl, sym, ap, ◌∙◌}
use Prim.Native.Nat.{ℕ, ◌+◌, ◌*◌}
use native.Mathlib.Omega.{arith}
use mathlib.Core.Bool.{true, false}
use mathlib.Core.List.{List, ◌∷◌}
use lib.ListN.{get_or}
use Rattle.sizes.specs.Sizes.{memory}
use Rattle.handle.specs.Handles.{Name}
use Rattle.store.specs.Records.{Table, place_of, write_mode}
use Rattle.calls.specs.Calls.{Copy, start, Call}
use Rattle.calls.specs.Numbers.{tests}
use Rattle.calls.specs.Steps.{Reply, Ran, effects, step, run}
use Rattle.calls.proofs.Computing.{computing}
use Rattle.calls.proofs.StepLaws.{number_below_lem}
use Rattle.isolation.specs.Copies.{Done, SoundCopy, Unaltered, keyed}
use Rattle.isolation.specs.Frozen.{Fixed}
use Rattle.isolation.specs.Writers.{Spies, NoReader, Untold}
use Rattle.isolation.specs.WidthLists.{Sort, of_four, of_sixteen, width, top, one, mate}
use Rattle.isolation.specs.WidthHolders.{writes, writes_answers, writes_places, reads, reads_answers, the_freeze, attempts}
use Rattle.isolation.specs.WidthHolders.{attempt_answers, strays, stray_answers}
use Rattle.isolation.specs.WidthWitness.{WritesMet, WritesTold, Strays, ReadsMet, ReadsTold, FrozenMet, FrozenTold}
use Rattle.isolation.proofs.KeptLaws.{start_sound}
use Rattle.isolation.proofs.RunLaws.{numbers_of, ran_by, numbered, run_by_lem, places_below, places_below_lem, some_below, along_below, unwritten_below}
use Rattle.isolation.proofs.ReaderLaws.{readers_alter_nothing}
use Rattle.isolation.proofs.FrozenLaws.{fixed_from_then_on}
use Rattle.isolation.proofs.SpyLaws.{spying, unspied}
use Rattle.isolation.proofs.WriterLaws.{alike_is_same, writers_learn_nothing}
use Rattle.isolation.proofs.HoldingLaws.{four, placed, within, alike_holding}
use Rattle.isolation.proofs.WidthWitnessLaws.{sound_here, top_low}

module _ (f : Name → List ℕ → ℕ → List ℕ) where
  -- the replies, by the numbers
  replied : (rs : List Reply) (xs : List Call) (v : Sort) → numbered f (numbers_of f rs) xs (one v) ≡ true
      → (ran_by f (numbers_of f rs) xs (one v)).replies ≡ rs → (run f xs (one v)).replies ≡ rs
  replied rs xs v n e =
      ap (λ (r : Ran). r.replies) (run_by_lem f (numbers_of f rs) xs (one v) (sound_here v 17 34 7) n) ∙ e

  -- ---- writers

  unspied_one : (v : Sort) → some_below f (spying 0 2 f) (writes v) (one v) ≡ false
  unfolding keyed tests effects computing
  unspied_one of_four = refl
  unspied_one of_sixteen = refl

  unspied_mate : (v : Sort) → some_below f (spying 0 2 f) (writes v) (mate v) ≡ false
  unfolding keyed tests effects computing
  unspied_mate of_four = refl
  unspied_mate of_sixteen = refl

  writes_numbered : (v : Sort) → numbered f (numbers_of f (writes_answers v)) (writes v) (one v) ≡ true
  unfolding tests effects computing
  writes_numbered of_four = refl
  writes_numbered of_sixteen = refl

  written : (v : Sort) → (ran_by f (numbers_of f (writes_answers v)) (writes v) (one v)).replies ≡ writes_answers v
  unfolding effects computing
  written of_four = refl
  written of_sixteen = refl

  looked : (v : Sort) → places_below f (writes v) (one v) ≡ writes_places
  unfolding tests effects computing
  looked of_four = refl
  looked of_sixteen = refl

  no_reader : (v : Sort) (c : Copy) → SoundCopy c → some_below f (spying 0 2 f) (writes v) c ≡ false
      → NoReader 0 2 f (step f) (writes v) c
  no_reader v = along_below f (spying 0 2 f) (λ x s. ¬ Spies 0 2 f x s) (unspied 0 2 f) (writes v)

  pub writes_met : (v : Sort) → WritesMet f v
  writes_met v =
      record {
        sound_one = sound_here v 17 34 7;
        sound_mate = sound_here v 1 34 9;
        same =
            alike_is_same 0 2 (omega arith) (omega arith) (one v) (mate v) (sound_here v 17 34 7)
            (alike_holding (width v) (top v) (top_low v) 17 34 7 1 34 9) refl;
        no_reader_one = no_reader v (one v) (sound_here v 17 34 7) (unspied_one v);
        no_reader_mate = no_reader v (mate v) (sound_here v 1 34 9) (unspied_mate v);
        replies = replied (writes_answers v) (writes v) v (writes_numbered v) (written v);
        places = places_below_lem f (writes v) (one v) (sound_here v 17 34 7) ∙ looked v;
      }

  pub writes_told : (v : Sort) → WritesTold f v
  writes_told v =
      let m = writes_met v in
      let u : Untold 0 2 f (step f) (writes v) (one v) (mate v)
      = writers_learn_nothing f 0 2 (omega arith) (omega arith) (writes v) (one v) (mate v) m.sound_one m.sound_mate
      m.same m.no_reader_one m.no_reader_mate in
      record {
        replies = sym u.replies ∙ m.replies;
        places = sym u.places ∙ m.places;
        table = u.same.table;
        write = u.same.write;
      }

  unspied_strays : some_below f (spying 0 0 f) strays start ≡ false
  unfolding keyed tests effects computing
  unspied_strays = refl

  strays_numbered : numbered f (numbers_of f stray_answers) strays start ≡ true
  unfolding tests effects computing
  strays_numbered = refl

  pub strays_free : Strays f
  strays_free =
      record {
        no_reader =
            along_below f (spying 0 0 f) (λ x s. ¬ Spies 0 0 f x s) (unspied 0 0 f) strays start start_sound unspied_strays;
        replies =
            ap (λ (r : Ran). r.replies) (run_by_lem f (numbers_of f stray_answers) strays start start_sound strays_numbered);
      }

  -- ---- readers

  unwritten : (v : Sort) → some_below f (keyed 0 2 f write_mode) (reads v) (one v) ≡ false
  unfolding keyed tests effects computing
  unwritten of_four = refl
  unwritten of_sixteen = refl

  reads_numbered : (v : Sort) → numbered f (numbers_of f (reads_answers v)) (reads v) (one v) ≡ true
  unfolding tests effects computing
  reads_numbered of_four = refl
  reads_numbered of_sixteen = refl

  read : (v : Sort) → (ran_by f (numbers_of f (reads_answers v)) (reads v) (one v)).replies ≡ reads_answers v
  unfolding effects computing
  read of_four = refl
  read of_sixteen = refl

  pub reads_met : (v : Sort) → ReadsMet f v
  reads_met v =
      record {
        no_writer = unwritten_below f 0 2 (reads v) (one v) (sound_here v 17 34 7) (unwritten v);
        replies = replied (reads_answers v) (reads v) v (reads_numbered v) (read v);
      }

  pub reads_told : (v : Sort) → ReadsTold f v
  reads_told v =
      let u : Unaltered 0 2 (one v) (run f (reads v) (one v)).copy
      = readers_alter_nothing 0 2 f (omega arith) (omega arith) (reads v) (one v) (sound_here v 17 34 7) refl
      (reads_met v).no_writer in
      record {
        wide = ap (λ (t : Table). t.width) (sym u.table);
        place = ap (λ (t : Table). place_of t (top v)) (sym u.table) ∙ placed (width v) (top v) (top_low v) 17 34 7;
        write = sym u.write;
        bytes = λ p l.
            sym (u.bytes p (top v) (top_low v) (within (width v) (top v) (top_low v) 17 34 7 p l))
            ∙ four (width v) (top v) 17 34 7 p l;
      }

  -- ---- what is frozen

  frozen_done : (v : Sort) → Done f (the_freeze v) (one v)
  unfolding tests computing
  frozen_done of_four = number_below_lem f (the_freeze of_four) (one of_four).store memory (sound_here of_four 17 34 7) ∙ refl
  frozen_done of_sixteen =
      number_below_lem f (the_freeze of_sixteen) (one of_sixteen).store memory (sound_here of_sixteen 17 34 7) ∙ refl

  attempts_numbered : (v : Sort) → numbered f (numbers_of f attempt_answers) (the_freeze v ∷ attempts v) (one v) ≡ true
  unfolding tests effects computing
  attempts_numbered of_four = refl
  attempts_numbered of_sixteen = refl

  attempted : (v : Sort) → (ran_by f (numbers_of f attempt_answers) (the_freeze v ∷ attempts v) (one v)).replies ≡ attempt_answers
  unfolding effects computing
  attempted of_four = refl
  attempted of_sixteen = refl

  pub frozen_met : (v : Sort) → FrozenMet f v
  frozen_met v =
      record {
        done = frozen_done v;
        replies = replied attempt_answers (the_freeze v ∷ attempts v) v (attempts_numbered v) (attempted v);
      }

  fixed : (v : Sort) → Fixed 0 2 (top v) 0 4 (one v) (run f (the_freeze v ∷ attempts v) (one v)).copy
  unfolding computing
  fixed of_four = (fixed_from_then_on f (the_freeze of_four).args (attempts of_four) (one of_four) (frozen_done of_four)).fixed 0 4 refl
  fixed of_sixteen =
      (fixed_from_then_on f (the_freeze of_sixteen).args (attempts of_sixteen) (one of_sixteen) (frozen_done of_sixteen)).fixed 0 4 refl

  pub frozen_told : (v : Sort) → FrozenTold f v
  frozen_told v =
      record {
        active = (fixed v).active;
        place = (fixed v).place;
        frozen = (fixed v).frozen;
        bytes = λ p l.
            let e : 0 * 4096 + (0 + p) ≡ p = omega arith in
            ap (λ (q : ℕ). get_or (run f (the_freeze v ∷ attempts v) (one v)).copy.memory q 0) (sym e)
            ∙ (fixed v).bytes p l
            ∙ ap (λ (q : ℕ). get_or (one v).memory q 0) e
            ∙ four (width v) (top v) 17 34 7 p l;
      }
