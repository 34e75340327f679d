-- The uses of §7. One round of the list is computed for each width, with the read password and all bytes open: from any bytes it
-- leaves the same ones, so that from the second round on nothing changes. And copies that begin as §7 has it are the same to writers.
-- Assumes nothing.
use mathlib.Core.Path.{◌≡◌, refl, sym, ap, ◌∙◌, subst}
use Prim.Native.Nat.{ℕ, zero, suc}
use native.Mathlib.Omega.{arith}
use mathlib.Core.Bool.{true}
use mathlib.Core.List.{List}
use lib.ListN.{length, get_or}
use Rattle.handle.specs.Handles.{Name}
use Rattle.store.specs.declared.Store.{Store}
use Rattle.store.specs.Records.{cluster_at, table_at, place_on}
use Rattle.calls.specs.Calls.{Copy}
use Rattle.calls.specs.Numbers.{tests}
use Rattle.calls.specs.Steps.{Ran, effects, step, run}
use Rattle.calls.specs.Literals.{sixteen}
use Rattle.calls.proofs.Computing.{computing}
use Rattle.isolation.specs.Copies.{InPlace, keyed}
use Rattle.isolation.specs.Writers.{Spies, NoReader, Untold}
use Rattle.isolation.specs.UseLists.{Wide, of_four, of_eight, of_sixteen, records, keeping, repeated, writes, write_answers}
use Rattle.isolation.specs.UseLists.{write_places}
use Rattle.isolation.specs.Uses.{WritersUses}
use Rattle.isolation.proofs.RunLaws.{numbers_of, ran_by, run_below_lem, places_below_lem, along_below}
use Rattle.isolation.proofs.SpyLaws.{spying, unspied}
use Rattle.isolation.proofs.RoundLaws.{checked, told_by, Round, round, ends, rounds}
use Rattle.isolation.proofs.UseCopyLaws.{sound_keeping, at_high, alike_keeping, same_keeping}
use Rattle.isolation.proofs.WriterLaws.{alike_is_same, writers_learn_nothing}

module _ (f : Name → List ℕ → ℕ → List ℕ) where
  abbrev copy : Wide → List ℕ → ℕ → ℕ → ℕ → ℕ → ℕ → Copy
  copy v r b c d y z = keeping v r (sixteen 34) b c d y z

  -- ---- one round

  numbers_checked : (v : Wide) (r : List ℕ) (b c d y z : ℕ)
      → checked f (spying 3 7 f) (numbers_of f (write_answers v)) (writes v) (copy v r b c d y z) ≡ true
  unfolding keyed tests effects computing
  numbers_checked of_four r b c d y z = refl
  numbers_checked of_eight r b c d y z = refl
  numbers_checked of_sixteen r b c d y z = refl

  ran : (v : Wide) (r : List ℕ) (b c d y z : ℕ) → ran_by f (numbers_of f (write_answers v)) (writes v) (copy v r b c d y z)
      ≡ record { replies = write_answers v; copy = copy v r b 8 9 0 z }
  unfolding effects computing
  ran of_four r b c d y z = refl
  ran of_eight r b c d y z = refl
  ran of_sixteen r b c d y z = refl

  told : (v : Wide) (r : List ℕ) (b c d y z : ℕ)
      → told_by f (numbers_of f (write_answers v)) (writes v) (copy v r b c d y z) ≡ write_places
  unfolding effects computing
  told of_four r b c d y z = refl
  told of_eight r b c d y z = refl
  told of_sixteen r b c d y z = refl

  module _ (v : Wide) (r : List ℕ) (b c d y z n : ℕ) where
    one : (c d y : ℕ)
        → Round f (spying 3 7 f) (writes v) (copy v r b c d y z) (copy v r b 8 9 0 z) (write_answers v) write_places
    one c d y =
        round f (spying 3 7 f) (numbers_of f (write_answers v)) (writes v) (copy v r b c d y z) (copy v r b 8 9 0 z)
        (write_answers v) write_places (numbers_checked v r b c d y z) (ran v r b c d y z) (told v r b c d y z)

    abbrev left : Copy
    left = ends f (spying 3 7 f) (writes v) (write_answers v) write_places n (copy v r b c d y z) (copy v r b 8 9 0 z)

    many : Round f (spying 3 7 f) (repeated n (writes v)) (copy v r b c d y z) left (repeated n (write_answers v))
        (repeated n write_places)
    many =
        rounds f (spying 3 7 f) (writes v) (write_answers v) write_places (copy v r b c d y z) (copy v r b 8 9 0 z) (one c d y)
        (one 8 9 0) n

    ended : run f (repeated n (writes v)) (copy v r b c d y z) ≡ record { replies = repeated n (write_answers v); copy = left }
    ended = run_below_lem f (repeated n (writes v)) (copy v r b c d y z) (sound_keeping v r (sixteen 34) b c d y z) ∙ many.ran

    pub no_reader : NoReader 3 7 f (step f) (repeated n (writes v)) (copy v r b c d y z)
    no_reader =
        along_below f (spying 3 7 f) (λ x s. ¬ Spies 3 7 f x s) (unspied 3 7 f) (repeated n (writes v)) (copy v r b c d y z)
        (sound_keeping v r (sixteen 34) b c d y z) many.untested

  -- the store stays, and the first bytes
  left_store : (v : Wide) (r : List ℕ) (b c d y z n : ℕ) → (left v r b c d y z n).store ≡ records v r (sixteen 34)
  left_store v r b c d y z zero = refl
  left_store v r b c d y z (suc n) = refl

  left_size : (v : Wide) (r : List ℕ) (b c d y z n : ℕ) → length (left v r b c d y z n).memory ≡ 16384
  left_size v r b c d y z zero = refl
  left_size v r b c d y z (suc n) = refl

  left_byte : (v : Wide) (r : List ℕ) (b c d y z n : ℕ) → get_or (left v r b c d y z n).memory 1 0 ≡ 6
  left_byte v r b c d y z zero = refl
  left_byte v r b c d y z (suc n) = refl

  left_near : (v : Wide) (r : List ℕ) (b c d y z n : ℕ) → get_or (left v r b c d y z n).memory 12296 0 ≡ 22
  left_near v r b c d y z zero = at_high v r (sixteen 34) b c d y z 8
  left_near v r b c d y z (suc n) = at_high v r (sixteen 34) b 8 9 0 z 8

  -- ---- many rounds, in both copies

  module _ (v : Wide) (n : ℕ) (s : List ℕ) (b c d y z k l m x t : ℕ) where
    abbrev ours : Copy
    ours = copy v (sixteen 34) b c d y z

    abbrev theirs : Copy
    theirs = copy v s k l m x t

    untold : Untold 3 7 f (step f) (repeated n (writes v)) ours theirs
    untold =
        writers_learn_nothing f 3 7 (omega arith) (omega arith) (repeated n (writes v)) ours theirs
        (sound_keeping v (sixteen 34) (sixteen 34) b c d y z) (sound_keeping v s (sixteen 34) k l m x t)
        (same_keeping v (sixteen 34) s (sixteen 34) b c d y z k l m x t) (no_reader v (sixteen 34) b c d y z n)
        (no_reader v s k l m x t n)

    end : (run f (repeated n (writes v)) ours).copy ≡ left v (sixteen 34) b c d y z n
    end = ap (λ (a : Ran). a.copy) (ended v (sixteen 34) b c d y z n)

    store : (run f (repeated n (writes v)) ours).copy.store ≡ records v (sixteen 34) (sixteen 34)
    store = ap (λ (a : Copy). a.store) end ∙ left_store v (sixteen 34) b c d y z n

    pub writers_uses : WritersUses f v n s b c d y z k l m x t
    writers_uses =
        record {
          begun =
              alike_is_same 3 7 (omega arith) (omega arith) ours (copy v s k l m y z)
              (sound_keeping v (sixteen 34) (sixteen 34) b c d y z)
              (alike_keeping v (sixteen 34) (sixteen 34) s (sixteen 34) b c d k l m y z) refl;
          replies =
              sym untold.replies ∙ ap (λ (a : Ran). a.replies) (ended v (sixteen 34) b c d y z n);
          places =
              sym untold.places
              ∙ places_below_lem f (repeated n (writes v)) ours (sound_keeping v (sixteen 34) (sixteen 34) b c d y z)
              ∙ (many v (sixteen 34) b c d y z n).looked;
          records = sym untold.same.records ∙ ap (λ (a : Store). length a.clusters) store;
          other_record = sym (untold.same.others 3 (λ e. omega arith)) ∙ ap (λ (a : Store). cluster_at a 3) store;
          table = sym untold.same.table ∙ ap (λ (a : Store). table_at a 31) store;
          write = sym untold.same.write ∙ ap (λ (a : Store). (cluster_at a 31).write) store;
          size =
              sym untold.same.size
              ∙ ap (λ (a : Copy). length a.memory) end
              ∙ left_size v (sixteen 34) b c d y z n;
          other_byte =
              sym (untold.same.bytes 0 3 7 1 (omega arith) (omega arith) (omega arith) (λ e. omega arith)
              (subst (λ (a : Store). InPlace 0 (place_on (table_at a) 0 3 7) 1) (sym store) (omega arith, omega arith)))
              ∙ ap (λ (a : Copy). get_or a.memory 1 0) end
              ∙ left_byte v (sixteen 34) b c d y z n;
          near_record = sym (untold.same.others 26 (λ e. omega arith)) ∙ ap (λ (a : Store). cluster_at a 26) store;
          near_byte =
              sym (untold.same.bytes 3 2 15 12296 (omega arith) (omega arith) (omega arith) (λ e. omega arith)
              (subst (λ (a : Store). InPlace 3 (place_on (table_at a) 3 2 15) 12296) (sym store) (omega arith, omega arith)))
              ∙ ap (λ (a : Copy). get_or a.memory 12296 0) end
              ∙ left_near v (sixteen 34) b c d y z n;
        }
