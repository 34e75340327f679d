-- The hypotheses of `writers_learn_nothing` are met by two differing copies and a list that uses the freedom it leaves, so it applies
-- to them. All is computed, but for three calls of the opening: their handles' passwords are an open conversion's, and equal what the
-- chain gives byte by byte.
-- Assumes nothing.
use mathlib.Core.Path.{◌≡◌, refl, sym, ap, ◌∙◌, subst}
use Prim.Native.Nat.{ℕ}
use native.Mathlib.Omega.{arith}
use mathlib.Core.Bool.{Bool, true, false, not, ◌||◌, cond}
use mathlib.Core.List.{List, [], ◌∷◌, ◌++◌}
use Rattle.loops.specs.Tabulate.{tabulate}
use Rattle.sizes.specs.Sizes.{memory}
use Rattle.handle.specs.Handles.{Name, decoded}
use Rattle.store.specs.declared.Store.{Store}
use Rattle.store.specs.Records.{table_at, place_on}
use Rattle.calls.specs.Calls.{Copy, Call, reading, writing, weakening_by, reducing, joining}
use Rattle.calls.specs.Numbers.{valid, violated, tests, other_tests}
use Rattle.calls.specs.Steps.{Reply, Ran, followed, Outcome, effects, outcome, step, run}
use Rattle.calls.specs.Literals.{primary, none, told}
use Rattle.isolation.specs.Copies.{SoundCopy, InPlace, keyed}
use Rattle.isolation.specs.Writers.{Spies, NoReader, Untold}
use Rattle.isolation.specs.WriterLists.{kept, beyond, keeping, ours, theirs, opening, rest, whole_list, opening_answers, rest_answers}
use Rattle.isolation.specs.WriterLists.{marks, marks_answers, told_places, password, weaker_made, weaker_shown, gapped_shown}
use Rattle.isolation.specs.WriterWitness.{right_read, right_look, right_check, Met, end, WritersList, WritersUntold, WritersBite}
use Rattle.calls.proofs.StepLaws.{number_below}
use Rattle.calls.proofs.Computing.{computing}
use Rattle.isolation.proofs.RunLaws.{step_below, step_below_lem, run_below, run_below_lem, numbers_of, ran_by, numbered, ran_by_lem, run_by_lem, then_below, append_below, some_below, append_some}
use Rattle.isolation.proofs.RunLaws.{places_below, places_below_lem, append_places, along_below}
use Rattle.isolation.proofs.WitnessLaws.{same_bytes}
use Rattle.isolation.proofs.WriterLaws.{writers_learn_nothing}
use Rattle.isolation.proofs.SpyLaws.{spying, spying_is, unspied}
use Rattle.isolation.proofs.WriterCopyLaws.{sound_keeping, same_keeping}

module _ (f : Name → List ℕ → ℕ → List ℕ) where
  -- ---- the opening, on such a copy

  module _ (r b z : ℕ) where
    abbrev s : Store
    s = kept r

    abbrev after : Copy
    after = record { store = s; memory = 1 ∷ 2 ∷ 3 ∷ 4 ∷ beyond b z }

    valid_32 : valid f 2 (decoded (weaker_shown f 32)) s ≡ true
    unfolding valid computing tabulate
    valid_32 = same_bytes (password f 34 32)

    valid_16 : valid f 2 (decoded (weaker_shown f 16)) s ≡ true
    unfolding valid computing tabulate
    valid_16 = same_bytes (password f 34 16)

    abbrev write : Call
    write = writing 5 (weaker_shown f 32) (1 ∷ 2 ∷ 3 ∷ 4 ∷ 5 ∷ [])

    abbrev reduction : Call
    reduction = reducing 2 (weaker_shown f 32)

    abbrev joint : Call
    joint = joining 2 (weaker_shown f 32) (weaker_shown f 16)

    not_violated : (violated f write s ≡ false) × (violated f reduction s ≡ false) × (violated f joint s ≡ false)
    unfolding violated
    not_violated = (
      ap (λ (t : Bool). not t || false) valid_32,
      ap (λ (t : Bool). not t || false) valid_32,
      λ j. not (valid_32 j) || (not (valid_16 j) || false),
    )

    numbers : (size : ℕ)
        → (number_below f write s size ≡ 0) × (number_below f reduction s size ≡ 0) × (number_below f joint s size ≡ 0)
    unfolding other_tests computing tabulate
    numbers size = (
      ap (λ (t : Bool). cond {A = ℕ} t 9 0) not_violated.0,
      ap (λ (t : Bool). cond {A = ℕ} t 9 0) not_violated.1,
      ap (λ (t : Bool). cond {A = ℕ} t 9 0) not_violated.2,
    )

    step_write : step_below f write (keeping r b z)
        ≡ record { copy = after; reply = told 0 none none 0 0 (1 ∷ 2 ∷ 3 ∷ 4 ∷ 5 ∷ []) }
    unfolding effects computing tabulate
    step_write = ap (λ (n : ℕ). outcome f n write (keeping r b z)) (numbers memory).0

    step_reduce : step_below f reduction after ≡ record { copy = after; reply = told 0 (weaker_made f 32) none 0 0 [] }
    unfolding effects computing tabulate
    step_reduce = ap (λ (n : ℕ). outcome f n reduction after) (numbers memory).1

    step_join : step_below f joint after ≡ record { copy = after; reply = told 0 (weaker_made f 48) none 0 0 [] }
    unfolding effects computing tabulate
    step_join = ap (λ (n : ℕ). outcome f n joint after) (numbers memory).2

    abbrev gapped : Call
    gapped = reading 5 (gapped_shown f 32) (8 ∷ [])

    step_gapped : step_below f gapped (keeping r b z) ≡ record { copy = keeping r b z; reply = told 4 none none 0 0 (8 ∷ []) }
    unfolding tests effects computing tabulate
    step_gapped = refl

    opened : run_below f (opening f) (keeping r b z) ≡ record { replies = opening_answers f; copy = after }
    unfolding tests effects computing
    opened =
        then_below f gapped
        (weakening_by 32 (primary 0 2 34) ∷ weakening_by 16 (primary 0 2 34) ∷ write ∷ reduction ∷ joint ∷ []) (keeping r b z) _ _
        step_gapped
        (ap (λ (n : Ran). followed (told 0 (weaker_made f 32) none 1 0 []) (followed (told 0 (weaker_made f 16) none 1 0 []) n))
        (then_below f write (reduction ∷ joint ∷ []) (keeping r b z) _ _ step_write
        (then_below f reduction (joint ∷ []) after _ _ step_reduce (then_below f joint [] after _ _ step_join refl))))

    unspied_opening : some_below f (spying 0 2 f) (opening f) (keeping r b z) ≡ false
    unfolding keyed computing tabulate
    unspied_opening = refl

    no_reader : some_below f (spying 0 2 f) rest after ≡ false → NoReader 0 2 f (step f) (whole_list f) (keeping r b z)
    no_reader e =
        along_below f (spying 0 2 f) (λ x s. ¬ Spies 0 2 f x s) (unspied 0 2 f) (whole_list f) (keeping r b z) (sound_keeping r b z)
        (append_some f (spying 0 2 f) (opening f) rest (keeping r b z) unspied_opening
        (ap (λ (n : Ran). some_below f (spying 0 2 f) rest n.copy) opened ∙ e))

  -- ---- the rest

  unspied_ours : some_below f (spying 0 2 f) rest (after 17 7 5) ≡ false
  unfolding keyed tests effects computing
  unspied_ours = refl

  unspied_theirs : some_below f (spying 0 2 f) rest (after 1 9 6) ≡ false
  unfolding keyed tests effects computing
  unspied_theirs = refl

  abbrev rest_run : Ran
  rest_run = ran_by f (numbers_of f rest_answers) rest (after 17 7 5)

  numbers_rest : numbered f (numbers_of f rest_answers) rest (after 17 7 5) ≡ true
  unfolding tests effects computing
  numbers_rest = refl

  replied : rest_run.replies ≡ rest_answers
  unfolding effects computing
  replied = refl

  looked : places_below f rest (after 17 7 5) ≡ told_places
  unfolding tests effects computing
  looked = refl

  ended : run f (whole_list f) ours ≡ record { replies = opening_answers f ++ rest_run.replies; copy = rest_run.copy }
  ended =
      run_below_lem f (whole_list f) ours (sound_keeping 17 7 5)
      ∙ append_below f (opening f) rest ours
      ∙ ap
      (λ (n : Ran).
      record { replies = n.replies ++ (run_below f rest n.copy).replies; copy = (run_below f rest n.copy).copy })
      (opened 17 7 5)
      ∙ ap (λ (n : Ran). record { replies = opening_answers f ++ n.replies; copy = n.copy })
      (ran_by_lem f (numbers_of f rest_answers) rest (after 17 7 5) numbers_rest)

  unspied_marks_ours : some_below f (spying 0 2 f) marks ours ≡ false
  unfolding keyed tests effects computing
  unspied_marks_ours = refl

  unspied_marks_theirs : some_below f (spying 0 2 f) marks theirs ≡ false
  unfolding keyed tests effects computing
  unspied_marks_theirs = refl

  numbers_marks : numbered f (numbers_of f marks_answers) marks ours ≡ true
  unfolding tests effects computing
  numbers_marks = refl

  replied_marks : (ran_by f (numbers_of f marks_answers) marks ours).replies ≡ marks_answers
  unfolding effects computing
  replied_marks = refl

  met : (xs : List Call) → NoReader 0 2 f (step f) xs ours → NoReader 0 2 f (step f) xs theirs → Met f xs
  met xs no-ours no-theirs =
      record {
        sound_ours = sound_keeping 17 7 5;
        sound_theirs = sound_keeping 1 9 6;
        same = same_keeping 17 1 7 9 5 6;
        no_reader_ours = no-ours;
        no_reader_theirs = no-theirs;
      }

  unspied_list : (xs : List Call) (c : Copy) → SoundCopy c → some_below f (spying 0 2 f) xs c ≡ false
      → NoReader 0 2 f (step f) xs c
  unspied_list = along_below f (spying 0 2 f) (λ x s. ¬ Spies 0 2 f x s) (unspied 0 2 f)

  pub writers_list : WritersList f
  writers_list =
      record {
        met = met (whole_list f) (no_reader 17 7 5 unspied_ours) (no_reader 1 9 6 unspied_theirs);
        replies = ap (λ (n : Ran). n.replies) ended ∙ ap (λ (l : List Reply). opening_answers f ++ l) replied;
        places =
            places_below_lem f (whole_list f) ours (sound_keeping 17 7 5)
            ∙ append_places f (opening f) rest ours
            ∙ ap (λ (n : Ran). places_below f rest n.copy) (opened 17 7 5)
            ∙ looked;
        marks_met =
            met marks (unspied_list marks ours (sound_keeping 17 7 5) unspied_marks_ours)
            (unspied_list marks theirs (sound_keeping 1 9 6) unspied_marks_theirs);
        marks_replies =
            ap (λ (n : Ran). n.replies) (run_by_lem f (numbers_of f marks_answers) marks ours (sound_keeping 17 7 5) numbers_marks)
            ∙ replied_marks;
      }

  pub untold : (xs : List Call) → Met f xs → Untold 0 2 f (step f) xs ours theirs
  untold xs m =
      writers_learn_nothing f 0 2 (omega arith) (omega arith) xs ours theirs m.sound_ours m.sound_theirs
      m.same m.no_reader_ours m.no_reader_theirs

  -- a byte of each other cluster's segments
  in_others : InPlace 0 (place_on (table_at rest_run.copy.store) 0 3 7) 4
      × InPlace 1 (place_on (table_at rest_run.copy.store) 1 2 1) 4098
  unfolding tests effects computing
  in_others = ((omega arith, omega arith), (omega arith, omega arith))

  pub in_end : InPlace 0 (place_on (table_at (end f ours).store) 0 3 7) 4 × InPlace 1 (place_on (table_at (end f ours).store) 1 2 1) 4098
  in_end =
      subst
      (λ (n : Ran).
      InPlace 0 (place_on (table_at n.copy.store) 0 3 7) 4 × InPlace 1 (place_on (table_at n.copy.store) 1 2 1) 4098)
      (sym ended) in_others

  pub writers_untold : WritersUntold f
  writers_untold =
      let u = untold (whole_list f) writers_list.met in
      record {
        replies = sym u.replies ∙ writers_list.replies;
        places = sym u.places ∙ writers_list.places;
        marks_replies = sym (untold marks writers_list.marks_met).replies ∙ writers_list.marks_replies;
        record_3 = u.same.others 3 (λ e. omega arith);
        record_10 = u.same.others 10 (λ e. omega arith);
        byte_4 = u.same.bytes 0 3 7 4 (omega arith) (omega arith) (omega arith) (λ e. omega arith) in_end.0;
        byte_4098 = u.same.bytes 1 2 1 4098 (omega arith) (omega arith) (omega arith) (λ e. omega arith) in_end.1;
        table = u.same.table;
        write = u.same.write;
      }

  -- ---- it bites

  replies_to : (x : Call) (c : Copy) → SoundCopy c → (step f x c).reply ≡ (step_below f x c).reply
  replies_to x c k = ap (λ (o : Outcome). o.reply) (step_below_lem f x c k)

  pub writers_bite : WritersBite f
  unfolding keyed tests effects computing
  writers_bite =
      record {
        same = same_keeping;
        read_bytes = λ b. replies_to right_read (keeping 17 b 5) (sound_keeping 17 b 5);
        look_bytes = λ b. replies_to right_look (keeping 17 b 5) (sound_keeping 17 b 5);
        check_done = replies_to right_check ours (sound_keeping 17 7 5);
        read_refused = replies_to right_read (keeping 1 7 5) (sound_keeping 1 7 5);
        look_refused = replies_to right_look (keeping 1 7 5) (sound_keeping 1 7 5);
        check_refused = replies_to right_check (keeping 1 7 5) (sound_keeping 1 7 5);
        spies_read = (spying_is 0 2 f right_read ours.store).out refl;
        spies_look = (spying_is 0 2 f right_look ours.store).out refl;
        spies_check = (spying_is 0 2 f right_check ours.store).out refl;
      }
