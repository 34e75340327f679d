-- The hypotheses of condition 3 are met by two differing copies, so the theorem applies to them. All is computed, but for
-- the memory, whose bytes outside the segment are compared place by place, and for the last calls: their handles' passwords
-- are an open conversion's, and equal what the chain gives byte by byte.
-- Assumes nothing.
use mathlib.Core.Bool.{Bool, true, false, not, ◌||◌, cond}
use mathlib.Core.List.{List, [], ◌∷◌, ◌++◌}
use mathlib.Core.Path.{◌≡◌, refl, sym, ap, ◌∙◌, subst}
use Prim.Native.Nat.{ℕ}
use native.Mathlib.Omega.{arith}
use lib.Dec.{eqb}
use lib.ListN.{length, get_or}
use borrow.Author.Tests.{eq-eqb}
use Rattle.loops.specs.Below.{every}
use Rattle.loops.specs.Tabulate.{tabulate}
use Rattle.loops.proofs.BelowLaws.{every_in}
use Rattle.loops.proofs.TabulateLaws.{get_d_tabulate}
use Rattle.sizes.specs.Sizes.{memory}
use Rattle.handle.specs.Handles.{Name, decoded}
use Rattle.handle.proofs.CodecLaws.{listed}
use Rattle.store.specs.Places.{present_at}
use Rattle.store.specs.declared.Store.{Store}
use Rattle.store.specs.Records.{started, table_at, place_on, put_record, with_place, with_mark}
use Rattle.store.proofs.QuickLaws.{quick, quickly, sound_quick}
use Rattle.calls.specs.Calls.{Copy, Call}
use Rattle.calls.specs.Steps.{Reply, Ran, Outcome, effects, outcome, run}
use Rattle.isolation.specs.Copies.{SixteenBytes, SoundCopy, InPlace, Alike, keyed, places}
use Rattle.isolation.specs.Statements.{Agreed}
use Rattle.calls.specs.Literals.{sixteen, none, told, shows}
use Rattle.calls.specs.Looks.{looked_by}
use Rattle.calls.specs.Written.{telling}
use Rattle.isolation.specs.Witness.{one, two, weak_given, weak_shown, before, last, last_look, last_join, tries}
use Rattle.isolation.specs.Witness.{answers_before, answers_after, answers, holding, told_places, Witnessed, Concluded}
use Rattle.isolation.specs.Witness.{right_read, right_look, right_join, Bites}
use Rattle.calls.proofs.StepLaws.{number_below, number_below_lem}
use Rattle.isolation.proofs.RunLaws.{step_below, step_below_lem, run_below, run_below_lem, numbers_of, ran_by, numbered, ran_by_lem, then_below, append_below, some_below, is_keyed, shut_below}
use Rattle.isolation.proofs.RunLaws.{looked_below, places_below, places_below_lem, append_places}
use Rattle.calls.specs.Numbers.{valid, violated, tests, other_tests}
use Rattle.calls.proofs.Computing.{computing}
use Rattle.isolation.proofs.TwoCopies.{two_copies}
use Rattle.isolation.proofs.HoldingLaws.{alike_holding, still_holding}

quick_holding : (r w b : ℕ) → quick (holding r w b).store (length (holding r w b).memory) ≡ true
unfolding quickly
quick_holding r w b = refl

-- soundness does not look at the passwords of an active cluster, nor at bytes
sound_holding : (r w b : ℕ) → SoundCopy (holding r w b)
sound_holding r w b = sound_quick (holding r w b).store (length (holding r w b).memory) ∙ quick_holding r w b

pub sound_one : SoundCopy one
sound_one = sound_holding 17 34 7

sound_two : SoundCopy two
sound_two = sound_holding 1 2 9

alike : Alike 0 2 one two
alike = alike_holding 8 5 (omega arith) 17 34 7 1 2 9

-- the first sixteen bytes of a password are compared with themselves
pub same_bytes : (p : List ℕ) → every 16 (λ k. eqb (get_or p k 0) (get_or (tabulate 16 (λ k. get_or p k 0)) k 0)) ≡ true
same_bytes p =
    every_in 16 (λ k. eqb (get_or p k 0) (get_or (tabulate 16 (λ k. get_or p k 0)) k 0))
    (λ k h.
    eq-eqb (get_or p k 0) (get_or (tabulate 16 (λ k. get_or p k 0)) k 0) (sym (get_d_tabulate 16 (λ k. get_or p k 0) 0 k h)))

-- the cluster of the other node
abbrev other : Name
other = record { node = 3; local = 2 }

module _ (f : Name → List ℕ → ℕ → List ℕ) where
  abbrev ran : Ran
  ran = ran_by f (numbers_of f (answers_before f)) (before f) one

  abbrev left : Copy
  left = ran.copy

  numbers_before : numbered f (numbers_of f (answers_before f)) (before f) one ≡ true
  unfolding tests effects computing
  numbers_before = refl

  ran_before : run_below f (before f) one ≡ ran
  ran_before = ran_by_lem f (numbers_of f (answers_before f)) (before f) one numbers_before

  replies_before : ran.replies ≡ answers_before f
  unfolding effects computing
  replies_before = refl

  -- the records before the last calls: the other node's cluster has its segment, and the one that is frozen stays
  abbrev records : Store
  records =
      put_record (put_record one.store 4 (with_mark (with_place (started 8 (sixteen 3) (sixteen 4)) 6 (present_at 4 1)) 6)) 26
      (with_place (started 8 (sixteen 3) (sixteen 4)) 7 (present_at 0 2))

  records_before : left.store ≡ records
  unfolding effects computing
  records_before = refl

  -- ---- the calls with weakened handles, whose passwords are what the chain gives, byte by byte

  valid_first : valid f 1 (decoded (weak_shown f 128)) records ≡ true
  unfolding valid computing tabulate
  valid_first = same_bytes (f other (sixteen 3) 128)

  valid_second : valid f 1 (decoded (weak_shown f 64)) records ≡ true
  unfolding valid computing tabulate
  valid_second = same_bytes (f other (sixteen 3) 64)

  not_violated : (violated f (last f) records ≡ false) × (violated f (last_look f) records ≡ false)
  unfolding violated
  not_violated = (ap (λ (b : Bool). not b || false) valid_first, ap (λ (b : Bool). not b || false) valid_first)

  not_violated_join : violated f (last_join f) records ≡ false
  unfolding violated
  not_violated_join = λ j. not (valid_first j) || (not (valid_second j) || false)

  number_last : (size : ℕ) → (number_below f (last f) records size ≡ 0) × (number_below f (last_look f) records size ≡ 0)
  unfolding other_tests computing tabulate
  number_last size =
      (ap (λ (b : Bool). cond {A = ℕ} b 9 0) not_violated.0, ap (λ (b : Bool). cond {A = ℕ} b 9 0) not_violated.1)

  number_join : (size : ℕ) → number_below f (last_join f) records size ≡ 0
  unfolding other_tests computing tabulate
  number_join size = ap (λ (b : Bool). cond {A = ℕ} b 9 0) not_violated_join

  -- a call done on these records, that leaves the copy alone
  done_after : (x : Call) (r : Reply) → number_below f x records (length left.memory) ≡ 0
      → outcome f 0 x left ≡ record { copy = left; reply = r } → step_below f x left ≡ record { copy = left; reply = r }
  done_after x r e q =
      ap (λ (s : Store). outcome f (number_below f x s (length left.memory)) x left) records_before
      ∙ ap (λ (n : ℕ). outcome f n x left) e
      ∙ q

  step_last : step_below f (last f) left ≡ record { copy = left; reply = told 0 none none 0 2 (8 ∷ 9 ∷ 3 ∷ []) }
  unfolding tests effects computing tabulate
  step_last = done_after (last f) _ (number_last (length left.memory)).0 refl

  step_look : step_below f (last_look f) left ≡ record { copy = left; reply = shows 0 (8 ∷ 9 ∷ []) }
  unfolding tests effects computing tabulate
  step_look = done_after (last_look f) _ (number_last (length left.memory)).1 refl

  step_join : step_below f (last_join f) left ≡ record { copy = left; reply = told 0 (weak_given f 192) none 0 0 [] }
  unfolding tests effects computing tabulate
  step_join = done_after (last_join f) _ (number_join (length left.memory)) refl

  ended_after : run_below f (last f ∷ last_look f ∷ last_join f ∷ []) left ≡ record { replies = answers_after f; copy = left }
  ended_after =
      then_below f (last f) (last_look f ∷ last_join f ∷ []) left _ _ step_last
      (then_below f (last_look f) (last_join f ∷ []) left _ _ step_look (then_below f (last_join f) [] left _ _ step_join refl))

  ended : run f (tries f) one ≡ record { replies = answers f; copy = left }
  ended =
      run_below_lem f (tries f) one sound_one
      ∙ append_below f (before f) (last f ∷ last_look f ∷ last_join f ∷ []) one
      ∙ ap
      (λ (n : Ran).
      record {
        replies = n.replies ++ (run_below f (last f ∷ last_look f ∷ last_join f ∷ []) n.copy).replies;
        copy = (run_below f (last f ∷ last_look f ∷ last_join f ∷ []) n.copy).copy;
      })
      ran_before
      ∙ (λ j. record { replies = replies_before j ++ (ended_after j).replies; copy = (ended_after j).copy })

  -- the places that the looks tell
  places_before : places_below f (before f) one ≡ telling 9 0 0 ∷ telling 25 0 0 ∷ telling 0 4 6 ∷ telling 0 12288 12290 ∷ telling 5 0 0 ∷ []
  unfolding tests effects computing
  places_before = refl

  place_look : looked_below f (last_look f) left ≡ telling 0 12288 12290
  unfolding tests effects computing tabulate
  place_look =
      ap (λ (s : Store). looked_below f (last_look f) (record { store = s; memory = left.memory })) records_before
      ∙ ap (λ (n : ℕ). looked_by n (last_look f) (table_at records))
      (number_last (length left.memory)).1

  placed : places f (tries f) one ≡ told_places
  placed =
      places_below_lem f (tries f) one sound_one
      ∙ append_places f (before f) (last f ∷ last_look f ∷ last_join f ∷ []) one
      ∙ ap
      (λ (n : Ran). places_below f (before f) one ++ places_below f (last f ∷ last_look f ∷ last_join f ∷ []) n.copy)
      ran_before
      ∙ ap (λ (o : Outcome). places_below f (before f) one ++ (looked_below f (last_look f) o.copy ∷ [])) step_last
      ∙ (λ j. places_before j ++ (place_look j ∷ []))

  -- no call is keyed, on what the rows below the first make of a copy
  unkeyed_one : some_below f (is_keyed f 0 2) (tries f) one ≡ false
  unfolding keyed tests effects computing tabulate
  unkeyed_one = refl

  unkeyed_two : some_below f (is_keyed f 0 2) (tries f) two ≡ false
  unfolding keyed tests effects computing tabulate
  unkeyed_two = refl

  weak : SixteenBytes f → (c : ℕ) → weak_given f c ≡ weak_shown f c
  weak gives c =
      ap (λ (p : List ℕ). 0 ∷ 3 ∷ 2 ∷ (p ++ (c ∷ 255 ∷ 255 ∷ 255 ∷ [])))
      (listed 16 (f other (sixteen 3) c) (gives other (sixteen 3) c))

  pub witnessed : Witnessed f
  witnessed =
      record {
        sound_one = sound_one;
        sound_two = sound_two;
        active = refl;
        alike = alike;
        shut_one = shut_below f 0 2 (tries f) one sound_one unkeyed_one;
        shut_two = shut_below f 0 2 (tries f) two sound_two unkeyed_two;
        replies = ap (λ (r : Ran). r.replies) ended;
        places = placed;
        weak = weak;
      }

  -- condition 3 at the two copies
  pub agreed : Agreed 0 2 f (tries f) one two
  agreed =
      two_copies 0 2 f (omega arith) (omega arith) (tries f) one two sound_one sound_two refl alike
      witnessed.shut_one witnessed.shut_two

  -- a byte of the other node's segment
  in_other : InPlace 3 (place_on (table_at (run f (tries f) one).copy.store) 3 2 7) 12289
  in_other =
      subst (λ (s : Store). InPlace 3 (place_on (table_at s) 3 2 7) 12289)
      (sym (ap (λ (r : Ran). r.copy.store) ended ∙ records_before)) (omega arith)

  pub concluded : Concluded f
  concluded =
      record {
        replies = sym agreed.replies ∙ ap (λ (r : Ran). r.replies) ended;
        places = sym agreed.places ∙ placed;
        other_record = agreed.alike.others 26 (λ e. omega arith);
        other_byte = agreed.others 3 2 7 12289 (omega arith) (omega arith) (omega arith) (λ e. omega arith) in_other;
        still_one = still_holding 8 5 (omega arith) 17 34 7 (run f (tries f) one).copy agreed.held_first;
        still_two = still_holding 8 5 (omega arith) 1 2 9 (run f (tries f) two).copy agreed.held_second;
      }

  pub bites : Bites f
  unfolding keyed tests effects computing
  bites =
      record {
        done = number_below_lem f right_read one.store memory sound_one ∙ refl;
        refused = number_below_lem f right_read two.store memory sound_two ∙ refl;
        looked = ap (λ (o : Outcome). o.reply) (step_below_lem f right_look one sound_one);
        hidden = ap (λ (o : Outcome). o.reply) (step_below_lem f right_look two sound_two);
        whole = number_below_lem f right_join one.store memory sound_one ∙ refl;
        unjoined = number_below_lem f right_join two.store memory sound_two ∙ refl;
        asked_second = refl;
      }
