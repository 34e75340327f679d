-- Condition 3 at a cluster of four and at one of sixteen: its hypotheses are met by the copies and the list, so it applies to them.
-- All is computed, for each sort, but for the last calls: their handles' passwords are an open conversion's, and equal what the
-- chain gives byte by byte.
-- Assumes nothing.
use mathlib.Core.Path.{◌≡◌, refl, sym, ap, ◌∙◌}
use Prim.Native.Nat.{ℕ, ◌<◌}
use native.Mathlib.Omega.{arith}
use mathlib.Core.Bool.{Bool, true, false, not, ◌||◌, cond}
use mathlib.Core.List.{List, [], ◌∷◌, ◌++◌}
use lib.ListN.{length}
use Rattle.loops.specs.Tabulate.{tabulate}
use Rattle.sizes.specs.Sizes.{memory}
use Rattle.handle.specs.Handles.{Name, decoded}
use Rattle.handle.proofs.CodecLaws.{listed}
use Rattle.store.specs.Places.{present_at}
use Rattle.store.specs.declared.Store.{Store}
use Rattle.store.specs.Records.{started, table_at, put_record, with_place, Table}
use Rattle.store.proofs.QuickLaws.{quick, quickly, sound_quick}
use Rattle.calls.specs.Calls.{Copy, Call}
use Rattle.calls.specs.Looks.{looked_by}
use Rattle.calls.specs.Numbers.{valid, violated, tests, other_tests}
use Rattle.calls.specs.Steps.{Reply, Ran, Outcome, effects, outcome, run}
use Rattle.calls.specs.Literals.{sixteen, none, told, shows}
use Rattle.calls.specs.Written.{telling}
use Rattle.calls.proofs.Computing.{computing}
use Rattle.calls.proofs.StepLaws.{number_below, number_below_lem}
use Rattle.isolation.specs.Copies.{SixteenBytes, SoundCopy, keyed, places}
use Rattle.isolation.specs.Statements.{Agreed}
use Rattle.isolation.specs.WidthLists.{Sort, of_four, of_sixteen, turned, width, top, Cut, high, next, both, here, one, two}
use Rattle.isolation.specs.WidthLists.{before, before_answers, told_places, password, cut_made, cut_shown, last_read}
use Rattle.isolation.specs.WidthLists.{last_look, last_join, lasts, lasts_answers, tries, answers}
use Rattle.isolation.specs.WidthWitness.{WidthsMet, WidthsTold, WidthsBite, WidthTabled}
use Rattle.isolation.proofs.RunLaws.{step_below, run_below, run_below_lem, numbers_of, ran_by, numbered, ran_by_lem, then_below, append_below, some_below, is_keyed, shut_below}
use Rattle.isolation.proofs.RunLaws.{looked_below, places_below, places_below_lem, append_places}
use Rattle.isolation.proofs.TwoCopies.{two_copies}
use Rattle.isolation.proofs.HoldingLaws.{alike_holding, still_holding}
use Rattle.isolation.proofs.WitnessLaws.{same_bytes}

-- ---- the copies

quick_here : (v : Sort) (r p b : ℕ) → quick (here v r p b).store (length (here v r p b).memory) ≡ true
unfolding quickly
quick_here of_four r p b = refl
quick_here of_sixteen r p b = refl

pub sound_here : (v : Sort) (r p b : ℕ) → SoundCopy (here v r p b)
sound_here v r p b = sound_quick (here v r p b).store (length (here v r p b).memory) ∙ quick_here v r p b

pub top_low : (v : Sort) → top v < 16
top_low of_four = omega arith
top_low of_sixteen = omega arith

pub width_tabled : WidthTabled
width_tabled =
    record {
      alike = λ a. let e = ap (λ (t : Table). t.width) a.table in omega arith;
      same = λ a. let e = ap (λ (t : Table). t.width) a.table in omega arith;
    }

module _ (f : Name → List ℕ → ℕ → List ℕ) where
  -- ---- the calls before the last

  abbrev ran : Sort → Ran
  ran v = ran_by f (numbers_of f (before_answers f v)) (before v) (one v)

  abbrev left : Sort → Copy
  left v = (ran v).copy

  numbers_before : (v : Sort) → numbered f (numbers_of f (before_answers f v)) (before v) (one v) ≡ true
  unfolding tests effects computing
  numbers_before of_four = refl
  numbers_before of_sixteen = refl

  ran_before : (v : Sort) → run_below f (before v) (one v) ≡ ran v
  ran_before v = ran_by_lem f (numbers_of f (before_answers f v)) (before v) (one v) (numbers_before v)

  replies_before : (v : Sort) → (ran v).replies ≡ before_answers f v
  unfolding effects computing
  replies_before of_four = refl
  replies_before of_sixteen = refl

  places_before : (v : Sort) → places_below f (before v) (one v) ≡ telling 25 0 0 ∷ telling 9 0 0 ∷ telling 0 4 6 ∷ []
  unfolding tests effects computing
  places_before of_four = refl
  places_before of_sixteen = refl

  -- the records that they leave: the other cluster has its segment
  abbrev records : Sort → Store
  records v =
      put_record (one v).store 3 (with_place (started (width (turned v)) (sixteen 3) (sixteen 4)) (top (turned v)) (present_at 4 2))

  records_before : (v : Sort) → (left v).store ≡ records v
  unfolding effects computing
  records_before of_four = refl
  records_before of_sixteen = refl

  -- ---- the last

  valid_high : (v : Sort) → valid f 1 (decoded (cut_shown f (high (turned v)))) (records v) ≡ true
  unfolding valid computing tabulate
  valid_high of_four = same_bytes (password f 32768)
  valid_high of_sixteen = same_bytes (password f 8)

  valid_next : (v : Sort) → valid f 1 (decoded (cut_shown f (next (turned v)))) (records v) ≡ true
  unfolding valid computing tabulate
  valid_next of_four = same_bytes (password f 16384)
  valid_next of_sixteen = same_bytes (password f 4)

  not_violated : (v : Sort)
      → (violated f (last_read f v) (records v) ≡ false)
      × (violated f (last_look f v) (records v) ≡ false)
      × (violated f (last_join f v) (records v) ≡ false)
  unfolding violated
  not_violated v = (
    ap (λ (b : Bool). not b || false) (valid_high v),
    ap (λ (b : Bool). not b || false) (valid_high v),
    λ j. not (valid_high v j) || (not (valid_next v j) || false),
  )

  numbers : (v : Sort) (size : ℕ)
      → (number_below f (last_read f v) (records v) size ≡ 0)
      × (number_below f (last_look f v) (records v) size ≡ 0)
      × (number_below f (last_join f v) (records v) size ≡ 0)
  unfolding other_tests computing tabulate
  numbers of_four size = (
    ap (λ (b : Bool). cond {A = ℕ} b 9 0) (not_violated of_four).0,
    ap (λ (b : Bool). cond {A = ℕ} b 9 0) (not_violated of_four).1,
    ap (λ (b : Bool). cond {A = ℕ} b 9 0) (not_violated of_four).2,
  )
  numbers of_sixteen size = (
    ap (λ (b : Bool). cond {A = ℕ} b 9 0) (not_violated of_sixteen).0,
    ap (λ (b : Bool). cond {A = ℕ} b 9 0) (not_violated of_sixteen).1,
    ap (λ (b : Bool). cond {A = ℕ} b 9 0) (not_violated of_sixteen).2,
  )

  -- a call done on these records, that leaves the copy alone
  done_after : (v : Sort) (x : Call) (r : Reply) → number_below f x (records v) (length (left v).memory) ≡ 0
      → outcome f 0 x (left v) ≡ record { copy = left v; reply = r }
      → step_below f x (left v) ≡ record { copy = left v; reply = r }
  done_after v x r e q =
      ap (λ (s : Store). outcome f (number_below f x s (length (left v).memory)) x (left v)) (records_before v)
      ∙ ap (λ (n : ℕ). outcome f n x (left v)) e
      ∙ q

  outcome_read : (v : Sort) → outcome f 0 (last_read f v) (left v)
      ≡ record { copy = left v; reply = told 0 none none 0 2 (5 ∷ 6 ∷ 3 ∷ []) }
  unfolding effects computing tabulate
  outcome_read of_four = refl
  outcome_read of_sixteen = refl

  outcome_look : (v : Sort) → outcome f 0 (last_look f v) (left v) ≡ record { copy = left v; reply = shows 0 (5 ∷ 6 ∷ []) }
  unfolding effects computing tabulate
  outcome_look of_four = refl
  outcome_look of_sixteen = refl

  outcome_join : (v : Sort) → outcome f 0 (last_join f v) (left v)
      ≡ record { copy = left v; reply = told 0 (cut_made f (both (turned v))) none 0 0 [] }
  unfolding effects computing tabulate
  outcome_join of_four = refl
  outcome_join of_sixteen = refl

  step_read : (v : Sort) → step_below f (last_read f v) (left v)
      ≡ record { copy = left v; reply = told 0 none none 0 2 (5 ∷ 6 ∷ 3 ∷ []) }
  step_read v = done_after v (last_read f v) _ (numbers v (length (left v).memory)).0 (outcome_read v)

  ended_after : (v : Sort) → run_below f (lasts f v) (left v) ≡ record { replies = lasts_answers f v; copy = left v }
  ended_after v =
      then_below f (last_read f v) (last_look f v ∷ last_join f v ∷ []) (left v) _ _ (step_read v)
      (then_below f (last_look f v) (last_join f v ∷ []) (left v) _ _
      (done_after v (last_look f v) _ (numbers v (length (left v).memory)).1 (outcome_look v))
      (then_below f (last_join f v) [] (left v) _ _
      (done_after v (last_join f v) _ (numbers v (length (left v).memory)).2 (outcome_join v)) refl))

  ended : (v : Sort) → run f (tries f v) (one v) ≡ record { replies = answers f v; copy = left v }
  ended v =
      run_below_lem f (tries f v) (one v) (sound_here v 17 34 7)
      ∙ append_below f (before v) (lasts f v) (one v)
      ∙ ap
      (λ (n : Ran).
      record {
        replies = n.replies ++ (run_below f (lasts f v) n.copy).replies;
        copy = (run_below f (lasts f v) n.copy).copy;
      })
      (ran_before v)
      ∙ (λ j. record { replies = replies_before v j ++ (ended_after v j).replies; copy = (ended_after v j).copy })

  -- ---- the places that the looks tell

  looked_part : (v : Sort) → looked_by 0 (last_look f v) (table_at (records v)) ≡ telling 0 4 6
  unfolding computing tabulate
  looked_part of_four = refl
  looked_part of_sixteen = refl

  place_look : (v : Sort) → looked_below f (last_look f v) (left v) ≡ telling 0 4 6
  place_look v =
      ap (λ (s : Store). looked_below f (last_look f v) (record { store = s; memory = (left v).memory })) (records_before v)
      ∙ ap (λ (n : ℕ). looked_by n (last_look f v) (table_at (records v))) (numbers v (length (left v).memory)).1
      ∙ looked_part v

  placed : (v : Sort) → places f (tries f v) (one v) ≡ told_places
  placed v =
      places_below_lem f (tries f v) (one v) (sound_here v 17 34 7)
      ∙ append_places f (before v) (lasts f v) (one v)
      ∙ ap (λ (n : Ran). places_below f (before v) (one v) ++ places_below f (lasts f v) n.copy) (ran_before v)
      ∙ ap (λ (o : Outcome). places_below f (before v) (one v) ++ (looked_below f (last_look f v) o.copy ∷ [])) (step_read v)
      ∙ (λ j. places_before v j ++ (place_look v j ∷ []))

  -- ---- no call is keyed, on what the rows below the first make of a copy

  unkeyed_one : (v : Sort) → some_below f (is_keyed f 0 2) (tries f v) (one v) ≡ false
  unfolding keyed tests effects computing tabulate
  unkeyed_one of_four = refl
  unkeyed_one of_sixteen = refl

  unkeyed_two : (v : Sort) → some_below f (is_keyed f 0 2) (tries f v) (two v) ≡ false
  unfolding keyed tests effects computing tabulate
  unkeyed_two of_four = refl
  unkeyed_two of_sixteen = refl

  weak : SixteenBytes f → (c : Cut) → cut_made f c ≡ cut_shown f c
  weak gives c =
      ap (λ (p : List ℕ). 0 ∷ 0 ∷ 3 ∷ (p ++ c.selector))
      (listed 16 (password f c.mask) (gives (record { node = 0; local = 3 }) (sixteen 3) c.mask))

  pub widths_met : (v : Sort) → WidthsMet f v
  widths_met v =
      record {
        sound_one = sound_here v 17 34 7;
        sound_two = sound_here v 1 2 9;
        active = refl;
        wide = refl;
        alike = alike_holding (width v) (top v) (top_low v) 17 34 7 1 2 9;
        shut_one = shut_below f 0 2 (tries f v) (one v) (sound_here v 17 34 7) (unkeyed_one v);
        shut_two = shut_below f 0 2 (tries f v) (two v) (sound_here v 1 2 9) (unkeyed_two v);
        replies = ap (λ (r : Ran). r.replies) (ended v);
        places = placed v;
        weak = weak;
      }

  -- condition 3 at the two copies
  widths_agreed : (v : Sort) → Agreed 0 2 f (tries f v) (one v) (two v)
  widths_agreed v =
      let m = widths_met v in
      two_copies 0 2 f (omega arith) (omega arith) (tries f v) (one v) (two v) m.sound_one m.sound_two refl m.alike
      m.shut_one m.shut_two

  pub widths_told : (v : Sort) → WidthsTold f v
  widths_told v =
      let a = widths_agreed v in
      record {
        replies = sym a.replies ∙ (widths_met v).replies;
        places = sym a.places ∙ placed v;
        still_one = still_holding (width v) (top v) (top_low v) 17 34 7 (run f (tries f v) (one v)).copy a.held_first;
        still_two = still_holding (width v) (top v) (top_low v) 1 2 9 (run f (tries f v) (two v)).copy a.held_second;
      }

  -- ---- it bites

  pub widths_bite : (v : Sort) → WidthsBite f v
  unfolding keyed tests effects computing
  widths_bite of_four =
      record {
        done = number_below_lem f _ (one of_four).store memory (sound_here of_four 17 34 7) ∙ refl;
        refused = number_below_lem f _ (two of_four).store memory (sound_here of_four 1 2 9) ∙ refl;
        right = refl;
        not_eight = refl;
        not_other = refl;
      }
  widths_bite of_sixteen =
      record {
        done = number_below_lem f _ (one of_sixteen).store memory (sound_here of_sixteen 17 34 7) ∙ refl;
        refused = number_below_lem f _ (two of_sixteen).store memory (sound_here of_sixteen 1 2 9) ∙ refl;
        right = refl;
        not_eight = refl;
        not_other = refl;
      }
