-- The uses of §7 with handles that are not primary. Their passwords are an open conversion's, and equal what the chain gives byte by
-- byte: so they validate for writing, and the rest is computed for each width.
-- Assumes nothing.
use mathlib.Core.Path.{◌≡◌, refl, sym, ap, ◌∙◌}
use Prim.Native.Nat.{ℕ}
use native.Mathlib.Omega.{arith}
use mathlib.Core.Bool.{Bool, true, false, not, ◌||◌, cond}
use mathlib.Core.List.{List, [], ◌∷◌}
use Rattle.loops.specs.Tabulate.{tabulate}
use Rattle.sizes.specs.Sizes.{memory}
use Rattle.handle.specs.Handles.{Name, decoded}
use Rattle.calls.specs.Calls.{Copy, Call, weakening_by, reducing, joining, writing}
use Rattle.calls.specs.Numbers.{valid, violated, tests, other_tests}
use Rattle.calls.specs.Steps.{Ran, effects, outcome, step}
use Rattle.calls.specs.Literals.{sixteen, none, told}
use Rattle.calls.proofs.StepLaws.{number_below}
use Rattle.calls.proofs.Computing.{computing}
use Rattle.isolation.specs.Copies.{keyed}
use Rattle.isolation.specs.Writers.{Spies, NoReader}
use Rattle.isolation.specs.UseLists.{Wide, of_four, of_eight, of_sixteen, own, records, keeping}
use Rattle.isolation.specs.ValidationUses.{parameter, selector}
use Rattle.isolation.specs.CutUses.{lowest, both, pair, turned, made, shown, cuts, cut_answers, CutUses}
use Rattle.isolation.proofs.RunLaws.{step_below, run_below, run_below_lem, then_below, some_below, along_below}
use Rattle.isolation.proofs.WitnessLaws.{same_bytes}
use Rattle.isolation.proofs.SpyLaws.{spying, unspied}
use Rattle.isolation.proofs.UseCopyLaws.{sound_keeping, same_keeping}
use Rattle.isolation.proofs.WriterLaws.{writers_learn_nothing}

module _ (f : Name → List ℕ → ℕ → List ℕ) (v : Wide) (r : List ℕ) where
  abbrev weakening : Call
  weakening = weakening_by (parameter v) (own v 3 7 34)

  abbrev reduction : Call
  reduction = reducing 2 (shown f (selector v) (parameter v))

  abbrev joint : Call
  joint = joining 2 (shown f (selector v) (parameter v)) (shown f (lowest v) 1)

  abbrev write : Call
  write = writing 0 (shown f (lowest v) 1) (8 ∷ 9 ∷ 7 ∷ [])

  valid_top : valid f 2 (decoded (shown f (selector v) (parameter v))) (records v r (sixteen 34)) ≡ true
  unfolding valid computing tabulate
  valid_top =
      elim v as (λ (u : Wide). valid f 2 (decoded (shown f (selector u) (parameter u))) (records u r (sixteen 34)) ≡ true) [
        | of_four ↦ same_bytes (turned f 8)
        | of_eight ↦ same_bytes (turned f 128)
        | of_sixteen ↦ same_bytes (turned f 32768)
      ]

  valid_lowest : valid f 2 (decoded (shown f (lowest v) 1)) (records v r (sixteen 34)) ≡ true
  unfolding valid computing tabulate
  valid_lowest =
      elim v as (λ (u : Wide). valid f 2 (decoded (shown f (lowest u) 1)) (records u r (sixteen 34)) ≡ true)
      [ of_four ↦ same_bytes (turned f 1) | of_eight ↦ same_bytes (turned f 1) | of_sixteen ↦ same_bytes (turned f 1) ]

  not_violated : (violated f reduction (records v r (sixteen 34)) ≡ false)
      × (violated f joint (records v r (sixteen 34)) ≡ false) × (violated f write (records v r (sixteen 34)) ≡ false)
  unfolding violated
  not_violated = (
    ap (λ (t : Bool). not t || false) valid_top,
    λ j. not (valid_top j) || (not (valid_lowest j) || false),
    ap (λ (t : Bool). not t || false) valid_lowest,
  )

  abbrev Nine : Call → Type 0
  Nine x = number_below f x (records v r (sixteen 34)) memory ≡ cond {A = ℕ} (violated f x (records v r (sixteen 34))) 9 0

  nine : Nine reduction × Nine joint × Nine write
  unfolding other_tests computing tabulate
  nine =
      elim v as (λ (u : Wide).
      let reduction = reducing 2 (shown f (selector u) (parameter u)) in
      let joint = joining 2 (shown f (selector u) (parameter u)) (shown f (lowest u) 1) in
      let write = writing 0 (shown f (lowest u) 1) (8 ∷ 9 ∷ 7 ∷ []) in
      let told = λ (x : Call). number_below f x (records u r (sixteen 34)) memory ≡ cond {A = ℕ} (violated f x (records u r (sixteen 34))) 9 0 in
      told reduction × told joint × told write)
      [ of_four ↦ (refl, refl, refl) | of_eight ↦ (refl, refl, refl) | of_sixteen ↦ (refl, refl, refl) ]

  module _ (b c d y z : ℕ) where
    abbrev copy : Copy
    copy = keeping v r (sixteen 34) b c d y z

    abbrev after : Copy
    after = keeping v r (sixteen 34) b 8 9 y z

    numbers : (number_below f reduction (records v r (sixteen 34)) memory ≡ 0)
        × (number_below f joint (records v r (sixteen 34)) memory ≡ 0)
        × (number_below f write (records v r (sixteen 34)) memory ≡ 0)
    numbers = (
      nine.0 ∙ ap (λ (t : Bool). cond {A = ℕ} t 9 0) not_violated.0,
      nine.1 ∙ ap (λ (t : Bool). cond {A = ℕ} t 9 0) not_violated.1,
      nine.2 ∙ ap (λ (t : Bool). cond {A = ℕ} t 9 0) not_violated.2,
    )

    weakened : step_below f weakening copy
        ≡ record { copy = copy; reply = told 0 (made f (selector v) (parameter v)) none 1 0 [] }
    unfolding tests effects computing
    weakened =
        elim v as (λ (u : Wide). step_below f (weakening_by (parameter u) (own u 3 7 34)) (keeping u r (sixteen 34) b c d y z)
        ≡ record { copy = (keeping u r (sixteen 34) b c d y z); reply = told 0 (made f (selector u) (parameter u)) none 1 0 [] })
        [ of_four ↦ refl | of_eight ↦ refl | of_sixteen ↦ refl ]

    reduced : outcome f 0 reduction copy ≡ record { copy = copy; reply = told 0 (made f (selector v) (parameter v)) none 0 0 [] }
    unfolding effects computing tabulate
    reduced =
        elim v as (λ (u : Wide). outcome f 0 (reducing 2 (shown f (selector u) (parameter u))) (keeping u r (sixteen 34) b c d y z)
        ≡ record { copy = (keeping u r (sixteen 34) b c d y z); reply = told 0 (made f (selector u) (parameter u)) none 0 0 [] })
        [ of_four ↦ refl | of_eight ↦ refl | of_sixteen ↦ refl ]

    joined : outcome f 0 joint copy ≡ record { copy = copy; reply = told 0 (made f (both v) (pair v)) none 0 0 [] }
    unfolding effects computing tabulate
    joined =
        elim v as (λ (u : Wide). outcome f 0 (joining 2 (shown f (selector u) (parameter u)) (shown f (lowest u) 1)) (keeping u r (sixteen 34) b c d y z)
        ≡ record { copy = (keeping u r (sixteen 34) b c d y z); reply = told 0 (made f (both u) (pair u)) none 0 0 [] })
        [ of_four ↦ refl | of_eight ↦ refl | of_sixteen ↦ refl ]

    written : outcome f 0 write copy ≡ record { copy = after; reply = told 0 none none 0 0 (8 ∷ 9 ∷ 7 ∷ []) }
    unfolding effects computing tabulate
    written =
        elim v as (λ (u : Wide). outcome f 0 (writing 0 (shown f (lowest u) 1) (8 ∷ 9 ∷ 7 ∷ [])) (keeping u r (sixteen 34) b c d y z)
        ≡ record { copy = keeping u r (sixteen 34) b 8 9 y z; reply = told 0 none none 0 0 (8 ∷ 9 ∷ 7 ∷ []) })
        [ of_four ↦ refl | of_eight ↦ refl | of_sixteen ↦ refl ]

    ran : run_below f (cuts f v) copy ≡ record { replies = cut_answers f v; copy = after }
    ran =
        then_below f weakening (reduction ∷ joint ∷ write ∷ []) copy _ _ weakened
        (then_below f reduction (joint ∷ write ∷ []) copy _ _
        (ap (λ (n : ℕ). outcome f n reduction copy) numbers.0 ∙ reduced)
        (then_below f joint (write ∷ []) copy _ _ (ap (λ (n : ℕ). outcome f n joint copy) numbers.1 ∙ joined)
        (then_below f write [] copy _ _ (ap (λ (n : ℕ). outcome f n write copy) numbers.2 ∙ written) refl)))

    -- none of these calls asks for reading
    unspied_cuts : some_below f (spying 3 7 f) (cuts f v) copy ≡ false
    unfolding keyed computing tabulate
    unspied_cuts = elim v [ of_four ↦ refl | of_eight ↦ refl | of_sixteen ↦ refl ]

    no_reader : NoReader 3 7 f (step f) (cuts f v) copy
    no_reader =
        along_below f (spying 3 7 f) (λ x s. ¬ Spies 3 7 f x s) (unspied 3 7 f) (cuts f v) copy
        (sound_keeping v r (sixteen 34) b c d y z) unspied_cuts

pub cut_uses : (f : Name → List ℕ → ℕ → List ℕ) (v : Wide) (s : List ℕ) (k l m x t : ℕ) → CutUses f v s k l m x t
cut_uses f v s k l m x t =
    let ours = keeping v (sixteen 34) (sixteen 34) 1 2 3 4 5 in
    let theirs = keeping v s (sixteen 34) k l m x t in
    let untold =
    writers_learn_nothing f 3 7 (omega arith) (omega arith) (cuts f v) ours theirs
    (sound_keeping v (sixteen 34) (sixteen 34) 1 2 3 4 5) (sound_keeping v s (sixteen 34) k l m x t)
    (same_keeping v (sixteen 34) s (sixteen 34) 1 2 3 4 5 k l m x t) (no_reader f v (sixteen 34) 1 2 3 4 5)
    (no_reader f v s k l m x t) in
    record {
      replies =
          sym untold.replies
          ∙ ap (λ (a : Ran). a.replies)
          (run_below_lem f (cuts f v) ours (sound_keeping v (sixteen 34) (sixteen 34) 1 2 3 4 5)
          ∙ ran f v (sixteen 34) 1 2 3 4 5);
    }
