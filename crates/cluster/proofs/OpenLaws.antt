-- Validation and reduction: the shared rows are all that they have, and a call done changes nothing.
-- Assumes nothing.
use mathlib.Core.Path.{◌≡◌, sym, ap, ◌∙◌}
use mathlib.Core.Bool.{Bool, false}
use mathlib.Core.List.{List, []}
use Prim.Native.Nat.{ℕ, zero, suc}
use lib.ListN.{length}
use Rattle.std.specs.Prelude.{Result, Ok, Err}
use Rattle.std.specs.Result.{IsErrAnd}
use Rattle.numbers.specs.declared.Number.{Number}
use Rattle.numbers.specs.Codes.{told}
use Rattle.handle.specs.declared.Handle.{Handle}
use Rattle.handle.specs.declared.HandleBytes.{HandleBytes}
use Rattle.handle.specs.Handles.{name_of, width_of, first_of, written, reduced}
use Rattle.handle.specs.Conversion.{product}
use Rattle.store.specs.declared.Cluster.{Cluster}
use Rattle.store.specs.declared.Store.{Store}
use Rattle.store.specs.Records.{cluster_at, primary_of}
use Rattle.calls.specs.declared.Given.TheVariants as gives
use Rattle.calls.specs.Calls.{reducing, validating}
use Rattle.calls.specs.Numbers.{number}
use Rattle.calls.specs.Steps.{outcome, step, aes_step, left, given}
use Rattle.calls.specs.Answers.{Answer, copy_of, ended}
use Rattle.calls.proofs.StepLaws.{number_validate, step_done}
use Rattle.numbers.proofs.ToldLaws.{told_ok}
use Rattle.refusals.specs.Rows.{bad_modes, shared_rows}
use Rattle.refusals.specs.Given.{Given}
use Rattle.refusals.proofs.GivenLaws.{judged, shown, found, named, by_given, found_is, shared_passed}
use Rattle.cluster.proofs.NumberLaws.{number_reduce}
use Rattle.cluster.proofs.CoreLaws.{exit_alone}

module _ (s : Store) (m b : List ℕ) (mode : ℕ) (bad : Bool) (eb : bad ≡ bad_modes mode) {X : Type 0} (r : Result X Number) where
  abbrev Told : Bool → Handle → Cluster → Type 0
  Told sd h c = told r ≡ first_of (shared_rows sd h c false bad false mode)

  number_is : Told (judged s m b) (shown s m b) (found s m b) → number product (reducing mode b) s (length m) ≡ told r
  number_is en =
      number_reduce s m b mode
      ∙ ap (λ (t : Bool). first_of (shared_rows (judged s m b) (shown s m b) (found s m b) false t false mode)) (sym eb)
      ∙ sym en

  module _ (sd : Bool) (h : Handle) (c : Cluster) (g : Given sd h c s m b) where
    pub validate_is : Told sd h c → told r ≡ (aes_step (validating mode b) (copy_of s m)).reply.number
    unfolding step given
    validate_is =
        by_given s m b (λ sd h c. Told sd h c → told r ≡ (aes_step (validating mode b) (copy_of s m)).reply.number) sd h c g
        (λ en. go _ (sym (number_is en) ∙ sym (number_validate product (reducing mode b).args s (length m))))
      where
        go : (k : ℕ) → told r ≡ k → told r ≡ (outcome product k (validating mode b) (copy_of s m)).reply.number
        go zero e = e
        go (suc k) e = e

    pub reduce_refused : Told sd h c → (n : Number) → r ≡ Err n → (a : Answer) → IsErrAnd a (λ k. k ≡ n)
        → ended s m a [] ≡ aes_step (reducing mode b) (copy_of s m)
    reduce_refused =
        by_given s m b
        (λ sd h c. Told sd h c → (n : Number) → r ≡ Err n → (a : Answer) → IsErrAnd a (λ k. k ≡ n)
        → ended s m a [] ≡ aes_step (reducing mode b) (copy_of s m)) sd h c g
        (λ en. exit_alone (reducing mode b) s m r (number_is en))

    abbrev Reduces : Bool → Handle → Cluster → Type 0
    Reduces sd h c =
        Told sd h c → (x : X) → r ≡ Ok x → (p : List ℕ) → p ≡ primary_of c mode → (w : Handle)
        → w ≡ reduced (width_of h) (product (name_of h)) h p → (e : HandleBytes) → e ≡ written w
        → ended s m (Ok (gives.Handle e)) [] ≡ aes_step (reducing mode b) (copy_of s m)

    pub reduce_done : Reduces sd h c
    unfolding left given written
    reduce_done =
        by_given s m b Reduces sd h c g
        (λ en x z p ep w ew e ee.
        ap (λ (v : HandleBytes). ended s m (Ok (gives.Handle v)) [])
        (ee ∙ ap written (ew ∙ ap (λ (q : List ℕ). reduced (width_of k) (product (name_of k)) k q) (ep ∙ there en x z)))
        ∙ sym (step_done product (reducing mode b) (copy_of s m) (number_is en ∙ told_ok r x z)))
      where
        k : Handle
        k = shown s m b

        there : Told (judged s m b) k (found s m b) → (x : X) → r ≡ Ok x
            → primary_of (found s m b) mode ≡ primary_of (named s m b) mode
        there en x z =
            ap (λ (i : ℕ). primary_of (cluster_at s i) mode)
            (found_is s m b (shared_passed (judged s m b) k (found s m b) false bad false mode (sym en ∙ told_ok r x z)).place)
