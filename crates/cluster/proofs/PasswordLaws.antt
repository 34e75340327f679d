-- Call 9: refused by the shared rows, refused with 10 or 12, or the password replaced and the new primary handle given.
-- Assumes nothing.
use mathlib.Core.Path.{◌≡◌, refl, sym, ap, ap₂, ◌∙◌}
use mathlib.Core.Bool.{Bool, true, false, not, cond}
use mathlib.Core.List.{List, [], ◌∷◌}
use Prim.Native.Nat.{ℕ}
use lib.ListN.{length}
use Rattle.std.specs.Prelude.{Result, Ok, Err}
use Rattle.std.specs.Result.{IsErrAnd}
use Rattle.numbers.specs.declared.Number.{Number}
use Rattle.numbers.specs.declared.Number.TheVariants.{NotPrimary, OldPassword}
use Rattle.numbers.specs.Codes.{told}
use Rattle.handle.specs.declared.Handle.{Handle}
use Rattle.handle.specs.declared.HandleBytes.{HandleBytes}
use Rattle.handle.specs.Selectors.{all_flat}
use Rattle.handle.specs.Handles.{width_of, laid, first_of, same_password}
use Rattle.handle.specs.Conversion.{product}
use Rattle.handle.specs.Opens.{primary_bytes}
use Rattle.store.specs.declared.Cluster.{Cluster}
use Rattle.store.specs.declared.Store.{Store}
use Rattle.store.specs.Records.{cluster_at, put_record, primary_of, with_password}
use Rattle.calls.specs.declared.Changed.{Changed}
use Rattle.calls.specs.declared.Given.TheVariants as gives
use Rattle.calls.specs.Calls.{Call, record_named, renewing}
use Rattle.calls.specs.Numbers.{number}
use Rattle.calls.specs.Steps.{no_bytes, handles, aes_step, left, given, password_replaced}
use Rattle.calls.specs.Answers.{copy_of, changed}
use Rattle.calls.proofs.StepLaws.{step_done}
use Rattle.numbers.proofs.ToldLaws.{told_ok, told_above}
use Rattle.refusals.specs.Rows.{bad_modes, row, shared_rows, after}
use Rattle.refusals.specs.Given.{Given, record_found}
use Rattle.refusals.proofs.AfterLaws.{after_told, first_append}
use Rattle.refusals.proofs.GivenLaws.{judged, shown, found, by_given, found_is, shared_numbered, shared_passed}
use Rattle.cluster.proofs.NumberLaws.{number_new_password}
use Rattle.cluster.proofs.CoreLaws.{refused_record, exit_record}

module _ (s : Store) (m b : List ℕ) (mode : ℕ) (pw : List ℕ) (bad : Bool) (eb : bad ≡ bad_modes mode) {X : Type 0}
    (r : Result X Number) where
  abbrev x : Call
  x = renewing mode b pw

  abbrev Told : Bool → Handle → Cluster → Type 0
  Told sd h c = told r ≡ first_of (shared_rows sd h c false bad false mode)

  -- what a core leaves is what the step leaves
  abbrev Ends : Handle → Result Changed Number → Type 0
  Ends h d = changed (record_found h) s m d ≡ aes_step x (copy_of s m)

  abbrev k : Handle
  k = shown s m b

  abbrev e : Cluster
  e = found s m b

  -- the new password is the current one of the mode, in the record c
  abbrev old : Cluster → Bool
  old c = same_password pw (primary_of c mode)

  -- rows 10 and 12, from their tests
  abbrev own : Bool → Bool → ℕ
  own p u = cond (not p) 10 (cond u 12 0)

  module _ (en : Told (judged s m b) k e) where
    number_is : number product x s (length m) ≡ after (told r) (own (all_flat (width_of k) k.selector) (old e))
    number_is =
        number_new_password s m b mode pw
        ∙ first_append (shared_rows (judged s m b) k e false (bad_modes mode) false mode)
        (row 10 (not (all_flat (width_of k) k.selector)) ∷ row 12 (old e) ∷ [])
        (shared_numbered (judged s m b) k e false (bad_modes mode) false mode)
        ∙ ap (λ (i : ℕ). after i (own (all_flat (width_of k) k.selector) (old e)))
        (ap (λ (t : Bool). first_of (shared_rows (judged s m b) k e false t false mode)) (sym eb) ∙ sym en)

    module _ (z : told r ≡ 0) where
      pub there : record_found k ≡ record_named k
      there = found_is s m b (shared_passed (judged s m b) k e false bad false mode (sym en ∙ z)).place

      last : (p u : Bool) → p ≡ all_flat (width_of k) k.selector → u ≡ old e → number product x s (length m) ≡ own p u
      last p u ep eu = number_is ∙ (λ j. after (z j) (own (sym ep j) (sym eu j)))

  abbrev Refuses : Bool → Handle → Cluster → Type 0
  Refuses sd h c = Told sd h c → (n : Number) → r ≡ Err n → (d : Result Changed Number) → IsErrAnd d (λ k. k ≡ n) → Ends h d

  abbrev Weak : Bool → Handle → Cluster → Type 0
  Weak sd h c =
      Told sd h c → (y : X) → r ≡ Ok y → (p : Bool) → p ≡ all_flat (width_of h) h.selector → not p ≡ true
      → Ends h (Err NotPrimary)

  abbrev Old : Bool → Handle → Cluster → Type 0
  Old sd h c =
      Told sd h c → (y : X) → r ≡ Ok y → (p : Bool) → p ≡ all_flat (width_of h) h.selector → not p ≡ false
      → (i : List ℕ) → i ≡ primary_of c mode → (u : Bool) → u ≡ same_password pw i → u ≡ true → Ends h (Err OldPassword)

  abbrev Replaces : Bool → Handle → Cluster → Type 0
  Replaces sd h c =
      Told sd h c → (y : X) → r ≡ Ok y → (p : Bool) → p ≡ all_flat (width_of h) h.selector → not p ≡ false
      → (l : List ℕ) → l ≡ primary_of c mode → (u : Bool) → u ≡ same_password pw l → u ≡ false
      → (i : HandleBytes) → i ≡ laid (primary_bytes h.width h.node h.local pw) → (d : Cluster)
      → d ≡ with_password c mode pw → Ends h (Ok (record { cluster = d; given = gives.Handle i }))

  module _ (sd : Bool) (h : Handle) (c : Cluster) (g : Given sd h c s m b) where
    pub new_password_refused : Refuses sd h c
    new_password_refused =
        by_given s m b Refuses sd h c g
        (λ en n t. exit_record x s m r (number_is en ∙ after_told (told r) _ (told_above r n t)) n t refl (record_found k))

    pub new_password_primary : Weak sd h c
    new_password_primary =
        by_given s m b Weak sd h c g
        (λ en y z p ep t.
        refused_record x s m NotPrimary
        (last en (told_ok r y z) p _ ep refl ∙ ap (λ (q : Bool). cond q 10 (cond (old e) 12 0)) t) refl (record_found k))

    pub new_password_old : Old sd h c
    new_password_old =
        by_given s m b Old sd h c g
        (λ en y z p ep tp i ei u eu t.
        refused_record x s m OldPassword
        (last en (told_ok r y z) p u ep (eu ∙ ap (same_password pw) ei) ∙ (λ j. cond (tp j) 10 (cond (t j) 12 0)))
        refl (record_found k))

    pub new_password_done : Replaces sd h c
    unfolding left given password_replaced
    new_password_done =
        by_given s m b Replaces sd h c g
        (λ en y z p ep tp l el u eu t i ei d ed.
        ap₂ (λ (f : Cluster) (v : HandleBytes). changed (record_found k) s m (Ok (record { cluster = f; given = gives.Handle v }))) ed ei
        ∙ ap
        (λ (o : ℕ).
        record {
          copy = copy_of (put_record s o (with_password (cluster_at s o) mode pw)) m;
          reply = handles (primary_bytes k.width k.node k.local pw) no_bytes 0;
        })
        (there en (told_ok r y z))
        ∙ sym (step_done product x (copy_of s m)
        (last en (told_ok r y z) p u ep (eu ∙ ap (same_password pw) el) ∙ (λ j. cond (tp j) 10 (cond (t j) 12 0)))))
