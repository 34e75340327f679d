-- A look: refused, or done, where the place that was looked up is that of the segment that the look is about.
-- Assumes nothing.
use mathlib.Core.Path.{◌≡◌, refl, sym, ap, ◌∙◌}
use mathlib.Core.Bool.{Bool, not}
use mathlib.Core.List.{List}
use Prim.Native.Nat.{ℕ, zero, suc}
use lib.Dec.{eqb, leb}
use lib.ListN.{length}
use Rattle.std.specs.Prelude.{Result, Ok, Err}
use Rattle.std.specs.Result.{IsErrAnd}
use Rattle.numbers.specs.declared.Number.{Number}
use Rattle.numbers.specs.Codes.{code, told}
use Rattle.sizes.specs.Sizes.{nodes}
use Rattle.handle.specs.declared.Handle.{Handle}
use Rattle.handle.specs.Handles.{node_of, width_of, first_of}
use Rattle.handle.specs.Conversion.{product}
use Rattle.store.specs.Places.{Place}
use Rattle.store.specs.declared.Cluster.{Cluster}
use Rattle.store.specs.declared.Store.{Store}
use Rattle.store.specs.Records.{table_of, table_at, place_of, read_mode}
use Rattle.calls.specs.declared.Part.{Part}
use Rattle.calls.specs.Calls.{Call, looking}
use Rattle.calls.specs.Numbers.{number}
use Rattle.calls.specs.Looks.{Looked, nowhere, part_by, looked_by, looked, aes_looked}
use Rattle.calls.specs.Answers.{looked_as}
use Rattle.numbers.proofs.ToldLaws.{code_above, told_ok, told_err, exit_err}
use Rattle.refusals.specs.Rows.{shared_rows, after}
use Rattle.refusals.specs.Given.{Given}
use Rattle.refusals.proofs.AfterLaws.{after_zero, first_append}
use Rattle.refusals.proofs.GivenLaws.{judged, shown, found, by_given, found_is, shared_numbered, shared_passed}
use Rattle.cluster.specs.inner.Access.{reach_rows, reached, part_of}
use Rattle.cluster.proofs.NumberLaws.{number_look}

module _ (s : Store) (m b : List ℕ) (current i : ℕ) {X : Type 0} (r : Result X Number) where
  abbrev x : Call
  x = looking current i b

  abbrev k : Handle
  k = shown s m b

  abbrev e : Cluster
  e = found s m b

  abbrev shared : ℕ
  shared =
      first_of
      (shared_rows (judged s m b) k e (leb nodes current) (leb (width_of k) i) (not (eqb current (node_of k))) read_mode)

  -- what a look tells whose number is t
  abbrev tells : ℕ → Looked
  tells t = looked_by t x (table_at s)

  -- the place that was looked up, the node as the code has it, and the number told of them
  module _ (p : Place) (ep : p ≡ place_of (table_of e) i) (v : ℕ) (ev : v ≡ node_of k)
      (en : told r ≡ reached (judged s m b) k e p i (leb nodes current) (not (eqb current v)) read_mode) where
    known : told r ≡ after shared (first_of (reach_rows k (place_of (table_of e) i) i))
    unfolding reached
    known =
        en ∙ (λ j. reached (judged s m b) k e (ep j) i (leb nodes current) (not (eqb current (ev j))) read_mode)

    number_is : number product x s (length m) ≡ told r
    number_is =
        number_look s m b current i
        ∙ first_append
        (shared_rows (judged s m b) k e (leb nodes current) (leb (width_of k) i) (not (eqb current (node_of k))) read_mode)
        (reach_rows k (place_of (table_of e) i) i)
        (shared_numbered (judged s m b) k e (leb nodes current) (leb (width_of k) i) (not (eqb current (node_of k))) read_mode)
        ∙ sym known

    tells_is : aes_looked x s (length m) ≡ tells (told r)
    unfolding looked
    tells_is = ap tells number_is

    -- of a look done the record found is the one named
    named : told r ≡ 0 → part_of k p ≡ part_by 0 x (table_at s)
    named z =
        ap (part_of k) ep
        ∙ ap (λ (j : ℕ). part_of k (place_of (table_at s j) i))
        (found_is s m b
        (shared_passed (judged s m b) k e (leb nodes current) (leb (width_of k) i) (not (eqb current (node_of k))) read_mode
        (after_zero shared _ (sym known ∙ z)).0).place)

  -- ---- from what a core is given

  abbrev Looks : (Place → Handle → Type 0) → Bool → Handle → Cluster → Type 0
  Looks R sd h c =
      (p : Place) → p ≡ place_of (table_of c) i → (v : ℕ) → v ≡ node_of h
      → told r ≡ reached sd h c p i (leb nodes current) (not (eqb current v)) read_mode → R p h

  abbrev Refuses : Bool → Handle → Cluster → Type 0
  Refuses =
      Looks (λ p h. (n : Number) → r ≡ Err n → (a : Result Part Number) → IsErrAnd a (λ k. k ≡ n)
      → looked_as a ≡ aes_looked x s (length m))

  abbrev Shows : Bool → Handle → Cluster → Type 0
  Shows =
      Looks (λ p h. (y : X) → r ≡ Ok y → (q : Part) → q ≡ part_of h p
      → ◌≡◌ {A = Looked} (record { number = 0; part = q }) (aes_looked x s (length m)))

  module _ (sd : Bool) (h : Handle) (c : Cluster) (g : Given sd h c s m b) where
    pub look_refused : Refuses sd h c
    look_refused =
        by_given s m b Refuses sd h c g
        (λ p ep v ev en n t a w.
        ap looked_as (exit_err r n t a w)
        ∙ alone n (code n) refl (code_above n)
        ∙ ap tells (sym (told_err r n t))
        ∙ sym (tells_is p ep v ev en))
      where
        alone : (n : Number) (k : ℕ) → code n ≡ k → (k ≡ 0 → ⊥) → looked_as (Err n) ≡ tells k
        alone n zero e ne = absurd (ne refl)
        alone n (suc k) e ne = ap (λ (j : ℕ). record { number = j; part = nowhere }) e

    pub look_done : Shows sd h c
    look_done =
        by_given s m b Shows sd h c g
        (λ p ep v ev en y z q eq.
        ap (λ (o : Part). record { number = 0; part = o }) (eq ∙ named p ep v ev en (told_ok r y z))
        ∙ ap tells (sym (told_ok r y z))
        ∙ sym (tells_is p ep v ev en))
