-- Joining: the rows of two handles are all that it has, and a call done changes nothing. The record of the first handle's
-- cluster may be looked up before its place is judged, as for the other calls.
-- Assumes nothing.
use mathlib.Core.Path.{◌≡◌, refl, sym, ap, subst, ◌∙◌}
use mathlib.Core.Bool.{Bool, true, false, not, ◌&&◌, ◌||◌, cond, or_self}
use mathlib.Core.List.{List, []}
use Prim.Native.Nat.{ℕ}
use native.Mathlib.Omega.{arith}
use lib.Dec.{eqb}
use lib.ListN.{length}
use Rattle.std.specs.Prelude.{Result, Ok, Err}
use Rattle.std.specs.Result.{IsErrAnd}
use Rattle.numbers.specs.declared.Number.{Number}
use Rattle.numbers.specs.Codes.{told}
use Rattle.handle.specs.declared.Handle.{Handle}
use Rattle.handle.specs.declared.HandleBytes.{HandleBytes}
use Rattle.handle.specs.Selectors.{gapped, whole_union}
use Rattle.handle.specs.Handles.{name_of, same_name, width_of, no_width, no_such_place, first_of, written, decoded, validates, joined}
use Rattle.handle.specs.Conversion.{product}
use Rattle.store.specs.declared.Cluster.{Cluster}
use Rattle.store.specs.declared.Store.{Store}
use Rattle.store.specs.Records.{cluster_at, primary_of}
use Rattle.store.specs.Sound.{sound}
use Rattle.calls.specs.declared.Given.TheVariants as gives
use Rattle.calls.specs.Calls.{joining, record_named}
use Rattle.calls.specs.Numbers.{number}
use Rattle.calls.specs.Steps.{aes_step, left, given}
use Rattle.calls.specs.Answers.{Answer, copy_of, ended}
use Rattle.refusals.specs.Rows.{bad_modes, join_below, join_rows}
use Rattle.calls.specs.Clear.{Clear}
use Rattle.calls.proofs.FirstLaws.{first_clear}
use Rattle.calls.proofs.CallLaws.{or_left}
use Rattle.calls.proofs.StepLaws.{step_done}
use Rattle.numbers.proofs.ToldLaws.{told_ok}
use Rattle.calls.proofs.JoinNumberLaws.{idle, number_each, record_same}
use Rattle.refusals.specs.Given.{Given}
use Rattle.refusals.proofs.GivenLaws.{judged, shown, found, named, by_given, found_is, either_record}
use Rattle.cluster.proofs.CoreLaws.{exit_alone}

-- ---- the rows of two handles, where the record is the first one's

module _ (s : Store) (size mode : ℕ) (a b : List ℕ) where
  abbrev h : Handle
  h = decoded a

  abbrev k : Handle
  k = decoded b

  abbrev silent : Handle → Bool
  silent = idle product s size mode

  -- whether a handle does not validate from a record
  abbrev closed : Handle → ℕ → Bool
  closed g r =
      not
      (eqb (width_of g) (cluster_at s r).width
      && validates (width_of g) (product (name_of g)) (primary_of (cluster_at s r) mode) g)

  -- whether it is of another width than a record
  abbrev unlike : Handle → ℕ → Bool
  unlike g r = not (eqb (width_of g) (cluster_at s r).width)

  abbrev upper : Bool → ℕ → ℕ
  upper n rest =
      cond (no_width h || no_width k) 25
      (cond (not (sound s size)) 1
      (cond (no_such_place h || no_such_place k) 2
      (cond (bad_modes mode) 3
      (cond (gapped (width_of h) h.selector || gapped (width_of k) k.selector) 4 (cond (not n) 24 rest)))))

  -- the rows below, where the second handle's record is r
  abbrev lower : Bool → ℕ → ℕ
  lower i r =
      cond i 8
      (cond (unlike h (record_named h) || unlike k r) 25
      (cond (closed h (record_named h) || closed k r) 9
      (cond (whole_union (width_of h) h.selector k.selector) 23 0)))

  number_join : number product (joining mode a b) s size
      ≡ first_of (join_rows (sound s size) h k (cluster_at s (record_named h)) mode)
  number_join = number_each product s size mode a b ∙ go (same_name h k) refl
    where
      go : (t : Bool) → same_name h k ≡ t
          → upper (same_name h k) (lower (silent h || silent k) (record_named k))
          ≡ upper (same_name h k) (lower (silent h) (record_named h))
      go true e =
          ap (λ (r : ℕ). upper (same_name h k) (lower (silent h || not (cluster_at s r).active) r)) (sym (record_same h k e))
          ∙ ap (λ (i : Bool). upper (same_name h k) (lower i (record_named h))) (or_self (silent h))
      go false e =
          ap (λ (n : Bool). upper n (lower (silent h || silent k) (record_named k))) e
          ∙ sym (ap (λ (n : Bool). upper n (lower (silent h) (record_named h))) e)

-- ---- the core

module _ (s : Store) (m a b : List ℕ) (mode : ℕ) where
  number_found : number product (joining mode a b) s (length m)
      ≡ first_of (join_rows (judged s m a) (shown s m a) (decoded b) (found s m a) mode)
  number_found =
      number_join s (length m) mode a b
      ∙ either_record s m a (no_width (shown s m a) || no_width (decoded b)) (not (judged s m a)) (no_such_place (decoded b))
      (λ c. first_of (join_below (shown s m a) (decoded b) c mode))

  module _ {X : Type 0} (r : Result X Number) where
    abbrev Told : Bool → Handle → Handle → Cluster → Type 0
    Told sd h k c = told r ≡ first_of (join_rows sd h k c mode)

    number_is : Told (judged s m a) (shown s m a) (decoded b) (found s m a) → number product (joining mode a b) s (length m) ≡ told r
    number_is en = number_found ∙ sym en

    module _ (sd : Bool) (h k : Handle) (c : Cluster) (g : Given sd h c s m a) (o : k ≡ decoded b) where
      -- what is shown of the store's own holds of what was given
      given_both : (P : Bool → Handle → Handle → Cluster → Type 0)
          → P (judged s m a) (shown s m a) (decoded b) (found s m a) → P sd h k c
      given_both P q = subst (λ (t : Handle). P sd h t c) (sym o) (by_given s m a (λ sd h c. P sd h (decoded b) c) sd h c g q)

      abbrev Refuses : Bool → Handle → Handle → Cluster → Type 0
      Refuses sd h k c =
          Told sd h k c → (n : Number) → r ≡ Err n → (q : Answer) → IsErrAnd q (λ k. k ≡ n)
          → ended s m q [] ≡ aes_step (joining mode a b) (copy_of s m)

      pub join_refused : Refuses sd h k c
      join_refused = given_both Refuses (λ en. exit_alone (joining mode a b) s m r (number_is en))

      abbrev Joined : Bool → Handle → Handle → Cluster → Type 0
      Joined sd h k c =
          Told sd h k c → (x : X) → r ≡ Ok x → (p : List ℕ) → p ≡ primary_of c mode → (w : Handle)
          → w ≡ joined (width_of h) (product (name_of h)) h k p → (e : HandleBytes) → e ≡ written w
          → ended s m (Ok (gives.Handle e)) [] ≡ aes_step (joining mode a b) (copy_of s m)

      pub join_done : Joined sd h k c
      unfolding left given written
      join_done =
          given_both Joined
          (λ en x z p ep w ew e ee.
          ap (λ (v : HandleBytes). ended s m (Ok (gives.Handle v)) [])
          (ee ∙ ap written (ew ∙ ap (joined (width_of u) (product (name_of u)) u (decoded b)) (ep ∙ there en x z)))
          ∙ sym (step_done product (joining mode a b) (copy_of s m) (number_is en ∙ told_ok r x z)))
        where
          u : Handle
          u = shown s m a

          there : Told (judged s m a) u (decoded b) (found s m a) → (x : X) → r ≡ Ok x
              → primary_of (found s m a) mode ≡ primary_of (named s m a) mode
          there en x z =
              ap (λ (i : ℕ). primary_of (cluster_at s i) mode)
              (found_is s m a (or_left (no_such_place u) (no_such_place (decoded b)) clear.1.1.0))
            where
              clear : Clear (join_rows (judged s m a) u (decoded b) (found s m a) mode)
              clear =
                  first_clear (join_rows (judged s m a) u (decoded b) (found s m a) mode) (omega arith) (sym en ∙ told_ok r x z)
