-- The numbers of call 9 in words: its rows are those of validation, and 10 and 12 below them. A primary handle that
-- validates has the password of the mode, so that the new password is that one just where it is the handle's.
-- Assumes nothing.
use mathlib.Core.Path.{◌≡◌, refl, sym, ap, ◌∙◌}
use mathlib.Core.Logic.{◌≢◌, ◌↔◌}
use Prim.Native.Nat.{ℕ}
use native.Mathlib.Decide.{ℕ_discrete}
use native.Mathlib.Omega.{arith}
use mathlib.Core.Bool.{Bool, true, false, not, ◌&&◌, cond, or-false, false≢true}
use mathlib.Core.List.{List, [], ◌∷◌, ◌++◌}
use lib.Dec.{eqb}
use borrow.Author.Tests.{not-false}
use Rattle.loops.proofs.BelowLaws.{and_left, and_right}
use Rattle.handle.specs.declared.Handle.{Handle}
use Rattle.handle.specs.Selectors.{all_flat}
use Rattle.handle.specs.Handles.{Name, name_of, width_of, same_password, decoded, Row, first_of, validates}
use Rattle.handle.proofs.HandleLaws.{through_flat}
use Rattle.store.specs.declared.Cluster.{Cluster}
use Rattle.store.specs.declared.Store.{Store}
use Rattle.store.specs.Records.{primary_of}
use Rattle.calls.specs.Calls.{new_password, among, validating}
use Rattle.calls.specs.Numbers.{old_password, at, rows, number, tests}
use Rattle.calls.specs.Clear.{Clear}
use Rattle.calls.specs.Words.{SamePassword, cluster_of, Current}
use Rattle.calls.specs.JoinWords.{Primary}
use Rattle.calls.specs.RenewWords.{validated, Holder, renewed, RenewInWords, OldOnly}
use Rattle.calls.proofs.FirstLaws.{first_holding, first_above, first_clear}
use Rattle.calls.proofs.TestLaws.{Is, off_is}
use Rattle.calls.proofs.KindLaws.{kind_is, only_kind}
use Rattle.calls.proofs.SelectorWords.{primary_is, password_is, four}
use Rattle.calls.proofs.WordLaws.{current_is}
use Rattle.calls.proofs.DoneLaws.{done_mode}
use Rattle.calls.proofs.JoinNumberLaws.{row, one_rows, one_numbered, valid_one}

-- only the row of 12 has that number, and it is about call 9
pub old_only : (f : Name → List ℕ → ℕ → List ℕ) → OldOnly f
unfolding number old_password
old_only f x s size e =
    only_kind new_password x
    ((kind_is (among (9 ∷ [])) _ refl x).out
    (and_left (among (9 ∷ []) x.kind) _
    (sym (or-false (old_password x s)) ∙ first_holding (at x s (rows f size)) 12 (omega arith) e)))

-- rows 10 and 12, from their tests
abbrev two : Bool → Bool → ℕ
two p u = cond (not p) 10 (cond u 12 0)

two_old : (p u : Bool) → two p u ≡ 12 → (p ≡ true) × (u ≡ true)
two_old true true e = (refl, refl)
two_old true false e = absurd (omega arith)
two_old false u e = absurd (omega arith)

two_done : (p u : Bool) → two p u ≡ 0 → (p ≡ true) × (u ≡ false)
two_done true true e = absurd (omega arith)
two_done true false e = (refl, refl)
two_done false u e = absurd (omega arith)

module _ (f : Name → List ℕ → ℕ → List ℕ) (m : ℕ) (a : List ℕ) (s : Store) (size : ℕ) (p : List ℕ) where
  abbrev h : Handle
  h = decoded a

  abbrev c : Cluster
  c = cluster_of h s

  abbrev upper : List Row
  upper = one_rows f s size m h

  abbrev old : Bool
  old = same_password p (primary_of c m)

  abbrev lower : List Row
  lower = row 10 (not (all_flat (width_of h) h.selector)) ∷ row 12 old ∷ []

  abbrev told : ℕ
  told = renewed f m a s size p

  abbrev valid : ℕ
  valid = validated f m a s size

  valid_is : valid ≡ first_of upper
  valid_is = valid_one f s size m a

  told_is : told ≡ first_of (upper ++ lower)
  unfolding number tests
  told_is = simp or-false

  above : valid ≢ 0 → told ≡ valid
  above t = told_is ∙ first_above upper lower (λ e. t (valid_is ∙ e)) ∙ sym valid_is

  clear : valid ≡ 0 → Clear upper
  clear v = first_clear upper (one_numbered f s size m h) (sym valid_is ∙ v)

  below : valid ≡ 0 → told ≡ two (all_flat (width_of h) h.selector) old
  below v =
      let r = clear v in
      told_is
      ∙ simp (
        r.0,
        r.1.0,
        r.1.1.0,
        r.1.1.1.0,
        r.1.1.1.1.0,
        r.1.1.1.1.1.0,
        r.1.1.1.1.1.1.0,
        r.1.1.1.1.1.1.1.0,
      )

  -- validation is never refused with 12
  other_number : valid ≢ 12
  other_number e = false≢true (first_holding upper 12 (omega arith) (sym valid_is ∙ e))

  old_is : valid ≡ 0 → Is old (Current m c p)
  old_is e = current_is m c p (done_mode f (validating m a) s size e)

  -- a call 9 that is done has shown that the handle validates, is primary, and brings another password
  pub renew_done : told ≡ 0 → (valid ≡ 0) × (all_flat (width_of h) h.selector ≡ true) × (old ≡ false)
  renew_done e = go (ℕ_discrete valid 0)
    where
      go : Dec (valid ≡ 0) → (valid ≡ 0) × (all_flat (width_of h) h.selector ≡ true) × (old ≡ false)
      go (yes v) = let r = two_done (all_flat (width_of h) h.selector) old (sym (below v) ∙ e) in (v, r.0, r.1)
      go (no v) = absurd (v (sym (above v) ∙ e))

  -- where it validates and is primary, its password is that of the mode
  pub in_hand : valid ≡ 0 → all_flat (width_of h) h.selector ≡ true → SamePassword (primary_of c m) h.password
  unfolding validates
  in_hand v t =
      (password_is (primary_of c m) h.password).out
      (ap (λ (r : List ℕ). same_password r h.password)
      (sym (through_flat (width_of h) (f (name_of h)) h.selector (primary_of c m) t))
      ∙ and_right (eqb (width_of h) c.width) (validates (width_of h) (f (name_of h)) (primary_of c m) h)
      (not-false (eqb (width_of h) c.width && validates (width_of h) (f (name_of h)) (primary_of c m) h)
      (clear v).1.1.1.1.1.1.1.0))

  flat_is : Is (all_flat (width_of h) h.selector) (Primary h)
  flat_is = primary_is h (four a)

  pub renew_in_words : RenewInWords f m a s size p
  renew_in_words =
      record {
        above = above;
        weak = λ v n. below v ∙ ap (λ (t : Bool). two t old) (off_is flat_is n);
        old = (out_old (ℕ_discrete valid 0), λ r. given r.0 ((old_is r.0.0).into r.1));
        done = (out_done, λ r. given r.0 (off_is (old_is r.0.0) r.1));
        own = λ r. own r.0 (in_hand r.0 (flat_is.into r.1));
      }
    where
      given : {t : Bool} → Holder f m a s size → old ≡ t → told ≡ cond t 12 0
      given r e = below r.0 ∙ (λ j. two (flat_is.into r.1 j) (e j))

      out_old : Dec (valid ≡ 0) → told ≡ 12 → Holder f m a s size × Current m c p
      out_old (yes v) e =
          let r = two_old (all_flat (width_of h) h.selector) old (sym (below v) ∙ e) in
          ((v, flat_is.out r.0), (old_is v).out r.1)
      out_old (no v) e = absurd (other_number (sym (above v) ∙ e))

      out_done : told ≡ 0 → Holder f m a s size × ¬ Current m c p
      out_done e =
          let r = renew_done e in
          ((r.0, flat_is.out r.1), λ w. false≢true (sym r.2 ∙ (old_is r.0).into w))

      own : valid ≡ 0 → SamePassword (primary_of c m) h.password → Current m c p ↔ SamePassword p h.password
      own v g = (
        λ w k l. (password_is p (primary_of c m)).out ((old_is v).into w) k l ∙ g k l,
        λ w. (old_is v).out ((password_is p (primary_of c m)).into (λ k l. w k l ∙ sym (g k l))),
      )
