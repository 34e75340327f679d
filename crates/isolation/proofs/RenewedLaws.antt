-- What a new password leaves. The handle presented had the old one, which the new one is not, so that it gets 9 from then
-- on. A new password that is the other mode's makes the two of them one, and validation starts from the same in both modes;
-- and the handle given validates in the mode named.
-- Assumes nothing.
use mathlib.Core.Path.{◌≡◌, refl, sym, ap, ◌∙◌}
use mathlib.Core.Logic.{◌⊎◌, inl, inr}
use Prim.Native.Nat.{ℕ, ◌*◌, ◌+◌}
use mathlib.Core.Bool.{Bool, true, false, not, ◌&&◌, ◌||◌, false≢true}
use mathlib.Core.List.{List, [], ◌∷◌}
use lib.Dec.{eqb, leb}
use lib.ListN.{length}
use borrow.Author.Tests.{not-false}
use Rattle.loops.proofs.BelowLaws.{test_off, and_left, and_right}
use Rattle.handle.specs.declared.Handle.{Handle}
use Rattle.handle.specs.Selectors.{all_flat, gapped}
use Rattle.handle.specs.Handles.{Name, name_of, width_of, no_width, decoded, first_of, same_password, no_such_place, validates}
use Rattle.handle.proofs.HandleLaws.{through_flat}
use Rattle.store.specs.declared.Cluster.{Cluster}
use Rattle.store.specs.declared.Store.{Store}
use Rattle.store.specs.Records.{cluster_at, primary_of, with_password}
use Rattle.store.specs.Sound.{sound}
use Rattle.calls.specs.Calls.{Copy, Call, renewing}
use Rattle.calls.specs.Clear.{Clear}
use Rattle.calls.specs.Numbers.{unsound, valid}
use Rattle.calls.specs.Words.{cluster_of}
use Rattle.calls.specs.JoinWords.{Together}
use Rattle.calls.specs.Steps.{Outcome, step}
use Rattle.calls.specs.RenewWords.{validated}
use Rattle.calls.proofs.FirstLaws.{first_clear}
use Rattle.calls.proofs.StepLaws.{step_number, step_done}
use Rattle.calls.proofs.SelectorWords.{password_is}
use Rattle.calls.proofs.JoinNumberLaws.{row, gap, idle, other, one_rows, one_numbered, valid_one}
use Rattle.calls.proofs.RenewWordLaws.{renew_done, in_hand}
use Rattle.calls.proofs.DoneLaws.{no_row, done_mode}
use Rattle.isolation.specs.Copies.{SoundCopy, Done}
use Rattle.isolation.specs.Effects.{Renewed}
use Rattle.isolation.specs.Renewals.{OtherFor, after, handed, checked, BothOpen, BothOpened, Revoked}
use Rattle.isolation.proofs.KeptLaws.{step_sound}
use Rattle.isolation.proofs.PrimaryLaws.{renewed_record, renewed_password, renewed_opens}

module _ (f : Name → List ℕ → ℕ → List ℕ) where
  -- where the passwords are one, so is what validation gets
  same_modes : (b : List ℕ) (s : Store) (size : ℕ) → (cluster_of (decoded b) s).read ≡ (cluster_of (decoded b) s).write
      → validated f 1 b s size ≡ validated f 2 b s size
  same_modes b s size e =
      valid_one f s size 1 b
      ∙ ap
      (λ (p : List ℕ).
      first_of
      (row 25 (no_width h)
      ∷ row 1 (not (sound s size))
      ∷ row 2 (no_such_place h)
      ∷ row 3 false
      ∷ row 4 (gap f s size 1 h)
      ∷ row 8 (idle f s size 1 h)
      ∷ row 25 (other f s size 1 h)
      ∷ row 9 (not (eqb (width_of h) (cluster_of h s).width && validates (width_of h) (f (name_of h)) p h))
      ∷ []))
      e
      ∙ sym (valid_one f s size 2 b)
    where
      h : Handle
      h = decoded b

  module _ (m : ℕ) (a p : List ℕ) (c : Copy) (e : Done f (renewing m a p) c) where
    abbrev x : Call
    x = renewing m a p

    abbrev h : Handle
    h = decoded a

    abbrev s : Store
    s = c.store

    abbrev size : ℕ
    size = length c.memory

    abbrev s' : Store
    s' = (after f m a p c).store

    abbrev shown : (validated f m a s size ≡ 0) × (all_flat (width_of h) h.selector ≡ true) × (same_password p (primary_of (cluster_of h s) m) ≡ false)
    shown = renew_done f m a s size p e

    -- what validation of the handle had shown
    clear : Clear (one_rows f s size m h)
    clear = first_clear (one_rows f s size m h) (one_numbered f s size m h) (sym (valid_one f s size m a) ∙ shown.0)

    sound_after : SoundCopy (after f m a p c)
    unfolding unsound
    sound_after = step_sound f x c (not-false (sound s size) (no_row f x s size e).unsound)

    mode : (m ≡ 1) ⊎ (m ≡ 2)
    mode = done_mode f x s size e

    own : cluster_of h s' ≡ with_password (cluster_of h s) m p
    own =
        ap (λ (o : Outcome). cluster_of h o.copy.store) (step_done f x c e) ∙ renewed_record f x.args c e

    -- a handle of the cluster meets its record, which is active still
    still_active : (n : Name) → n ≡ name_of h → not (cluster_at s' (n.node * 8 + n.local)).active ≡ false
    still_active n q =
        ap (λ (n : Name). not (cluster_at s' (n.node * 8 + n.local)).active) q
        ∙ ap (λ (d : Cluster). not d.active) own
        ∙ clear.1.1.1.1.1.0

    -- and has its width still
    same_width : eqb (width_of h) (cluster_of h s').width ≡ true
    same_width =
        ap (λ (d : Cluster). eqb (width_of h) d.width) own
        ∙ not-false (eqb (width_of h) (cluster_of h s).width) clear.1.1.1.1.1.1.0

    -- ---- the handle presented

    new : primary_of (cluster_of h s') m ≡ p
    new = ap (λ (d : Cluster). primary_of d m) own ∙ renewed_password f x.args c e

    another : same_password p h.password ≡ false
    another =
        test_off (same_password p h.password) (λ t.
        false≢true
        (sym shown.2
        ∙ (password_is p (primary_of (cluster_of h s) m)).into
        (λ k l.
        (password_is p h.password).out t k l ∙ sym (in_hand f m a s size p shown.0 shown.1 k l))))

    ended : validates (width_of h) (f (name_of h)) (primary_of (cluster_of h s') m) h ≡ false
    unfolding validates
    ended =
        ap (λ (q : List ℕ). same_password q h.password)
        (through_flat (width_of h) (f (name_of h)) h.selector (primary_of (cluster_of h s') m) shown.1 ∙ new)
        ∙ another

    gone : checked f m a p c m a ≡ 9
    gone =
        valid_one f s' (length (after f m a p c).memory) m a
        ∙ simp (
          clear.0,
          sound_after,
          clear.1.1.0,
          clear.1.1.1.0,
          clear.1.1.1.1.0,
          still_active (name_of h) refl,
          same_width,
          ended,
        )

    -- ---- the handle given

    module _ (lp : length p ≡ 16) where
      opened : Renewed f x c (step f x c)
      opened = renewed_opens f x.args c lp e

      name : name_of (decoded (handed f m a p c)) ≡ name_of h
      name = opened.handle.named

      given_valid : checked f m a p c m (handed f m a p c) ≡ 0
      unfolding valid
      given_valid =
          valid_one f s' (length (after f m a p c).memory) m k
          ∙ simp (
            ap (λ (n : ℕ). eqb n 0) opened.handle.wide ∙ clear.0,
            sound_after,
            ap (λ (n : Name). leb 4 n.node || leb 8 n.local) name ∙ clear.1.1.0,
            clear.1.1.1.0,
            ap (λ (n : ℕ). gapped n (decoded k).selector) opened.handle.wide ∙ opened.handle.ungapped,
            still_active (name_of (decoded k)) name,
            and_left own_width _ opened.opens,
            and_right own_width _ opened.opens,
          )
        where
          k : List ℕ
          k = handed f m a p c

          own_width : Bool
          own_width = eqb (width_of (decoded k)) (cluster_of (decoded k) s').width

      module _ (o : OtherFor m (cluster_of h s) p) where
        equal : (cluster_of h s').read ≡ (cluster_of h s').write
        equal = ap (λ (d : Cluster). d.read) own ∙ go o ∙ sym (ap (λ (d : Cluster). d.write) own)
          where
            go : OtherFor m (cluster_of h s) p
                → (with_password (cluster_of h s) m p).read ≡ (with_password (cluster_of h s) m p).write
            go (inl (q, r)) =
                ap (λ (i : ℕ). (with_password (cluster_of h s) i p).read) q
                ∙ r
                ∙ sym (ap (λ (i : ℕ). (with_password (cluster_of h s) i p).write) q)
            go (inr (q, r)) =
                ap (λ (i : ℕ). (with_password (cluster_of h s) i p).read) q
                ∙ sym r
                ∙ sym (ap (λ (i : ℕ). (with_password (cluster_of h s) i p).write) q)

        both : (b : List ℕ) → Together h (decoded b) → checked f m a p c 1 b ≡ checked f m a p c 2 b
        both b t =
            same_modes b s' (length (after f m a p c).memory)
            (ap (λ (d : Cluster). d.read) (sym here) ∙ equal ∙ ap (λ (d : Cluster). d.write) here)
          where
            here : cluster_of h s' ≡ cluster_of (decoded b) s'
            here = λ j. cluster_at s' (t.0 j * 8 + t.1 j)

        open_both : BothOpen f m a p c
        open_both = record { equal = equal; given = pair mode; both = both }
          where
            again : checked f m a p c 1 (handed f m a p c) ≡ checked f m a p c 2 (handed f m a p c)
            again =
                both (handed f m a p c) (ap (λ (n : Name). n.node) (sym name), ap (λ (n : Name). n.local) (sym name))

            pair : (m ≡ 1) ⊎ (m ≡ 2)
                → (checked f m a p c 1 (handed f m a p c) ≡ 0) × (checked f m a p c 2 (handed f m a p c) ≡ 0)
            pair (inl q) =
                let t = ap (λ (i : ℕ). checked f m a p c i (handed f m a p c)) (sym q) ∙ given_valid in
                (t, sym again ∙ t)
            pair (inr q) =
                let t = ap (λ (i : ℕ). checked f m a p c i (handed f m a p c)) (sym q) ∙ given_valid in
                (again ∙ t, t)

  pub revoked : Revoked f
  revoked m a p c d = gone m a p c (step_number f (renewing m a p) c d)

  pub both_opened : BothOpened f
  both_opened m a p c lp o d = open_both m a p c (step_number f (renewing m a p) c d) lp o
