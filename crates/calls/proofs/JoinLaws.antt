-- What a join has to do with other calls. Either way round its number is the same, and where it is done the two names, and
-- so the records, are one. With itself, or with a handle that references no more, what it makes is the reduction, and its
-- number is the reduction's.
-- Assumes nothing.
use mathlib.Core.Path.{◌≡◌, refl, sym, ap, ◌∙◌}
use Prim.Native.Nat.{ℕ, zero, suc, ◌+◌, ◌*◌, ◌<◌}
use mathlib.Core.Bool.{true, false, or_self, false≢true}
use mathlib.Core.List.{List, []}
use lib.ListN.{length}
use Rattle.loops.proofs.BelowLaws.{test_off}
use Rattle.handle.specs.declared.Handle.{Handle}
use Rattle.handle.specs.Selectors.{references, all_flat}
use Rattle.handle.specs.Handles.{Name, name_of, width_of, encoded, decoded, first_of}
use Rattle.handle.specs.Handles.{reduced, joined}
use Rattle.handle.proofs.HeldLaws.{whole_decoded}
use Rattle.handle.proofs.WidthLaws.{bits_same}
use Rattle.handle.proofs.WordLaws.{flat_out}
use Rattle.handle.proofs.JoinLaws.{joins, joins_itself}
use Rattle.store.specs.Records.{cluster_at, primary_of}
use Rattle.calls.specs.Calls.{Copy, joining, reducing, record_named}
use Rattle.calls.specs.Numbers.{number}
use Rattle.calls.specs.Steps.{handles, no_bytes, outcome, step, left, given}
use Rattle.calls.specs.JoinWords.{Primary, JoinSwapped, JoinItself, JoinWithin}
use Rattle.calls.proofs.StepLaws.{step_number}
use Rattle.calls.proofs.SelectorWords.{references_is, four}
use Rattle.calls.proofs.JoinNumberLaws.{name_same, same_name_lem, each_rows, one_rows, number_each, number_one}
use Rattle.calls.proofs.JoinNumberLaws.{number_swapped, widths_same, Cleared, cleared, cleared_first}

module _ (f : Name → List ℕ → ℕ → List ℕ) where
  abbrev from : ℕ → Copy → ℕ → List ℕ
  from m c r = primary_of (cluster_at c.store r) m

  module _ (m : ℕ) (a b : List ℕ) (c : Copy) where
    done_clear : number f (joining m a b) c.store (length c.memory) ≡ 0
        → Cleared f c.store (length c.memory) m (decoded a) (decoded b)
    done_clear e =
        cleared f c.store (length c.memory) m (decoded a) (decoded b)
        (sym (number_each f c.store (length c.memory) m a b) ∙ e)

    swapped_outcome : (n : ℕ) → number f (joining m a b) c.store (length c.memory) ≡ n
        → outcome f n (joining m a b) c ≡ outcome f n (joining m b a) c
    unfolding left given
    swapped_outcome (suc n) e = refl
    swapped_outcome zero e =
        ap (λ (r : Handle). record { copy = c; reply = handles (encoded r) no_bytes 0 }) same
      where
        h : Handle
        h = decoded a

        k : Handle
        k = decoded b

        clear : Cleared f c.store (length c.memory) m h k
        clear = done_clear e

        names : name_of h ≡ name_of k
        names = name_same h k clear.together

        wide : width_of h ≡ width_of k
        wide = widths_same f c.store (length c.memory) m h k clear.together clear.wide

        same : joined (width_of h) (f (name_of h)) h k (from m c (record_named h)) ≡ joined (width_of k) (f (name_of k)) k h (from m c (record_named k))
        same =
            (joins (width_of h) (f (name_of h)) (from m c (record_named h)) h k).swapped names
            (bits_same h.width k.width wide)
            ∙ (λ j. joined (wide j) (f (names j)) k h (from m c ((names j).node * 8 + (names j).local)))

  pub join_swapped : JoinSwapped f
  unfolding step
  join_swapped m a b c =
      let s = c.store in let size = length c.memory in
      swapped_outcome m a b c (number f (joining m a b) s size) refl
      ∙ ap (λ (n : ℕ). outcome f n (joining m b a) c) (number_swapped f s size m a b)

  -- a join and the reduction of its first handle, where both get one number and make one handle
  module _ (m : ℕ) (a b : List ℕ) (c : Copy)
      (numbers : number f (joining m a b) c.store (length c.memory) ≡ number f (reducing m a) c.store (length c.memory))
      (handle : (p : List ℕ) → joined (width_of (decoded a)) (f (name_of (decoded a))) (decoded a) (decoded b) p
      ≡ reduced (width_of (decoded a)) (f (name_of (decoded a))) (decoded a) p) where
    reduces : step f (joining m a b) c ≡ step f (reducing m a) c
    unfolding step left given
    reduces =
        ap (λ (n : ℕ). outcome f n (joining m a b) c) numbers
        ∙ go (number f (reducing m a) c.store (length c.memory))
      where
        go : (n : ℕ) → outcome f n (joining m a b) c ≡ outcome f n (reducing m a) c
        go zero =
            ap (λ (r : Handle). record { copy = c; reply = handles (encoded r) no_bytes 0 })
            (handle (from m c (record_named (decoded a))))
        go (suc n) = refl

  pub not_flat : (a : List ℕ) → ¬ Primary (decoded a) → all_flat (width_of (decoded a)) (decoded a).selector ≡ false
  not_flat a n =
      test_off (all_flat (width_of (decoded a)) (decoded a).selector)
      (λ e. n (λ k l. flat_out (width_of (decoded a)) (decoded a).selector e k (rw (four a) l)))

  pub join_itself : JoinItself f
  join_itself m a o n c = reduces m a a c numbers (λ p. (joins_itself (width_of h) (f (name_of h)) p h (whole_decoded a o) other).1)
    where
      h : Handle
      h = decoded a

      other : all_flat (width_of h) h.selector ≡ false
      other = not_flat a n

      same : first_of (each_rows f c.store (length c.memory) m h h)
          ≡ first_of (one_rows f c.store (length c.memory) m h)
      same =
          simp (or_self, same_name_lem h h refl refl, (joins_itself (width_of h) (f (name_of h)) [] h (whole_decoded a o) other).0)

      numbers : number f (joining m a a) c.store (length c.memory) ≡ number f (reducing m a) c.store (length c.memory)
      numbers =
          number_each f c.store (length c.memory) m a a
          ∙ same
          ∙ sym (number_one f c.store (length c.memory) m a)

  pub join_within : JoinWithin f
  join_within m a b o n c d =
      reduces m a b c (e ∙ sym first) (λ p. ((joins (width_of h) (f (name_of h)) p h k).within (whole_decoded a o) other fewer).1)
    where
      h : Handle
      h = decoded a

      k : Handle
      k = decoded b

      e : number f (joining m a b) c.store (length c.memory) ≡ 0
      e = step_number f (joining m a b) c d

      clear : Cleared f c.store (length c.memory) m h k
      clear =
          cleared f c.store (length c.memory) m h k (sym (number_each f c.store (length c.memory) m a b) ∙ e)

      first : number f (reducing m a) c.store (length c.memory) ≡ 0
      first =
          number_one f c.store (length c.memory) m a
          ∙ cleared_first f c.store (length c.memory) m h k clear

      other : all_flat (width_of h) h.selector ≡ false
      other =
          test_off (all_flat (width_of h) h.selector)
          (λ t. false≢true (sym clear.some ∙ (joins (width_of h) (f (name_of h)) [] h k).primary t))

      fewer : (i : ℕ) → i < width_of h → references k.selector i ≡ true → references h.selector i ≡ true
      fewer i l r =
          (references_is h (four a) i).into (n i l ((references_is k (four b) i).out r))
