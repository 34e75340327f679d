-- No handles to nothing, in words. Only one row of the table has the number 21, and it is about weakening, whose number is
-- the handle crate's. A weakening done is that crate's too, its handle references a segment, and it is read back from the
-- bytes given.
-- Assumes nothing.
use mathlib.Core.Path.{◌≡◌, sym, ap, ◌∙◌, subst}
use mathlib.Core.Logic.{◌⊎◌, inl, inr}
use Prim.Native.Nat.{ℕ, ◌≤◌, ◌<◌}
use native.Mathlib.Omega.{arith}
use mathlib.Core.Bool.{true, true≢false, or-false}
use mathlib.Core.List.{List}
use lib.ListN.{length}
use Rattle.handle.specs.declared.Handle.{Handle}
use Rattle.handle.specs.Handles.{Weakened}
use Rattle.handle.specs.Handles.{Name, name_of, node_of, width_of, decoded, bytes_in, written, no_such_place, Holdable, weaken_number, weakened, weakening}
use Rattle.handle.specs.Conversion.{SixteenBytes}
use Rattle.handle.specs.Empty.{SomeLeft}
use Rattle.handle.specs.Words.{References}
use Rattle.handle.proofs.HandleLaws.{width_weakened}
use Rattle.handle.proofs.TripLaws.{read_laid}
use Rattle.handle.proofs.HeldLaws.{holdable_decoded, holdable_weakened}
use Rattle.handle.proofs.EmptyLaws.{empty_out, empty_in, handle_done, done_references}
use Rattle.store.specs.declared.Store.{Store}
use Rattle.calls.specs.Calls.{Call, Kind, weaken, call, handle_of}
use Rattle.calls.specs.Numbers.{empty_handle, at, rows, number}
use Rattle.calls.specs.Steps.{Outcome, weaken_reply}
use Rattle.calls.specs.EmptyWords.{Emptied, EmptyInWords, SomeGiven, NeverToNothing}
use Rattle.calls.proofs.FirstLaws.{first_holding}
use Rattle.calls.proofs.TestLaws.{Is, off_is, or_is, eq_is, le_is}
use Rattle.calls.proofs.KindLaws.{only_kind}
use Rattle.calls.proofs.SelectorWords.{references_is, gapped_is, empty_is, four}
use Rattle.calls.proofs.WordLaws.{empty_row}
use Rattle.calls.proofs.WeakenLaws.{number_weaken, step_weaken}

-- ---- which calls get 21

module _ (f : Name → List ℕ → ℕ → List ℕ) where
  -- only the row of 21 has that number
  told_empty : (x : Call) (s : Store) (size : ℕ) → number f x s size ≡ 21 → empty_handle x ≡ true
  unfolding number
  told_empty x s size e = sym (or-false (empty_handle x)) ∙ first_holding (at x s (rows f size)) 21 (omega arith) e

  module _ (x : Call) (s : Store) (size : ℕ) (k : x.kind ≡ weaken) where
    abbrev h : Handle
    h = handle_of x

    here : length h.selector ≡ 4
    here = four x.args.handle

    place_is : Is (no_such_place h) ((4 ≤ node_of h) ⊎ (8 ≤ h.local))
    place_is = or_is (le_is 4 (node_of h)) (le_is 8 h.local)

    number_is : number f x s size ≡ weaken_number (width_of h) h x.args.mask
    number_is =
        ap (λ (j : Kind). number f (call j x.args) s size) k ∙ number_weaken f x.args s size

    emptied : weaken_number (width_of h) h x.args.mask ≡ 21 → Emptied x
    emptied e =
        let r = empty_out (width_of h) (f (name_of h)) h x.args.mask e in
        let node : ¬ (4 ≤ node_of h) = λ l. true≢false (sym (place_is.into (inl l)) ∙ r.1) in
        let local : ¬ (8 ≤ h.local) = λ l. true≢false (sym (place_is.into (inr l)) ∙ r.1) in
        record {
          weakens = k;
          wide = λ q. true≢false (sym ((eq_is (width_of h) 0).into q) ∙ r.0);
          node = omega arith;
          local = omega arith;
          even = λ g. true≢false (sym ((gapped_is h here).into g) ∙ r.2);
          none = (empty_is h here x.args.mask).out r.3;
        }

    given : Emptied x → weaken_number (width_of h) h x.args.mask ≡ 21
    given e =
        empty_in (width_of h) (f (name_of h)) h x.args.mask
        (off_is (eq_is (width_of h) 0) e.wide) (off_is place_is beyond)
        (off_is (gapped_is h here) e.even)
        ((empty_is h here x.args.mask).into e.none)
      where
        beyond : ¬ ((4 ≤ node_of h) ⊎ (8 ≤ h.local))
        beyond (inl l) = let n = e.node in omega arith
        beyond (inr l) = let n = e.local in omega arith

  pub empty_in_words : EmptyInWords f
  empty_in_words x s size = (out, λ e. number_is x s size e.weakens ∙ given x s size e.weakens e)
    where
      out : number f x s size ≡ 21 → Emptied x
      out e =
          let k = only_kind weaken x ((empty_row x).out (told_empty x s size e)).0 in
          emptied x s size k (sym (number_is x s size k) ∙ e)

  -- ---- a weakening done

  pub never_to_nothing : SixteenBytes f → NeverToNothing f
  unfolding written
  never_to_nothing sixteen g c l d = subst (λ (o : Outcome). SomeGiven o.reply) (sym (step_weaken f g c)) left
    where
      h : Handle
      h = handle_of (call weaken g)

      w : Weakened
      w = weakening (width_of h) (f (name_of h)) h g.mask

      done : w.number ≡ 0
      done = ap (λ (o : Outcome). o.reply.number) (sym (step_weaken f g c)) ∙ d

      some : SomeLeft (width_of h) (f (name_of h)) h g.mask
      some = done_references (width_of h) (f (name_of h)) h g.mask done

      wide : 0 < width_of h
      wide = let q = some.below in omega arith

      made : w.handle ≡ weakened (width_of h) (f (name_of h)) h g.mask
      made = handle_done (width_of h) (f (name_of h)) h g.mask done

      held : Holdable w.handle
      held =
          subst Holdable (sym made)
          (holdable_weakened (f (name_of h)) (sixteen (name_of h)) h (holdable_decoded g.handle l wide) g.mask)

      same : width_of w.handle ≡ width_of h
      same = ap width_of made ∙ width_weakened (width_of h) (f (name_of h)) h g.mask

      back : decoded (bytes_in (written w.handle)) ≡ w.handle
      back = read_laid w.handle held

      left : SomeGiven (weaken_reply w)
      left =
          record {
            segment = some.segment;
            below = rw (ap width_of back ∙ same) some.below;
            shown =
                subst (λ (k : Handle). References k some.segment) (sym back)
                ((references_is w.handle held.selector some.segment).out some.references);
            count = some.count;
          }
