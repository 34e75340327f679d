-- No handles to nothing: a weakened handle references exactly the old segments that the mask keeps, so it references none
-- just where the mask keeps none; and a weakening done has passed that row. 21 is told where that row is met.
-- Assumes nothing.
use mathlib.Core.Path.{◌≡◌, refl, sym, ap, ◌∙◌}
use Prim.Native.Nat.{ℕ, zero, suc, ◌<◌}
use native.Mathlib.Omega.{arith}
use mathlib.Core.Bool.{Bool, true, false, false≢true}
use mathlib.Core.List.{List}
use borrow.Author.Tests.{eqb-false}
use Rattle.bits.proofs.SetLaws.{count_out, count_in}
use Rattle.loops.proofs.BelowLaws.{test_off}
use Rattle.handle.specs.declared.Handle.{Handle}
use Rattle.handle.specs.Handles.{Weakened}
use Rattle.numbers.specs.Numbers.{empty_number}
use Rattle.handle.specs.Selectors.{references, keeps, gapped, keeps_none, spent, referenced}
use Rattle.handle.specs.Handles.{no_width, no_such_place, reply, weaken_number, weakened, weakening}
use Rattle.handle.specs.Empty.{NoneLeft, SomeLeft, DoneReferences}
use Rattle.handle.proofs.HandleLaws.{telling, some_kept, unspent, references_weakened}

module _ (w : ℕ) (f : List ℕ → ℕ → List ℕ) (h : Handle) (mask : ℕ) where
  abbrev kept : ℕ → Bool
  kept = keeps mask h.selector

  pub none_left : NoneLeft w f h mask
  none_left u = (out, into)
    where
      out : keeps_none w mask h.selector ≡ true → (i : ℕ) → i < w → references (weakened w f h mask).selector i ≡ false
      out e i l =
          references_weakened w f h mask u i l
          ∙ test_off (kept i) (λ q. false≢true (sym (count_in w kept i l q) ∙ e))

      into : ((i : ℕ) → i < w → references (weakened w f h mask).selector i ≡ false)
          → keeps_none w mask h.selector ≡ true
      into n = go (keeps_none w mask h.selector) refl
        where
          found : (i : ℕ) × (i < w) × (kept i ≡ true) → ⊥
          found s = false≢true (sym (n s.0 s.1) ∙ references_weakened w f h mask u s.0 s.1 ∙ s.2)

          go : (b : Bool) → keeps_none w mask h.selector ≡ b → b ≡ true
          go true e = refl
          go false e = absurd (found (count_out w kept e))

  -- ---- 21, among the five rows

  pub empty_out : weaken_number w h mask ≡ empty_number
      → (no_width h ≡ false) × (no_such_place h ≡ false) × (gapped w h.selector ≡ false)
      × (keeps_none w mask h.selector ≡ true)
  unfolding weaken_number
  empty_out e =
      go (no_width h) (no_such_place h) (gapped w h.selector) (keeps_none w mask h.selector) (spent w mask h.selector) e
    where
      go : (l a b c d : Bool) → telling l a b c d ≡ empty_number
          → (l ≡ false) × (a ≡ false) × (b ≡ false) × (c ≡ true)
      go true a b c d e = absurd (omega arith)
      go false true b c d e = absurd (omega arith)
      go false false true c d e = absurd (omega arith)
      go false false false true d e = (refl, refl, refl, refl)
      go false false false false true e = absurd (omega arith)
      go false false false false false e = absurd (omega arith)

  pub empty_in : no_width h ≡ false → no_such_place h ≡ false → gapped w h.selector ≡ false
      → keeps_none w mask h.selector ≡ true → weaken_number w h mask ≡ empty_number
  unfolding weaken_number
  empty_in l a b c = λ j. telling (l j) (a j) (b j) (c j) (spent w mask h.selector)

  -- ---- a weakening done

  abbrev answer : ℕ → Weakened
  answer n = reply n (weakened w f h mask) (referenced w (weakened w f h mask).selector)

  number_of : (n : ℕ) → (answer n).number ≡ n
  number_of zero = refl
  number_of (suc n) = refl

  pub number_weakening : (weakening w f h mask).number ≡ weaken_number w h mask
  unfolding weakening
  number_weakening = number_of (weaken_number w h mask)

  pub number_done : (weakening w f h mask).number ≡ 0 → weaken_number w h mask ≡ 0
  number_done d = sym number_weakening ∙ d

  -- its handle is the one that weakening makes
  pub handle_done : (weakening w f h mask).number ≡ 0 → (weakening w f h mask).handle ≡ weakened w f h mask
  unfolding weakening
  handle_done d = ap (λ (n : ℕ). (answer n).handle) (number_done d)

  pub done_references : DoneReferences w f h mask
  unfolding weakening
  done_references d = found (count_out w kept (some_kept w h mask e))
    where
      e : weaken_number w h mask ≡ 0
      e = number_done d

      u : spent w mask h.selector ≡ false
      u = unspent w h mask e

      found : (i : ℕ) × (i < w) × (kept i ≡ true) → SomeLeft w f h mask
      found s =
          record {
            segment = s.0;
            below = s.1;
            references =
                ap (λ (n : ℕ). references (answer n).handle.selector s.0) e
                ∙ references_weakened w f h mask u s.0 s.1
                ∙ s.2;
            count = λ z.
                eqb-false (referenced w (weakened w f h mask).selector) 0
                (count_in w (references (weakened w f h mask).selector) s.0 s.1
                (references_weakened w f h mask u s.0 s.1 ∙ s.2))
                (sym (ap (λ (n : ℕ). (answer n).count) e) ∙ z);
          }
