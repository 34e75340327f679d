-- Weakening, return by return: the tests passed so far say which row of the table is the first that applies, and which
-- of the two cases of `weakened` holds.
-- Assumes nothing.
use Prim.Native.Nat.{ℕ, zero, suc, ◌-◌, ◌≤◌, ◌<◌}
use native.Mathlib.Omega.{arith}
use mathlib.Core.Path.{◌≡◌, refl, sym, ap, ap₂, ◌∙◌}
use mathlib.Core.Bool.{Bool, true, false, not, ◌&&◌, false≢true, cond}
use mathlib.Core.List.{List}
use lib.Bits.{bit_and}
use lib.ListN.{length}
use lib.Dec.{eqb}
use mir.Val.{Fits}
use mir.Syntax.{w16}
use borrow.Author.Tests.{eq-eqb, ne_eqb}
use Rattle.bits.specs.Sets.{full, set_of}
use Rattle.bits.proofs.SetLaws.{set_of_lt, count_none}
use Rattle.bits.proofs.OperationLaws.{and_has, and_not}
use Rattle.std.specs.Prelude.{Result, Err}
use Rattle.numbers.specs.declared.Number.{Number}
use Rattle.numbers.specs.Codes.{code}
use Rattle.handle.specs.declared.Handle.{Handle}
use Rattle.handle.specs.declared.Weaker.{Weaker}
use Rattle.handle.specs.Handles.{Weakened}
use Rattle.handle.specs.Sizes.{subselectors}
use Rattle.handle.specs.Selectors.{references, excludes, keeps, any_flat, gapped, first_flat, common, referenced}
use Rattle.handle.specs.Selectors.{keeps_all, keeps_none, parameter, spent}
use Rattle.handle.specs.Handles.{width_of, no_width, cut, weakened, weakening}
use Rattle.numbers.specs.Numbers.{wrong_length_number, place_number, gapped_number, empty_number, spent_number}
use Rattle.handle.specs.Handles.{no_such_place, first_of, own_rows, refusal, reply, reply_of, weaken_number}
use Rattle.numbers.proofs.ToldLaws.{code_above}
use Rattle.handle.proofs.SelectorLaws.{any_flat_lem, none_flat}
use Rattle.handle.proofs.HandleLaws.{telling, weakened_cases}

-- ---- what the handle is turned down with whatever the mask

own_told : (l a b c d : Bool) → (cond l wrong_length_number (cond a place_number (cond b gapped_number 0)) ≡ 0 → ⊥)
    → telling l a b c d ≡ cond l wrong_length_number (cond a place_number (cond b gapped_number 0))
own_told true a b c d n = refl
own_told false true b c d n = refl
own_told false false true c d n = refl
own_told false false false c d n = absurd (n refl)

own_clear : (l a b c d : Bool) → cond l wrong_length_number (cond a place_number (cond b gapped_number 0)) ≡ 0
    → telling l a b c d ≡ cond c empty_number (cond d spent_number 0)
own_clear true a b c d e = absurd (omega arith)
own_clear false true b c d e = absurd (omega arith)
own_clear false false true c d e = absurd (omega arith)
own_clear false false false c d e = refl

-- ---- what the mask leaves and takes

-- the bits of the excluded segments; mask bits at or above the width play no part
module _ (w : ℕ) (n16 : w ≤ 16) (ss : List ℕ) (mask : ℕ) (m : Fits w16 mask) (x : ℕ) (ex : x ≡ common w ss) where
  excluded_is : bit_and x (full 16 - mask) ≡ set_of w (excludes mask ss)
  excluded_is = ap (λ (n : ℕ). bit_and n (full 16 - mask)) ex ∙ and_not w 16 n16 (references ss) mask m.fits

  pub excluded_le : bit_and x (full 16 - mask) ≤ full w
  excluded_le = omega (arith, excluded_is, set_of_lt w (excludes mask ss))

module _ (w : ℕ) (f : List ℕ → ℕ → List ℕ) (h : Handle) (mask : ℕ) where
  abbrev replying : ℕ → Weakened
  replying n = reply n (weakened w f h mask) (referenced w (weakened w f h mask).selector)

  refused_with_lem : (n : ℕ) → 0 < n → (r : Weakened) → r ≡ refusal n → weaken_number w h mask ≡ n
      → r ≡ weakening w f h mask
  unfolding weakening
  refused_with_lem zero l r a e = absurd (omega arith)
  refused_with_lem (suc n) l r a e = a ∙ sym (ap replying e)

  done_with : (k : Handle) (r : Weakened) → r ≡ reply 0 k (referenced w k.selector) → weakened w f h mask ≡ k
      → weaken_number w h mask ≡ 0 → r ≡ weakening w f h mask
  unfolding weakening
  done_with k r b a e = b ∙ sym (ap replying e ∙ ap (λ (g : Handle). reply 0 g (referenced w g.selector)) a)

  -- n is what the handle is turned down with whatever the mask, as the code has it
  module _ (n : ℕ) (en : n ≡ first_of (own_rows w h)) where
    pub refused_own : (r : Weakened) → r ≡ refusal n → (n ≡ 0 → ⊥) → r ≡ weakening w f h mask
    unfolding weaken_number
    refused_own r a t =
        refused_with_lem n (omega (arith, t)) r a
        (own_told (no_width h) (no_such_place h) (gapped w h.selector) (keeps_none w mask h.selector)
        (spent w mask h.selector) (λ e. t (en ∙ e))
        ∙ sym en)

    -- the same, of the code's own result
    pub refused_standing : (e : Number) → code e ≡ n → (r : Result Weaker Number) → r ≡ Err e → reply_of r ≡ weakening w f h mask
    refused_standing e q r er = ap reply_of er ∙ refused_own (refusal (code e)) (ap refusal q) (λ z. code_above e (q ∙ z))

    module _ (u : n ≡ 0) where
      -- only the last two rows are left
      last_rows : (a b : Bool) → keeps_none w mask h.selector ≡ a → spent w mask h.selector ≡ b
          → weaken_number w h mask ≡ cond a empty_number (cond b spent_number 0)
      unfolding weaken_number
      last_rows a b k e =
          own_clear (no_width h) (no_such_place h) (gapped w h.selector) (keeps_none w mask h.selector)
          (spent w mask h.selector) (sym en ∙ u)
          ∙ ap₂ (λ (x y : Bool). cond x empty_number (cond y spent_number 0)) k e

      module _ (x : ℕ) (ex : x ≡ common w h.selector) where
        -- the bits of the segments that the mask keeps
        kept : bit_and x mask ≡ set_of w (keeps mask h.selector)
        kept = ap (λ (n : ℕ). bit_and n mask) ex ∙ and_has w (references h.selector) mask

        none : (b : Bool) → eqb (bit_and x mask) 0 ≡ b → keeps_none w mask h.selector ≡ b
        none b e = count_none w (keeps mask h.selector) ∙ ap (λ (n : ℕ). eqb n 0) (sym kept) ∙ e

        pub refused_empty : bit_and x mask ≡ 0 → (r : Weakened) → r ≡ refusal empty_number → r ≡ weakening w f h mask
        refused_empty t r a =
            refused_with_lem empty_number (omega arith) r a
            (last_rows true (spent w mask h.selector) (none true (eq-eqb (bit_and x mask) 0 t)) refl)

      module _ (n16 : w ≤ 16) (m : Fits w16 mask) (x : ℕ) (ex : x ≡ common w h.selector)
          (some : bit_and x mask ≡ 0 → ⊥) where
        -- only the last row is left
        last_row : (b : Bool) → spent w mask h.selector ≡ b → weaken_number w h mask ≡ cond b spent_number 0
        last_row b e = last_rows false b (none x ex false (ne_eqb (bit_and x mask) 0 some)) e

        excluded : bit_and x (full 16 - mask) ≡ set_of w (excludes mask h.selector)
        excluded = excluded_is w n16 h.selector mask m x ex

        all_kept : bit_and x (full 16 - mask) ≡ 0 → keeps_all w mask h.selector ≡ true
        all_kept t =
            count_none w (excludes mask h.selector)
            ∙ eq-eqb (set_of w (excludes mask h.selector)) 0 (sym excluded ∙ t)

        takes : (bit_and x (full 16 - mask) ≡ 0 → ⊥) → keeps_all w mask h.selector ≡ false
        takes t =
            count_none w (excludes mask h.selector)
            ∙ ne_eqb (set_of w (excludes mask h.selector)) 0 (λ e. t (excluded ∙ e))

        pub weaken_unchanged : bit_and x (full 16 - mask) ≡ 0 → (r : Weakened)
            → r ≡ reply 0 h (referenced w h.selector) → r ≡ weakening w f h mask
        weaken_unchanged t r er =
            done_with h r er
            (weakened_cases w f h mask (λ k. k ≡ h) (λ e. refl) (λ e. absurd (false≢true (sym e ∙ all_kept t))))
            (last_row false (ap (λ (b : Bool). not b && not (any_flat w h.selector)) (all_kept t)))

        module _ (t : bit_and x (full 16 - mask) ≡ 0 → ⊥) (four : length h.selector ≡ subselectors)
            (k : ℕ) (ek : k ≡ first_flat w h.selector) where
          row_spent : (b : Bool) → any_flat w h.selector ≡ b → weaken_number w h mask ≡ cond (not b) spent_number 0
          row_spent b e = last_row (not b) (ap₂ (λ (x y : Bool). not x && not y) (takes t) e)

          pub refused_spent : subselectors ≤ k → (r : Weakened) → r ≡ refusal spent_number
              → r ≡ weakening w f h mask
          refused_spent s r a =
              refused_with_lem spent_number (omega arith) r a
              (row_spent false (none_flat w h.selector (omega arith)))

          -- the parameter, as the code has it
          abbrev q : ℕ
          q = full w - bit_and x (full 16 - mask)

          pub weaken_changed : k < subselectors → (g : Handle) → g ≡ cut f h k q → width_of h ≡ w → (r : Weakened)
              → r ≡ reply 0 g (referenced (width_of g) g.selector) → r ≡ weakening w f h mask
          weaken_changed s g eg ew r er =
              done_with g r (er ∙ ap (λ (n : ℕ). reply 0 g (referenced n g.selector)) (ap width_of eg ∙ ew))
              (weakened_cases w f h mask (λ (k : Handle). k ≡ g) (λ e. absurd (false≢true (sym (takes t) ∙ e)))
              (λ e. ap₂ (cut f h) (sym ek) (sym eq) ∙ sym eg))
              (row_spent true (any_flat_lem w h.selector (omega arith)))
            where
              eq : q ≡ parameter w mask h.selector
              eq = ap (λ (n : ℕ). full w - n) excluded
