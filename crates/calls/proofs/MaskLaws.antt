-- Bits of a mask at or above the handle's width do not count: what a mask excludes and keeps is looked at below the width alone.
-- Assumes nothing.
use mathlib.Core.Path.{◌≡◌, refl, sym, ap, ap₂, ◌∙◌}
use mathlib.Core.Logic.{◌↔◌}
use Prim.Native.Nat.{ℕ, ◌-◌, ◌<◌}
use mathlib.Core.Bool.{Bool, true, false, not, ◌&&◌}
use mathlib.Core.List.{List, [], ◌∷◌, ◌++◌}
use lib.Dec.{eqb}
use Rattle.bits.specs.Sets.{has, full, count}
use Rattle.bits.proofs.SetLaws.{set_of_same, count_none}
use Rattle.numbers.specs.Numbers.{empty_number, spent_number}
use Rattle.handle.specs.declared.Handle.{Handle}
use Rattle.handle.specs.Handles.{Weakened}
use Rattle.handle.specs.Selectors.{references, excludes, keeps, any_flat, first_flat, referenced, keeps_all, keeps_none, parameter}
use Rattle.handle.specs.Handles.{Name, name_of, width_of, decoded, cut, first_of, reply, own_rows, weaken_number, weakened, weakening}
use Rattle.handle.specs.Words.{Bit}
use Rattle.calls.specs.Calls.{weakening_by}
use Rattle.calls.specs.Steps.{weaken_reply}
use Rattle.calls.specs.LengthWords.{SameBelow, MaskBelow}
use Rattle.calls.proofs.TestLaws.{Is, eq_is}
use Rattle.calls.proofs.WeakenLaws.{step_weaken}

pub same_test : {a b : Bool} {A B : Type 0} → Is a A → Is b B → A ↔ B → a ≡ b
same_test {a} {b} {A} {B} h k e = go a b h k
  where
    go : (a b : Bool) → Is a A → Is b B → a ≡ b
    go true b h k = sym (k.into (e.0 (h.out refl)))
    go false true h k = h.into (e.1 (k.out refl))
    go false false h k = refl

same_bit : (i m n : ℕ) → Bit i m ↔ Bit i n → has i m ≡ has i n
unfolding has
same_bit i m n e = same_test (eq_is _ 1) (eq_is _ 1) e

same_none : (w : ℕ) (p q : ℕ → Bool) → ((i : ℕ) → i < w → p i ≡ q i) → eqb (count w p) 0 ≡ eqb (count w q) 0
same_none w p q e = count_none w p ∙ ap (λ (k : ℕ). eqb k 0) (set_of_same w p q e) ∙ sym (count_none w q)

module _ (w m n : ℕ) (same : SameBelow w m n) (f : List ℕ → ℕ → List ℕ) (h : Handle) where
  abbrev ss : List ℕ
  ss = h.selector

  excluded : (i : ℕ) → i < w → excludes m ss i ≡ excludes n ss i
  excluded i l = ap (λ (b : Bool). references ss i && not b) (same_bit i m n (same i l))

  kept : (i : ℕ) → i < w → keeps m ss i ≡ keeps n ss i
  kept i l = ap (λ (b : Bool). references ss i && b) (same_bit i m n (same i l))

  none : keeps_none w m ss ≡ keeps_none w n ss
  none = same_none w (keeps m ss) (keeps n ss) kept

  all : keeps_all w m ss ≡ keeps_all w n ss
  all = same_none w (excludes m ss) (excludes n ss) excluded

  cut_by : parameter w m ss ≡ parameter w n ss
  cut_by = ap (λ (k : ℕ). full w - k) (set_of_same w (excludes m ss) (excludes n ss) excluded)

  same_number : weaken_number w h m ≡ weaken_number w h n
  unfolding weaken_number
  same_number =
      λ j.
      first_of
      (own_rows w h
      ++ record { number = empty_number; applies = none j }
      ∷ record { number = spent_number; applies = not (all j) && not (any_flat w ss) }
      ∷ [])

  same_handle : weakened w f h m ≡ weakened w f h n
  unfolding weakened
  same_handle =
      ap₂ (λ (b : Bool) (p : ℕ). elim b [ true ↦ h | false ↦ cut f h (first_flat w ss) p ]) all cut_by

  same_weakening : weakening w f h m ≡ weakening w f h n
  unfolding weakening
  same_weakening = λ j. reply (same_number j) (same_handle j) (referenced w (same_handle j).selector)

pub mask_below : (f : Name → List ℕ → ℕ → List ℕ) → MaskBelow f
mask_below f b m n same c =
    step_weaken f (weakening_by m b).args c
    ∙ ap (λ (r : Weakened). record { copy = c; reply = weaken_reply r })
    (same_weakening (width_of (decoded b)) m n same (f (name_of (decoded b))) (decoded b))
    ∙ sym (step_weaken f (weakening_by n b).args c)
