-- A part whose bytes are all zero, byte by byte: the bytes of the whole from its beginning on.
-- Assumes nothing.
use mathlib.Core.Path.{◌≡◌, sym, ap, ◌∙◌, subst}
use mathlib.Core.Bool.{true}
use mathlib.Core.List.{List}
use Prim.Native.Nat.{ℕ, ◌+◌, ◌-◌, ◌≤◌, ◌<◌}
use native.Mathlib.Omega.{arith}
use lib.Dec.{eqb}
use lib.ListN.{length, get_or}
use borrow.Author.Tests.{eqb-true, eq-eqb}
use borrow.Rule.Slice.PartMut.{mid_len}
use Rattle.loops.proofs.BelowLaws.{every_at, every_in}
use Rattle.image.specs.Parts.{part}
use Rattle.image.specs.inner.Claims.{zeros}
use Rattle.image.proofs.PartLaws.{get_d_part}

module _ (b : List ℕ) (from to : ℕ) (e : length b ≡ to) where
  abbrev rest : List ℕ
  rest = part b from to

  long : length rest ≡ to - from
  long = mid_len from to b (omega (arith, e))

  pub zeros_at : zeros rest ≡ true → (k : ℕ) → from ≤ k → k < to → get_or b k 0 ≡ 0
  unfolding zeros
  zeros_at z k l h =
      ap (λ (p : ℕ). get_or b p 0) turn
      ∙ sym (get_d_part b from to (k - from) (omega arith))
      ∙ eqb-true (get_or rest (k - from) 0) 0
      (every_at (length rest) (λ i. eqb (get_or rest i 0) 0) z (k - from)
      (subst (λ (m : ℕ). k - from < m) (sym long) (omega arith)))
    where
      turn : k ≡ from + (k - from)
      turn = omega arith

  pub zeros_in : ((k : ℕ) → from ≤ k → k < to → get_or b k 0 ≡ 0) → zeros rest ≡ true
  unfolding zeros
  zeros_in all =
      every_in (length rest) (λ i. eqb (get_or rest i 0) 0) (λ i h.
      let l : i < to - from = subst (λ (m : ℕ). i < m) long h in
      eq-eqb (get_or rest i 0) 0 (get_d_part b from to i l ∙ all (from + i) (omega arith) (omega arith)))
