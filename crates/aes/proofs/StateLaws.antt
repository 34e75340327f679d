-- The state by its bytes: the byte at i stands in row i % 4 and column i / 4. One byte of a mixed column in the code's
-- order, from its own row down, is the matrix's sum, since sums may be taken in any order.
-- Assumes nothing.
use mathlib.Core.Path.{◌≡◌, sym, ap, ◌∙◌}
use mathlib.Core.List.{List, [], ◌∷◌}
use Prim.Native.Nat.{ℕ, ◌/◌, ◌%◌, ◌<◌}
use native.Mathlib.Omega.{arith}
use lib.Bits.{bit_xor, xor_comm}
use lib.ListN.{get_or}
use Rattle.bits.proofs.OperationLaws.{xor_assoc}
use Rattle.field.specs.Field.{dot}
use Rattle.aes.specs.Transformations.{cell, mixed}
use Rattle.field.proofs.FieldLaws.{dot_one}

-- what a rule for rows and columns is at i
abbrev pub cells : (ℕ → ℕ → ℕ) → ℕ → ℕ
cells f i = f (i % 4) (i / 4)

pub cell_at : (s : List ℕ) (i : ℕ) → get_or s i 0 ≡ cell s (i % 4) (i / 4)
cell_at s i = ap (λ (j : ℕ). get_or s j 0) (omega arith)

-- ---- one mixed column

-- a sum of four, and the last of them taken first
abbrev sum : ℕ → ℕ → ℕ → ℕ → ℕ
sum a b c d = bit_xor a (bit_xor b (bit_xor c d))

turn : (a b c d : ℕ) → sum a b c d ≡ sum d a b c
turn a b c d =
    ap (bit_xor a) (sym (xor_assoc b c d)) ∙ sym (xor_assoc a (bit_xor b c) d) ∙ xor_comm (bit_xor a (bit_xor b c)) d

-- the code's sum, which takes the byte of its own row first
abbrev mix : ℕ → ℕ → ℕ → ℕ → ℕ
mix a b c d = bit_xor (bit_xor (dot 2 a) (dot 3 b)) (bit_xor c d)

once : (a : ℕ) → a < 256 → a ≡ dot 1 a
once a h = sym (dot_one a h)

pub mix_column_is : (a b c d : ℕ) → a < 256 → b < 256 → c < 256 → d < 256 → (x y z u : ℕ)
    → x ≡ mix a b c d → y ≡ mix b c d a → z ≡ mix c d a b → u ≡ mix d a b c
    → x ∷ y ∷ z ∷ u ∷ [] ≡ mixed 0 a b c d ∷ mixed 1 a b c d ∷ mixed 2 a b c d ∷ mixed 3 a b c d ∷ []
mix_column_is a b c d ha hb hc hd x y z u ex ey ez eu =
    λ j. (ex ∙ row_0) j ∷ (ey ∙ row_1) j ∷ (ez ∙ row_2) j ∷ (eu ∙ row_3) j ∷ []
  where
    row_0 : mix a b c d ≡ mixed 0 a b c d
    row_0 = xor_assoc (dot 2 a) (dot 3 b) (bit_xor c d) ∙ (λ j. sum (dot 2 a) (dot 3 b) (once c hc j) (once d hd j))

    row_1 : mix b c d a ≡ mixed 1 a b c d
    row_1 =
        xor_assoc (dot 2 b) (dot 3 c) (bit_xor d a) ∙ turn (dot 2 b) (dot 3 c) d a
        ∙ (λ j. sum (once a ha j) (dot 2 b) (dot 3 c) (once d hd j))

    row_2 : mix c d a b ≡ mixed 2 a b c d
    row_2 =
        xor_comm (bit_xor (dot 2 c) (dot 3 d)) (bit_xor a b) ∙ xor_assoc a b (bit_xor (dot 2 c) (dot 3 d))
        ∙ (λ j. sum (once a ha j) (once b hb j) (dot 2 c) (dot 3 d))

    row_3 : mix d a b c ≡ mixed 3 a b c d
    row_3 =
        xor_assoc (dot 2 d) (dot 3 a) (bit_xor b c) ∙ sym (turn (dot 3 a) b c (dot 2 d))
        ∙ (λ j. sum (dot 3 a) (once b hb j) (once c hc j) (dot 2 d))
