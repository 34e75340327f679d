-- The cases at each width hold: whole lists of answers are computed, whatever the conversion, the passwords and the free mask.
-- Assumes nothing.
use Prim.Native.Nat.{ℕ}
use mathlib.Core.Path.{◌≡◌, refl}
use mathlib.Core.List.{List, map}
use Rattle.bits.specs.Sets.{has, set_of, count}
use Rattle.bits.specs.Bytes.{bytes, word_from, word}
use Rattle.handle.specs.declared.Width.{Width}
use Rattle.handle.specs.declared.Width.TheVariants.{Four, Eight, Sixteen}
use Rattle.handle.specs.Widths.{unpacked}
use Rattle.handle.specs.Handles.{decoded, weaken_number, weakened, reduced, joined, weakening}
use Rattle.handle.specs.Conversion.{conversion}
use Rattle.handle.specs.WidthCases.{Case, of_four, of_eight, of_sixteen, tells, ByLength, ParameterBytes}

module _ (f : List ℕ → ℕ → List ℕ) (password first : List ℕ) (mask : ℕ) where
  -- at the width v the answers to the cases are those written out
  abbrev Hold : Width → List Case → Type 0
  Hold v cases = map (λ (c : Case). tells f password first mask v c.asked) cases ≡ map (λ (c : Case). c.told) cases

  pub four_hold : Hold Four (of_four f password first mask)
  unfolding has set_of count weaken_number weakened reduced joined weakening of_four tells
  four_hold = refl

  pub eight_hold : Hold Eight (of_eight f password first mask)
  unfolding has set_of count weaken_number weakened reduced joined weakening of_eight tells
  eight_hold = refl

  pub sixteen_hold : Hold Sixteen (of_sixteen f password first mask)
  unfolding has set_of count weaken_number weakened reduced joined weakening of_sixteen tells
  sixteen_hold = refl

  pub by_length : ByLength f password first mask
  unfolding decoded unpacked word word_from weaken_number weakening
  by_length = refl

pub parameter_bytes : ParameterBytes
unfolding has set_of count weaken_number weakened weakening conversion bytes
parameter_bytes p = refl
