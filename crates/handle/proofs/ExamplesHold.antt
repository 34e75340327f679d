-- P1 to P9 hold, and the rows beside them: the whole list of answers is computed, whatever the conversion, the passwords and
-- the free mask.
-- Assumes nothing.
use Prim.Native.Nat.{ℕ}
use mathlib.Core.Path.{◌≡◌, refl}
use mathlib.Core.List.{List, map}
use Rattle.bits.specs.Sets.{has, set_of, count}
use Rattle.handle.specs.Handles.{weaken_number, weakened, reduced, joined, weakening}
use Rattle.handle.specs.Examples.{Example, examples, tells}

pub examples_hold : (f : List ℕ → ℕ → List ℕ) (password first : List ℕ) (mask : ℕ)
    → map (λ (e : Example). tells f password first mask e.asked) (examples f password first mask)
    ≡ map (λ (e : Example). e.told) (examples f password first mask)
unfolding has set_of count weaken_number weakened reduced joined weakening examples tells
examples_hold f password first mask = refl
