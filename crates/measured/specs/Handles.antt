-- Handles to measure with, from their bytes, each by its own width and under the conversion of its own name.
--     handed bs n       the bytes that a function wrote, and the length that it told
--     validated p b     whether the handle validates from the primary password p
--     weakened b u      the handle weakened by the mask u
-- Assumes nothing.
use Rattle.std.specs.Prelude.{ℕ, Bool, List}
use Rattle.handle.specs.declared.Handle.{Handle}
use Rattle.handle.specs.declared.HandleBytes.{HandleBytes}
use Rattle.handle.specs.Handles.{Weakened}
use Rattle.handle.specs.Handles.{decoded, name_of, width_of, validates, weakening}
use Rattle.handle.specs.Conversion.{product}

abbrev pub handed : List ℕ → ℕ → HandleBytes
handed bs n = record { length = n; bytes = bs }

abbrev pub validated_by : List ℕ → Handle → Bool
validated_by p h = validates (width_of h) (product (name_of h)) p h

abbrev pub weakened_by : Handle → ℕ → Weakened
weakened_by h u = weakening (width_of h) (product (name_of h)) h u

abbrev pub validated : List ℕ → List ℕ → Bool
validated p b = validated_by p (decoded b)

abbrev pub weakened : List ℕ → ℕ → Weakened
weakened b u = weakened_by (decoded b) u
