-- The statement of two cuts and one cut is put to use at every width, in each mode.
-- Assumes nothing.
use Prim.Native.Nat.{ℕ}
use mathlib.Core.List.{List}
use Rattle.handle.specs.Handles.{Name}
use Rattle.handle.specs.Conversion.{SixteenBytes}
use Rattle.cuts.specs.cases.Uses.{UsesEach}
use Rattle.cuts.proofs.UseLaws.{uses_at}

module _ (f : Name → List ℕ → ℕ → List ℕ) (sixteen : SixteenBytes f) where
  pub uses_each : UsesEach f
  uses_each =
      record {
        four_read = uses_at f sixteen 21 1;
        four_write = uses_at f sixteen 21 2;
        eight_read = uses_at f sixteen 23 1;
        eight_write = uses_at f sixteen 23 2;
        sixteen_read = uses_at f sixteen 27 1;
        sixteen_write = uses_at f sixteen 27 2;
      }
