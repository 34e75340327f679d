-- The use of what a freeze leaves: a segment that is frozen for the first time, and one that is frozen again.
-- Assumes nothing.
use mathlib.Core.Path.{◌∙◌}
use Prim.Native.Nat.{ℕ}
use native.Mathlib.Omega.{arith}
use mathlib.Core.List.{List, ◌∷◌}
use Rattle.handle.specs.Handles.{Name}
use Rattle.calls.specs.Calls.{Copy, Call, freezing}
use Rattle.calls.specs.Steps.{run}
use Rattle.calls.specs.Literals.{sixteen}
use Rattle.isolation.specs.Frozen.{Fixed}
use Rattle.isolation.specs.UseLists.{Wide, top, own, keeping}
use Rattle.isolation.specs.Uses.{FreezeUses}
use Rattle.isolation.proofs.UseCopyLaws.{at_high, its_top, its_first}
use Rattle.isolation.proofs.HolderUseLaws.{from_then_on, again_from, top_bytes}

module _ (f : Name → List ℕ → ℕ → List ℕ) where
  abbrev copy : Wide → List ℕ → ℕ → ℕ → ℕ → ℕ → ℕ → Copy
  copy v r b c d y z = keeping v r (sixteen 34) b c d y z

  module _ (v : Wide) (r : List ℕ) (b c d y z : ℕ) (xs : List Call) where
    from : Fixed 3 7 0 4 2 (copy v r b c d y z) (run f (freezing 3 0 (own v 3 7 34) ∷ xs) (copy v r b c d y z)).copy
    from = (from_then_on f v r b c d y z xs).fixed 4 2 (its_first v r (sixteen 34))

    again : Fixed 3 7 (top v) 0 4 (copy v r b c d y z)
        (run f (freezing 3 (top v) (own v 3 7 34) ∷ xs) (copy v r b c d y z)).copy
    again = (again_from f v r b c d y z xs).fixed 0 4 (its_top v r (sixteen 34))

    pub freeze_uses : FreezeUses f v r b c d y z xs
    freeze_uses =
        record {
          present = (from_then_on f v r b c d y z xs).present;
          active = from.active;
          place = from.place;
          frozen = from.frozen;
          bytes = (
            from.bytes 0 (omega arith) ∙ at_high v r (sixteen 34) b c d y z 4,
            from.bytes 1 (omega arith) ∙ at_high v r (sixteen 34) b c d y z 5,
          );
          again_present = (again_from f v r b c d y z xs).present;
          again_active = again.active;
          again_place = again.place;
          again_frozen = again.frozen;
          again_bytes = top_bytes v r (sixteen 34) b c d y z _ again;
        }
