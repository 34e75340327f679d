-- Document 02, §5, "Join two handles": what joining makes, for every width w, every conversion f and every primary
-- password p.
--     NoMore k h      k references no more than h
--     Joins h k       of the handles h and k:
--       opens           where the union is not all of the width, the result has the name of h, is whole and ungapped,
--                       validates from p, and references exactly the segments that either references
--       never_primary   and it is not primary
--       whole           where the union is all of the width, what would be made is primary in form
--       primary         where h is primary, the union is all of the width
--       swapped         of one name, they join to the same handle either way round
--       union           and their union is the same either way
--       within          where h is not primary and k references no more, the union is not all of the width, and the result
--                       is the reduction of h
--     JoinsItself h   so a handle that is not primary, joined with itself, gives its own reduction
-- Assumes nothing.
use Rattle.std.specs.Prelude.{ℕ, ◌<◌, ◌≡◌, true, false, List}
use Rattle.handle.specs.declared.Handle.{Handle}
use Rattle.handle.specs.Selectors.{references, either, all_flat, union, whole_union}
use Rattle.handle.specs.Handles.{name_of, width_of, reduced, joined}
use Rattle.handle.specs.Opens.{Whole, Opens}

abbrev pub NoMore : ℕ → Handle → Handle → Type 0
NoMore w k h = (i : ℕ) → i < w → references k.selector i ≡ true → references h.selector i ≡ true

module _ (w : ℕ) (f : List ℕ → ℕ → List ℕ) (p : List ℕ) where
  pub record Joins (h k : Handle) : Type 0 where
    pub opens : width_of h ≡ w → whole_union w h.selector k.selector ≡ false
        → Opens w f (name_of h) p (either h.selector k.selector) (joined w f h k p)
    pub never_primary : whole_union w h.selector k.selector ≡ false
        → all_flat w (joined w f h k p).selector ≡ false
    pub whole : whole_union w h.selector k.selector ≡ true → all_flat w (joined w f h k p).selector ≡ true
    pub primary : all_flat w h.selector ≡ true → whole_union w h.selector k.selector ≡ true
    pub swapped : name_of h ≡ name_of k → h.width ≡ k.width → joined w f h k p ≡ joined w f k h p
    pub union : union w h.selector k.selector ≡ union w k.selector h.selector
    pub within : Whole w h → all_flat w h.selector ≡ false → NoMore w k h
        → (whole_union w h.selector k.selector ≡ false) × (joined w f h k p ≡ reduced w f h p)

  abbrev pub JoinsItself : Handle → Type 0
  JoinsItself h =
      Whole w h → all_flat w h.selector ≡ false
      → (whole_union w h.selector h.selector ≡ false) × (joined w f h h p ≡ reduced w f h p)
