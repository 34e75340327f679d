-- Document 01, "Numbers a call may be turned down with": 0 means done.
--     Clear rs            no row of rs applies
--     holding n rs        some row of rs with the number n applies
-- Assumes nothing.
use Rattle.std.specs.Prelude.{◌≡◌, ℕ, Bool, false, ◌&&◌, ◌||◌, List, [], ◌∷◌, eqb}
use Rattle.handle.specs.Handles.{Row}

abbrev pub Clear : List Row → Type 0
Clear [] = Unit {0}
Clear (r ∷ rs) = (r.applies ≡ false) × Clear rs

abbrev pub holding : ℕ → List Row → Bool
holding n [] = false
holding n (r ∷ rs) = eqb r.number n && r.applies || holding n rs
