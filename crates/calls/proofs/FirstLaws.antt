-- Laws of the first row that applies. Rows need to agree on two stores only as far as they are looked at: each may use
-- that those above it did not apply. Where the number is 0, none applies; any other number is that of a row which applies.
-- Assumes nothing.
use mathlib.Core.Path.{◌≡◌, refl, ap, ◌∙◌}
use mathlib.Core.Logic.{◌≢◌}
use Prim.Native.Nat.{ℕ, ◌<◌}
use native.Mathlib.Omega.{arith}
use mathlib.Core.Bool.{Bool, true, false, ◌&&◌, ◌||◌, cond, and-false}
use mathlib.Core.List.{List, [], ◌∷◌, ◌++◌}
use lib.Dec.{eqb}
use borrow.Author.Tests.{eq-eqb}
use Rattle.handle.specs.Handles.{Row, first_of}
use Rattle.store.specs.declared.Store.{Store}
use Rattle.calls.specs.Calls.{Call}
use Rattle.calls.specs.Numbers.{Line, at}
use Rattle.calls.specs.Clear.{Clear, holding}

module _ (x : Call) (a b : Store) where
  abbrev pub Agree : List Line → Type 0
  Agree [] = Unit {0}
  Agree (l ∷ ls) = (l x a ≡ l x b) × ((l x a).applies ≡ false → Agree ls)

  pub first_agree : (ls : List Line) → Agree ls → first_of (at x a ls) ≡ first_of (at x b ls)
  first_agree [] h = refl
  first_agree (l ∷ ls) h =
      ap (λ (r : Row). cond r.applies r.number (first_of (at x a ls))) h.0
      ∙ go (l x b).applies refl (first_agree ls)
    where
      go : (t : Bool) → (l x b).applies ≡ t → (Agree ls → first_of (at x a ls) ≡ first_of (at x b ls))
          → cond t (l x b).number (first_of (at x a ls)) ≡ cond t (l x b).number (first_of (at x b ls))
      go true e ih = refl
      go false e ih = ih (h.1 (ap (λ (r : Row). r.applies) h.0 ∙ e))

-- the number that is told is that of a row which applies
pub first_holding : (rs : List Row) (n : ℕ) → 0 < n → first_of rs ≡ n → holding n rs ≡ true
first_holding [] n h e = absurd (omega arith)
first_holding (r ∷ rs) n h e = go r.applies (first_holding rs n h) e
  where
    go : (t : Bool) → (first_of rs ≡ n → holding n rs ≡ true) → cond t r.number (first_of rs) ≡ n
        → eqb r.number n && t || holding n rs ≡ true
    go true ih e = ap (λ (b : Bool). b && true || holding n rs) (eq-eqb r.number n e)
    go false ih e = ap (λ (b : Bool). b || holding n rs) (and-false (eqb r.number n)) ∙ ih e

-- every number is above 0
abbrev pub Numbered : List Row → Type 0
Numbered [] = Unit {0}
Numbered (r ∷ rs) = (0 < r.number) × Numbered rs

-- a row that applies hides those below it
pub first_above : (rs qs : List Row) → first_of rs ≢ 0 → first_of (rs ++ qs) ≡ first_of rs
first_above [] qs t = absurd (t refl)
first_above (r ∷ rs) qs t = go r.applies t (first_above rs qs)
  where
    go : (b : Bool) → cond b r.number (first_of rs) ≢ 0 → (first_of rs ≢ 0 → first_of (rs ++ qs) ≡ first_of rs)
        → cond b r.number (first_of (rs ++ qs)) ≡ cond b r.number (first_of rs)
    go true t ih = refl
    go false t ih = ih t

-- what holds of a row, and what holds of the rows below it
infixr 2 ◌▸◌
pub ◌▸◌ : {A B : Type 0} → A → B → A × B
◌▸◌ a b = (a, b)

pub first_clear : (rs : List Row) → Numbered rs → first_of rs ≡ 0 → Clear rs
first_clear [] n e = tt
first_clear (r ∷ rs) n e = go r.applies refl (first_clear rs n.1) e
  where
    go : (t : Bool) → r.applies ≡ t → (first_of rs ≡ 0 → Clear rs) → cond t r.number (first_of rs) ≡ 0
        → Clear (r ∷ rs)
    go true q ih z = let h : 0 < r.number = n.0 in absurd (omega arith)
    go false q ih z = (q, ih z)
