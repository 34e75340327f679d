-- A freeze and a deletion of the same segment meet the same rows, but for one: below them the deletion has row 22. So
-- where that row is not what is told, their numbers are equal; where it is, the freeze meets no row.
-- Assumes nothing.
use mathlib.Core.Path.{◌≡◌, refl, sym, ◌∙◌}
use mathlib.Core.Logic.{◌≢◌}
use Prim.Native.Nat.{ℕ}
use native.Mathlib.Omega.{arith}
use mathlib.Core.Bool.{Bool, true, false, cond}
use mathlib.Core.List.{List, [], ◌∷◌, ◌++◌}
use Rattle.handle.specs.Handles.{Name, Row, first_of}
use Rattle.store.specs.declared.Store.{Store}
use Rattle.store.specs.Records.{table_at}
use Rattle.calls.specs.Calls.{Call, Arguments, call, delete_segment, freeze, frozen_for}
use Rattle.calls.specs.Numbers.{bad_length, other_width, unsound, no_place, bad_field, gapped_handle, elsewhere, inactive_cluster, violated}
use Rattle.calls.specs.Numbers.{not_primary, segment_absent, number, tests}
use Rattle.calls.specs.FreezeWords.{FreezeRefused}

abbrev row : ℕ → Bool → Row
row n t = record { number = n; applies = t }

-- rows, and row 22 below them
abbrev above : List Row → Bool → ℕ
above rs t = first_of (rs ++ (row 22 t ∷ []))

-- no row of these has the number 22
abbrev Low : List Row → Type 0
Low [] = Unit {0}
Low (r ∷ rs) = (r.number ≢ 22) × Low rs

above_same : (rs : List Row) (t : Bool) → above rs t ≢ 22 → above rs false ≡ above rs t
above_same [] true n = absurd (n refl)
above_same [] false n = refl
above_same (r ∷ rs) t n = go r.applies (above_same rs t) n
  where
    go : (a : Bool) → (above rs t ≢ 22 → above rs false ≡ above rs t) → cond a r.number (above rs t) ≢ 22
        → cond a r.number (above rs false) ≡ cond a r.number (above rs t)
    go true ih n = refl
    go false ih n = ih n

above_last : (rs : List Row) → Low rs → (t : Bool) → above rs t ≡ 22 → above rs false ≡ 0
above_last [] l t e = refl
above_last (r ∷ rs) l t e = go r.applies (above_last rs l.1 t) e
  where
    go : (a : Bool) → (above rs t ≡ 22 → above rs false ≡ 0) → cond a r.number (above rs t) ≡ 22
        → cond a r.number (above rs false) ≡ 0
    go true ih e = absurd (l.0 e)
    go false ih e = ih e

above_never : (rs : List Row) → Low rs → above rs false ≢ 22
above_never [] l e = omega arith
above_never (r ∷ rs) l e = go r.applies (above_never rs l.1) e
  where
    go : (a : Bool) → above rs false ≢ 22 → cond a r.number (above rs false) ≢ 22
    go true ih e = l.0 e
    go false ih e = ih e

module _ (f : Name → List ℕ → ℕ → List ℕ) (g : Arguments) (s : Store) (size : ℕ) where
  abbrev x : Call
  x = call freeze g

  -- the rows that both meet
  abbrev both : List Row
  both =
      row 25 (bad_length x)
      ∷ row 1 (unsound size x s)
      ∷ row 2 (no_place x)
      ∷ row 3 (bad_field x)
      ∷ row 4 (gapped_handle x)
      ∷ row 5 (elsewhere x)
      ∷ row 8 (inactive_cluster x (table_at s))
      ∷ row 25 (other_width x (table_at s))
      ∷ row 9 (violated f x s)
      ∷ row 10 (not_primary x)
      ∷ row 14 (segment_absent x (table_at s))
      ∷ []

  low : Low both
  low = (
    λ e. omega arith,
    (
      λ e. omega arith,
      (
        λ e. omega arith,
        (
          λ e. omega arith,
          (
            λ e. omega arith,
            (
              λ e. omega arith,
              (
                λ e. omega arith,
                (λ e. omega arith, (λ e. omega arith, (λ e. omega arith, (λ e. omega arith, tt)))),
              ),
            ),
          ),
        ),
      ),
    ),
  )

  freezes : number f (call freeze g) s size ≡ above both false
  unfolding number tests
  freezes = refl

  deletes : number f (call delete_segment g) s size ≡ above both (frozen_for x (table_at s))
  unfolding number tests
  deletes = refl

  pub freeze_refused : FreezeRefused f g s size
  freeze_refused =
      record {
        alike = λ n. freezes ∙ above_same both (frozen_for x (table_at s)) (λ e. n (deletes ∙ e)) ∙ sym deletes;
        done = λ e. freezes ∙ above_last both low (frozen_for x (table_at s)) (sym deletes ∙ e);
        never = λ e. above_never both low (sym freezes ∙ e);
      }
