-- The table in words. Row by row the test is the words', and each row may be told that no words above it hold; so the
-- first test that is true is that of the first words that hold.
-- Assumes nothing.
use mathlib.Core.Path.{◌≡◌, refl, sym}
use mathlib.Core.Logic.{◌⊎◌, inl, inr, ◌↔◌}
use Prim.Native.Nat.{ℕ, ◌<◌}
use native.Mathlib.Omega.{arith}
use mathlib.Core.Bool.{Bool, true, false, cond, false≢true}
use mathlib.Core.List.{List, [], ◌∷◌}
use Rattle.handle.specs.Handles.{Name, Row, first_of}
use Rattle.store.specs.declared.Store.{Store}
use Rattle.calls.specs.Calls.{Call}
use Rattle.calls.specs.Numbers.{at, rows, number}
use Rattle.calls.specs.Words.{Entry, Nothing, Told, table, TableInWords}
use Rattle.calls.proofs.FirstLaws.{Numbered}
use Rattle.calls.proofs.TestLaws.{Is}
use Rattle.calls.proofs.WordLaws.{bad_length_is, other_width_is, unsound_is, no_place_is, bad_field_is, gapped_row, apart_is, elsewhere_is, in_use_is, twins_is}
use Rattle.calls.proofs.WordLaws.{whole_row, inactive_is, not_primary_is, cluster_frozen_is, not_referenced_is, old_password_is, present_is}
use Rattle.calls.proofs.WordLaws.{absent_is, segment_frozen_is, short_is, full_node_is, empty_row, spent_row}
use Rattle.calls.proofs.ValidWords.{violated_is}

-- rows and entries with equal numbers, each test the words', where no words above hold
data Agree : List Row → List Entry → Type 1 where
  last : Agree [] []
  next : {n : ℕ} {b : Bool} {W : Type 0} {rs : List Row} {es : List Entry} → Is b W → (¬ W → Agree rs es)
      → Agree (record { number = n; applies = b } ∷ rs) (record { number = n; words = W } ∷ es)

told_first_lem : (rs : List Row) (es : List Entry) → Agree rs es → (n : ℕ) → 0 < n → (first_of rs ≡ n) ↔ Told es n
told_first_lem rs es last n h = (λ e. omega arith, λ t. absurd t)
told_first_lem rs es (next {n = m} {b = b} {W = W} {rs = rs'} {es = es'} t more) n h =
    go b t (λ w. told_first_lem rs' es' (more w) n h)
  where
    go : (b : Bool) → Is b W → (¬ W → (first_of rs' ≡ n) ↔ Told es' n)
        → (cond b m (first_of rs') ≡ n) ↔ (((n ≡ m) × W) ⊎ ((¬ W) × Told es' n))
    go true t ih = (λ e. inl (sym e, t.out refl), back)
      where
        back : ((n ≡ m) × W) ⊎ ((¬ W) × Told es' n) → m ≡ n
        back (inl (e, w)) = sym e
        back (inr (w, r)) = absurd (w (t.out refl))
    go false t ih = (λ e. inr (away, (ih away).0 e), back)
      where
        away : ¬ W
        away w = false≢true (t.into w)

        back : ((n ≡ m) × W) ⊎ ((¬ W) × Told es' n) → first_of rs' ≡ n
        back (inl (e, w)) = absurd (away w)
        back (inr (w, r)) = (ih away).1 r

nothing_first : (rs : List Row) (es : List Entry) → Numbered rs → Agree rs es → (first_of rs ≡ 0) ↔ Nothing es
nothing_first rs es d last = (λ e. tt, λ t. refl)
nothing_first rs es d (next {n = m} {b = b} {W = W} {rs = rs'} {es = es'} t more) =
    go b t (λ w. nothing_first rs' es' d.1 (more w))
  where
    go : (b : Bool) → Is b W → (¬ W → (first_of rs' ≡ 0) ↔ Nothing es')
        → (cond b m (first_of rs') ≡ 0) ↔ ((¬ W) × Nothing es')
    go true t ih = (λ e. let p = d.0 in absurd (omega arith), λ r. absurd (r.0 (t.out refl)))
    go false t ih = (λ e. (away, (ih away).0 e), λ r. (ih away).1 r.1)
      where
        away : ¬ W
        away w = false≢true (t.into w)

module _ (f : Name → List ℕ → ℕ → List ℕ) (x : Call) (s : Store) (size : ℕ) where
  agree : Agree (at x s (rows f size)) (table f x s size)
  agree =
      next (bad_length_is x) λ r25.
      next (unsound_is x s size) λ a.
      next (no_place_is x) λ b.
      next (bad_field_is x) λ c.
      next (gapped_row x) λ r4.
      next (apart_is x) λ r24.
      next (elsewhere_is x) λ r5.
      next (in_use_is x s) λ r6.
      next (twins_is x) λ r7.
      next (inactive_is x s) λ r8.
      next (other_width_is x s) λ q25.
      next (violated_is f x s c) λ r9.
      next (whole_row x) λ r23.
      next (not_primary_is x) λ r10.
      next (cluster_frozen_is x s) λ r22.
      next (not_referenced_is x) λ r11.
      next (old_password_is x s c) λ r12.
      next (present_is x s) λ r13.
      next (absent_is x s) λ r14.
      next (segment_frozen_is x s) λ q22.
      next (short_is x s) λ r15.
      next (full_node_is x s size a b c) λ r16.
      next (empty_row x) λ r21.
      next (spent_row x) λ r17. last

  pub table_in_words : TableInWords f x s size
  unfolding number
  table_in_words =
      record {
        done = nothing_first (at x s (rows f size)) (table f x s size) (omega arith) agree;
        told = told_first_lem (at x s (rows f size)) (table f x s size) agree;
      }
