-- A step by its number: a call refused, a call done. In a sound store the number is that of the rows below the first.
-- Assumes nothing.
use mathlib.Core.Path.{◌≡◌, refl, ap}
use mathlib.Core.Bool.{Bool, true, not, cond}
use mathlib.Core.List.{List, [], ◌∷◌}
use Prim.Native.Nat.{ℕ, zero, suc}
use lib.ListN.{length}
use Rattle.loops.proofs.BelowLaws.{and_off}
use Rattle.handle.specs.Handles.{Name, first_of}
use Rattle.store.specs.declared.Store.{Store}
use Rattle.store.specs.Records.{table_at}
use Rattle.store.specs.Sound.{sound}
use Rattle.calls.specs.Calls.{Copy, Call, Arguments, call, delete_cluster, delete_segment, reduce}
use Rattle.calls.specs.Calls.{validate}
use Rattle.calls.specs.Calls.{among, buffer}
use Rattle.calls.specs.Numbers.{bad_length, unsound, tests, Line, at}
use Rattle.calls.specs.Numbers.{rows}
use Rattle.calls.specs.Numbers.{number}
use Rattle.calls.specs.Looks.{looked_by, looked}
use Rattle.calls.specs.Steps.{plain, cluster_deleted, segment_deleted, left, given, outcome, step}

module _ (f : Name → List ℕ → ℕ → List ℕ) (x : Call) (c : Copy) where
  pub step_refused : (n : ℕ) → number f x c.store (length c.memory) ≡ n → (n ≡ 0 → ⊥)
      → step f x c ≡ record { copy = c; reply = plain n (buffer x) }
  unfolding step
  step_refused zero e h = absurd (h refl)
  step_refused (suc n) e h = ap (λ (k : ℕ). outcome f k x c) e

  pub step_done : number f x c.store (length c.memory) ≡ 0
      → step f x c ≡ record { copy = left x.kind x c; reply = given f x.kind x c }
  unfolding step
  step_done e = ap (λ (k : ℕ). outcome f k x c) e

  -- a step whose reply has the number 0 is done
  pub step_number : (step f x c).reply.number ≡ 0 → number f x c.store (length c.memory) ≡ 0
  unfolding step
  step_number = go (number f x c.store (length c.memory))
    where
      go : (n : ℕ) → (outcome f n x c).reply.number ≡ 0 → n ≡ 0
      go zero e = refl
      go (suc n) e = e

-- deleting leaves memory bytes alone
pub deleting_keeps_bytes : (x : Call) (c : Copy)
    → ((left delete_cluster x c).memory ≡ c.memory) × ((left delete_segment x c).memory ≡ c.memory)
unfolding left cluster_deleted segment_deleted
deleting_keeps_bytes x c = (refl, refl)

-- validation's number is reduction's
pub number_validate : (f : Name → List ℕ → ℕ → List ℕ) (g : Arguments) (s : Store) (size : ℕ)
    → number f (call validate g) s size ≡ number f (call reduce g) s size
unfolding number tests
number_validate f g s size = refl

-- ---- in a sound store

abbrev below : List Line → List Line
below [] = []
below (l ∷ []) = l ∷ []
below (l ∷ m ∷ ls) = l ∷ ls

-- and those below both
abbrev rest : List Line → List Line
rest [] = []
rest (l ∷ []) = []
rest (l ∷ m ∷ ls) = ls

module _ (f : Name → List ℕ → ℕ → List ℕ) where
  abbrev pub number_below : Call → Store → ℕ → ℕ
  number_below x s size = first_of (at x s (below (rows f size)))

  pub number_below_lem : (x : Call) (s : Store) (size : ℕ) → sound s size ≡ true → number f x s size ≡ number_below x s size
  unfolding number unsound
  number_below_lem x s size e =
      ap (λ (t : Bool). cond (bad_length x) 25 (cond t 1 (first_of (at x s (rest (rows f size))))))
      (and_off (not (among (7 ∷ []) x.kind)) (not (sound s size)) (ap not e))

  -- and so is what a look tells
  pub looked_below_lem : (x : Call) (s : Store) (size : ℕ) → sound s size ≡ true
      → looked f x s size ≡ looked_by (number_below x s size) x (table_at s)
  unfolding looked
  looked_below_lem x s size e = ap (λ (n : ℕ). looked_by n x (table_at s)) (number_below_lem x s size e)
