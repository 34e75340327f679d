-- A list whose numbers are known, in one pass: each call has its number, and none passes a test. And a list many times over: where it
-- leaves a copy as it found it, or does so from the second time on, all that holds of one round holds of any number of rounds, by
-- induction over the number.
-- Assumes nothing.
use mathlib.Core.Path.{◌≡◌, refl, sym, ap, ap₂, ◌∙◌}
use Prim.Native.Nat.{ℕ, zero, suc}
use mathlib.Core.Bool.{Bool, true, false, not, ◌&&◌, ◌||◌, true≢false}
use mathlib.Core.List.{List, [], ◌∷◌, ◌++◌}
use lib.Dec.{eqb}
use lib.ListN.{length}
use borrow.Author.Tests.{eqb-true, not-true}
use Rattle.loops.proofs.BelowLaws.{and_left, and_right}
use Rattle.handle.specs.Handles.{Name}
use Rattle.store.specs.declared.Store.{Store}
use Rattle.store.specs.Records.{table_at}
use Rattle.calls.specs.Looks.{Looked}
use Rattle.calls.specs.Calls.{Copy, Call, is_look}
use Rattle.calls.specs.Steps.{Reply, Ran, followed, outcome}
use Rattle.calls.specs.Looks.{looked_by}
use Rattle.calls.proofs.StepLaws.{number_below}
use Rattle.isolation.specs.Copies.{also}
use Rattle.isolation.specs.UseLists.{repeated}
use Rattle.isolation.proofs.RunLaws.{run_below, append_below, places_below, append_places, some_below, append_some, ran_by}

module _ (f : Name → List ℕ → ℕ → List ℕ) where
  -- ---- one pass

  -- these are the numbers, and no call passes the test t
  abbrev pub checked : (Call → Store → Bool) → List ℕ → List Call → Copy → Bool
  checked t ns [] c = true
  checked t [] (x ∷ xs) c = false
  checked t (n ∷ ns) (x ∷ xs) c =
      eqb (number_below f x c.store (length c.memory)) n && (not (t x c.store) && checked t ns xs (outcome f n x c).copy)

  -- what the looks tell, by the numbers
  abbrev pub told_by : List ℕ → List Call → Copy → List Looked
  told_by ns [] c = []
  told_by [] (x ∷ xs) c = []
  told_by (n ∷ ns) (x ∷ xs) c =
      also (is_look x.kind) (looked_by n x (table_at c.store)) (told_by ns xs (outcome f n x c).copy)

  module _ (t : Call → Store → Bool) where
    -- a list on the copy c: it leaves d, gives rs, its looks tell ls, and no call passes the test
    pub record Round (xs : List Call) (c d : Copy) (rs : List Reply) (ls : List Looked) : Type 0 where
      pub ran : run_below f xs c ≡ record { replies = rs; copy = d }
      pub untested : some_below f t xs c ≡ false
      pub looked : places_below f xs c ≡ ls

    module _ (n : ℕ) (ns : List ℕ) (x : Call) (xs : List Call) (c : Copy) (e : checked t (n ∷ ns) (x ∷ xs) c ≡ true) where
      abbrev told : ℕ
      told = number_below f x c.store (length c.memory)

      number_is : told ≡ n
      number_is = eqb-true told n (and_left (eqb told n) _ e)

      passes_not : t x c.store ≡ false
      passes_not = not-true (t x c.store) (and_left (not (t x c.store)) _ (and_right (eqb told n) _ e))

      rest : checked t ns xs (outcome f n x c).copy ≡ true
      rest = and_right (not (t x c.store)) _ (and_right (eqb told n) _ e)

    checked_ran : (ns : List ℕ) (xs : List Call) (c : Copy) → checked t ns xs c ≡ true → run_below f xs c ≡ ran_by f ns xs c
    checked_ran ns [] c e = refl
    checked_ran [] (x ∷ xs) c e = refl
    checked_ran (n ∷ ns) (x ∷ xs) c e =
        ap (λ (k : ℕ). followed (outcome f k x c).reply (run_below f xs (outcome f k x c).copy)) (number_is n ns x xs c e)
        ∙ ap (followed (outcome f n x c).reply) (checked_ran ns xs (outcome f n x c).copy (rest n ns x xs c e))

    checked_none : (ns : List ℕ) (xs : List Call) (c : Copy) → checked t ns xs c ≡ true → some_below f t xs c ≡ false
    checked_none ns [] c e = refl
    checked_none [] (x ∷ xs) c e = absurd (true≢false (sym e))
    checked_none (n ∷ ns) (x ∷ xs) c e =
        ap₂ (λ (u w : Bool). u || w) (passes_not n ns x xs c e)
        (ap (λ (k : ℕ). some_below f t xs (outcome f k x c).copy) (number_is n ns x xs c e)
        ∙ checked_none ns xs (outcome f n x c).copy (rest n ns x xs c e))

    checked_told : (ns : List ℕ) (xs : List Call) (c : Copy) → checked t ns xs c ≡ true → places_below f xs c ≡ told_by ns xs c
    checked_told ns [] c e = refl
    checked_told [] (x ∷ xs) c e = absurd (true≢false (sym e))
    checked_told (n ∷ ns) (x ∷ xs) c e =
        ap (λ (k : ℕ). also (is_look x.kind) (looked_by k x (table_at c.store)) (places_below f xs (outcome f k x c).copy))
        (number_is n ns x xs c e)
        ∙ ap (also (is_look x.kind) (looked_by n x (table_at c.store)))
        (checked_told ns xs (outcome f n x c).copy (rest n ns x xs c e))

    -- what is computed of a list, from one pass
    pub round : (ns : List ℕ) (xs : List Call) (c d : Copy) (rs : List Reply) (ls : List Looked) → checked t ns xs c ≡ true
        → ran_by f ns xs c ≡ record { replies = rs; copy = d } → told_by ns xs c ≡ ls → Round xs c d rs ls
    round ns xs c d rs ls e r l =
        record {
          ran = checked_ran ns xs c e ∙ r;
          untested = checked_none ns xs c e;
          looked = checked_told ns xs c e ∙ l;
        }

    -- ---- many rounds

    -- one list and then another
    pub round_append : (xs ys : List Call) (c d e : Copy) (rs qs : List Reply) (ls ks : List Looked) → Round xs c d rs ls
        → Round ys d e qs ks → Round (xs ++ ys) c e (rs ++ qs) (ls ++ ks)
    round_append xs ys c d e rs qs ls ks a b =
        record {
          ran =
              append_below f xs ys c
              ∙ ap
              (λ (n : Ran).
              record { replies = n.replies ++ (run_below f ys n.copy).replies; copy = (run_below f ys n.copy).copy })
              a.ran
              ∙ ap (λ (n : Ran). record { replies = rs ++ n.replies; copy = n.copy }) b.ran;
          untested =
              append_some f t xs ys c a.untested
              (ap (λ (n : Ran). some_below f t ys n.copy) a.ran ∙ b.untested);
          looked =
              append_places f xs ys c
              ∙ ap (λ (n : Ran). places_below f xs c ++ places_below f ys n.copy) a.ran
              ∙ ap₂ (λ (u w : List Looked). u ++ w) a.looked b.looked;
        }

    module _ (xs : List Call) (rs : List Reply) (ls : List Looked) where
      -- a round that leaves the copy as it found it
      pub rounds_same : (d : Copy) → Round xs d d rs ls → (n : ℕ)
          → Round (repeated n xs) d d (repeated n rs) (repeated n ls)
      rounds_same d a zero = record { ran = refl; untested = refl; looked = refl }
      rounds_same d a (suc n) = round_append xs (repeated n xs) d d d rs (repeated n rs) ls (repeated n ls) a (rounds_same d a n)

      -- or from the second time on
      abbrev pub ends : ℕ → Copy → Copy → Copy
      ends zero c d = c
      ends (suc n) c d = d

      pub rounds : (c d : Copy) → Round xs c d rs ls → Round xs d d rs ls → (n : ℕ)
          → Round (repeated n xs) c (ends n c d) (repeated n rs) (repeated n ls)
      rounds c d a b zero = record { ran = refl; untested = refl; looked = refl }
      rounds c d a b (suc n) =
          round_append xs (repeated n xs) c d d rs (repeated n rs) ls (repeated n ls) a (rounds_same d b n)
