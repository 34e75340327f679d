-- A list run from a sound copy: soundness is kept, so at each call the first row does not apply and the number is that
-- of the rows below it. So the list, and a test of each call on the copy that it gets, are computed with these rows alone; and
-- where its numbers are known, the replies and the copy left are computed from them.
-- Assumes nothing.
use mathlib.Core.Path.{◌≡◌, refl, ap, ap₂, ◌∙◌}
use Prim.Native.Nat.{ℕ}
use mathlib.Core.Bool.{Bool, true, false, ◌&&◌, ◌||◌}
use mathlib.Core.List.{List, [], ◌∷◌, ◌++◌, map}
use lib.Dec.{eqb}
use lib.ListN.{length}
use borrow.Author.Tests.{eqb-true}
use Rattle.loops.proofs.BelowLaws.{and_left, and_right}
use Rattle.handle.specs.Handles.{Name}
use Rattle.store.specs.declared.Store.{Store}
use Rattle.store.specs.Records.{table_at, read_mode, write_mode}
use Rattle.calls.specs.Looks.{Looked}
use Rattle.calls.specs.Calls.{Copy, Call, is_look}
use Rattle.calls.specs.Steps.{Reply, Outcome, Ran, followed, run_by, outcome, step, run}
use Rattle.calls.specs.Looks.{looked_by, looked}
use Rattle.isolation.specs.Copies.{SoundCopy, Along, keyed, Shut, AllShut, NoWriter, also, places}
use Rattle.calls.proofs.CallLaws.{or_left, or_right}
use Rattle.calls.proofs.StepLaws.{number_below, number_below_lem, looked_below_lem}
use Rattle.isolation.proofs.KeptLaws.{step_sound}

-- some call of a list passes a test, on the copies that q makes
abbrev pub some_by : (Call → Copy → Outcome) → (Call → Store → Bool) → List Call → Copy → Bool
some_by q t [] c = false
some_by q t (x ∷ xs) c = t x c.store || some_by q t xs (q x c).copy

-- two ways to carry out calls that are one on sound copies, and leave them sound
module _ (p q : Call → Copy → Outcome) (same : (x : Call) (c : Copy) → SoundCopy c → p x c ≡ q x c)
    (sound : (x : Call) (c : Copy) → SoundCopy c → SoundCopy (p x c).copy) where
  pub run_same : (xs : List Call) (c : Copy) → SoundCopy c → run_by p xs c ≡ run_by q xs c
  run_same [] c k = refl
  run_same (x ∷ xs) c k =
      ap (followed (p x c).reply) (run_same xs (p x c).copy (sound x c k))
      ∙ ap (λ (o : Outcome). followed o.reply (run_by q xs o.copy)) (same x c k)

  -- what follows of a call that does not pass a test holds along a list in which none does
  pub along_same : (t : Call → Store → Bool) (g : Call → Store → Type 0) → ((x : Call) (s : Store) → t x s ≡ false → g x s)
      → (xs : List Call) (c : Copy) → SoundCopy c → some_by q t xs c ≡ false → Along p g xs c
  along_same t g h [] c k e = tt
  along_same t g h (x ∷ xs) c k e = (
    h x c.store (or_left (t x c.store) (some_by q t xs (q x c).copy) e),
    along_same t g h xs (p x c).copy (sound x c k)
        (ap (λ (o : Outcome). some_by q t xs o.copy) (same x c k) ∙ or_right (t x c.store) (some_by q t xs (q x c).copy) e),
  )

module _ (f : Name → List ℕ → ℕ → List ℕ) where
  abbrev pub step_below : Call → Copy → Outcome
  step_below x c = outcome f (number_below f x c.store (length c.memory)) x c

  pub step_below_lem : (x : Call) (c : Copy) → SoundCopy c → step f x c ≡ step_below x c
  unfolding step
  step_below_lem x c k = ap (λ (n : ℕ). outcome f n x c) (number_below_lem f x c.store (length c.memory) k)

  abbrev pub run_below : List Call → Copy → Ran
  run_below = run_by step_below

  pub run_below_lem : (xs : List Call) (c : Copy) → SoundCopy c → run f xs c ≡ run_below xs c
  run_below_lem = run_same (step f) step_below step_below_lem (step_sound f)

  -- ---- a list whose numbers are known is carried out by them, so that each is computed once

  abbrev pub numbers_of : List Reply → List ℕ
  numbers_of rs = map (λ (r : Reply). r.number) rs

  abbrev pub ran_by : List ℕ → List Call → Copy → Ran
  ran_by ns [] c = record { replies = []; copy = c }
  ran_by [] (x ∷ xs) c = run_below (x ∷ xs) c
  ran_by (n ∷ ns) (x ∷ xs) c = followed (outcome f n x c).reply (ran_by ns xs (outcome f n x c).copy)

  -- these are the numbers
  abbrev pub numbered : List ℕ → List Call → Copy → Bool
  numbered ns [] c = true
  numbered [] (x ∷ xs) c = true
  numbered (n ∷ ns) (x ∷ xs) c =
      eqb (number_below f x c.store (length c.memory)) n && numbered ns xs (outcome f n x c).copy

  pub ran_by_lem : (ns : List ℕ) (xs : List Call) (c : Copy) → numbered ns xs c ≡ true → run_below xs c ≡ ran_by ns xs c
  ran_by_lem ns [] c e = refl
  ran_by_lem [] (x ∷ xs) c e = refl
  ran_by_lem (n ∷ ns) (x ∷ xs) c e =
      ap (λ (k : ℕ). followed (outcome f k x c).reply (run_below xs (outcome f k x c).copy))
      (eqb-true told n (and_left (eqb told n) _ e))
      ∙ ap (followed (outcome f n x c).reply) (ran_by_lem ns xs (outcome f n x c).copy (and_right (eqb told n) _ e))
    where
      told : ℕ
      told = number_below f x c.store (length c.memory)

  pub run_by_lem : (ns : List ℕ) (xs : List Call) (c : Copy) → SoundCopy c → numbered ns xs c ≡ true
      → run f xs c ≡ ran_by ns xs c
  run_by_lem ns xs c k e = run_below_lem xs c k ∙ ran_by_lem ns xs c e

  -- a call, by what it is known to leave and give, and then a list
  pub then_below : (x : Call) (xs : List Call) (c : Copy) (o : Outcome) (n : Ran) → step_below x c ≡ o
      → run_below xs o.copy ≡ n → run_below (x ∷ xs) c ≡ followed o.reply n
  then_below x xs c o n e r =
      ap (λ (t : Outcome). followed t.reply (run_below xs t.copy)) e ∙ ap (followed o.reply) r

  -- a list and then another
  pub append_below : (xs ys : List Call) (c : Copy)
      → run_below (xs ++ ys) c
      ≡ record {
        replies = (run_below xs c).replies ++ (run_below ys (run_below xs c).copy).replies;
        copy = (run_below ys (run_below xs c).copy).copy;
      }
  append_below [] ys c = refl
  append_below (x ∷ xs) ys c = ap (followed (step_below x c).reply) (append_below xs ys (step_below x c).copy)

  -- the places that the looks of a list tell
  abbrev pub looked_below : Call → Copy → Looked
  looked_below x c = looked_by (number_below f x c.store (length c.memory)) x (table_at c.store)

  abbrev pub places_below : List Call → Copy → List Looked
  places_below [] c = []
  places_below (x ∷ xs) c = also (is_look x.kind) (looked_below x c) (places_below xs (step_below x c).copy)

  pub places_below_lem : (xs : List Call) (c : Copy) → SoundCopy c → places f xs c ≡ places_below xs c
  places_below_lem [] c k = refl
  places_below_lem (x ∷ xs) c k =
      ap (also (is_look x.kind) (looked f x c.store (length c.memory)))
      (places_below_lem xs (step f x c).copy (step_sound f x c k))
      ∙ ap (λ (o : Outcome). also (is_look x.kind) (looked f x c.store (length c.memory)) (places_below xs o.copy))
      (step_below_lem x c k)
      ∙ ap (λ (l : Looked). also (is_look x.kind) l (places_below xs (step_below x c).copy))
      (looked_below_lem f x c.store (length c.memory) k)

  also_append : (t : Bool) (l : Looked) (ls ms : List Looked) → also t l (ls ++ ms) ≡ also t l ls ++ ms
  also_append true l ls ms = refl
  also_append false l ls ms = refl

  -- a list and then another
  pub append_places : (xs ys : List Call) (c : Copy)
      → places_below (xs ++ ys) c ≡ places_below xs c ++ places_below ys (run_below xs c).copy
  append_places [] ys c = refl
  append_places (x ∷ xs) ys c =
      ap (also (is_look x.kind) (looked_below x c)) (append_places xs ys (step_below x c).copy)
      ∙ also_append (is_look x.kind) (looked_below x c) (places_below xs (step_below x c).copy) _

  abbrev pub some_below : (Call → Store → Bool) → List Call → Copy → Bool
  some_below = some_by step_below

  -- a list and then another
  pub append_some : (t : Call → Store → Bool) (xs ys : List Call) (c : Copy) → some_below t xs c ≡ false
      → some_below t ys (run_below xs c).copy ≡ false → some_below t (xs ++ ys) c ≡ false
  append_some t [] ys c e r = r
  append_some t (x ∷ xs) ys c e r =
      let a = t x c.store in
      let b = some_below t xs (step_below x c).copy in
      ap₂ (λ (u v : Bool). u || v) (or_left a b e) (append_some t xs ys (step_below x c).copy (or_right a b e) r)

  pub along_below : (t : Call → Store → Bool) (g : Call → Store → Type 0) → ((x : Call) (s : Store) → t x s ≡ false → g x s)
      → (xs : List Call) (c : Copy) → SoundCopy c → some_below t xs c ≡ false → Along (step f) g xs c
  along_below = along_same (step f) step_below step_below_lem (step_sound f)

  module _ (node local : ℕ) where
    abbrev pub is_keyed : Call → Store → Bool
    is_keyed x s = keyed node local f read_mode x s || keyed node local f write_mode x s

    pub shut_below : (xs : List Call) (c : Copy) → SoundCopy c → some_below is_keyed xs c ≡ false
        → AllShut node local f xs c
    shut_below =
        along_below is_keyed (Shut node local f)
        (λ x s e. let r = keyed node local f read_mode x s in let w = keyed node local f write_mode x s in (or_left r w e, or_right r w e))

    pub unwritten_below : (xs : List Call) (c : Copy) → SoundCopy c
        → some_below (keyed node local f write_mode) xs c ≡ false → NoWriter node local f xs c
    unwritten_below = along_below (keyed node local f write_mode) (λ x s. keyed node local f write_mode x s ≡ false) (λ x s e. e)
