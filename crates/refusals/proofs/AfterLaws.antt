-- Rows after rows: a row told above hides all below it, so the number is that of the upper rows where it is not 0, else
-- that of the lower.
-- Assumes nothing.
use mathlib.Core.Path.{◌≡◌, refl, sym, ap, ◌∙◌}
use mathlib.Core.Bool.{Bool, true, false, cond}
use mathlib.Core.List.{List, [], ◌∷◌, ◌++◌}
use Prim.Native.Nat.{ℕ, zero, suc, ◌<◌}
use native.Mathlib.Omega.{arith}
use Rattle.std.specs.Prelude.{Result, Ok, Err}
use Rattle.std.specs.Result.{IsErrAnd}
use Rattle.numbers.specs.declared.Number.{Number}
use Rattle.numbers.specs.Codes.{told}
use Rattle.handle.specs.Handles.{Row, first_of}
use Rattle.calls.proofs.FirstLaws.{Numbered}
use Rattle.numbers.proofs.ToldLaws.{told_ok, told_err, told_above, exit_err}
use Rattle.refusals.specs.Rows.{after}

pub after_told : (n rest : ℕ) → (n ≡ 0 → ⊥) → after n rest ≡ n
after_told zero rest t = absurd (t refl)
after_told (suc n) rest t = refl

pub after_none : (n : ℕ) → after n 0 ≡ n
after_none zero = refl
after_none (suc n) = refl

pub after_zero : (n m : ℕ) → after n m ≡ 0 → (n ≡ 0) × (m ≡ 0)
after_zero zero m e = (refl, e)
after_zero (suc n) m e = absurd (omega arith)

pub after_after : (a b c : ℕ) → after (after a b) c ≡ after a (after b c)
after_after zero b c = refl
after_after (suc a) b c = refl

pub first_append : (rs qs : List Row) → Numbered rs → first_of (rs ++ qs) ≡ after (first_of rs) (first_of qs)
first_append [] qs n = refl
first_append (r ∷ rs) qs n = go r.applies r.number n.0 (first_append rs qs n.1)
  where
    go : (t : Bool) (k : ℕ) → 0 < k → first_of (rs ++ qs) ≡ after (first_of rs) (first_of qs)
        → cond t k (first_of (rs ++ qs)) ≡ after (cond t k (first_of rs)) (first_of qs)
    go true zero h ih = absurd (omega arith)
    go true (suc k) h ih = refl
    go false k h ih = ih

-- ---- after a `?`, where what is asked there tells the first of the upper rows

module _ {X : Type 0} (rs qs : List Row) (numbered : Numbered rs) (r : Result X Number) (er : told r ≡ first_of rs) where
  all : first_of (rs ++ qs) ≡ after (told r) (first_of qs)
  all = first_append rs qs numbered ∙ ap (λ (k : ℕ). after k (first_of qs)) (sym er)

  -- at its exit that number is told
  pub exit_first : (n : Number) → r ≡ Err n → {Y : Type 0} (q : Result Y Number) → IsErrAnd q (λ k. k ≡ n)
      → told q ≡ first_of (rs ++ qs)
  exit_first n e q i =
      ap told (exit_err r n e q i) ∙ sym (told_err r n e)
      ∙ sym (all ∙ after_told (told r) (first_of qs) (told_above r n e))

  -- behind it the lower rows are left
  pub passed_first : (x : X) → r ≡ Ok x → first_of (rs ++ qs) ≡ first_of qs
  passed_first x e = all ∙ ap (λ (k : ℕ). after k (first_of qs)) (told_ok r x e)
