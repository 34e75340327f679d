-- What is told of a result: 0 where it is done, above 0 where it is refused; and at the exit of a `?` the number of what was
-- refused there.
-- Assumes nothing.
use mathlib.Core.Path.{◌≡◌, sym, ap, ◌∙◌}
use native.Mathlib.Omega.{arith}
use Rattle.std.specs.Prelude.{Result, Ok, Err}
use Rattle.std.specs.Result.{IsErrAnd}
use Rattle.std.proofs.lemmas.Result.{err_from_is_err_and}
use Rattle.numbers.specs.declared.Number.{Number}
use Rattle.numbers.specs.declared.Number.TheVariants.{Unsound, NoSuchPlace, Field, Gapped, Elsewhere, InUse, Twins, Inactive, Violated, NotPrimary, NotReferenced, OldPassword, Present, Absent, Short, NoRoom, Spent, ListLength, Link, Loop, Empty, Frozen, Whole, Apart, Length}
use Rattle.numbers.specs.Codes.{code, told}

pub code_above : (n : Number) → code n ≡ 0 → ⊥
code_above Unsound z = omega arith
code_above NoSuchPlace z = omega arith
code_above Field z = omega arith
code_above Gapped z = omega arith
code_above Elsewhere z = omega arith
code_above InUse z = omega arith
code_above Twins z = omega arith
code_above Inactive z = omega arith
code_above Violated z = omega arith
code_above NotPrimary z = omega arith
code_above NotReferenced z = omega arith
code_above OldPassword z = omega arith
code_above Present z = omega arith
code_above Absent z = omega arith
code_above Short z = omega arith
code_above NoRoom z = omega arith
code_above Spent z = omega arith
code_above ListLength z = omega arith
code_above Link z = omega arith
code_above Loop z = omega arith
code_above Empty z = omega arith
code_above Frozen z = omega arith
code_above Whole z = omega arith
code_above Apart z = omega arith
code_above Length z = omega arith

module _ {X : Type 0} (r : Result X Number) where
  pub told_ok : (x : X) → r ≡ Ok x → told r ≡ 0
  told_ok x e = ap told e

  module _ (n : Number) (e : r ≡ Err n) where
    pub told_err : told r ≡ code n
    told_err = ap told e

    pub told_above : told r ≡ 0 → ⊥
    told_above z = code_above n (sym told_err ∙ z)

    -- what the exit returns
    pub exit_err : {Y : Type 0} (q : Result Y Number) → IsErrAnd q (λ k. k ≡ n) → q ≡ Err n
    exit_err q i =
        let p = err_from_is_err_and q i in
        p.1 ∙ ap Err p.2
