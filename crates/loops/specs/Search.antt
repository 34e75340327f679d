-- Searches among the numbers below a bound.
--     least_from n k p    the least of the n numbers from k on of which p holds, or none
--     least n p          the least number below n of which p holds, or none
-- Assumes nothing.
use Rattle.std.specs.Prelude.{ℕ, zero, suc, Bool, true, false}
use Rattle.std.proofs.Math.Option.{Option, none, some}

unfoldable pub least_from : ℕ → ℕ → (ℕ → Bool) → Option ℕ
least_from zero k p = none
least_from (suc n) k p = elim (p k) [ true ↦ some k | false ↦ least_from n (suc k) p ]

unfoldable pub least : ℕ → (ℕ → Bool) → Option ℕ
least n p = least_from n 0 p
