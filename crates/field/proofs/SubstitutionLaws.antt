-- The rule of the substitution table: one test over all 256 entries makes a list the table, and the table has the rule
-- at each entry.
-- Assumes nothing.
use mathlib.Core.Path.{◌≡◌, ap, ◌∙◌}
use mathlib.Core.Bool.{Bool, true}
use mathlib.Core.List.{List}
use Prim.Native.Nat.{ℕ, ◌<◌}
use lib.Dec.{eqb}
use lib.ListN.{length, get_or}
use Rattle.loops.specs.Below.{every}
use Rattle.loops.proofs.BelowLaws.{every_equal}
use Rattle.loops.proofs.TabulateLaws.{get_d_tabulate, tabulate_is}
use Rattle.field.specs.Substitution.{sbox, substitution}

unfoldable pub obeys : List ℕ → Bool
obeys t = every 256 (λ x. eqb (get_or t x 0) (sbox x))

pub substitution_tested : (t : List ℕ) → length t ≡ 256 → obeys t ≡ true → t ≡ substitution
unfolding obeys substitution
substitution_tested t e test = tabulate_is 256 sbox 0 t e (every_equal 256 (λ x. get_or t x 0) sbox test)

pub substitution_at : (t : List ℕ) → t ≡ substitution → (x : ℕ) → x < 256 → get_or t x 0 ≡ sbox x
unfolding substitution
substitution_at t e x h = ap (λ (l : List ℕ). get_or l x 0) e ∙ get_d_tabulate 256 sbox 0 x h
