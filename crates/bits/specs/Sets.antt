-- Numbers as sets of bits, for every width w.
--     has i s      bit i of s is set, 0 the least
--     full w       the number with all w bits set: 2 ^ w - 1
--     one b        1 where b is true, else 0
--     set_of w p    the number whose bit i is p i, for each i below w
--     count w p    how many i below w have p i
-- Assumes nothing.
use Rattle.std.specs.Prelude.{ℕ, zero, suc, ◌+◌, ◌-◌, ◌*◌, ◌/◌, ◌%◌, ◌^◌, Bool, true, false, eqb}

unfoldable pub has : ℕ → ℕ → Bool
has i s = eqb (s / 2 ^ i % 2) 1

abbrev pub full : ℕ → ℕ
full w = 2 ^ w - 1

abbrev pub one : Bool → ℕ
one true = 1
one false = 0

unfoldable pub set_of : ℕ → (ℕ → Bool) → ℕ
set_of zero p = 0
set_of (suc w) p = set_of w (λ i. p (suc i)) * 2 + one (p 0)

unfoldable pub count : ℕ → (ℕ → Bool) → ℕ
count zero p = 0
count (suc w) p = one (p 0) + count w (λ i. p (suc i))
