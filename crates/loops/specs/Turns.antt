-- What a loop makes of a value.
--     turns n f a    a after turns 0 to n - 1, of which turn i is f i
-- Assumes nothing.
use Rattle.std.specs.Prelude.{ℕ, zero, suc}

module _ {A : Type 0} where
  unfoldable pub turns : ℕ → (ℕ → A → A) → A → A
  turns zero f a = a
  turns (suc n) f a = f n (turns n f a)
