-- What is lent to the rounds, so that it is laid out once for many blocks.
--     IsTables t    t is what the rounds ask for: the substitution table
-- Assumes nothing.
use Rattle.std.specs.Prelude.{◌≡◌, List, ℕ}
use Rattle.field.specs.Substitution.{substitution}

abbrev pub IsTables : List ℕ → Type 0
IsTables t = t ≡ substitution
