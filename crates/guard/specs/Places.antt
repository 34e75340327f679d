-- Where lent bytes lie: `ptr` gives the block of memory that a reference points to, and the place in it.
--     further p n       n bytes further in the same block
-- Assumes nothing.
use Rattle.std.specs.Prelude.{ℕ, ◌+◌}

abbrev pub further : ℕ × ℕ → ℕ → ℕ × ℕ
further p n = (p.0, p.1 + n)
