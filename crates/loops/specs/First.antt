-- Bytes by value from a part whose length is not known.
--     first_bytes n b    the first n bytes of b; n zero bytes where b has fewer
-- Assumes nothing.
use Rattle.std.specs.Prelude.{ℕ, true, false, List, ltb, length, take, replicate}

abbrev pub first_bytes : ℕ → List ℕ → List ℕ
first_bytes n b = elim (ltb (length b) n) [ true ↦ replicate n 0 | false ↦ take n b ]
