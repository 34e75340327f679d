-- The version of the library, as one number. What a change of each of its three numbers means stands in the header.
--     version    that of 0.9.0: ten thousand times the first number, a hundred times the second, and the third
-- Assumes nothing.
use Rattle.std.specs.Prelude.{ℕ, ◌+◌, ◌*◌}

abbrev pub version : ℕ
version = 0 * 10000 + 9 * 100 + 0
