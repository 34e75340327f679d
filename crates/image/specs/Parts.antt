-- Bytes cut in parts of one length, and put together from them.
--     part b from to    the bytes of b from `from` up to `to`
--     slot w b k        part k of b, where each has w bytes
--     joined n f        the parts f 0 to f (n - 1), one after the other
-- Assumes nothing.
use Rattle.std.specs.Prelude.{ℕ, zero, suc, ◌+◌, ◌*◌, ◌-◌, List, [], ◌++◌, take, drop}

abbrev pub part : List ℕ → ℕ → ℕ → List ℕ
part b from to = take (to - from) (drop from b)

abbrev pub slot : ℕ → List ℕ → ℕ → List ℕ
slot w b k = part b (k * w) (k * w + w)

unfoldable pub joined : ℕ → (ℕ → List ℕ) → List ℕ
joined zero f = []
joined (suc n) f = joined n f ++ f n
