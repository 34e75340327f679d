-- Document 01, "The list of calls": how numbers and bytes are written.
--     ascii s            the bytes of a text in ASCII
--     space, line_feed    what stands between words, and what ends a line
--     digit d            the digit of a number below 16: 0 to 9, then a to f
--     decimal n          a number in decimal, with no zero in front: below 10 its digit; else the tenth part in decimal,
--                        then the digit of the rest
--     decimal_in k n      the same for a number of at most k digits; no number n has more than n + 1
--     hexadecimal bs     bytes in lower-case hexadecimal, two digits a byte, the high one first
-- Assumes nothing.
use Rattle.std.specs.Prelude.{ℕ, zero, suc, ◌/◌, ◌%◌, true, false, List, [], ◌∷◌, ◌++◌, ltb, get_or}
use Prim.Native.Char.{code}
use Prim.Native.String.{String, [] as []ˢ, ◌∷◌ as ◌∷ˢ◌}

abbrev pub ascii : String → List ℕ
ascii []ˢ = []
ascii (c ∷ˢ s) = code c ∷ ascii s

abbrev pub space : ℕ
space = 32

abbrev pub line_feed : ℕ
line_feed = 10

unfoldable pub digit : ℕ → ℕ
digit d = get_or (ascii "0123456789abcdef") d 0

unfoldable pub decimal_in : ℕ → ℕ → List ℕ
decimal_in zero n = []
decimal_in (suc k) n =
    elim (ltb n 10) [ true ↦ digit n ∷ [] | false ↦ decimal_in k (n / 10) ++ (digit (n % 10) ∷ []) ]

unfoldable pub decimal : ℕ → List ℕ
decimal n = decimal_in (suc n) n

unfoldable pub hexadecimal : List ℕ → List ℕ
hexadecimal [] = []
hexadecimal (b ∷ bs) = digit (b / 16) ∷ digit (b % 16) ∷ hexadecimal bs
