-- FIPS 197, section 5.2, for AES-128: the words w[0], w[1] .. of four bytes each. A word is made of the four words
-- before it, so these four, sixteen bytes, are what is carried from word to word.
--     doublings n        01 doubled n times
--     round_constant j    x^(j - 1), the first byte of Rcon[j]
--     rcon j             Rcon[j]
--     rot_word, sub_word   the word turned left by one byte; every byte of it substituted
--     add_words           two words added, byte by byte
--     temp i w           what is added to w[i - 4], where w is w[i - 1]
--     new_word i k        w[i], of the sixteen bytes k of w[i - 4] to w[i - 1]
--     slide i k          the sixteen bytes of w[i - 3] to w[i]
--     expand n i k       the sixteen bytes n words further on
--     round_key key r     the round key of round r: w[4 r] to w[4 r + 3]
-- Assumes nothing.
use Rattle.std.specs.Prelude.{ℕ, zero, suc, ◌+◌, ◌-◌, ◌*◌, ◌/◌, ◌%◌, cond, List, [], ◌∷◌, ◌++◌, map, eqb, get_or, take, drop}
use Rattle.std.specs.Int.Bits.{bit_xor}
use Rattle.loops.specs.Tabulate.{tabulate}
use Rattle.field.specs.Field.{dot}
use Rattle.field.specs.Substitution.{sbox}

unfoldable pub doublings : ℕ → ℕ
doublings zero = 0x01
doublings (suc n) = dot 2 (doublings n)

abbrev pub round_constant : ℕ → ℕ
round_constant j = doublings (j - 1)

abbrev pub rcon : ℕ → List ℕ
rcon j = round_constant j ∷ 0 ∷ 0 ∷ 0 ∷ []

abbrev pub rot_word : List ℕ → List ℕ
rot_word w = drop 1 w ++ take 1 w

abbrev pub sub_word : List ℕ → List ℕ
sub_word w = map sbox w

abbrev pub add_words : List ℕ → List ℕ → List ℕ
add_words v w = tabulate 4 (λ r. bit_xor (get_or v r 0) (get_or w r 0))

abbrev pub temp : ℕ → List ℕ → List ℕ
temp i w = cond (eqb (i % 4) 0) (add_words (sub_word (rot_word w)) (rcon (i / 4))) w

unfoldable pub new_word : ℕ → List ℕ → List ℕ
new_word i k = add_words (take 4 k) (temp i (drop 12 k))

unfoldable pub slide : ℕ → List ℕ → List ℕ
slide i k = drop 4 k ++ new_word i k

unfoldable pub expand : ℕ → ℕ → List ℕ → List ℕ
expand zero i k = k
expand (suc n) i k = slide (i + n) (expand n i k)

abbrev pub round_key : List ℕ → ℕ → List ℕ
round_key key r = expand (4 * r) 4 key
