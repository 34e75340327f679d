-- FIPS 197, section 5.1: the state and its four transformations.
--     cell s r c       3.4: the byte in row r and column c of the state s, which stands at r + 4 c of the block
--     state f          the state whose byte in row r and column c is f r c
--     sub_bytes s       5.1.1: every byte goes through the substitution
--     shift_rows s      5.1.2: row r is turned left by r bytes
--     matrix r k       5.1.3: the fixed matrix
--     mixed r a b c d  5.1.3: row r of the matrix times the column a, b, c, d
--     mix_columns s     5.1.3: every column is multiplied by the matrix
--     add_round_key s k  5.1.4: the round key k is added to the state, byte by byte
-- Assumes nothing.
use Rattle.std.specs.Prelude.{ℕ, ◌+◌, ◌*◌, ◌/◌, ◌%◌, List, [], ◌∷◌, get_or}
use Rattle.std.specs.Int.Bits.{bit_xor}
use Rattle.loops.specs.Tabulate.{tabulate}
use Rattle.field.specs.Field.{dot}
use Rattle.field.specs.Substitution.{sbox}

abbrev pub cell : List ℕ → ℕ → ℕ → ℕ
cell s r c = get_or s (r + 4 * c) 0

abbrev pub state : (ℕ → ℕ → ℕ) → List ℕ
state f = tabulate 16 (λ i. f (i % 4) (i / 4))

unfoldable pub sub_bytes : List ℕ → List ℕ
sub_bytes s = state (λ r c. sbox (cell s r c))

unfoldable pub shift_rows : List ℕ → List ℕ
shift_rows s = state (λ r c. cell s r ((c + r) % 4))

abbrev pub matrix : ℕ → ℕ → ℕ
matrix r k =
    get_or
    (get_or
    ((0x02 ∷ 0x03 ∷ 0x01 ∷ 0x01 ∷ [])
    ∷ (0x01 ∷ 0x02 ∷ 0x03 ∷ 0x01 ∷ [])
    ∷ (0x01 ∷ 0x01 ∷ 0x02 ∷ 0x03 ∷ [])
    ∷ (0x03 ∷ 0x01 ∷ 0x01 ∷ 0x02 ∷ [])
    ∷ [])
    r [])
    k 0

abbrev pub mixed : ℕ → ℕ → ℕ → ℕ → ℕ → ℕ
mixed r a b c d =
    bit_xor (dot (matrix r 0) a) (bit_xor (dot (matrix r 1) b) (bit_xor (dot (matrix r 2) c) (dot (matrix r 3) d)))

unfoldable pub mix_columns : List ℕ → List ℕ
mix_columns s = state (λ r c. mixed r (cell s 0 c) (cell s 1 c) (cell s 2 c) (cell s 3 c))

unfoldable pub add_round_key : List ℕ → List ℕ → List ℕ
add_round_key s k = state (λ r c. bit_xor (cell s r c) (cell k r c))
