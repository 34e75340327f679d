-- FIPS 197, section 5.1.1: the substitution of bytes by its rule.
--     affine b        bit i of the result is the sum of bits i, i + 4 .. i + 7, modulo 8, of b and bit i of 63
--     sbox b          the inverse in the field, then the affine step
--     substitution    the table: the substitution of each byte, 0 to 255
-- Assumes nothing.
use Rattle.std.specs.Prelude.{ℕ, ◌+◌, ◌%◌, List}
use Rattle.std.specs.Bool.{xor}
use Rattle.bits.specs.Sets.{has, set_of}
use Rattle.loops.specs.Tabulate.{tabulate}
use Rattle.field.specs.Field.{inverse}

unfoldable pub affine : ℕ → ℕ
affine b =
    set_of 8 (λ i.
    xor (has i b)
    (xor (has ((i + 4) % 8) b)
    (xor (has ((i + 5) % 8) b) (xor (has ((i + 6) % 8) b) (xor (has ((i + 7) % 8) b) (has i 0x63))))))

unfoldable pub sbox : ℕ → ℕ
sbox b = let v = inverse b in affine v

unfoldable pub substitution : List ℕ
substitution = tabulate 256 sbox
