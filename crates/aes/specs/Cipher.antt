-- FIPS 197, section 5.1: the cipher, ten rounds for AES-128.
--     rounds key s n       n whole rounds, 1 to n, from the state s
--     cipher key block     the key added, nine whole rounds, and a tenth with no MixColumns
-- Assumes nothing.
use Rattle.std.specs.Prelude.{ℕ, zero, suc, List}
use Rattle.aes.specs.Transformations.{sub_bytes, shift_rows, mix_columns, add_round_key}
use Rattle.aes.specs.KeyExpansion.{round_key}

unfoldable pub rounds : List ℕ → List ℕ → ℕ → List ℕ
rounds key s zero = s
rounds key s (suc n) = add_round_key (mix_columns (shift_rows (sub_bytes (rounds key s n)))) (round_key key (suc n))

unfoldable pub cipher : List ℕ → List ℕ → List ℕ
cipher key block =
    add_round_key (shift_rows (sub_bytes (rounds key (add_round_key block (round_key key 0)) 9))) (round_key key 10)
