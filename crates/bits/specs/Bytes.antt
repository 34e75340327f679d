-- A number as a row of bytes, high byte first.
--     bytes k n    the k lowest bytes of n
--     word bs      the number whose bytes are bs
--     Bytes n b    b has n elements, each below 256
-- Assumes nothing.
use Rattle.std.specs.Prelude.{ℕ, zero, suc, ◌+◌, ◌*◌, ◌/◌, ◌%◌, ◌<◌, ◌≡◌, List, [], ◌∷◌, ◌++◌, length, get_or}

unfoldable pub bytes : ℕ → ℕ → List ℕ
bytes zero n = []
bytes (suc k) n = bytes k (n / 256) ++ (n % 256 ∷ [])

-- what stands before the bytes bs is high
unfoldable pub word_from : ℕ → List ℕ → ℕ
word_from high [] = high
word_from high (b ∷ bs) = word_from (high * 256 + b) bs

unfoldable pub word : List ℕ → ℕ
word bs = word_from 0 bs

pub record Bytes (n : ℕ) (b : List ℕ) : Type 0 where
  pub long : length b ≡ n
  pub below : (i : ℕ) → get_or b i 0 < 256
