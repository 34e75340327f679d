-- Handles in 28 bytes, written out: those of handle/specs/Literals, and no handle.
--     small_held, middle_held, large_held    the 28 bytes of the handles of widths 4, 8 and 16
--     none_held           those of no handle
--     filled             the 23 bytes of the second with four others behind them
--     HeldBytes          they are what callers hold, and what is read from them; other bytes behind a handle's own are passed over,
--                        and bytes that came from elsewhere are held so
--     last_bytes          0 to 28, 127, 128, 151 and 255
--     widths, numbers    4, 8 and 16 at 21, 23 and 27, and else 0; 0 there, and else 25
--     Lasts              read: the widths of handles in 28 bytes with these last bytes; from: the numbers of 0 to 28 bytes from
--                        elsewhere
-- Assumes nothing.
use Rattle.std.specs.Prelude.{ℕ, ◌≡◌, List, [], ◌∷◌, ◌++◌, map, replicate}
use Rattle.handle.specs.Handles.{width_of, written, decoded, no_handle}
use Rattle.handle.specs.Literals.{before, small, middle, large, small_bytes, middle_bytes, large_bytes, up_to28}
use Rattle.codec.specs.Held.{held_in, bytes_held, held_from, length_number}

abbrev pub small_held : List ℕ
small_held = before (0x59 ∷ 0xc6 ∷ 0 ∷ 0 ∷ 0 ∷ 0 ∷ 0 ∷ 0 ∷ 21 ∷ [])

abbrev pub middle_held : List ℕ
middle_held = before (64 ∷ 65 ∷ 66 ∷ 67 ∷ 0 ∷ 0 ∷ 0 ∷ 0 ∷ 23 ∷ [])

abbrev pub large_held : List ℕ
large_held = before (0x40 ∷ 0x41 ∷ 0x42 ∷ 0x43 ∷ 0x44 ∷ 0x45 ∷ 0x46 ∷ 0x47 ∷ 27 ∷ [])

abbrev pub none_held : List ℕ
none_held =
    0 ∷ 0 ∷ 0 ∷ 0 ∷ 0 ∷ 0 ∷ 0 ∷ 0 ∷ 0 ∷ 0 ∷ 0 ∷ 0 ∷ 0 ∷ 0 ∷ 0 ∷ 0 ∷ 0 ∷ 0 ∷ 0 ∷ 0 ∷ 0 ∷ 0 ∷ 0 ∷ 0 ∷ 0 ∷ 0 ∷ 0 ∷ 0 ∷ []

abbrev pub filled : List ℕ
filled = before (64 ∷ 65 ∷ 66 ∷ 67 ∷ 68 ∷ 69 ∷ 70 ∷ 71 ∷ 23 ∷ [])

pub record HeldBytes : Type 0 where
  pub of4 : held_in (written small) ≡ small_held
  pub of8 : held_in (written middle) ≡ middle_held
  pub of16 : held_in (written large) ≡ large_held
  pub none : held_in (written no_handle) ≡ none_held
  pub in4 : bytes_held small_held ≡ small_bytes
  pub in8 : bytes_held middle_held ≡ middle_bytes
  pub in16 : bytes_held large_held ≡ large_bytes
  pub behind : bytes_held filled ≡ middle_bytes
  pub read4 : decoded (bytes_held small_held) ≡ small
  pub read8 : decoded (bytes_held filled) ≡ middle
  pub read16 : decoded (bytes_held large_held) ≡ large
  pub from21 : held_from small_bytes ≡ small_held
  pub from23 : held_from middle_bytes ≡ middle_held
  pub from27 : held_from large_bytes ≡ large_held
  pub from22 : held_from (before (64 ∷ 65 ∷ 66 ∷ [])) ≡ none_held
  pub from28 : held_from middle_held ≡ none_held

abbrev pub last_bytes : List ℕ
last_bytes = up_to28 ++ (127 ∷ 128 ∷ 151 ∷ 255 ∷ [])

abbrev pub widths : List ℕ
widths =
    0 ∷ 0 ∷ 0 ∷ 0 ∷ 0 ∷ 0 ∷ 0 ∷ 0 ∷ 0 ∷ 0 ∷ 0 ∷ 0 ∷ 0 ∷ 0 ∷ 0 ∷ 0 ∷ 0 ∷ 0 ∷ 0 ∷ 0 ∷ 0 ∷ 4 ∷ 0 ∷ 8 ∷ 0 ∷ 0 ∷ 0 ∷ 16 ∷ 0 ∷ 0 ∷ 0 ∷ 0 ∷ 0 ∷ []

abbrev pub numbers : List ℕ
numbers =
    25 ∷ 25 ∷ 25 ∷ 25 ∷ 25 ∷ 25 ∷ 25 ∷ 25 ∷ 25 ∷ 25 ∷ 25 ∷ 25 ∷ 25 ∷ 25 ∷ 25 ∷ 25 ∷ 25 ∷ 25 ∷ 25 ∷ 25 ∷ 25 ∷ 0 ∷ 25 ∷ 0 ∷ 25 ∷ 25 ∷ 25 ∷ 0 ∷ 25 ∷ []

pub record Lasts : Type 0 where
  pub read : map (λ n. width_of (decoded (bytes_held (large_bytes ++ (n ∷ []))))) last_bytes ≡ widths
  pub from : map (λ n. length_number (replicate n 1)) up_to28 ≡ numbers
