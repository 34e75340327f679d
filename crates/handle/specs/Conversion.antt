-- Document 01, "Conversion", and document 02, §8: the f of validation, weakening and reduction.
--     block c           the parameter c as a number of sixteen bytes, high byte first: below 256 it fills the last byte, and
--                       at width 16 the last two
--     conversion p c    the AES-128 encryption, under the key p, of that block
--     product n p c     the product's conversion, at which contracts stand: of the cluster's name n, the password p and
--                       the parameter c; it takes in no name
--     SixteenBytes f    the conversion f gives passwords of sixteen bytes
-- Assumes nothing.
use Rattle.std.specs.Prelude.{◌≡◌, ℕ, List, length}
use Rattle.bits.specs.Bytes.{bytes}
use Rattle.aes.specs.Cipher.{cipher}
use Rattle.sizes.specs.Sizes.{password_bytes}
use Rattle.handle.specs.Handles.{Name}

abbrev pub block : ℕ → List ℕ
block c = bytes 16 c

unfoldable pub conversion : List ℕ → ℕ → List ℕ
conversion p c = cipher p (block c)

abbrev pub product : Name → List ℕ → ℕ → List ℕ
product n p c = conversion p c

abbrev pub SixteenBytes : (Name → List ℕ → ℕ → List ℕ) → Type 0
SixteenBytes f = (n : Name) (p : List ℕ) (c : ℕ) → length (f n p c) ≡ password_bytes
