-- Mission, condition 2, as far as it speaks of a handle's bytes, at the three lengths that document 02, §8, gives them:
-- handles and bytes, each read back from the other. And that at 23 bytes all is as document 01 has it.
--     OfWidth n          n is the length of a handle: 21, 23 or 27
--     RoundTrips         handle: what can be written is read back from its bytes, of every width
--                        bytes: bytes with the length of a handle are those of the handle that they hold
--                        other: bytes of any other length hold no handle
--                        none: no handle has no bytes
--                        reply: bytes laid out in a reply with their length are there, as many as it tells
--     AsBefore           of 23 bytes: the handle read is node, local number, password and the last four bytes as they stand; a
--                        handle of width 8 is written so; flat is 255 and nothing else; and a parameter below 256 is the
--                        last of sixteen bytes, after fifteen zeros
--     WordConverted      what a parameter of two bytes encrypts, as at width 16: fourteen zeros, its high byte and its low one
-- Assumes nothing.
use Rattle.std.specs.Prelude.{ℕ, ◌/◌, ◌%◌, ◌<◌, ◌≡◌, ◌⊎◌, List, [], ◌∷◌, ◌++◌, eqb, length, get_or, take, drop, replicate}
use Rattle.bits.specs.Bytes.{bytes, word, Bytes}
use Rattle.aes.specs.Cipher.{cipher}
use Rattle.handle.specs.declared.Handle.{Handle}
use Rattle.handle.specs.declared.Width.TheVariants.{Eight}
use Rattle.handle.specs.Selectors.{flat}
use Rattle.handle.specs.Handles.{width_of, encoded, decoded, no_handle, laid, bytes_in, Holdable}
use Rattle.handle.specs.Conversion.{conversion}

abbrev pub OfWidth : ℕ → Type 0
OfWidth n = (n ≡ 21) ⊎ (n ≡ 23) ⊎ (n ≡ 27)

pub record RoundTrips : Type 0 where
  pub handle : (h : Handle) → Holdable h → decoded (encoded h) ≡ h
  pub bytes : (b : List ℕ) → OfWidth (length b) → ((i : ℕ) → get_or b i 0 < 256) → encoded (decoded b) ≡ b
  pub other : (b : List ℕ) → ¬ OfWidth (length b) → decoded b ≡ no_handle
  pub none : encoded no_handle ≡ []
  pub reply : (b : List ℕ) → bytes_in (laid b) ≡ b

pub record AsBefore : Type 0 where
  pub read : (b : List ℕ) → Bytes 23 b → decoded b ≡ record {
    node = word (take 2 b);
    local = get_or b 2 0;
    password = take 16 (drop 3 b);
    width = Eight;
    selector = take 4 (drop 19 b);
  }
  pub wrote : (h : Handle) → Holdable h → h.width ≡ Eight
      → encoded h ≡ bytes 2 h.node ++ (h.local ∷ []) ++ h.password ++ h.selector
  pub width : (b : List ℕ) → Bytes 23 b → width_of (decoded b) ≡ 8
  pub flat : (s : ℕ) → flat 8 s ≡ eqb s 255
  pub converted : (p : List ℕ) (c : ℕ) → c < 256 → conversion p c ≡ cipher p (replicate 15 0 ++ (c ∷ []))

abbrev pub WordConverted : Type 0
WordConverted =
    (p : List ℕ) (c : ℕ) → c < 65536 → conversion p c ≡ cipher p (replicate 14 0 ++ (c / 256 ∷ c % 256 ∷ []))
