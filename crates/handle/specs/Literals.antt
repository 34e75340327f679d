-- Document 01, "The handle" and "Conversion", and document 02, §8, written out. Which byte stands where is said by numbers
-- alone, with no definition between.
--     named ..        a handle of node 0102 hexadecimal and local number 3, with a password and a selector of a width
--     small, middle, large    handles of widths 4, 8 and 16, with four different subselectors each
--     before          the bytes that all three begin with: the node's high byte and low byte, the local number, the password
--     small_bytes      the 21 bytes of the first: subselectors 0 and 2 are the low halves of the last two, 1 and 3 the high
--     middle_bytes     the 23 bytes of the second: a byte for each subselector
--     large_bytes      the 27 bytes of the third: two bytes for each, high byte first
--     HandleBytes     they are the bytes of the handles, and these are the handles that they hold; one byte more or fewer is
--                     no handle's, and has no node, no password and no selector
--     Lengths         the widths of handles of 0 to 28 bytes, in this order: 4, 8 and 16 for 21, 23 and 27, and else none
--     small_block, large_block    the blocks of the parameters 243 and 258: zero bytes, and last the one byte of the first and
--                     the two of the second, high byte first
--     BlockBytes      they are what conversions by these parameters encrypt
--     Reply           what a reply holds of the first handle: its bytes, six zeros and the length; and of no handle: 27
--                     zeros and the length 0
-- Assumes nothing.
use Rattle.std.specs.Prelude.{ℕ, ◌≡◌, List, [], ◌∷◌, ◌++◌, map, replicate}
use Rattle.aes.specs.Cipher.{cipher}
use Rattle.handle.specs.declared.Handle.{Handle}
use Rattle.handle.specs.declared.Width.{Width}
use Rattle.handle.specs.declared.Width.TheVariants.{None, Four, Eight, Sixteen}
use Rattle.handle.specs.Handles.{width_of, encoded, decoded, written, no_handle}
use Rattle.handle.specs.Conversion.{block, conversion}

abbrev pub named : Width → List ℕ → Handle
named v ss =
    record {
      node = 0x0102;
      local = 3;
      password =
          16 ∷ 17 ∷ 18 ∷ 19 ∷ 20 ∷ 21 ∷ 22 ∷ 23 ∷ 24 ∷ 25 ∷ 26 ∷ 27 ∷ 28 ∷ 29 ∷ 30 ∷ 31 ∷ [];
      width = v;
      selector = ss;
    }

abbrev pub small : Handle
small = named Four (9 ∷ 5 ∷ 6 ∷ 12 ∷ [])

abbrev pub middle : Handle
middle = named Eight (64 ∷ 65 ∷ 66 ∷ 67 ∷ [])

abbrev pub large : Handle
large = named Sixteen (0x4041 ∷ 0x4243 ∷ 0x4445 ∷ 0x4647 ∷ [])

abbrev pub before : List ℕ → List ℕ
before bs = 1 ∷ 2 ∷ 3 ∷ 16 ∷ 17 ∷ 18 ∷ 19 ∷ 20 ∷ 21 ∷ 22 ∷ 23 ∷ 24 ∷ 25 ∷ 26 ∷ 27 ∷ 28 ∷ 29 ∷ 30 ∷ 31 ∷ bs

abbrev pub small_bytes : List ℕ
small_bytes = before (0x59 ∷ 0xc6 ∷ [])

abbrev pub middle_bytes : List ℕ
middle_bytes = before (64 ∷ 65 ∷ 66 ∷ 67 ∷ [])

abbrev pub large_bytes : List ℕ
large_bytes = before (0x40 ∷ 0x41 ∷ 0x42 ∷ 0x43 ∷ 0x44 ∷ 0x45 ∷ 0x46 ∷ 0x47 ∷ [])

abbrev pub nothing : Handle
nothing = record { node = 0; local = 0; password = replicate 16 0; width = None; selector = 0 ∷ 0 ∷ 0 ∷ 0 ∷ [] }

pub record HandleBytes : Type 0 where
  pub of4 : encoded small ≡ small_bytes
  pub of8 : encoded middle ≡ middle_bytes
  pub of16 : encoded large ≡ large_bytes
  pub from21 : decoded small_bytes ≡ small
  pub from23 : decoded middle_bytes ≡ middle
  pub from27 : decoded large_bytes ≡ large
  pub from20 : decoded (before (0x59 ∷ [])) ≡ nothing
  pub from22 : decoded (before (64 ∷ 65 ∷ 66 ∷ [])) ≡ nothing
  pub from24 : decoded (before (64 ∷ 65 ∷ 66 ∷ 67 ∷ 0 ∷ [])) ≡ nothing
  pub from28 : decoded (before (0x40 ∷ 0x41 ∷ 0x42 ∷ 0x43 ∷ 0x44 ∷ 0x45 ∷ 0x46 ∷ 0x47 ∷ 0 ∷ [])) ≡ nothing

abbrev pub up_to28 : List ℕ
up_to28 =
    0 ∷ 1 ∷ 2 ∷ 3 ∷ 4 ∷ 5 ∷ 6 ∷ 7 ∷ 8 ∷ 9 ∷ 10 ∷ 11 ∷ 12 ∷ 13 ∷ 14 ∷ 15 ∷ 16 ∷ 17 ∷ 18 ∷ 19 ∷ 20 ∷ 21 ∷ 22 ∷ 23 ∷ 24 ∷ 25 ∷ 26 ∷ 27 ∷ 28 ∷ []

abbrev pub Lengths : Type 0
Lengths =
    map (λ n. width_of (decoded (replicate n 0))) up_to28
    ≡ 0 ∷ 0 ∷ 0 ∷ 0 ∷ 0 ∷ 0 ∷ 0 ∷ 0 ∷ 0 ∷ 0 ∷ 0 ∷ 0 ∷ 0 ∷ 0 ∷ 0 ∷ 0 ∷ 0 ∷ 0 ∷ 0 ∷ 0 ∷ 0 ∷ 4 ∷ 0 ∷ 8 ∷ 0 ∷ 0 ∷ 0 ∷ 16 ∷ 0 ∷ []

abbrev pub small_block : List ℕ
small_block = 0 ∷ 0 ∷ 0 ∷ 0 ∷ 0 ∷ 0 ∷ 0 ∷ 0 ∷ 0 ∷ 0 ∷ 0 ∷ 0 ∷ 0 ∷ 0 ∷ 0 ∷ 243 ∷ []

abbrev pub large_block : List ℕ
large_block = 0 ∷ 0 ∷ 0 ∷ 0 ∷ 0 ∷ 0 ∷ 0 ∷ 0 ∷ 0 ∷ 0 ∷ 0 ∷ 0 ∷ 0 ∷ 0 ∷ 1 ∷ 2 ∷ []

pub record BlockBytes : Type 0 where
  pub block243 : block 243 ≡ small_block
  pub block258 : block 258 ≡ large_block
  pub by243 : (p : List ℕ) → conversion p 243 ≡ cipher p small_block
  pub by258 : (p : List ℕ) → conversion p 258 ≡ cipher p large_block

pub record Reply : Type 0 where
  pub some : written small ≡ record { length = 21; bytes = small_bytes ++ (0 ∷ 0 ∷ 0 ∷ 0 ∷ 0 ∷ 0 ∷ []) }
  pub none : written no_handle
      ≡ record {
        length = 0;
        bytes = 0 ∷ 0 ∷ 0 ∷ 0 ∷ 0 ∷ 0 ∷ 0 ∷ 0 ∷ 0 ∷ 0 ∷ 0 ∷ 0 ∷ 0 ∷ 0 ∷ 0 ∷ 0 ∷ 0 ∷ 0 ∷ 0 ∷ 0 ∷ 0 ∷ 0 ∷ 0 ∷ 0 ∷ 0 ∷ 0 ∷ 0 ∷ [];
      }
