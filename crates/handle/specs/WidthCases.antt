-- Document 02, §8, by example: references, weakening, reduction and joining at the widths 4 and 16, and masks of sixteen
-- bits at the width 8, as questions and whole answers written out, for any conversion f, any password of the handle and
-- primary password, and any mask where none is named. Width 8 as document 01 has it is in `Examples`.
--     Question           what is asked at a width: whether a subselector is flat; whether a selector is primary, and gapped;
--                        which segments it references and how many; what weakening by a mask gives, of a selector and of
--                        any handle; what a selector is reduced to; whether the union of two is all of the width, and what
--                        they are joined to
--     Told               yes or no; a set of segments and a count; the whole reply of a weakening; a whole handle
--     Case               a question and its answer
--     at n l v ss p      the handle of the node n, the local number l, the width v, the selector ss and the password p
--     given v ss p c     the whole reply of a weakening that is done: the handle of the width v, the selector ss and the
--                        password p, and the count c
--     refused n          the whole reply of a weakening that is refused with n
--     of_four, of_eight, of_sixteen    the cases at each width
--     tells v q          what the definitions tell at the width v
--     lengths, ByLength  handles of 20 to 28 bytes, each byte 255, so that they name no place: the numbers that weakening
--                        them gives, 2 for 21, 23 and 27 bytes, and else 25
--     ParameterBytes     a primary handle of width 16 weakened by 258, segments 1 and 8: the new password is the encryption
--                        of the block that ends in the bytes 1 and 2
-- Assumes nothing.
use Rattle.std.specs.Prelude.{ℕ, ◌≡◌, Bool, true, false, List, [], ◌∷◌, map, replicate}
use Rattle.aes.specs.Cipher.{cipher}
use Rattle.handle.specs.declared.Handle.{Handle}
use Rattle.handle.specs.Handles.{Weakened}
use Rattle.handle.specs.declared.Width.{Width}
use Rattle.handle.specs.declared.Width.TheVariants.{None, Four, Eight, Sixteen}
use Rattle.handle.specs.Widths.{bits_of}
use Rattle.handle.specs.Selectors.{flat, all_flat, gapped, common, referenced, whole_union}
use Rattle.handle.specs.Handles.{width_of, decoded, weakening, reduced, joined}
use Rattle.handle.specs.Conversion.{conversion}

pub data Question : Type 0 where
  is_flat : ℕ → Question
  is_primary : List ℕ → Question
  is_gapped : List ℕ → Question
  referencing : List ℕ → Question
  weakening_by : ℕ → List ℕ → Question
  weakening_of : Handle → ℕ → Question
  reducing : List ℕ → Question
  is_whole : List ℕ → List ℕ → Question
  joining : List ℕ → List ℕ → Question

pub data Told : Type 0 where
  answer : Bool → Told
  segment_set : ℕ → ℕ → Told
  weaker : Weakened → Told
  handle : Handle → Told

pub record Case : Type 0 where
  pub asked : Question
  pub told : Told

abbrev asks : Question → Told → Case
asks q a = record { asked = q; told = a }

abbrev at : ℕ → ℕ → Width → List ℕ → List ℕ → Handle
at n l v ss p = record { node = n; local = l; password = p; width = v; selector = ss }

abbrev given : Width → List ℕ → List ℕ → ℕ → Told
given v ss p c = weaker (record { number = 0; handle = at 0 2 v ss p; count = c })

abbrev refused : ℕ → Told
refused n =
    weaker (record { number = n; handle = at 0 0 None (0 ∷ 0 ∷ 0 ∷ 0 ∷ []) (replicate 16 0); count = 0 })

module _ (f : List ℕ → ℕ → List ℕ) (password first : List ℕ) (mask : ℕ) where
  unfoldable pub of_four : List Case
  of_four =
      -- flat, primary and gapped
      asks (is_flat 15) (answer true)
      ∷ asks (is_flat 14) (answer false)
      ∷ asks (is_flat 7) (answer false)
      ∷ asks (is_primary (15 ∷ 15 ∷ 15 ∷ 15 ∷ [])) (answer true)
      ∷ asks (is_primary (15 ∷ 15 ∷ 15 ∷ 14 ∷ [])) (answer false)
      ∷ asks (is_gapped (15 ∷ 15 ∷ 15 ∷ 15 ∷ [])) (answer false)
      ∷ asks (is_gapped (14 ∷ 13 ∷ 15 ∷ 15 ∷ [])) (answer false)
      ∷ asks (is_gapped (15 ∷ 14 ∷ 15 ∷ 15 ∷ [])) (answer true)
      ∷ asks (is_gapped (14 ∷ 15 ∷ 13 ∷ 15 ∷ [])) (answer true)
      ∷ asks (is_gapped (15 ∷ 15 ∷ 15 ∷ 7 ∷ [])) (answer true)
      -- references and counts
      ∷ asks (referencing (15 ∷ 15 ∷ 15 ∷ 15 ∷ [])) (segment_set 15 4)
      ∷ asks (referencing (14 ∷ 13 ∷ 15 ∷ 15 ∷ [])) (segment_set 12 2)
      ∷ asks (referencing (9 ∷ 5 ∷ 13 ∷ 15 ∷ [])) (segment_set 1 1)
      ∷ asks (referencing (14 ∷ 13 ∷ 11 ∷ 7 ∷ [])) (segment_set 0 0)
      -- weakening: mask bits of segments not referenced, and those at or above the width, play no part
      ∷ asks (weakening_by 0x0004 (14 ∷ 13 ∷ 15 ∷ 15 ∷ [])) (given Four (14 ∷ 13 ∷ 7 ∷ 15 ∷ []) (f password 7) 1)
      ∷ asks (weakening_by 0xfff4 (14 ∷ 13 ∷ 15 ∷ 15 ∷ [])) (given Four (14 ∷ 13 ∷ 7 ∷ 15 ∷ []) (f password 7) 1)
      ∷ asks (weakening_by 0x0017 (14 ∷ 13 ∷ 15 ∷ 15 ∷ [])) (given Four (14 ∷ 13 ∷ 7 ∷ 15 ∷ []) (f password 7) 1)
      ∷ asks (weakening_by 0x0008 (15 ∷ 15 ∷ 15 ∷ 15 ∷ [])) (given Four (8 ∷ 15 ∷ 15 ∷ 15 ∷ []) (f password 8) 1)
      ∷ asks (weakening_by 0xfff8 (15 ∷ 15 ∷ 15 ∷ 15 ∷ [])) (given Four (8 ∷ 15 ∷ 15 ∷ 15 ∷ []) (f password 8) 1)
      ∷ asks (weakening_by 0x000c (14 ∷ 13 ∷ 15 ∷ 15 ∷ [])) (given Four (14 ∷ 13 ∷ 15 ∷ 15 ∷ []) password 2)
      ∷ asks (weakening_by 0xfffc (14 ∷ 13 ∷ 15 ∷ 15 ∷ [])) (given Four (14 ∷ 13 ∷ 15 ∷ 15 ∷ []) password 2)
      -- 21: the mask keeps none, or has upper bits alone; and whatever the mask where none is referenced
      ∷ asks (weakening_by 0x0000 (14 ∷ 13 ∷ 15 ∷ 15 ∷ [])) (refused 21)
      ∷ asks (weakening_by 0xfff0 (14 ∷ 13 ∷ 15 ∷ 15 ∷ [])) (refused 21)
      ∷ asks (weakening_by 0xfff3 (14 ∷ 13 ∷ 15 ∷ 15 ∷ [])) (refused 21)
      ∷ asks (weakening_by 0xfff0 (15 ∷ 15 ∷ 15 ∷ 15 ∷ [])) (refused 21)
      ∷ asks (weakening_by mask (14 ∷ 13 ∷ 11 ∷ 7 ∷ [])) (refused 21)
      -- 17, and 21 before it; where none is excluded no flat one is needed
      ∷ asks (weakening_by 0x0004 (14 ∷ 13 ∷ 14 ∷ 13 ∷ [])) (refused 17)
      ∷ asks (weakening_by 0xfff4 (14 ∷ 13 ∷ 14 ∷ 13 ∷ [])) (refused 17)
      ∷ asks (weakening_by 0xfff3 (14 ∷ 13 ∷ 14 ∷ 13 ∷ [])) (refused 21)
      ∷ asks (weakening_by 0x000c (14 ∷ 13 ∷ 14 ∷ 13 ∷ [])) (given Four (14 ∷ 13 ∷ 14 ∷ 13 ∷ []) password 2)
      -- 25, 2, 4, 21, 17
      ∷ asks (weakening_of (at 4 8 None (15 ∷ 14 ∷ 15 ∷ 15 ∷ []) password) mask) (refused 25)
      ∷ asks (weakening_of (at 0 2 None (0 ∷ 1 ∷ 0 ∷ 0 ∷ []) password) mask) (refused 25)
      ∷ asks (weakening_of (at 4 0 Four (15 ∷ 14 ∷ 15 ∷ 15 ∷ []) password) mask) (refused 2)
      ∷ asks (weakening_of (at 0 8 Four (15 ∷ 14 ∷ 15 ∷ 15 ∷ []) password) mask) (refused 2)
      ∷ asks (weakening_of (at 3 7 Four (15 ∷ 14 ∷ 15 ∷ 15 ∷ []) password) 0x0000) (refused 4)
      ∷ asks (weakening_of (at 3 7 Four (14 ∷ 13 ∷ 14 ∷ 13 ∷ []) password) 0xfff0) (refused 21)
      ∷ asks (weakening_of (at 3 7 Four (14 ∷ 13 ∷ 14 ∷ 13 ∷ []) password) 0x0004) (refused 17)
      -- reduction and joining, either way round; all of the width
      ∷ asks (reducing (14 ∷ 13 ∷ 15 ∷ 15 ∷ [])) (handle (at 0 2 Four (12 ∷ 15 ∷ 15 ∷ 15 ∷ []) (f first 12)))
      ∷ asks (reducing (14 ∷ 13 ∷ 11 ∷ 7 ∷ [])) (handle (at 0 2 Four (0 ∷ 15 ∷ 15 ∷ 15 ∷ []) (f first 0)))
      ∷ asks (reducing (15 ∷ 15 ∷ 15 ∷ 15 ∷ [])) (handle (at 0 2 Four (15 ∷ 15 ∷ 15 ∷ 15 ∷ []) password))
      ∷ asks (joining (3 ∷ 15 ∷ 15 ∷ 15 ∷ []) (6 ∷ 15 ∷ 15 ∷ 15 ∷ [])) (handle (at 0 2 Four (7 ∷ 15 ∷ 15 ∷ 15 ∷ []) (f first 7)))
      ∷ asks (joining (6 ∷ 15 ∷ 15 ∷ 15 ∷ []) (3 ∷ 15 ∷ 15 ∷ 15 ∷ [])) (handle (at 0 2 Four (7 ∷ 15 ∷ 15 ∷ 15 ∷ []) (f first 7)))
      ∷ asks (joining (14 ∷ 13 ∷ 15 ∷ 15 ∷ []) (1 ∷ 15 ∷ 15 ∷ 15 ∷ [])) (handle (at 0 2 Four (13 ∷ 15 ∷ 15 ∷ 15 ∷ []) (f first 13)))
      ∷ asks (joining (14 ∷ 13 ∷ 11 ∷ 7 ∷ []) (14 ∷ 13 ∷ 11 ∷ 7 ∷ [])) (handle (at 0 2 Four (0 ∷ 15 ∷ 15 ∷ 15 ∷ []) (f first 0)))
      ∷ asks (is_whole (3 ∷ 15 ∷ 15 ∷ 15 ∷ []) (6 ∷ 15 ∷ 15 ∷ 15 ∷ [])) (answer false)
      ∷ asks (is_whole (3 ∷ 15 ∷ 15 ∷ 15 ∷ []) (12 ∷ 15 ∷ 15 ∷ 15 ∷ [])) (answer true)
      ∷ asks (is_whole (15 ∷ 15 ∷ 15 ∷ 15 ∷ []) (14 ∷ 13 ∷ 11 ∷ 7 ∷ [])) (answer true)
      ∷ []

  unfoldable pub of_eight : List Case
  of_eight =
      -- masks with bits at or above the width, set and clear
      asks (weakening_by 0x0070 (0xfe ∷ 0x7d ∷ 0xff ∷ 0xff ∷ [])) (given Eight (0xfe ∷ 0x7d ∷ 0xf3 ∷ 0xff ∷ []) (f password 0xf3) 3)
      ∷ asks (weakening_by 0xff70 (0xfe ∷ 0x7d ∷ 0xff ∷ 0xff ∷ [])) (given Eight (0xfe ∷ 0x7d ∷ 0xf3 ∷ 0xff ∷ []) (f password 0xf3) 3)
      ∷ asks (weakening_by 0x007c (0xfe ∷ 0x7d ∷ 0xff ∷ 0xff ∷ [])) (given Eight (0xfe ∷ 0x7d ∷ 0xff ∷ 0xff ∷ []) password 5)
      ∷ asks (weakening_by 0xff7c (0xfe ∷ 0x7d ∷ 0xff ∷ 0xff ∷ [])) (given Eight (0xfe ∷ 0x7d ∷ 0xff ∷ 0xff ∷ []) password 5)
      ∷ asks (weakening_by 0xff00 (0xfe ∷ 0x7d ∷ 0xff ∷ 0xff ∷ [])) (refused 21)
      ∷ asks (weakening_by 0xff00 (0xff ∷ 0xff ∷ 0xff ∷ 0xff ∷ [])) (refused 21)
      ∷ asks (weakening_by 0xff83 (0xfe ∷ 0x7d ∷ 0xff ∷ 0xff ∷ [])) (refused 21)
      ∷ asks (weakening_by 0xffef (0xfe ∷ 0xfd ∷ 0xfb ∷ 0xf7 ∷ [])) (refused 17)
      ∷ asks (weakening_by 0xff0f (0xfe ∷ 0xfd ∷ 0xfb ∷ 0xf7 ∷ [])) (refused 21)
      -- 15 and 65535 are not flat
      ∷ asks (is_flat 0xff) (answer true)
      ∷ asks (is_flat 15) (answer false)
      ∷ asks (is_flat 65535) (answer false)
      -- 25, 2, 4, 21, 17
      ∷ asks (weakening_of (at 4 8 None (0xff ∷ 0xfe ∷ 0xff ∷ 0xff ∷ []) password) mask) (refused 25)
      ∷ asks (weakening_of (at 4 0 Eight (0xff ∷ 0xfe ∷ 0xff ∷ 0xff ∷ []) password) mask) (refused 2)
      ∷ asks (weakening_of (at 0 8 Eight (0xff ∷ 0xfe ∷ 0xff ∷ 0xff ∷ []) password) mask) (refused 2)
      ∷ asks (weakening_of (at 3 7 Eight (0xff ∷ 0xfe ∷ 0xff ∷ 0xff ∷ []) password) 0x0000) (refused 4)
      ∷ asks (weakening_of (at 3 7 Eight (0xfe ∷ 0xfd ∷ 0xfb ∷ 0xf7 ∷ []) password) 0xff0f) (refused 21)
      ∷ asks (weakening_of (at 3 7 Eight (0xfe ∷ 0xfd ∷ 0xfb ∷ 0xf7 ∷ []) password) 0x0010) (refused 17)
      ∷ []

  unfoldable pub of_sixteen : List Case
  of_sixteen =
      -- flat, primary and gapped; 255 is not flat
      asks (is_flat 0xffff) (answer true)
      ∷ asks (is_flat 0x00ff) (answer false)
      ∷ asks (is_flat 0x7fff) (answer false)
      ∷ asks (is_primary (0xffff ∷ 0xffff ∷ 0xffff ∷ 0xffff ∷ [])) (answer true)
      ∷ asks (is_primary (0x00ff ∷ 0x00ff ∷ 0x00ff ∷ 0x00ff ∷ [])) (answer false)
      ∷ asks (is_primary (0xffff ∷ 0xffff ∷ 0xffff ∷ 0x7fff ∷ [])) (answer false)
      ∷ asks (is_gapped (0xffff ∷ 0xffff ∷ 0xffff ∷ 0xffff ∷ [])) (answer false)
      ∷ asks (is_gapped (0xfffe ∷ 0x7ffd ∷ 0xffff ∷ 0xffff ∷ [])) (answer false)
      ∷ asks (is_gapped (0x00ff ∷ 0x00fe ∷ 0xffff ∷ 0xffff ∷ [])) (answer false)
      ∷ asks (is_gapped (0xffff ∷ 0x00ff ∷ 0xffff ∷ 0xffff ∷ [])) (answer true)
      ∷ asks (is_gapped (0xfffe ∷ 0xffff ∷ 0x7ffd ∷ 0xffff ∷ [])) (answer true)
      -- references and counts
      ∷ asks (referencing (0xffff ∷ 0xffff ∷ 0xffff ∷ 0xffff ∷ [])) (segment_set 0xffff 16)
      ∷ asks (referencing (0xfffe ∷ 0x7ffd ∷ 0xffff ∷ 0xffff ∷ [])) (segment_set 0x7ffc 13)
      ∷ asks (referencing (0x4041 ∷ 0x4243 ∷ 0x4445 ∷ 0x4647 ∷ [])) (segment_set 0x4041 3)
      ∷ asks (referencing (0xff00 ∷ 0x00ff ∷ 0xffff ∷ 0xffff ∷ [])) (segment_set 0x0000 0)
      -- weakening: parameters of two bytes
      ∷ asks (weakening_by 0x0104 (0xfffe ∷ 0x7ffd ∷ 0xffff ∷ 0xffff ∷ [])) (given Sixteen (0xfffe ∷ 0x7ffd ∷ 0x8107 ∷ 0xffff ∷ []) (f password 0x8107) 2)
      ∷ asks (weakening_by 0x8107 (0xfffe ∷ 0x7ffd ∷ 0xffff ∷ 0xffff ∷ [])) (given Sixteen (0xfffe ∷ 0x7ffd ∷ 0x8107 ∷ 0xffff ∷ []) (f password 0x8107) 2)
      ∷ asks (weakening_by 0x8000 (0xffff ∷ 0xffff ∷ 0xffff ∷ 0xffff ∷ [])) (given Sixteen (0x8000 ∷ 0xffff ∷ 0xffff ∷ 0xffff ∷ []) (f password 0x8000) 1)
      ∷ asks (weakening_by 0x00ff (0xffff ∷ 0xffff ∷ 0xffff ∷ 0xffff ∷ [])) (given Sixteen (0x00ff ∷ 0xffff ∷ 0xffff ∷ 0xffff ∷ []) (f password 0x00ff) 8)
      ∷ asks (weakening_by 0x0f0f (0x00ff ∷ 0xffff ∷ 0xffff ∷ 0xffff ∷ [])) (given Sixteen (0x00ff ∷ 0xff0f ∷ 0xffff ∷ 0xffff ∷ []) (f password 0xff0f) 4)
      ∷ asks (weakening_by 0x7ffc (0xfffe ∷ 0x7ffd ∷ 0xffff ∷ 0xffff ∷ [])) (given Sixteen (0xfffe ∷ 0x7ffd ∷ 0xffff ∷ 0xffff ∷ []) password 13)
      ∷ asks (weakening_by 0xffff (0xfffe ∷ 0x7ffd ∷ 0xffff ∷ 0xffff ∷ [])) (given Sixteen (0xfffe ∷ 0x7ffd ∷ 0xffff ∷ 0xffff ∷ []) password 13)
      -- 21: the mask keeps none; and whatever the mask where none is referenced
      ∷ asks (weakening_by 0x0000 (0xfffe ∷ 0x7ffd ∷ 0xffff ∷ 0xffff ∷ [])) (refused 21)
      ∷ asks (weakening_by 0x8003 (0xfffe ∷ 0x7ffd ∷ 0xffff ∷ 0xffff ∷ [])) (refused 21)
      ∷ asks (weakening_by mask (0xff00 ∷ 0x00ff ∷ 0xffff ∷ 0xffff ∷ [])) (refused 21)
      -- 17, and 21 before it; where none is excluded no flat one is needed
      ∷ asks (weakening_by 0xffef (0xfffe ∷ 0xfffd ∷ 0xfffb ∷ 0xfff7 ∷ [])) (refused 17)
      ∷ asks (weakening_by 0x8000 (0xfffe ∷ 0xfffd ∷ 0xfffb ∷ 0xfff7 ∷ [])) (refused 17)
      ∷ asks (weakening_by 0x000f (0xfffe ∷ 0xfffd ∷ 0xfffb ∷ 0xfff7 ∷ [])) (refused 21)
      ∷ asks (weakening_by 0xfff0 (0xfffe ∷ 0xfffd ∷ 0xfffb ∷ 0xfff7 ∷ [])) (given Sixteen (0xfffe ∷ 0xfffd ∷ 0xfffb ∷ 0xfff7 ∷ []) password 12)
      -- 25, 2, 4, 21, 17
      ∷ asks (weakening_of (at 4 8 None (0xffff ∷ 0xfffe ∷ 0xffff ∷ 0xffff ∷ []) password) mask) (refused 25)
      ∷ asks (weakening_of (at 4 0 Sixteen (0xffff ∷ 0xfffe ∷ 0xffff ∷ 0xffff ∷ []) password) mask) (refused 2)
      ∷ asks (weakening_of (at 0 8 Sixteen (0xffff ∷ 0xfffe ∷ 0xffff ∷ 0xffff ∷ []) password) mask) (refused 2)
      ∷ asks (weakening_of (at 3 7 Sixteen (0xffff ∷ 0xfffe ∷ 0xffff ∷ 0xffff ∷ []) password) 0x0000) (refused 4)
      ∷ asks (weakening_of (at 3 7 Sixteen (0xfffe ∷ 0xfffd ∷ 0xfffb ∷ 0xfff7 ∷ []) password) 0x000f) (refused 21)
      ∷ asks (weakening_of (at 3 7 Sixteen (0xfffe ∷ 0xfffd ∷ 0xfffb ∷ 0xfff7 ∷ []) password) 0x8000) (refused 17)
      -- reduction and joining, either way round; all of the width
      ∷ asks (reducing (0xfffe ∷ 0x7ffd ∷ 0xffff ∷ 0xffff ∷ [])) (handle (at 0 2 Sixteen (0x7ffc ∷ 0xffff ∷ 0xffff ∷ 0xffff ∷ []) (f first 0x7ffc)))
      ∷ asks (reducing (0x00ff ∷ 0xff0f ∷ 0xffff ∷ 0xffff ∷ [])) (handle (at 0 2 Sixteen (0x000f ∷ 0xffff ∷ 0xffff ∷ 0xffff ∷ []) (f first 0x000f)))
      ∷ asks (reducing (0xff00 ∷ 0x00ff ∷ 0xffff ∷ 0xffff ∷ [])) (handle (at 0 2 Sixteen (0x0000 ∷ 0xffff ∷ 0xffff ∷ 0xffff ∷ []) (f first 0x0000)))
      ∷ asks (reducing (0xffff ∷ 0xffff ∷ 0xffff ∷ 0xffff ∷ [])) (handle (at 0 2 Sixteen (0xffff ∷ 0xffff ∷ 0xffff ∷ 0xffff ∷ []) password))
      ∷ asks (joining (0x00ff ∷ 0xffff ∷ 0xffff ∷ 0xffff ∷ []) (0x7f00 ∷ 0xffff ∷ 0xffff ∷ 0xffff ∷ [])) (handle (at 0 2 Sixteen (0x7fff ∷ 0xffff ∷ 0xffff ∷ 0xffff ∷ []) (f first 0x7fff)))
      ∷ asks (joining (0x7f00 ∷ 0xffff ∷ 0xffff ∷ 0xffff ∷ []) (0x00ff ∷ 0xffff ∷ 0xffff ∷ 0xffff ∷ [])) (handle (at 0 2 Sixteen (0x7fff ∷ 0xffff ∷ 0xffff ∷ 0xffff ∷ []) (f first 0x7fff)))
      ∷ asks (joining (0xfffe ∷ 0x7ffd ∷ 0xffff ∷ 0xffff ∷ []) (0x0003 ∷ 0xffff ∷ 0xffff ∷ 0xffff ∷ [])) (handle (at 0 2 Sixteen (0x7fff ∷ 0xffff ∷ 0xffff ∷ 0xffff ∷ []) (f first 0x7fff)))
      ∷ asks (joining (0x00ff ∷ 0x00ff ∷ 0x00ff ∷ 0x00ff ∷ []) (0x00ff ∷ 0x00ff ∷ 0x00ff ∷ 0x00ff ∷ [])) (handle (at 0 2 Sixteen (0x00ff ∷ 0xffff ∷ 0xffff ∷ 0xffff ∷ []) (f first 0x00ff)))
      ∷ asks (is_whole (0x00ff ∷ 0xffff ∷ 0xffff ∷ 0xffff ∷ []) (0x7f00 ∷ 0xffff ∷ 0xffff ∷ 0xffff ∷ [])) (answer false)
      ∷ asks (is_whole (0x00ff ∷ 0xffff ∷ 0xffff ∷ 0xffff ∷ []) (0xff00 ∷ 0xffff ∷ 0xffff ∷ 0xffff ∷ [])) (answer true)
      ∷ asks (is_whole (0x00ff ∷ 0x00ff ∷ 0x00ff ∷ 0x00ff ∷ []) (0x00ff ∷ 0xffff ∷ 0xffff ∷ 0xffff ∷ [])) (answer false)
      ∷ asks (is_whole (0xffff ∷ 0xffff ∷ 0xffff ∷ 0xffff ∷ []) (0xff00 ∷ 0x00ff ∷ 0xffff ∷ 0xffff ∷ [])) (answer true)
      ∷ []

  unfoldable pub tells : Width → Question → Told
  tells v (is_flat s) = answer (flat (bits_of v) s)
  tells v (is_primary ss) = answer (all_flat (bits_of v) ss)
  tells v (is_gapped ss) = answer (gapped (bits_of v) ss)
  tells v (referencing ss) = segment_set (common (bits_of v) ss) (referenced (bits_of v) ss)
  tells v (weakening_by m ss) = weaker (weakening (bits_of v) f (at 0 2 v ss password) m)
  tells v (weakening_of h m) = weaker (weakening (width_of h) f h m)
  tells v (reducing ss) = handle (reduced (bits_of v) f (at 0 2 v ss password) first)
  tells v (is_whole ss ts) = answer (whole_union (bits_of v) ss ts)
  tells v (joining ss ts) = handle (joined (bits_of v) f (at 0 2 v ss password) (at 0 2 v ts password) first)

  abbrev number_of : List ℕ → ℕ
  number_of b = (weakening (width_of (decoded b)) f (decoded b) mask).number

  abbrev lengths : List ℕ
  lengths = 20 ∷ 21 ∷ 22 ∷ 23 ∷ 24 ∷ 25 ∷ 26 ∷ 27 ∷ 28 ∷ []

  abbrev pub ByLength : Type 0
  ByLength = map (λ n. number_of (replicate n 255)) lengths ≡ 25 ∷ 2 ∷ 25 ∷ 2 ∷ 25 ∷ 25 ∷ 25 ∷ 2 ∷ 25 ∷ []

abbrev pub ParameterBytes : Type 0
ParameterBytes =
    (p : List ℕ)
    → weakening 16 conversion (at 0 2 Sixteen (0xffff ∷ 0xffff ∷ 0xffff ∷ 0xffff ∷ []) p) 258
    ≡ record {
      number = 0;
      handle =
          at 0 2 Sixteen (258 ∷ 0xffff ∷ 0xffff ∷ 0xffff ∷ [])
          (cipher p (0 ∷ 0 ∷ 0 ∷ 0 ∷ 0 ∷ 0 ∷ 0 ∷ 0 ∷ 0 ∷ 0 ∷ 0 ∷ 0 ∷ 0 ∷ 0 ∷ 1 ∷ 2 ∷ []));
      count = 2;
    }
