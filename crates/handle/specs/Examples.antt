-- Document 01, "Selector and placement examples": P1 to P9, with P5 as document 02, §1, has it, as one list of questions
-- and whole answers, for any conversion f, any password of the handle and primary password, and any mask where document 01
-- names none.
--     Question           what is asked of a selector: which segments it references and how many; what weakening by a
--                        mask gives; what it is reduced to; and of two, what they are joined to
--     Told               a set of segments and a count; the whole reply of a weakening; a whole handle
--     Example            a question and its answer
--     given h c, refused n    the whole reply of a weakening that is done, and of one that is refused with n, written out
--     presented ss p     the handle of width 8 that is asked about, with the selector ss and the password p
--     examples           the list; more rows say that a primary handle is its own reduction, that a gap higher up is one
--                        too, where 21 begins and ends, and what document 02, §5, joins
--     tells q            what the definitions tell
-- Assumes nothing.
use Rattle.std.specs.Prelude.{ℕ, List, [], ◌∷◌, replicate}
use Rattle.handle.specs.declared.Handle.{Handle}
use Rattle.handle.specs.Handles.{Weakened}
use Rattle.handle.specs.declared.Width.TheVariants.{None, Eight}
use Rattle.handle.specs.Selectors.{common, referenced}
use Rattle.handle.specs.Handles.{weakening, reduced, joined}

pub data Question : Type 0 where
  referencing : List ℕ → Question
  weakening_by : ℕ → List ℕ → Question
  reducing : List ℕ → Question
  joining : List ℕ → List ℕ → Question

pub data Told : Type 0 where
  segment_set : ℕ → ℕ → Told
  weaker : Weakened → Told
  handle : Handle → Told

pub record Example : Type 0 where
  pub asked : Question
  pub told : Told

abbrev asks : Question → Told → Example
asks q a = record { asked = q; told = a }

abbrev primary : List ℕ
primary = 0xff ∷ 0xff ∷ 0xff ∷ 0xff ∷ []

abbrev two_cut : List ℕ
two_cut = 0xfe ∷ 0x7d ∷ 0xff ∷ 0xff ∷ []

abbrev four_cut : List ℕ
four_cut = 0xfe ∷ 0xfd ∷ 0xfb ∷ 0xf7 ∷ []

abbrev none_left : List ℕ
none_left = 0xf0 ∷ 0x0f ∷ 0xff ∷ 0xff ∷ []

abbrev presented : List ℕ → List ℕ → Handle
presented ss p = record { node = 0; local = 2; password = p; width = Eight; selector = ss }

abbrev given : Handle → ℕ → Told
given h c = weaker (record { number = 0; handle = h; count = c })

abbrev refused : ℕ → Told
refused n =
    weaker (record {
      number = n;
      handle = record { node = 0; local = 0; password = replicate 16 0; width = None; selector = 0 ∷ 0 ∷ 0 ∷ 0 ∷ [] };
      count = 0;
    })

module _ (f : List ℕ → ℕ → List ℕ) (password first : List ℕ) (mask : ℕ) where
  unfoldable pub examples : List Example
  examples =
      -- P1
      asks (referencing primary) (segment_set 255 8)
      -- P2, P3: the parameter is 243 for either mask
      ∷ asks (referencing two_cut) (segment_set 124 5)
      ∷ asks (weakening_by 112 two_cut)
      (given (presented (0xfe ∷ 0x7d ∷ 0xf3 ∷ 0xff ∷ []) (f password 243)) 3)
      ∷ asks (weakening_by 243 two_cut)
      (given (presented (0xfe ∷ 0x7d ∷ 0xf3 ∷ 0xff ∷ []) (f password 243)) 3)
      -- P4, P5
      ∷ asks (weakening_by 124 two_cut) (given (presented two_cut password) 5)
      ∷ asks (weakening_by 0 two_cut) (refused 21)
      -- P6, and a gap higher up
      ∷ asks (weakening_by mask (0xff ∷ 0xfe ∷ 0xff ∷ 0xff ∷ [])) (refused 4)
      ∷ asks (weakening_by mask (0xfe ∷ 0xff ∷ 0x7d ∷ 0xff ∷ [])) (refused 4)
      -- P7, P8, P9
      ∷ asks (weakening_by 240 four_cut) (given (presented four_cut password) 4)
      ∷ asks (weakening_by 239 four_cut) (refused 17)
      ∷ asks (reducing four_cut) (handle (presented (0xf0 ∷ 0xff ∷ 0xff ∷ 0xff ∷ []) (f first 0xf0)))
      -- document 02, §1: 21 before 17; whatever the mask, where the handle references none, and with no flat subselector
      -- too; one segment kept, and none; reduced as ever
      ∷ asks (weakening_by 0 four_cut) (refused 21)
      ∷ asks (weakening_by 15 four_cut) (refused 21)
      ∷ asks (weakening_by mask none_left) (refused 21)
      ∷ asks (weakening_by mask (0xf0 ∷ 0x0f ∷ 0xfe ∷ 0xfd ∷ [])) (refused 21)
      ∷ asks (weakening_by 131 two_cut) (refused 21)
      ∷ asks (weakening_by 128 primary)
      (given (presented (0x80 ∷ 0xff ∷ 0xff ∷ 0xff ∷ []) (f password 0x80)) 1)
      ∷ asks (weakening_by 132 two_cut)
      (given (presented (0xfe ∷ 0x7d ∷ 0x87 ∷ 0xff ∷ []) (f password 0x87)) 1)
      ∷ asks (reducing none_left) (handle (presented (0x00 ∷ 0xff ∷ 0xff ∷ 0xff ∷ []) (f first 0x00)))
      -- a primary handle
      ∷ asks (reducing primary) (handle (presented primary password))
      -- document 02, §5: segments 0 to 2 and 3 to 4, either way round; overlapping, and one within the other; with itself,
      -- as reduced; none, with some and with none
      ∷ asks (joining (0x07 ∷ 0xff ∷ 0xff ∷ 0xff ∷ []) (0x1f ∷ 0xf8 ∷ 0xff ∷ 0xff ∷ [])) (handle (presented (0x1f ∷ 0xff ∷ 0xff ∷ 0xff ∷ []) (f first 0x1f)))
      ∷ asks (joining (0x1f ∷ 0xf8 ∷ 0xff ∷ 0xff ∷ []) (0x07 ∷ 0xff ∷ 0xff ∷ 0xff ∷ [])) (handle (presented (0x1f ∷ 0xff ∷ 0xff ∷ 0xff ∷ []) (f first 0x1f)))
      ∷ asks (joining two_cut four_cut) (handle (presented (0xfc ∷ 0xff ∷ 0xff ∷ 0xff ∷ []) (f first 0xfc)))
      ∷ asks (joining two_cut (0x70 ∷ 0xff ∷ 0xff ∷ 0xff ∷ [])) (handle (presented (0x7c ∷ 0xff ∷ 0xff ∷ 0xff ∷ []) (f first 0x7c)))
      ∷ asks (joining four_cut four_cut) (handle (presented (0xf0 ∷ 0xff ∷ 0xff ∷ 0xff ∷ []) (f first 0xf0)))
      ∷ asks (joining none_left four_cut) (handle (presented (0xf0 ∷ 0xff ∷ 0xff ∷ 0xff ∷ []) (f first 0xf0)))
      ∷ asks (joining none_left none_left) (handle (presented (0x00 ∷ 0xff ∷ 0xff ∷ 0xff ∷ []) (f first 0x00)))
      ∷ []

  unfoldable pub tells : Question → Told
  tells (referencing ss) = segment_set (common 8 ss) (referenced 8 ss)
  tells (weakening_by m ss) = weaker (weakening 8 f (presented ss password) m)
  tells (reducing ss) = handle (reduced 8 f (presented ss password) first)
  tells (joining ss ts) = handle (joined 8 f (presented ss password) (presented ts password) first)
