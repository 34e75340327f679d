-- Document 02, §10, of images: a handle that validates in a mode on an image is weakened twice, in either order, or once by the bits that
-- both masks share, and what comes out is validated and reduced there. At the product's conversion; the words are those of `cuts`.
--     on_image b m        calls answered on the image b with the memory m
--     AnyCutsOnImages, TwoCutsOnImages    what is said of cuts on a copy holds on every image on which the handle validates: that it
--                        does says that the image holds a store, and a store that an image holds has passwords of sixteen bytes
--     EntriesOnImages    so does what is said of two entries whose masks keep the same
--     ImageStays         calls 7 and 8 and validation leave the image and the memory as they were, damaged ones too
-- Assumes nothing.
use Rattle.std.specs.Prelude.{◌≡◌, ℕ, ◌<◌, List, [], ◌∷◌, get_or}
use Rattle.bits.specs.Bytes.{Bytes}
use Rattle.handle.specs.declared.Handle.{Handle}
use Rattle.handle.specs.Conversion.{product}
use Rattle.handle.specs.Handles.{width_of, decoded}
use Rattle.calls.specs.Calls.{Call, weaken, reduce, validate}
use Rattle.calls.specs.Words.{Named}
use Rattle.calls.specs.Steps.{Reply}
use Rattle.cuts.specs.Words.{Both, Validates, AnyCutsInWords, TwoCutsInWords}
use Rattle.cuts.specs.Entries.{KeepAlike, Entry, EntriesInWords}
use Rattle.image.specs.Images.{image_bytes}
use Rattle.gelmuszta.specs.Exported.{exported}

abbrev pub on_image : List ℕ → List ℕ → Call → Reply
on_image b m x = (exported x b m).reply

abbrev pub AnyCutsOnImages : Type 0
AnyCutsOnImages =
    (b m : List ℕ) → Bytes image_bytes b → (mode : ℕ) (h : List ℕ) → ((i : ℕ) → get_or h i 0 < 256)
    → Validates (on_image b m) mode h → AnyCutsInWords (on_image b m) mode h

abbrev pub TwoCutsOnImages : Type 0
TwoCutsOnImages =
    (b m : List ℕ) → Bytes image_bytes b → (mode : ℕ) (h : List ℕ) → ((i : ℕ) → get_or h i 0 < 256)
    → Validates (on_image b m) mode h → (x y s : ℕ) → Both (width_of (decoded h)) x y s
    → TwoCutsInWords (on_image b m) mode h x y s

abbrev pub EntriesOnImages : Type 0
EntriesOnImages =
    (b m : List ℕ) → Bytes image_bytes b → (mode : ℕ) (h : List ℕ) → Bytes 23 h → Validates (on_image b m) mode h
    → (e e' : List ℕ) (k k' : ℕ) (g g' : Handle) → Entry product (decoded h) e k g → Entry product (decoded h) e' k' g'
    → KeepAlike (decoded h) e k e' k' → EntriesInWords (on_image b m) mode g g'

abbrev pub ImageStays : Type 0
ImageStays =
    (x : Call) (b m : List ℕ) → Bytes image_bytes b → Named (weaken ∷ reduce ∷ validate ∷ []) x
    → ((exported x b m).image ≡ b) × ((exported x b m).memory ≡ m)
