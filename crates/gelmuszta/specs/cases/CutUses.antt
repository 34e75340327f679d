-- What each clause of the statements about cuts on images is used for, with the image, the memory, the handle and the masks left open; and
-- images that meet what these ask.
--     OfEach n mode P    P holds of every image and memory, and every handle of n bytes that validates there in the mode
--     CutsOnUses n mode  of `TwoCutsOnImages` and `AnyCutsOnImages`, of such a handle: all uses of the three ways and of rows, answered by
--                        the calls on the image
--     PairOnUses e k e' k'    of `EntriesOnImages`, of entry k of the register e and entry k' of e': each clause
--     StayUses           of `ImageStays`: each clause, on any image
--     CutsOnImagesUses   so at 21, 23 and 27 bytes, in either mode; of any two entries whose ways have the same masks, of an entry by two
--                        masks and one by what they share, of entries of registers that are written out
--     ImageMet v mode p b m    the primary handle of the width v with the password p validates in the mode on the image b with the
--                        memory m, and the three ways that are written out in `cuts` are done there and give the bytes written there
--     ImagesMetAt, ImagesMet    so it is of the images of the uses, at each width and in each mode
-- Assumes nothing.
use Rattle.std.specs.Prelude.{◌≡◌, ◌↔◌, ℕ, ◌<◌, List, [], ◌∷◌}
use Rattle.std.specs.Int.Bits.{bit_and}
use Rattle.bits.specs.Bytes.{Bytes}
use Rattle.handle.specs.declared.Handle.{Handle}
use Rattle.handle.specs.Conversion.{product}
use Rattle.handle.specs.Handles.{encoded, decoded}
use Rattle.handle.specs.Words.{References}
use Rattle.calls.specs.Calls.{weakening_by, reducing, validating}
use Rattle.calls.specs.Literals.{sixteen}
use Rattle.register.specs.Registers.{masks_of, way_of, given, made}
use Rattle.isolation.specs.UseLists.{Wide}
use Rattle.cuts.specs.Cuts.{Among, Way, masks}
use Rattle.cuts.specs.Words.{cut, Done}
use Rattle.cuts.specs.cases.Uses.{WaysUses}
use Rattle.cuts.specs.cases.Computed.{either, fourfold, twofold}
use Rattle.cuts.specs.cases.Replies.{by, written}
use Rattle.cuts.specs.cases.Replies as Replies
use Rattle.image.specs.Images.{image_bytes}
use Rattle.gelmuszta.specs.Exported.{exported}
use Rattle.gelmuszta.specs.CutImages.{on_image}
use Rattle.gelmuszta.specs.ImageUses.{Passwords, reads, writing, image, memory}

-- ---- uses

abbrev pub OfEach : ℕ → ℕ → (List ℕ → List ℕ → List ℕ → Type 0) → Type 0
OfEach n mode P =
    (b m h : List ℕ) → Bytes image_bytes b → Bytes n h → (exported (validating mode h) b m).reply.number ≡ 0 → P b m h

abbrev pub CutsOnUses : ℕ → ℕ → Type 0
CutsOnUses n mode = OfEach n mode (λ b m h. WaysUses (λ x. (exported x b m).reply) n mode h)

pub record PairOnUses (e : List ℕ) (k : ℕ) (e' : List ℕ) (k' : ℕ) : Type 0 where
  pub validates : (mode : ℕ) → OfEach 23 mode (λ b m h. (g g' : Handle) → made product (decoded h) e k ≡ given g
      → made product (decoded h) e' k' ≡ given g' → ((exported (validating mode (encoded g)) b m).reply.number ≡ 0) × ((exported (validating mode (encoded g')) b m).reply.number ≡ 0))
  pub reduces : (mode : ℕ) → OfEach 23 mode (λ b m h. (g g' : Handle) → made product (decoded h) e k ≡ given g
      → made product (decoded h) e' k' ≡ given g' → (exported (reducing mode (encoded g)) b m).reply.number ≡ 0)
  pub references : (mode : ℕ) → OfEach 23 mode (λ b m h. (g g' : Handle) → made product (decoded h) e k ≡ given g
      → made product (decoded h) e' k' ≡ given g' → (i : ℕ) → i < 8 → References g i ↔ References g' i)
  pub alike : (mode : ℕ) → OfEach 23 mode (λ b m h. (g g' : Handle) → made product (decoded h) e k ≡ given g
      → made product (decoded h) e' k' ≡ given g' → (exported (reducing mode (encoded g)) b m).reply ≡ (exported (reducing mode (encoded g')) b m).reply)

pub record StayUses (b m h : List ℕ) (n : ℕ) : Type 0 where
  pub image_weaken : (exported (weakening_by n h) b m).image ≡ b
  pub image_reduce : (exported (reducing n h) b m).image ≡ b
  pub image_validate : (exported (validating n h) b m).image ≡ b
  pub memory_weaken : (exported (weakening_by n h) b m).memory ≡ m
  pub memory_reduce : (exported (reducing n h) b m).memory ≡ m
  pub memory_validate : (exported (validating n h) b m).memory ≡ m

pub record CutsOnImagesUses : Type 0 where
  pub four_read : CutsOnUses 21 1
  pub four_write : CutsOnUses 21 2
  pub eight_read : CutsOnUses 23 1
  pub eight_write : CutsOnUses 23 2
  pub sixteen_read : CutsOnUses 27 1
  pub sixteen_write : CutsOnUses 27 2
  pub same_masks : (e e' : List ℕ) (k k' : ℕ)
      → ((n : ℕ) → Among n (masks_of e k (way_of e k).records) ↔ Among n (masks_of e' k' (way_of e' k').records))
      → PairOnUses e k e' k'
  pub orders : (x y : ℕ) → PairOnUses (either x y) 2 (either y x) 2
  pub one_register : (x y : ℕ) → PairOnUses (fourfold x y) 2 (fourfold x y) 4
  pub again : (x : ℕ) → PairOnUses (twofold x) 1 (twofold x) 2
  pub shared : (x y : ℕ) → PairOnUses (either x y) 2 (0 ∷ bit_and x y ∷ []) 1
  pub stays : (b m h : List ℕ) (n : ℕ) → Bytes image_bytes b → StayUses b m h n

-- ---- images that meet what is asked

pub record ImageMet (v : Wide) (mode : ℕ) (p b m : List ℕ) : Type 0 where
  pub bytes : Bytes image_bytes b
  pub valid : (exported (validating mode (by p (written v).whole)) b m).reply.number ≡ 0
  pub done : (x : Way)
      → Done (on_image b m) (masks (written v).first (written v).second (written v).shared x) (by p (written v).whole)
  pub gives : (x : Way)
      → cut (on_image b m) (masks (written v).first (written v).second (written v).shared x) (by p (written v).whole)
      ≡ Replies.given product v p x

pub record ImagesMetAt (v : Wide) (q : Passwords) (b c d y z : ℕ) : Type 0 where
  pub reading : ImageMet v 1 (sixteen (reads q)) (image v q) (memory b c d y z)
  pub writing : ImageMet v 2 (sixteen (writing q)) (image v q) (memory b c d y z)

abbrev pub ImagesMet : Type 0
ImagesMet = (v : Wide) (q : Passwords) (b c d y z : ℕ) → ImagesMetAt v q b c d y z
