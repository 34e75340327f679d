-- Each clause of the statements about cuts on images, put to use; and images on which the three ways are done.
-- Assumes nothing.
use mathlib.Core.Path.{◌≡◌, refl, sym, subst}
use mathlib.Core.Logic.{inl, inr}
use Prim.Native.Nat.{ℕ}
use mathlib.Core.Bool.{true}
use mathlib.Core.List.{List, [], ◌∷◌}
use lib.Bits.{bit_and}
use Rattle.bits.specs.Bytes.{Bytes}
use Rattle.handle.specs.declared.Handle.{Handle}
use Rattle.handle.specs.Conversion.{product}
use Rattle.handle.specs.Handles.{decoded}
use Rattle.calls.specs.Calls.{Call, weakening_by, reducing, validating}
use Rattle.calls.specs.Literals.{sixteen}
use Rattle.calls.specs.Steps.{Reply}
use Rattle.calls.specs.Words.{Named}
use Rattle.register.specs.Registers.{given, made}
use Rattle.isolation.specs.UseLists.{Wide, keeping}
use Rattle.cuts.specs.Cuts.{Way, masks}
use Rattle.cuts.specs.Words.{cut, Done, Validates, on_copy}
use Rattle.cuts.specs.Entries.{SameWays, KeepAlike, EntriesInWords}
use Rattle.cuts.specs.cases.Computed.{either, fourfold, twofold}
use Rattle.cuts.specs.cases.Replies.{by, written, WayMet}
use Rattle.cuts.specs.cases.Replies as Replies
use Rattle.cuts.proofs.MetLaws.{low_bytes, low}
use Rattle.cuts.proofs.EntryLaws.{same_ways_keep}
use Rattle.cuts.proofs.UseLaws.{ways_uses, orders, one_register, more_often, shares_keep}
use Rattle.cuts.proofs.AesLaws.{aes_ways_met}
use Rattle.image.specs.Images.{image_bytes}
use Rattle.gelmuszta.specs.CutImages.{on_image}
use Rattle.gelmuszta.specs.ImageUses.{Passwords, equal, others, another, reads, writing, store, image, memory}
use Rattle.gelmuszta.specs.cases.CutUses.{CutsOnUses, PairOnUses, StayUses, CutsOnImagesUses, ImageMet, ImagesMetAt, ImagesMet}
use Rattle.gelmuszta.proofs.RunLaws.{exported_image}
use Rattle.gelmuszta.proofs.ImageUseLaws.{store_fits, image_bytes_lem}
use Rattle.gelmuszta.proofs.CutImageLaws.{any_cuts_on_images, two_cuts_on_images, entries_on_images, image_stays}

-- ---- cuts

uses_at : (n mode : ℕ) → CutsOnUses n mode
uses_at n mode b m h hb hh v =
    ways_uses (on_image b m) n mode h hh.long (any_cuts_on_images b m hb mode h hh.below v)
    (two_cuts_on_images b m hb mode h hh.below v)

-- ---- entries

pair_uses : (e : List ℕ) (k : ℕ) (e' : List ℕ) (k' : ℕ) → ((h : Handle) → KeepAlike h e k e' k') → PairOnUses e k e' k'
pair_uses e k e' k' same =
    record {
      validates = λ mode b m h hb hh v g g' d d'. (words mode b m h hb hh v g g' d d').validates;
      reduces = λ mode b m h hb hh v g g' d d'. (words mode b m h hb hh v g g' d d').reduces;
      references = λ mode b m h hb hh v g g' d d'. (words mode b m h hb hh v g g' d d').references;
      alike = λ mode b m h hb hh v g g' d d'. (words mode b m h hb hh v g g' d d').alike;
    }
  where
    words : (mode : ℕ) (b m h : List ℕ) → Bytes image_bytes b → Bytes 23 h → Validates (on_image b m) mode h → (g g' : Handle)
        → made product (decoded h) e k ≡ given g → made product (decoded h) e' k' ≡ given g'
        → EntriesInWords (on_image b m) mode g g'
    words mode b m h hb hh v g g' d d' = entries_on_images b m hb mode h hh v e e' k k' g g' d d' (same (decoded h))

by_ways : (e : List ℕ) (k : ℕ) (e' : List ℕ) (k' : ℕ) → SameWays e k e' k' → PairOnUses e k e' k'
by_ways e k e' k' w = pair_uses e k e' k' (λ h. same_ways_keep h e e' k k' w)

-- ---- what stays

stay_uses : (b m h : List ℕ) (n : ℕ) → Bytes image_bytes b → StayUses b m h n
unfolding Named
stay_uses b m h n hb =
    record {
      image_weaken = (image_stays (weakening_by n h) b m hb (inl refl)).0;
      image_reduce = (image_stays (reducing n h) b m hb (inr (inl refl))).0;
      image_validate = (image_stays (validating n h) b m hb (inr (inr (inl refl)))).0;
      memory_weaken = (image_stays (weakening_by n h) b m hb (inl refl)).1;
      memory_reduce = (image_stays (reducing n h) b m hb (inr (inl refl))).1;
      memory_validate = (image_stays (validating n h) b m hb (inr (inr (inl refl)))).1;
    }

pub cuts_on_images_uses : CutsOnImagesUses
cuts_on_images_uses =
    record {
      four_read = uses_at 21 1;
      four_write = uses_at 21 2;
      eight_read = uses_at 23 1;
      eight_write = uses_at 23 2;
      sixteen_read = uses_at 27 1;
      sixteen_write = uses_at 27 2;
      same_masks = λ e e' k k' w. by_ways e k e' k' w;
      orders = λ x y. by_ways (either x y) 2 (either y x) 2 (orders x y);
      one_register = λ x y. by_ways (fourfold x y) 2 (fourfold x y) 4 (one_register x y);
      again = λ x. by_ways (twofold x) 1 (twofold x) 2 (more_often x);
      shared = λ x y. pair_uses (either x y) 2 (0 ∷ bit_and x y ∷ []) 1 (shares_keep x y);
      stays = stay_uses;
    }

-- ---- images that meet what is asked

module _ (v : Wide) (q : Passwords) (b c d y z : ℕ) where
  same : on_image (image v q) (memory b c d y z)
      ≡ on_copy product (keeping v (sixteen (reads q)) (sixteen (writing q)) b c d y z)
  same j x = (exported_image (store v q) (store_fits v q) x (memory b c d y z) j).reply

  image_met : (mode : ℕ) (p : List ℕ)
      → WayMet product v mode p (keeping v (sixteen (reads q)) (sixteen (writing q)) b c d y z)
      → ImageMet v mode p (image v q) (memory b c d y z)
  image_met mode p w =
      record {
        bytes = image_bytes_lem v q;
        valid =
            subst (λ (a : Call → Reply). (a (validating mode (by p (written v).whole))).number ≡ 0) (sym same)
            w.start.valid;
        done = λ x. subst (λ (a : Call → Reply). Done a (ways x) (by p (written v).whole)) (sym same) (w.done x);
        gives = λ x.
            subst (λ (a : Call → Reply). cut a (ways x) (by p (written v).whole) ≡ Replies.given product v p x) (sym same)
            (w.gives x);
      }
    where
      ways : Way → List ℕ
      ways x = masks (written v).first (written v).second (written v).shared x

  -- the passwords of the uses are bytes
  sound : (n : Passwords → ℕ) → ((q : Passwords) → low_bytes (sixteen (n q)) ≡ true) → Bytes 16 (sixteen (n q))
  sound n e = record { long = refl; below = low (sixteen (n q)) (e q) }

  images_met_at : ImagesMetAt v q b c d y z
  images_met_at =
      record {
        reading = image_met 1 (sixteen (reads q)) met.0;
        writing = image_met 2 (sixteen (writing q)) met.1;
      }
    where
      met : WayMet product v 1 (sixteen (reads q)) (keeping v (sixteen (reads q)) (sixteen (writing q)) b c d y z)
          × WayMet product v 2 (sixteen (writing q)) (keeping v (sixteen (reads q)) (sixteen (writing q)) b c d y z)
      met =
          aes_ways_met v (sixteen (reads q)) (sixteen (writing q)) b c d y z
          (sound reads (λ q. elim q as (λ (p : Passwords). low_bytes (sixteen (reads p)) ≡ true) [ equal ↦ refl | others ↦ refl | another ↦ refl ]))
          (sound writing (λ q. elim q as (λ (p : Passwords). low_bytes (sixteen (writing p)) ≡ true) [ equal ↦ refl | others ↦ refl | another ↦ refl ]))

pub images_met : ImagesMet
images_met v q b c d y z = images_met_at v q b c d y z
