-- Cuts on images: on an image that holds a store calls are answered as steps on that store answer them, and what an image holds has
-- passwords of sixteen bytes, so the theorems about steps hold there.
-- Assumes nothing.
use mathlib.Core.Path.{◌≡◌, refl, sym, ap, ◌∙◌, subst}
use mathlib.Core.Logic.{inl, inr}
use Prim.Native.Nat.{ℕ, ◌<◌}
use native.Mathlib.Omega.{arith}
use mathlib.Core.Bool.{Bool, true, false}
use mathlib.Core.List.{List}
use lib.ListN.{length, get_or}
use Rattle.bits.specs.Bytes.{Bytes}
use Rattle.handle.specs.Conversion.{product}
use Rattle.handle.specs.Handles.{decoded}
use Rattle.calls.specs.Calls.{Copy, Call, validating, record_named}
use Rattle.calls.specs.Words.{cluster_of}
use Rattle.calls.specs.Steps.{Reply}
use Rattle.calls.proofs.StepLaws.{step_number}
use Rattle.calls.proofs.DoneLaws.{done_range}
use Rattle.cuts.specs.Words.{Validates, AnyCutsInWords, TwoCutsInWords, on_copy, Sixteen, Start}
use Rattle.cuts.specs.Entries.{EntriesInWords}
use Rattle.cuts.proofs.WordLaws.{copy_stays}
use Rattle.cuts.proofs.AesLaws.{aes_any_cuts, aes_two_cuts, aes_entries_alike}
use Rattle.image.specs.Images.{image_bytes, good, store_in, image_of}
use Rattle.image.specs.Ranges.{ClusterFits}
use Rattle.image.proofs.TripLaws.{image_store}
use Rattle.image.proofs.RangeLaws.{store_held}
use Rattle.gelmuszta.specs.Exported.{Exported, exported}
use Rattle.gelmuszta.specs.Runs.{held}
use Rattle.gelmuszta.specs.CutImages.{on_image, AnyCutsOnImages, TwoCutsOnImages, EntriesOnImages, ImageStays}
use Rattle.gelmuszta.proofs.RunLaws.{exported_good, exported_damaged, good_done}

module _ (b m : List ℕ) (hb : Bytes image_bytes b) (mode : ℕ) (h : List ℕ) (low : (i : ℕ) → get_or h i 0 < 256)
    (v : Validates (on_image b m) mode h) where
  holds : good b ≡ true
  holds = good_done (validating mode h) b m refl v

  same : on_image b m ≡ on_copy product (held b m)
  same j x = (exported_good x b m holds j).reply

  valid : Validates (on_copy product (held b m)) mode h
  valid = subst (λ (a : Call → Reply). Validates a mode h) same v

  fits : ClusterFits (cluster_of (decoded h) (store_in b))
  fits =
      let r = done_range product (validating mode h) (store_in b) (length m) (step_number product (validating mode h) (held b m) valid) in
      let n = r.node_low in
      let l = r.local_low in
      (store_held b hb).each (record_named (decoded h)) (omega arith)

  sixteen : Sixteen mode (decoded h) (store_in b)
  sixteen p (inl (e, q)) = ap length q ∙ fits.read
  sixteen p (inr (e, q)) = ap length q ∙ fits.write

  start : Start product mode h (held b m)
  start = record { bytes = low; sixteen = sixteen; valid = valid }

pub any_cuts_on_images : AnyCutsOnImages
any_cuts_on_images b m hb mode h low v =
    subst (λ (a : Call → Reply). AnyCutsInWords a mode h) (sym (same b m hb mode h low v))
    (aes_any_cuts mode h (held b m) (start b m hb mode h low v))

pub two_cuts_on_images : TwoCutsOnImages
two_cuts_on_images b m hb mode h low v x y s both =
    subst (λ (a : Call → Reply). TwoCutsInWords a mode h x y s) (sym (same b m hb mode h low v))
    (aes_two_cuts mode h (held b m) (start b m hb mode h low v) x y s both)

pub entries_on_images : EntriesOnImages
entries_on_images b m hb mode h o v e e' k k' g g' d d' w =
    subst (λ (a : Call → Reply). EntriesInWords a mode g g') (sym (same b m hb mode h o.below v))
    (aes_entries_alike mode h (held b m) o.long (start b m hb mode h o.below v) e e' k k' g g' d d' w)

pub image_stays : ImageStays
image_stays x b m hb n = go (good b) refl
  where
    go : (t : Bool) → good b ≡ t → ((exported x b m).image ≡ b) × ((exported x b m).memory ≡ m)
    go false e = (
      ap (λ (o : Exported). o.image) (exported_damaged x b m e),
      ap (λ (o : Exported). o.memory) (exported_damaged x b m e),
    )
    go true e = (
      ap (λ (o : Exported). o.image) (exported_good x b m e)
          ∙ ap (λ (c : Copy). image_of c.store) (copy_stays product x (held b m) n)
          ∙ image_store b hb e,
      ap (λ (o : Exported). o.memory) (exported_good x b m e)
          ∙ ap (λ (c : Copy). c.memory) (copy_stays product x (held b m) n),
    )
