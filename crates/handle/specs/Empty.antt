-- Document 02, §1, "No handles to nothing": what 21 means of the handle that weakening would make, for every width w and
-- every conversion f.
--     NoneLeft           where h has a flat subselector or nothing is excluded, so that weakening makes a handle: the mask
--                        keeps none just where that handle would reference no segment
--     SomeLeft           the handle given references some segment, and the count told is not 0
--     DoneReferences     so it is whenever the weakening is done
-- Assumes nothing.
use Rattle.std.specs.Prelude.{◌≡◌, ◌≢◌, ◌↔◌, ℕ, ◌<◌, true, false, List}
use Rattle.handle.specs.declared.Handle.{Handle}
use Rattle.handle.specs.Selectors.{references, keeps_none, spent}
use Rattle.handle.specs.Handles.{weakened, weakening}

module _ (w : ℕ) (f : List ℕ → ℕ → List ℕ) (h : Handle) (mask : ℕ) where
  abbrev pub NoneLeft : Type 0
  NoneLeft =
      spent w mask h.selector ≡ false
      → (keeps_none w mask h.selector ≡ true)
      ↔ ((i : ℕ) → i < w → references (weakened w f h mask).selector i ≡ false)

  pub record SomeLeft : Type 0 where
    pub segment : ℕ
    pub below : segment < w
    pub references : references (weakening w f h mask).handle.selector segment ≡ true
    pub count : (weakening w f h mask).count ≢ 0

  abbrev pub DoneReferences : Type 0
  DoneReferences = (weakening w f h mask).number ≡ 0 → SomeLeft
