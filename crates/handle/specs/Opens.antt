-- What the laws of one handle speak of, for every width w and every conversion f.
--     primary_handle v n p    the handle of the width v, the name n and the password p with all subselectors flat
--     primary_bytes v k l p   the bytes of the primary handle of the width v, node k, local number l and password p
--     Whole h              h has four subselectors, and none has a bit at or above the width
--     Opens n p r h        h has the name n and the width w, is whole and ungapped, validates from the primary password
--                          p, and references exactly the segments that r gives
-- A number with a bit at or above the width can have all bits below it without being flat, so the laws ask for whole
-- handles; any bytes hold one.
-- Assumes nothing.
use Rattle.std.specs.Prelude.{ℕ, ◌<◌, ◌≡◌, Bool, false, List, length}
use Rattle.handle.specs.declared.Handle.{Handle}
use Rattle.handle.specs.declared.Width.{Width}
use Rattle.handle.specs.Sizes.{subselectors}
use Rattle.handle.specs.Widths.{bits_of}
use Rattle.handle.specs.Selectors.{references, gapped, flats, Within}
use Rattle.handle.specs.Handles.{Name, name_of, width_of, encoded, through}

abbrev pub primary_handle : Width → Name → List ℕ → Handle
primary_handle v n p =
    record { node = n.node; local = n.local; password = p; width = v; selector = flats (bits_of v) }

abbrev pub primary_bytes : Width → ℕ → ℕ → List ℕ → List ℕ
primary_bytes v node local p = encoded (primary_handle v (record { node = node; local = local }) p)

module _ (w : ℕ) where
  pub record Whole (h : Handle) : Type 0 where
    pub four : length h.selector ≡ subselectors
    pub within : Within w h.selector

  module _ (f : List ℕ → ℕ → List ℕ) where
    pub record Opens (name : Name) (p : List ℕ) (r : ℕ → Bool) (h : Handle) : Type 0 where
      pub named : name_of h ≡ name
      pub wide : width_of h ≡ w
      pub whole : Whole h
      pub ungapped : gapped w h.selector ≡ false
      pub valid : through w f h.selector p ≡ h.password
      pub refers : (i : ℕ) → i < w → references h.selector i ≡ r i
