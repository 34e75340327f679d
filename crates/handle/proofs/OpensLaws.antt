-- Weakening and reduction take a handle that opens a cluster to one that opens it: each part of `Opens` is a law of
-- one handle.
-- Assumes nothing.
use Prim.Native.Nat.{ℕ}
use mathlib.Core.Path.{◌≡◌, refl, sym, ap, ◌∙◌, subst}
use mathlib.Core.Bool.{Bool, true, false, ◌&&◌}
use mathlib.Core.List.{List}
use Rattle.bits.specs.Sets.{has}
use Rattle.bits.proofs.OperationLaws.{full_lt}
use Rattle.handle.specs.declared.Handle.{Handle}
use Rattle.handle.specs.declared.Width.{Width}
use Rattle.handle.specs.Widths.{bits_of}
use Rattle.handle.specs.Selectors.{flats, spent, referenced}
use Rattle.handle.specs.Handles.{Name, reply, weaken_number, weakened, reduced, weakening}
use Rattle.handle.specs.Opens.{primary_handle, Opens}
use Rattle.handle.proofs.SelectorLaws.{references_flat, full_flat}
use Rattle.handle.proofs.HandleLaws.{unspent, through_flat}
use Rattle.handle.proofs.HandleLaws.{name_weakened, width_weakened, whole_weakened, gapped_weakened}
use Rattle.handle.proofs.HandleLaws.{references_weakened, valid_weakened}
use Rattle.handle.proofs.HandleLaws.{name_reduced, width_reduced, whole_reduced, gapped_reduced}
use Rattle.handle.proofs.HandleLaws.{references_reduced, valid_reduced}

-- a primary handle opens every segment with its own password
module _ (v : Width) (f : List ℕ → ℕ → List ℕ) (name : Name) (p : List ℕ) where
  abbrev w : ℕ
  w = bits_of v

  pub opens_primary : Opens (bits_of v) f name p (λ i. true) (primary_handle v name p)
  opens_primary = record {
    named = refl;
    wide = refl;
    whole = record { four = refl; within = (full_lt w, (full_lt w, (full_lt w, (full_lt w, tt)))) };
    ungapped = simp (full_flat w);
    valid = through_flat w f (flats w) p (simp (full_flat w));
    refers = λ i l. references_flat w (flats w) (simp (full_flat w)) i l;
  }

module _ (w : ℕ) (f : List ℕ → ℕ → List ℕ) (name : Name) (p : List ℕ) where
  module _ {r : ℕ → Bool} (h : Handle) (o : Opens w f name p r h) where
    pub opens_weakened : (mask : ℕ) → spent w mask h.selector ≡ false
        → Opens w f name p (λ i. r i && has i mask) (weakened w f h mask)
    opens_weakened mask u = record {
      named = name_weakened w f h mask ∙ o.named;
      wide = width_weakened w f h mask ∙ o.wide;
      whole = whole_weakened w f h mask o.whole;
      ungapped = gapped_weakened w f h mask o.ungapped;
      valid = valid_weakened w f h mask u p o.ungapped o.valid;
      refers = λ i l. references_weakened w f h mask u i l ∙ ap (λ (b : Bool). b && has i mask) (o.refers i l);
    }

    -- the handle of a call 7 that is done
    pub opens_weakening : (mask : ℕ) → weaken_number w h mask ≡ 0
        → Opens w f name p (λ i. r i && has i mask) (weakening w f h mask).handle
    unfolding weakening
    opens_weakening mask e =
        subst
        (λ (n : ℕ).
        Opens w f name p (λ i. r i && has i mask)
        (reply n (weakened w f h mask) (referenced w (weakened w f h mask).selector)).handle)
        (sym e) (opens_weakened mask (unspent w h mask e))

    pub opens_reduced : Opens w f name p r (reduced w f h p)
    opens_reduced = record {
      named = name_reduced w f h p ∙ o.named;
      wide = width_reduced w f h p ∙ o.wide;
      whole = whole_reduced w f h p o.whole;
      ungapped = gapped_reduced w f h p o.whole o.ungapped;
      valid = valid_reduced w f h p o.whole o.valid;
      refers = λ i l. references_reduced w f h p i l ∙ o.refers i l;
    }
