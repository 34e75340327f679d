-- What a handle that validates reduces to is told by its name, its width, the primary password and the segments that it
-- references: where it references them all it is primary, and has the primary password itself; else what is made goes by these alone.
-- Assumes nothing.
use Prim.Native.Nat.{ℕ, ◌<◌}
use mathlib.Core.Path.{◌≡◌, refl, sym, ap, ap₂, ◌∙◌}
use mathlib.Core.Bool.{Bool, true, false≢true}
use mathlib.Core.List.{List, [], ◌∷◌}
use lib.ListN.{length, replicate}
use borrow.Author.Tests.{eqb-true}
use Rattle.bits.specs.Sets.{full}
use Rattle.bits.proofs.SetLaws.{set_of_same}
use Rattle.loops.proofs.BelowLaws.{and_left, and_right}
use Rattle.handle.specs.declared.Handle.{Handle}
use Rattle.handle.specs.Selectors.{references, flat, all_flat, common, flats, in_first}
use Rattle.handle.specs.Handles.{Name, renewed, made, reduced}
use Rattle.handle.specs.Opens.{Opens}
use Rattle.handle.proofs.WidthLaws.{bits_same}
use Rattle.handle.proofs.SelectorLaws.{references_flat, flat_references}
use Rattle.handle.proofs.HandleLaws.{through_flat, reduced_cases}

module _ (w : ℕ) (f : List ℕ → ℕ → List ℕ) (name : Name) (p : List ℕ) where
  -- the segments by another name
  pub opens_as : {r q : ℕ → Bool} {h : Handle} → Opens w f name p r h → ((i : ℕ) → i < w → r i ≡ q i) → Opens w f name p q h
  opens_as o e = record {
    named = o.named;
    wide = o.wide;
    whole = o.whole;
    ungapped = o.ungapped;
    valid = o.valid;
    refers = λ i l. o.refers i l ∙ e i l;
  }

  all_flat_lem : (ss : List ℕ) → all_flat w ss ≡ true → ss ≡ replicate (length ss) (full w)
  all_flat_lem [] e = refl
  all_flat_lem (s ∷ ss) e =
      ap₂ (λ (x : ℕ) (l : List ℕ). x ∷ l) (eqb-true s (full w) (and_left (flat w s) (all_flat w ss) e))
      (all_flat_lem ss (and_right (flat w s) (all_flat w ss) e))

  -- primary, it has the primary password and all subselectors flat
  flat_password : {r : ℕ → Bool} (k : Handle) → Opens w f name p r k → all_flat w k.selector ≡ true → k.password ≡ p
  flat_password k o t = sym o.valid ∙ through_flat w f k.selector p t

  flat_selector : {r : ℕ → Bool} (k : Handle) → Opens w f name p r k → all_flat w k.selector ≡ true → k.selector ≡ flats w
  flat_selector k o t = all_flat_lem k.selector t ∙ ap (λ (n : ℕ). replicate n (full w)) o.whole.four

  module _ {r : ℕ → Bool} (g h : Handle) (a : Opens w f name p r g) (b : Opens w f name p r h) where
    -- one is primary where the other is
    flat_too : all_flat w g.selector ≡ true → all_flat w h.selector ≡ true
    flat_too t =
        flat_references w h.selector b.whole.within
        (λ i l. b.refers i l ∙ sym (a.refers i l) ∙ references_flat w g.selector t i l)

    commons : common w g.selector ≡ common w h.selector
    commons =
        set_of_same w (references g.selector) (references h.selector) (λ i l. a.refers i l ∙ sym (b.refers i l))

    of_parts : {x y ss ts : List ℕ} → x ≡ y → ss ≡ ts → renewed g x ss ≡ renewed h y ts
    of_parts x s j = record {
      node = ((a.named ∙ sym b.named) j).node;
      local = ((a.named ∙ sym b.named) j).local;
      password = x j;
      width = bits_same g.width h.width (a.wide ∙ sym b.wide) j;
      selector = s j;
    }

  pub same_reduction : {r : ℕ → Bool} (g h : Handle) → Opens w f name p r g → Opens w f name p r h
      → reduced w f g p ≡ reduced w f h p
  same_reduction g h a b =
      reduced_cases w f g p (λ k. k ≡ reduced w f h p)
      (λ t.
      reduced_cases w f h p (λ k. g ≡ k)
      (λ s.
      of_parts g h a b (flat_password g a t ∙ sym (flat_password h b s)) (flat_selector g a t ∙ sym (flat_selector h b s)))
      (λ s. absurd (false≢true (sym s ∙ flat_too g h a b t))))
      (λ t.
      reduced_cases w f h p (λ k. made w f g p (common w g.selector) ≡ k)
      (λ s. absurd (false≢true (sym t ∙ flat_too h g b a s)))
      (λ s. of_parts g h a b (ap (f p) (commons g h a b)) (ap (in_first w) (commons g h a b))))
