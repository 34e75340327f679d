-- Laws of one handle, for every width w and every conversion f. Each law of `weakened` and `reduced` is shown in two
-- cases, the handle unchanged and the handle changed; the chain of conversions ends with the one that weakening adds,
-- since all after the first flat subselector is flat.
-- Assumes nothing.
use Prim.Native.Nat.{ℕ, ◌-◌, ◌<◌}
use native.Mathlib.Omega.{arith}
use mathlib.Core.Path.{◌≡◌, refl, sym, ap, ◌∙◌}
use mathlib.Core.Bool.{Bool, true, false, not, ◌&&◌, ◌||◌, false≢true, cond}
use mathlib.Core.List.{List, [], ◌∷◌}
use lib.ListN.{length-set, replicate}
use Rattle.bits.specs.Sets.{has, full}
use Rattle.bits.proofs.SetLaws.{set_of_lt, set_of_same}
use Rattle.bits.proofs.OperationLaws.{full_lt}
use Rattle.loops.proofs.BelowLaws.{and_left, and_right}
use Rattle.handle.specs.declared.Handle.{Handle}
use Rattle.handle.specs.Sizes.{subselectors}
use Rattle.handle.specs.Selectors.{references, flat, all_flat, any_flat, gapped, first_flat, common}
use Rattle.handle.specs.Selectors.{keeps_all, keeps_none, parameter, replaced, spent, in_first}
use Rattle.handle.specs.Handles.{name_of, width_of, renewed, through, weakened, made, reduced}
use Rattle.numbers.specs.Numbers.{wrong_length_number, place_number, gapped_number, empty_number, spent_number}
use Rattle.handle.specs.Handles.{no_width, no_such_place, weaken_number}
use Rattle.handle.specs.Opens.{Whole}
use Rattle.handle.proofs.SelectorLaws.{replaced_here, replaced_past}
use Rattle.handle.proofs.SelectorLaws.{references_replaced, gapped_replaced, within_replaced}
use Rattle.handle.proofs.SelectorLaws.{rest_flat, rest_ungapped, common_not_flat, full_flat}
use Rattle.handle.proofs.SelectorLaws.{has_parameter, parameter_not_flat, parameter_lt, keeps_each, kept}
use Rattle.handle.proofs.SelectorLaws.{references_in_first, gapped_in_first}

-- the number by the tests of the five rows
abbrev pub telling : Bool → Bool → Bool → Bool → Bool → ℕ
telling l a b c d =
    cond l wrong_length_number (cond a place_number (cond b gapped_number (cond c empty_number (cond d spent_number 0))))

-- a weakening that is not turned down has a handle of a place that there is, which is not gapped, keeps something and is not spent
module _ (w : ℕ) (h : Handle) (mask : ℕ) (e : weaken_number w h mask ≡ 0) where
  clear : (no_width h ≡ false) × (no_such_place h ≡ false) × (gapped w h.selector ≡ false)
      × (keeps_none w mask h.selector ≡ false) × (spent w mask h.selector ≡ false)
  unfolding weaken_number
  clear =
      go (no_width h) (no_such_place h) (gapped w h.selector) (keeps_none w mask h.selector)
      (spent w mask h.selector) e
    where
      go : (l a b c d : Bool) → telling l a b c d ≡ 0
          → (l ≡ false) × (a ≡ false) × (b ≡ false) × (c ≡ false) × (d ≡ false)
      go true a b c d e = absurd (omega arith)
      go false true b c d e = absurd (omega arith)
      go false false true c d e = absurd (omega arith)
      go false false false true d e = absurd (omega arith)
      go false false false false true e = absurd (omega arith)
      go false false false false false e = (refl, refl, refl, refl, refl)

  pub wide_kept : no_width h ≡ false
  wide_kept = clear.0

  pub place_kept : no_such_place h ≡ false
  place_kept = clear.1

  pub ungapped_done : gapped w h.selector ≡ false
  ungapped_done = clear.2

  pub some_kept : keeps_none w mask h.selector ≡ false
  some_kept = clear.3

  pub unspent : spent w mask h.selector ≡ false
  unspent = clear.4

module _ (w : ℕ) (f : List ℕ → ℕ → List ℕ) where
  -- ---- the chain of conversions

  abbrev after : List ℕ → List ℕ → ℕ → Bool → List ℕ
  after ss p s b = through w f ss (elim b [ true ↦ p | false ↦ f p s ])

  through_here : (s : ℕ) (ss p : List ℕ) → flat w s ≡ true → through w f (s ∷ ss) p ≡ through w f ss p
  through_here s ss p e = ap (after ss p s) e

  through_past : (s : ℕ) (ss p : List ℕ) → flat w s ≡ false → through w f (s ∷ ss) p ≡ through w f ss (f p s)
  through_past s ss p e = ap (after ss p s) e

  pub through_flat : (ss p : List ℕ) → all_flat w ss ≡ true → through w f ss p ≡ p
  through_flat [] p e = refl
  through_flat (s ∷ ss) p e =
      through_here s ss p (and_left (flat w s) (all_flat w ss) e)
      ∙ through_flat ss p (and_right (flat w s) (all_flat w ss) e)

  through_replaced : (v : ℕ) → flat w v ≡ false → (ss p : List ℕ) → gapped w ss ≡ false → any_flat w ss ≡ true
      → through w f (replaced w v ss) p ≡ f (through w f ss p) v
  through_replaced v n [] p g a = absurd (false≢true a)
  through_replaced v n (s ∷ ss) p g a = go (flat w s) refl a (through_replaced v n ss (f p s) (rest_ungapped w s ss g))
    where
      go : (b : Bool) → flat w s ≡ b → b || any_flat w ss ≡ true
          → (any_flat w ss ≡ true → through w f (replaced w v ss) (f p s) ≡ f (through w f ss (f p s)) v)
          → through w f (replaced w v (s ∷ ss)) p ≡ f (through w f (s ∷ ss) p) v
      go true e a ih =
          ap (λ (l : List ℕ). through w f l p) (replaced_here w v s ss e)
          ∙ through_past v ss p n
          ∙ through_flat ss (f p v) (rest_flat w s ss g e)
          ∙ ap (λ (q : List ℕ). f q v) (sym (through_here s ss p e ∙ through_flat ss p (rest_flat w s ss g e)))
      go false e a ih =
          ap (λ (l : List ℕ). through w f l p) (replaced_past w v s ss e)
          ∙ through_past s (replaced w v ss) p e
          ∙ ih a
          ∙ ap (λ (q : List ℕ). f q v) (sym (through_past s ss p e))

  -- ---- weakening

  module _ (h : Handle) (mask : ℕ) where
    abbrev cut : Handle
    cut =
        renewed h (f h.password (parameter w mask h.selector))
        (replaced w (parameter w mask h.selector) h.selector)

    pub weakened_cases : (P : Handle → Type 0) → (keeps_all w mask h.selector ≡ true → P h)
        → (keeps_all w mask h.selector ≡ false → P cut) → P (weakened w f h mask)
    unfolding weakened
    weakened_cases P a b = go (keeps_all w mask h.selector) refl
      where
        go : (x : Bool) → keeps_all w mask h.selector ≡ x → P (elim x [ true ↦ h | false ↦ cut ])
        go true e = a e
        go false e = b e

    pub name_weakened : name_of (weakened w f h mask) ≡ name_of h
    name_weakened = weakened_cases (λ k. name_of k ≡ name_of h) (λ e. refl) (λ e. refl)

    pub width_weakened : width_of (weakened w f h mask) ≡ width_of h
    width_weakened = weakened_cases (λ k. width_of k ≡ width_of h) (λ e. refl) (λ e. refl)

    pub whole_weakened : Whole w h → Whole w (weakened w f h mask)
    whole_weakened o = weakened_cases (Whole w) (λ e. o) (λ e. record {
      four = length-set h.selector (first_flat w h.selector) (parameter w mask h.selector) ∙ o.four;
      within =
          within_replaced w (parameter w mask h.selector) (parameter_lt w mask h.selector) h.selector
          o.within;
    })

    pub gapped_weakened : gapped w h.selector ≡ false → gapped w (weakened w f h mask).selector ≡ false
    gapped_weakened g =
        weakened_cases (λ k. gapped w k.selector ≡ false) (λ e. g)
        (λ e. gapped_replaced w (parameter w mask h.selector) h.selector g)

    module _ (u : spent w mask h.selector ≡ false) where
      some_flat : keeps_all w mask h.selector ≡ false → any_flat w h.selector ≡ true
      some_flat e = go (keeps_all w mask h.selector) (any_flat w h.selector) e u
        where
          go : (k a : Bool) → k ≡ false → not k && not a ≡ false → a ≡ true
          go true a e u = absurd (false≢true (sym e))
          go false true e u = refl
          go false false e u = sym u

      -- it references exactly the old ones that the mask keeps
      pub references_weakened : (i : ℕ) → i < w
          → references (weakened w f h mask).selector i ≡ references h.selector i && has i mask
      references_weakened i l =
          weakened_cases (λ k. references k.selector i ≡ references h.selector i && has i mask)
          (λ e. keeps_each w mask h.selector e i l)
          (λ e.
          references_replaced w (parameter w mask h.selector) i l h.selector (some_flat e)
          ∙ ap (λ (b : Bool). b && references h.selector i) (has_parameter w mask h.selector i l)
          ∙ kept (references h.selector i) (has i mask))

      -- it validates from the same primary password
      pub valid_weakened : (p : List ℕ) → gapped w h.selector ≡ false → through w f h.selector p ≡ h.password
          → through w f (weakened w f h mask).selector p ≡ (weakened w f h mask).password
      valid_weakened p g d =
          weakened_cases (λ k. through w f k.selector p ≡ k.password) (λ e. d)
          (λ e.
          through_replaced (parameter w mask h.selector) (parameter_not_flat w mask h.selector e) h.selector
          p g (some_flat e)
          ∙ ap (λ (q : List ℕ). f q (parameter w mask h.selector)) d)

  -- ---- reduction

  pub through_in_first : (s : ℕ) (p : List ℕ) → flat w s ≡ false → through w f (in_first w s) p ≡ f p s
  through_in_first s p e =
      through_past s (replicate (subselectors - 1) (full w)) p e
      ∙ through_flat (replicate (subselectors - 1) (full w)) (f p s) (simp (full_flat w))

  pub reduced_cases : (h : Handle) (p : List ℕ) (P : Handle → Type 0) → (all_flat w h.selector ≡ true → P h)
      → (all_flat w h.selector ≡ false → P (made w f h p (common w h.selector))) → P (reduced w f h p)
  unfolding reduced
  reduced_cases h p P a b = go (all_flat w h.selector) refl
    where
      go : (x : Bool) → all_flat w h.selector ≡ x
          → P (elim x [ true ↦ h | false ↦ made w f h p (common w h.selector) ])
      go true e = a e
      go false e = b e

  module _ (h : Handle) (p : List ℕ) where
    abbrev bits : ℕ
    bits = common w h.selector

    pub name_reduced : name_of (reduced w f h p) ≡ name_of h
    name_reduced = reduced_cases h p (λ k. name_of k ≡ name_of h) (λ e. refl) (λ e. refl)

    pub width_reduced : width_of (reduced w f h p) ≡ width_of h
    width_reduced = reduced_cases h p (λ k. width_of k ≡ width_of h) (λ e. refl) (λ e. refl)

    pub whole_reduced : Whole w h → Whole w (reduced w f h p)
    whole_reduced o = reduced_cases h p (Whole w) (λ e. o) (λ e. record {
      four = refl;
      within = (set_of_lt w (references h.selector), (full_lt w, (full_lt w, (full_lt w, tt))));
    })

    pub gapped_reduced : Whole w h → gapped w h.selector ≡ false → gapped w (reduced w f h p).selector ≡ false
    gapped_reduced o g =
        reduced_cases h p (λ k. gapped w k.selector ≡ false) (λ e. g)
        (λ e. gapped_in_first w bits (common_not_flat w h.selector o.within e))

    -- it validates from the primary password that it was made with
    pub valid_reduced : Whole w h → through w f h.selector p ≡ h.password
        → through w f (reduced w f h p).selector p ≡ (reduced w f h p).password
    valid_reduced o d =
        reduced_cases h p (λ k. through w f k.selector p ≡ k.password) (λ e. d)
        (λ e. through_in_first bits p (common_not_flat w h.selector o.within e))

    -- it references the same segments
    pub references_reduced : (i : ℕ) → i < w → references (reduced w f h p).selector i ≡ references h.selector i
    references_reduced i l =
        reduced_cases h p (λ k. references k.selector i ≡ references h.selector i) (λ e. refl)
        (λ e. references_in_first w (references h.selector) i l)

    -- reduced again, it is as it was
    pub reduced_reduced : reduced w f (reduced w f h p) p ≡ reduced w f h p
    reduced_reduced =
        reduced_cases h p (λ k. reduced w f k p ≡ k)
        (λ e. reduced_cases h p (λ k. k ≡ h) (λ t. refl) (λ t. absurd (false≢true (sym t ∙ e))))
        (λ e.
        reduced_cases (made w f h p bits) p (λ k. k ≡ made w f h p bits) (λ t. refl)
        (λ t.
        ap (made w f h p)
        (set_of_same w (references (in_first w bits)) (references h.selector)
        (references_in_first w (references h.selector)))))
