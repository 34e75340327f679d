-- Joining, for every width w and every conversion f. What is made of a set that is not all of the width is a handle by
-- subselector 0 alone. The set of what either references is the same either way round, and where one of them references
-- no more than the other it is what the other references.
-- Assumes nothing.
use Prim.Native.Nat.{ℕ}
use mathlib.Core.Path.{◌≡◌, refl, sym, ap, ◌∙◌}
use mathlib.Core.Bool.{Bool, true, false, ◌||◌, false≢true, and-true, or-true, or-false}
use mathlib.Core.List.{List}
use borrow.Author.Tests.{eq-eqb}
use Rattle.bits.specs.Sets.{full, set_of}
use Rattle.bits.proofs.SetLaws.{set_of_lt, has_set_of, set_of_same, same_bits}
use Rattle.bits.proofs.OperationLaws.{has_full, full_lt}
use Rattle.handle.specs.declared.Handle.{Handle}
use Rattle.handle.specs.Selectors.{references, either, flat, all_flat, common, union, whole_union}
use Rattle.handle.specs.Handles.{name_of, width_of, made, reduced, joined}
use Rattle.handle.specs.Opens.{Whole, Opens}
use Rattle.handle.specs.Joins.{NoMore, Joins, JoinsItself}
use Rattle.handle.proofs.SelectorLaws.{full_flat, common_not_flat, references_flat, references_in_first, gapped_in_first}
use Rattle.handle.proofs.HandleLaws.{through_in_first, reduced_cases}

pub or_swapped : (a b : Bool) → a || b ≡ b || a
or_swapped true b = sym (or-true b)
or_swapped false b = sym (or-false b)

no_more : (a b : Bool) → (b ≡ true → a ≡ true) → a || b ≡ a
no_more true b h = refl
no_more false true h = sym (h refl)
no_more false false h = refl

module _ (w : ℕ) (f : List ℕ → ℕ → List ℕ) (p : List ℕ) where
  -- a handle that holds a set by subselector 0 alone
  opens_made : (h : Handle) (q : ℕ → Bool) → width_of h ≡ w → flat w (set_of w q) ≡ false
      → Opens w f (name_of h) p q (made w f h p (set_of w q))
  opens_made h q v e = record {
    named = refl;
    wide = v;
    whole = record { four = refl; within = (set_of_lt w q, (full_lt w, (full_lt w, (full_lt w, tt)))) };
    ungapped = gapped_in_first w (set_of w q) e;
    valid = through_in_first w f (set_of w q) p e;
    refers = λ i l. references_in_first w q i l;
  }

  module _ (h k : Handle) where
    abbrev bits : ℕ
    bits = union w h.selector k.selector

    union_swapped : bits ≡ union w k.selector h.selector
    union_swapped =
        set_of_same w (either h.selector k.selector) (either k.selector h.selector)
        (λ i l. or_swapped (references h.selector i) (references k.selector i))

    joined_flat : (b : Bool) → whole_union w h.selector k.selector ≡ b → all_flat w (joined w f h k p).selector ≡ b
    unfolding joined
    joined_flat b e = simp (e, full_flat w, and-true)

    -- a primary handle references every segment
    primary : all_flat w h.selector ≡ true → whole_union w h.selector k.selector ≡ true
    primary e =
        eq-eqb bits (full w)
        (same_bits w bits (full w) (set_of_lt w (either h.selector k.selector)) (full_lt w)
        (λ i l.
        has_set_of w (either h.selector k.selector) i l
        ∙ ap (λ (b : Bool). b || references k.selector i) (references_flat w h.selector e i l)
        ∙ sym (has_full w i l)))

    swapped : name_of h ≡ name_of k → h.width ≡ k.width → joined w f h k p ≡ joined w f k h p
    unfolding joined
    swapped e v j = record {
      node = (e j).node;
      local = (e j).local;
      password = (made w f h p (union_swapped j)).password;
      width = v j;
      selector = (made w f h p (union_swapped j)).selector;
    }

    union_within : NoMore w k h → bits ≡ common w h.selector
    union_within n =
        set_of_same w (either h.selector k.selector) (references h.selector)
        (λ i l. no_more (references h.selector i) (references k.selector i) (n i l))

    within : Whole w h → all_flat w h.selector ≡ false → NoMore w k h
        → (whole_union w h.selector k.selector ≡ false) × (joined w f h k p ≡ reduced w f h p)
    unfolding joined
    within o e n = (
      ap (flat w) (union_within n) ∙ common_not_flat w h.selector o.within e,
      reduced_cases w f h p (λ r. made w f h p bits ≡ r) (λ t. absurd (false≢true (sym e ∙ t)))
          (λ t. ap (made w f h p) (union_within n)),
    )

    pub joins : Joins w f p h k
    unfolding joined
    joins = record {
      opens = opens_made h (either h.selector k.selector);
      never_primary = joined_flat false;
      whole = joined_flat true;
      primary = primary;
      swapped = swapped;
      union = union_swapped;
      within = within;
    }

  pub joins_itself : (h : Handle) → JoinsItself w f p h
  joins_itself h o e = within h h o e (λ i l r. r)
