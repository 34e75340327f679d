-- What the code computes from a handle's subselectors is what the definitions say. The definitions go along the row of
-- subselectors; the code looks at the four of them, and a list of four is the list of its elements.
-- Assumes nothing.
use Prim.Native.Nat.{ℕ, suc, ◌+◌, ◌*◌, ◌-◌, ◌/◌, ◌%◌, ◌^◌, ◌≤◌, ◌<◌}
use native.Mathlib.Nat.{one-mul, mod-eq_of_lt, lt_of_lt_of_le}
use native.Mathlib.Omega.{arith}
use mathlib.Core.Path.{◌≡◌, refl, sym, ap, ap₂, ◌∙◌, subst}
use mathlib.Core.Bool.{Bool, true, false, not, ◌&&◌, ◌||◌, false≢true, and-true}
use mathlib.Core.List.{List, [], ◌∷◌, ◌++◌}
use lib.Dec.{eqb, leb, ltb}
use lib.Bits.{bit_and, bit_or, and_le_l, and_le_r}
use lib.Count.{ones, ones-le}
use lib.ListN.{length, get_or, set, replicate}
use lib.Pointwise.{pointwise}
use lib.Pow.{pow-lt, pow_mono}
use mir.Val.{Fits}
use mir.Syntax.{w8, w16}
use borrow.Author.Tests.{eq-eqb, ne_eqb}
use Rattle.bits.specs.Sets.{has, full}
use Rattle.bits.proofs.SetLaws.{set_of_lt, has_set_of, same_bits, ones_set_of, has_beyond}
use Rattle.bits.proofs.OperationLaws.{has_and, has_or, has_full, full_lt, mask_test}
use Rattle.bits.proofs.ByteLaws.{bytes_word16}
use Rattle.loops.specs.Tabulate.{tabulate}
use Rattle.aes.specs.Cipher.{cipher}
use Rattle.std.specs.Prelude.{Option, None, Some, cond, position}
use Rattle.std.specs.List.{position_or_len}
use Rattle.std.proofs.lemmas.Bool.{ltb-false}
use Rattle.std.proofs.lemmas.List.Sums.{prefix_len-le-length}
use Rattle.std.proofs.lemmas.List.Recursion.{is_position_or_len}
use Rattle.handle.specs.declared.Handle.{Handle}
use Rattle.handle.specs.Conversion.{conversion}
use Rattle.handle.specs.Sizes.{subselectors}
use Rattle.handle.specs.Widths.{room}
use Rattle.handle.specs.Selectors.{place_of, references, either, all_flat, gapped, first_flat, common, referenced}
use Rattle.handle.specs.Selectors.{union, whole_union}
use Rattle.handle.specs.Handles.{node_of, width_of, same_name, renewed, cut, same_password, converted, through}
use Rattle.handle.specs.Handles.{validates, made, reduced, joined}
use Rattle.handle.proofs.HandleLaws.{reduced_cases}
use Rattle.handle.proofs.CodecLaws.{listed}

pub code_same_name : (h k : Handle) (n m : ℕ) → n ≡ node_of h → m ≡ node_of k
    → eqb n m && eqb h.local k.local ≡ same_name h k
code_same_name h k n m en em = λ j. eqb (en j) (em j) && eqb h.local k.local

module _ (w : ℕ) where
  -- ---- common bits, and tests for flat ones

  pub code_common : w ≤ room → (ss : List ℕ) (x y : ℕ) → x ≡ common room ss → y ≡ full w → bit_and x y ≡ common w ss
  code_common n ss x y ex ey =
      same_bits w (bit_and x y) (common w ss) (omega (arith, and_le_r x y, full_lt w, ey)) (set_of_lt w (references ss))
      (λ i l.
      has_and i x y
      ∙ ap₂ (λ (a b : Bool). a && b) (ap (has i) ex ∙ has_set_of room (references ss) i (lt_of_lt_of_le l n))
      (ap (has i) ey ∙ has_full w i l)
      ∙ and-true (references ss i)
      ∙ sym (has_set_of w (references ss) i l))

  pub count_fits : w ≤ 16 → (ss : List ℕ) (x : ℕ) → x ≡ common w ss → Fits w8 (ones x)
  count_fits n ss x e = record {
    fits = omega (arith, ones-le w x (subst (λ (n : ℕ). n < 2 ^ w) (sym e) (set_of_lt w (references ss))));
  }

  pub code_count : (ss : List ℕ) (x : ℕ) → x ≡ common w ss → ones x ≡ referenced w ss
  code_count ss x e = ap ones e ∙ ones_set_of w (references ss)

  -- ---- what either of two references

  module _ (ss ts : List ℕ) where
    pub code_union : w ≤ room → (x y z : ℕ) → x ≡ common room ss → y ≡ common room ts → z ≡ full w
        → bit_and (bit_or x y) z ≡ union w ss ts
    code_union n x y z ex ey ez =
        same_bits w (bit_and (bit_or x y) z) (union w ss ts)
        (omega (arith, and_le_r (bit_or x y) z, full_lt w, ez)) (set_of_lt w (either ss ts))
        (λ i l.
        has_and i (bit_or x y) z
        ∙ ap₂ (λ (a b : Bool). a && b)
        (has_or i x y
        ∙ ap₂ (λ (a b : Bool). a || b) (ap (has i) ex ∙ has_set_of room (references ss) i (lt_of_lt_of_le l n))
        (ap (has i) ey ∙ has_set_of room (references ts) i (lt_of_lt_of_le l n)))
        (ap (has i) ez ∙ has_full w i l)
        ∙ and-true (either ss ts i)
        ∙ sym (has_set_of w (either ss ts) i l))

    pub code_whole : (x y : ℕ) → x ≡ union w ss ts → y ≡ full w → eqb x y ≡ whole_union w ss ts
    code_whole x y e ey = ap₂ eqb e ey

  -- x is the flat subselector, as the code has it
  module _ (ss : List ℕ) (l : length ss ≡ subselectors) (x : ℕ) (ex : x ≡ full w) where
    abbrev is : ℕ → ℕ → Bool
    is n k = eqb (get_or ss k 0) n

    abbrev at : ℕ → Bool
    at k = is x k

    pub code_primary : (b : Bool) → b ≡ pointwise eqb ss (x ∷ x ∷ x ∷ x ∷ []) → b ≡ all_flat w ss
    unfolding tabulate
    code_primary b e =
        e
        ∙ (λ j. pointwise eqb (listed subselectors ss l j) (ex j ∷ ex j ∷ ex j ∷ ex j ∷ []))
        ∙ ap (all_flat w) (sym (listed subselectors ss l))

    pub code_gapped : (at 0 && not (at 1)) || ((at 1 && not (at 2)) || (at 2 && not (at 3))) ≡ gapped w ss
    unfolding tabulate
    code_gapped =
        ends (at 0) (at 1) (at 2) (at 3)
        ∙ ap
        (λ (n : ℕ).
        is n 0 && not (is n 1 && (is n 2 && (is n 3 && true)))
        || (is n 1 && not (is n 2 && (is n 3 && true)) || (is n 2 && not (is n 3 && true) || (is n 3 && not true || false))))
        ex
        ∙ ap (gapped w) (sym (listed subselectors ss l))
      where
        ends : (a b c d : Bool) → a && not b || (b && not c || c && not d)
            ≡ a && not (b && (c && (d && true)))
            || (b && not (c && (d && true)) || (c && not (d && true) || (d && not true || false)))
        ends true true true true = refl
        ends true true true false = refl
        ends true true false true = refl
        ends true true false false = refl
        ends true false c d = refl
        ends false true true true = refl
        ends false true true false = refl
        ends false true false d = refl
        ends false false true true = refl
        ends false false true false = refl
        ends false false false true = refl
        ends false false false false = refl

-- ---- the search for the first flat one; x is the flat one, as the code has it, of whatever width

module _ (w : ℕ) (ss : List ℕ) (x : ℕ) (ex : x ≡ full w) where
  first_is : first_flat w ss ≡ position_or_len (λ s. eqb s x) ss
  first_is = is_position_or_len (first_flat w) (λ s. eqb s x) refl next ss
    where
      next : (s : ℕ) (ss : List ℕ) → first_flat w (s ∷ ss) ≡ cond (eqb s x) 0 (1 + first_flat w ss)
      next s ss = ap (λ (n : ℕ). elim (eqb s n) [ true ↦ 0 | false ↦ suc (first_flat w ss) ]) (sym ex) ∙ go (eqb s x)
        where
          go : (b : Bool) → elim b [ true ↦ 0 | false ↦ suc (first_flat w ss) ] ≡ cond b 0 (1 + first_flat w ss)
          go true = refl
          go false = omega arith

  pub first_placed : length ss ≡ subselectors → (r : Option ℕ) → r ≡ position (λ s. eqb s x) ss → place_of r ≡ first_flat w ss
  first_placed l r e = ap place_of e ∙ go (ltb (position_or_len (λ s. eqb s x) ss) (length ss)) refl ∙ sym first_is
    where
      go : (b : Bool) → ltb (position_or_len (λ s. eqb s x) ss) (length ss) ≡ b
          → place_of (cond b (Some (position_or_len (λ s. eqb s x) ss)) None) ≡ position_or_len (λ s. eqb s x) ss
      go true t = refl
      go false t = omega (arith, l, ltb-false _ _ t, first_is, prefix_len-le-length (λ s. not (eqb s x)) ss)

module _ (w : ℕ) where
  -- ---- the chain of conversions

  module _ (f : List ℕ → ℕ → List ℕ) where
    abbrev stepped : List ℕ → ℕ → Bool → List ℕ
    stepped p s b = elim b [ true ↦ p | false ↦ f p s ]

    pub converted_flat : (p : List ℕ) (s x : ℕ) → x ≡ full w → s ≡ x → p ≡ converted w f p s
    converted_flat p s x ex e = sym (ap (stepped p s) (eq-eqb s (full w) (e ∙ ex)))

    pub converted_other : (p : List ℕ) (s x : ℕ) → x ≡ full w → (s ≡ x → ⊥) → (r : List ℕ) → r ≡ f p s
        → r ≡ converted w f p s
    converted_other p s x ex n r e = e ∙ sym (ap (stepped p s) (ne_eqb s (full w) (λ q. n (q ∙ sym ex))))

    pub code_opened : (ss p a b c d : List ℕ) → length ss ≡ subselectors
        → a ≡ converted w f p (get_or ss 0 0) → b ≡ converted w f a (get_or ss 1 0) → c ≡ converted w f b (get_or ss 2 0)
        → d ≡ converted w f c (get_or ss 3 0) → d ≡ through w f ss p
    unfolding tabulate
    code_opened ss p a b c d e ea eb ec ed =
        ed
        ∙ ap (λ (q : List ℕ). converted w f q (get_or ss 3 0)) ec
        ∙ ap (through w f (get_or ss 2 0 ∷ get_or ss 3 0 ∷ [])) eb
        ∙ ap (through w f (get_or ss 1 0 ∷ get_or ss 2 0 ∷ get_or ss 3 0 ∷ [])) ea
        ∙ ap (λ (l : List ℕ). through w f l p) (sym (listed subselectors ss e))

    pub code_validates : (h : Handle) (p x : List ℕ) (r : Bool) → x ≡ through w f h.selector p
        → r ≡ same_password x h.password → r ≡ validates w f p h
    unfolding validates
    code_validates h p x r e t = t ∙ ap (λ (l : List ℕ). same_password l h.password) e

    -- ---- reduction and joining

    module _ (h : Handle) (p : List ℕ) where
      pub code_cut : (k x y : ℕ) → y ≡ full w → (q : List ℕ) → q ≡ f h.password (y - x)
          → renewed h q (set h.selector k (y - x)) ≡ cut f h k (full w - x)
      code_cut k x y ey q e =
          ap (λ (l : List ℕ). renewed h l (set h.selector k (y - x))) e ∙ ap (λ (s : ℕ). cut f h k (s - x)) ey

      pub code_made : (s y : ℕ) → y ≡ full w → (q : List ℕ) → q ≡ f p s
          → renewed h q (s ∷ y ∷ y ∷ y ∷ []) ≡ made w f h p s
      code_made s y ey q e = λ j. renewed h (e j) (s ∷ ey j ∷ ey j ∷ ey j ∷ [])

      pub code_joined : (k : Handle) (x : ℕ) → x ≡ union w h.selector k.selector
          → (r : Handle) → r ≡ made w f h p x → r ≡ joined w f h k p
      unfolding joined
      code_joined k x ex r er = er ∙ ap (made w f h p) ex

    module _ (h : Handle) (p : List ℕ) (b : Bool) (e : b ≡ all_flat w h.selector) where
      pub reduce_unchanged : b ≡ true → h ≡ reduced w f h p
      reduce_unchanged t = reduced_cases w f h p (λ k. h ≡ k) (λ u. refl) (λ u. absurd (false≢true (sym u ∙ sym e ∙ t)))

      pub reduce_changed : b ≡ false → (x : ℕ) → x ≡ common w h.selector → (r : Handle) → r ≡ made w f h p x
          → r ≡ reduced w f h p
      reduce_changed t x ex r er =
          reduced_cases w f h p (λ k. r ≡ k) (λ u. absurd (false≢true (sym t ∙ e ∙ u)))
          (λ u. er ∙ ap (made w f h p) ex)

-- ---- the bits that all have, and one segment: a subselector has room for sixteen bits

module _ (ss : List ℕ) (e : length ss ≡ subselectors) where
  abbrev all : ℕ
  all = bit_and (get_or ss 0 0) (bit_and (get_or ss 1 0) (bit_and (get_or ss 2 0) (get_or ss 3 0)))

  has_all : (i : ℕ) → has i all ≡ references ss i
  unfolding tabulate
  has_all i = each ∙ ap (λ (l : List ℕ). references l i) (sym (listed subselectors ss e))
    where
      each : has i all ≡ has i (get_or ss 0 0) && (has i (get_or ss 1 0) && (has i (get_or ss 2 0) && (has i (get_or ss 3 0) && true)))
      each = simp (has_and, and-true)

  pub code_shared : Fits w16 (get_or ss 0 0) → all ≡ common room ss
  code_shared h =
      same_bits room all (common room ss)
      (omega (arith, and_le_l (get_or ss 0 0) (bit_and (get_or ss 1 0) (bit_and (get_or ss 2 0) (get_or ss 3 0))), h.fits))
      (set_of_lt room (references ss)) (λ i l. has_all i ∙ sym (has_set_of room (references ss) i l))

  pub references_none : Fits w16 (get_or ss 0 0) → (i : ℕ) → room ≤ i → false ≡ references ss i
  unfolding tabulate
  references_none h i l =
      ap (λ (b : Bool). b && (has i (get_or ss 1 0) && (has i (get_or ss 2 0) && (has i (get_or ss 3 0) && true))))
      (sym (has_beyond i (get_or ss 0 0) (lt_of_lt_of_le h.fits (pow_mono l))))
      ∙ ap (λ (l : List ℕ). references l i) (sym (listed subselectors ss e))

pub code_references : (ss : List ℕ) (x : ℕ) → x ≡ common room ss → (i : ℕ) → i < room
    → not (eqb (bit_and x (1 * 2 ^ i % 65536)) 0) ≡ references ss i
code_references ss x ex i h =
    ap (λ (n : ℕ). not (eqb (bit_and x n) 0))
    (ap (λ (n : ℕ). n % 65536) (one-mul (2 ^ i)) ∙ mod-eq_of_lt (pow-lt {i = i} {j = room} h))
    ∙ mask_test i x
    ∙ ap (has i) ex
    ∙ has_set_of room (references ss) i h

-- ---- the block of a conversion

pub code_converted : (p : List ℕ) (c : ℕ) → Fits w16 c → (t u : List ℕ) → t ≡ c / 256 % 256 ∷ c % 256 ∷ [] → u ≡ t
    → (r : List ℕ) → r ≡ cipher p (replicate 14 0 ++ (u ++ [])) → r ≡ conversion p c
unfolding conversion
code_converted p c h t u et eu r er =
    er
    ∙ ap (cipher p) (ap (λ (l : List ℕ). replicate 14 0 ++ (l ++ [])) (eu ∙ et) ∙ sym (bytes_word16 14 c h.fits))

-- ---- the width, as the code has it

pub code_width : (h : Handle) (b w : ℕ) → b ≡ width_of h → eqb b w ≡ eqb (width_of h) w
code_width h b w e = ap (λ (n : ℕ). eqb n w) e

pub code_beyond : (h : Handle) (b i : ℕ) → b ≡ width_of h → leb b i ≡ leb (width_of h) i
code_beyond h b i e = ap (λ (n : ℕ). leb n i) e
