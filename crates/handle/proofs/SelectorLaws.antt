-- Laws of selectors, for every width w and any number of subselectors. Those of `replaced` are inductions that part at
-- the first flat subselector: there the new one stands, and all after it are flat where the selector is ungapped.
-- Assumes nothing.
use Prim.Native.Nat.{ℕ, zero, suc, ◌-◌, ◌^◌, ◌≤◌, ◌<◌}
use native.Mathlib.Omega.{arith}
use mathlib.Core.Path.{◌≡◌, refl, sym, ap, ap₂, ◌∙◌, subst}
use mathlib.Core.Bool.{Bool, true, false, not, ◌&&◌, ◌||◌, false≢true, and-true}
use mathlib.Core.List.{List, [], ◌∷◌}
use lib.Dec.{eqb}
use lib.ListN.{length, set}
use lib.Pow.{pow_pos}
use borrow.Author.Tests.{eq-eqb, ne_eqb, eqb-true, eqb-false}
use Rattle.bits.specs.Sets.{has, full, set_of}
use Rattle.bits.proofs.SetLaws.{set_of_lt, has_set_of, same_bits, count_none}
use Rattle.bits.proofs.OperationLaws.{has_not, has_none, has_full, full_lt}
use Rattle.loops.proofs.BelowLaws.{and_left, and_right}
use Rattle.handle.specs.Selectors.{references, excludes, flat, all_flat, any_flat, gapped, first_flat, common}
use Rattle.handle.specs.Selectors.{keeps_all, parameter, replaced, in_first, Within}

swap : (x y z : Bool) → x && (y && z) ≡ y && (x && z)
swap true y z = refl
swap false true z = refl
swap false false z = refl

-- what stays of a set from which the excluded ones are taken
pub kept : (r m : Bool) → not (r && not m) && r ≡ r && m
kept true true = refl
kept true false = refl
kept false m = refl

module _ (w : ℕ) where
  -- ---- the first flat subselector

  abbrev past : Bool → ℕ → ℕ
  past b k = elim b [ true ↦ zero | false ↦ suc k ]

  pub first_here : (s : ℕ) (ss : List ℕ) → flat w s ≡ true → first_flat w (s ∷ ss) ≡ zero
  first_here s ss e = ap (λ (b : Bool). past b (first_flat w ss)) e

  pub first_past : (s : ℕ) (ss : List ℕ) → flat w s ≡ false → first_flat w (s ∷ ss) ≡ suc (first_flat w ss)
  first_past s ss e = ap (λ (b : Bool). past b (first_flat w ss)) e

  -- some are flat just where the first flat one has a place
  pub any_flat_lem : (ss : List ℕ) → first_flat w ss < length ss → any_flat w ss ≡ true
  any_flat_lem [] h = absurd (omega arith)
  any_flat_lem (s ∷ ss) h = go (flat w s) refl (any_flat_lem ss)
    where
      go : (b : Bool) → flat w s ≡ b → (first_flat w ss < length ss → any_flat w ss ≡ true) → b || any_flat w ss ≡ true
      go true e ih = refl
      go false e ih = ih (omega (arith, first_past s ss e))

  pub none_flat : (ss : List ℕ) → length ss ≤ first_flat w ss → any_flat w ss ≡ false
  none_flat [] h = refl
  none_flat (s ∷ ss) h = go (flat w s) refl (none_flat ss)
    where
      go : (b : Bool) → flat w s ≡ b → (length ss ≤ first_flat w ss → any_flat w ss ≡ false) → b || any_flat w ss ≡ false
      go true e ih = absurd (omega (arith, first_here s ss e))
      go false e ih = ih (omega (arith, first_past s ss e))

  -- ---- the first flat subselector replaced

  pub replaced_here : (v s : ℕ) (ss : List ℕ) → flat w s ≡ true → replaced w v (s ∷ ss) ≡ v ∷ ss
  replaced_here v s ss e = ap (λ (k : ℕ). set (s ∷ ss) k v) (first_here s ss e)

  pub replaced_past : (v s : ℕ) (ss : List ℕ) → flat w s ≡ false → replaced w v (s ∷ ss) ≡ s ∷ replaced w v ss
  replaced_past v s ss e = ap (λ (k : ℕ). set (s ∷ ss) k v) (first_past s ss e)

  flat_has : (i s : ℕ) → i < w → flat w s ≡ true → has i s ≡ true
  flat_has i s l e = ap (has i) (eqb-true s (full w) e) ∙ has_full w i l

  -- it takes away the segments that the new one lacks, and no others
  pub references_replaced : (v i : ℕ) → i < w → (ss : List ℕ) → any_flat w ss ≡ true
      → references (replaced w v ss) i ≡ has i v && references ss i
  references_replaced v i l [] a = absurd (false≢true a)
  references_replaced v i l (s ∷ ss) a = go (flat w s) refl a (references_replaced v i l ss)
    where
      go : (b : Bool) → flat w s ≡ b → b || any_flat w ss ≡ true
          → (any_flat w ss ≡ true → references (replaced w v ss) i ≡ has i v && references ss i)
          → references (replaced w v (s ∷ ss)) i ≡ has i v && references (s ∷ ss) i
      go true e a ih =
          ap (λ (l : List ℕ). references l i) (replaced_here v s ss e)
          ∙ ap (λ (b : Bool). has i v && (b && references ss i)) (sym (flat_has i s l e))
      go false e a ih =
          ap (λ (l : List ℕ). references l i) (replaced_past v s ss e)
          ∙ ap (λ (b : Bool). has i s && b) (ih a)
          ∙ swap (has i s) (has i v) (references ss i)

  -- in an ungapped selector all after a flat one is flat, and the rest is ungapped too
  pub rest_flat : (s : ℕ) (ss : List ℕ) → gapped w (s ∷ ss) ≡ false → flat w s ≡ true → all_flat w ss ≡ true
  rest_flat s ss g e =
      go (all_flat w ss) (gapped w ss) (sym (ap (λ (b : Bool). b && not (all_flat w ss) || gapped w ss) e) ∙ g)
    where
      go : (a b : Bool) → not a || b ≡ false → a ≡ true
      go true b h = refl
      go false b h = sym h

  pub rest_ungapped : (s : ℕ) (ss : List ℕ) → gapped w (s ∷ ss) ≡ false → gapped w ss ≡ false
  rest_ungapped s ss g = go (flat w s && not (all_flat w ss)) (gapped w ss) g
    where
      go : (a b : Bool) → a || b ≡ false → b ≡ false
      go true b h = absurd (false≢true (sym h))
      go false b h = h

  pub gapped_replaced : (v : ℕ) (ss : List ℕ) → gapped w ss ≡ false → gapped w (replaced w v ss) ≡ false
  gapped_replaced v [] g = refl
  gapped_replaced v (s ∷ ss) g = go (flat w s) refl (gapped_replaced v ss (rest_ungapped s ss g))
    where
      both : (a x y : Bool) → x ≡ true → y ≡ false → a && not x || y ≡ false
      both true x y e f = rw (e, f)
      both false x y e f = f

      go : (b : Bool) → flat w s ≡ b → gapped w (replaced w v ss) ≡ false → gapped w (replaced w v (s ∷ ss)) ≡ false
      go true e ih =
          ap (gapped w) (replaced_here v s ss e)
          ∙ both (flat w v) (all_flat w ss) (gapped w ss) (rest_flat s ss g e) (rest_ungapped s ss g)
      go false e ih =
          ap (gapped w) (replaced_past v s ss e)
          ∙ ap (λ (b : Bool). b && not (all_flat w (replaced w v ss)) || gapped w (replaced w v ss)) e
          ∙ ih

  pub within_replaced : (v : ℕ) → v < 2 ^ w → (ss : List ℕ) → Within w ss → Within w (replaced w v ss)
  within_replaced v l [] h = h
  within_replaced v l (s ∷ ss) h = go (flat w s) refl (within_replaced v l ss h.1)
    where
      go : (b : Bool) → flat w s ≡ b → Within w (replaced w v ss) → Within w (replaced w v (s ∷ ss))
      go true e r = subst (Within w) (sym (replaced_here v s ss e)) (l, h.1)
      go false e r = subst (Within w) (sym (replaced_past v s ss e)) (h.0, r)

  -- ---- the parameter of a weakening

  module _ (mask : ℕ) (ss : List ℕ) where
    pub has_parameter : (i : ℕ) → i < w → has i (parameter w mask ss) ≡ not (excludes mask ss i)
    has_parameter i l =
        has_not w i (set_of w (excludes mask ss)) l (set_of_lt w (excludes mask ss))
        ∙ ap not (has_set_of w (excludes mask ss) i l)

    -- where something is excluded, it is not flat
    pub parameter_not_flat : keeps_all w mask ss ≡ false → flat w (parameter w mask ss) ≡ false
    parameter_not_flat e =
        ne_eqb (parameter w mask ss) (full w)
        (apart (set_of w (excludes mask ss)) (set_of_lt w (excludes mask ss)) (sym (count_none w (excludes mask ss)) ∙ e))
      where
        apart : (x : ℕ) → x < 2 ^ w → eqb x 0 ≡ false → full w - x ≡ full w → ⊥
        apart x h e g = eqb-false x 0 e (omega arith)

    pub parameter_lt : parameter w mask ss < 2 ^ w
    parameter_lt = omega (arith, pow_pos w)

    -- where none is excluded, the mask takes nothing away
    pub keeps_each : keeps_all w mask ss ≡ true → (i : ℕ) → i < w → references ss i ≡ references ss i && has i mask
    keeps_each e i l =
        go (references ss i) (has i mask)
        (sym (has_set_of w (excludes mask ss) i l) ∙ ap (has i) empty ∙ has_none i)
      where
        empty : set_of w (excludes mask ss) ≡ 0
        empty = eqb-true (set_of w (excludes mask ss)) 0 (sym (count_none w (excludes mask ss)) ∙ e)

        go : (r m : Bool) → r && not m ≡ false → r ≡ r && m
        go true true h = refl
        go true false h = h
        go false m h = refl

  -- ---- all flat, and all segments referenced

  pub references_flat : (ss : List ℕ) → all_flat w ss ≡ true → (i : ℕ) → i < w → references ss i ≡ true
  references_flat [] e i l = refl
  references_flat (s ∷ ss) e i l =
      ap₂ (λ (a b : Bool). a && b) (flat_has i s l (and_left (flat w s) (all_flat w ss) e))
      (references_flat ss (and_right (flat w s) (all_flat w ss) e) i l)

  pub flat_references : (ss : List ℕ) → Within w ss → ((i : ℕ) → i < w → references ss i ≡ true) → all_flat w ss ≡ true
  flat_references [] h e = refl
  flat_references (s ∷ ss) h e =
      ap₂ (λ (a b : Bool). a && b) (eq-eqb s (full w) (same_bits w s (full w) h.0 (full_lt w) all))
      (flat_references ss h.1 (λ i l. and_right (has i s) (references ss i) (e i l)))
    where
      all : (i : ℕ) → i < w → has i s ≡ has i (full w)
      all i l = and_left (has i s) (references ss i) (e i l) ∙ sym (has_full w i l)

  -- the common bits are not flat where some subselector is not: a reduction's parameter is never flat
  pub common_not_flat : (ss : List ℕ) → Within w ss → all_flat w ss ≡ false → flat w (common w ss) ≡ false
  common_not_flat ss h e = ne_eqb (common w ss) (full w) (λ g. false≢true (sym e ∙ flat_references ss h (all g)))
    where
      all : common w ss ≡ full w → (i : ℕ) → i < w → references ss i ≡ true
      all g i l = sym (has_set_of w (references ss) i l) ∙ ap (has i) g ∙ has_full w i l

  -- ---- a set in subselector 0 alone

  pub full_flat : flat w (full w) ≡ true
  full_flat = eq-eqb (full w) (full w) refl

  pub references_in_first : (p : ℕ → Bool) (i : ℕ) → i < w → references (in_first w (set_of w p)) i ≡ p i
  references_in_first p i l =
      ap₂ (λ (a b : Bool). a && (b && (b && (b && true)))) (has_set_of w p i l) (has_full w i l) ∙ and-true (p i)

  pub gapped_in_first : (s : ℕ) → flat w s ≡ false → gapped w (in_first w s) ≡ false
  gapped_in_first s e = simp (e, full_flat)
