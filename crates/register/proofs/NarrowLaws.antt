-- What a weakening does to what is seen of a handle: its number goes by the bits of what the handle references and by whether
-- a subselector is flat; what is left is what the mask keeps, and a cut takes one flat subselector more.
-- Assumes nothing.
use Prim.Native.Nat.{ℕ, zero, suc, ◌+◌, ◌-◌, ◌*◌, ◌%◌, ◌^◌, ◌≤◌, ◌<◌}
use native.Mathlib.Nat.{one-mul, mod-eq_of_lt}
use native.Mathlib.Numerals.{add-one}
use native.Mathlib.Omega.{arith}
use mathlib.Core.Path.{◌≡◌, refl, sym, ap, ◌∙◌, subst}
use mathlib.Core.Bool.{Bool, true, false, not, ◌&&◌, ◌||◌, true≢false}
use mathlib.Core.List.{List, [], ◌∷◌}
use lib.Bits.{bit_and}
use lib.Dec.{eqb, leb}
use lib.Pow.{pow-lt}
use lib.ListN.{length, get_or, set, length-set}
use lib.Seq.{get_or-set_same, get_or-set_other}
use Rattle.std.specs.Prelude.{Option, Some, None, Ok}
use Rattle.std.specs.Option.{is_some, unwrap_or}
use borrow.Author.Tests.{ne_eqb}
use mir.Val.{Fits}
use mir.Syntax.{w16}
use Rattle.bits.specs.Sets.{has, full}
use Rattle.bits.proofs.SetLaws.{set_of_same}
use Rattle.bits.proofs.OperationLaws.{and_has, mask_test}
use Rattle.loops.proofs.BelowLaws.{and_left}
use Rattle.numbers.specs.Numbers.{empty_number, spent_number, wrong_length_number, place_number, gapped_number}
use Rattle.numbers.specs.declared.Number.TheVariants.{Empty, Spent}
use Rattle.sizes.specs.Sizes.{nodes, clusters}
use Rattle.handle.specs.declared.Handle.{Handle}
use Rattle.handle.specs.Handles.{Weakened}
use Rattle.handle.specs.Sizes.{subselectors}
use Rattle.handle.specs.Selectors.{references, flat, all_flat, gapped, first_flat, common, referenced}
use Rattle.handle.specs.Handles.{Name, name_of, width_of, Row, first_of, own_rows, refusal, reply, cut, weakened, weakening}
use Rattle.handle.proofs.SelectorLaws.{first_here, first_past, rest_flat, rest_ungapped}
use Rattle.handle.proofs.HandleLaws.{weakened_cases, name_weakened, width_weakened, gapped_weakened, references_weakened, unspent}
use Rattle.handle.proofs.EmptyLaws.{handle_done, number_done}
use Rattle.handle.proofs.WeakenLaws.{refused_empty, refused_spent, weaken_unchanged, weaken_changed, excluded_le}
use Rattle.handle.proofs.WidthLaws.{bits_le}
use Rattle.register.specs.declared.Seen.{Seen}
use Rattle.register.specs.inner.Work.{blank, Standing, Sees, Refuses, Keeps, Cuts, Narrows, Weaker, StepsTo}

-- ---- the first flat subselector after a cut

module _ (w v : ℕ) (low : flat w v ≡ false) where
  all_first : (ss : List ℕ) → all_flat w ss ≡ true → first_flat w ss ≡ 0
  all_first [] q = refl
  all_first (s ∷ ss) q = first_here w s ss (and_left (flat w s) (all_flat w ss) q)

  pub first_cut : (ss : List ℕ) → gapped w ss ≡ false → first_flat w ss < length ss
      → first_flat w (set ss (first_flat w ss) v) ≡ suc (first_flat w ss)
  first_cut [] g l = absurd (omega arith)
  first_cut (s ∷ ss) g l = go (flat w s) refl (first_cut ss (rest_ungapped w s ss g))
    where
      go : (b : Bool) → flat w s ≡ b
          → (first_flat w ss < length ss → first_flat w (set ss (first_flat w ss) v) ≡ suc (first_flat w ss))
          → first_flat w (set (s ∷ ss) (first_flat w (s ∷ ss)) v) ≡ suc (first_flat w (s ∷ ss))
      go true e rest =
          ap (λ (k : ℕ). first_flat w (set (s ∷ ss) k v)) (first_here w s ss e)
          ∙ first_past w v ss low
          ∙ ap suc (all_first ss (rest_flat w s ss g e) ∙ sym (first_here w s ss e))
      go false e rest =
          ap (λ (k : ℕ). first_flat w (set (s ∷ ss) k v)) (first_past w s ss e)
          ∙ first_past w s (set ss (first_flat w ss) v) e
          ∙ ap suc (rest (let q = first_past w s ss e in omega arith) ∙ sym (first_past w s ss e))

-- it is no further than the last one
first_low : (w : ℕ) (ss : List ℕ) → first_flat w ss ≤ length ss
first_low w [] = omega arith
first_low w (s ∷ ss) = go (flat w s) (first_low w ss)
  where
    go : (b : Bool) → first_flat w ss ≤ length ss → elim b [ true ↦ zero | false ↦ suc (first_flat w ss) ] ≤ suc (length ss)
    go true l = omega arith
    go false l = omega arith

-- ---- a handle that stands, and what a weakening keeps of it

own_none : (h : Handle) → Standing h → 0 ≡ first_of (own_rows (width_of h) h)
own_none h s = λ j. first_of (rows (sym s.wide j) (sym s.here j) (sym s.ungapped j))
  where
    rows : Bool → Bool → Bool → List Row
    rows a b c =
        record { number = wrong_length_number; applies = a }
        ∷ record { number = place_number; applies = b }
        ∷ record { number = gapped_number; applies = c }
        ∷ []

pub standing_weakened : (f : List ℕ → ℕ → List ℕ) (h : Handle) (mask : ℕ) → Standing h
    → Standing (weakened (width_of h) f h mask)
standing_weakened f h mask s =
    record {
      wide = ap (λ (w : ℕ). eqb w 0) (width_weakened (width_of h) f h mask) ∙ s.wide;
      here =
          ap (λ (n : Name). leb nodes n.node || leb clusters n.local) (name_weakened (width_of h) f h mask) ∙ s.here;
      ungapped =
          ap (λ (w : ℕ). gapped w (weakened (width_of h) f h mask).selector) (width_weakened (width_of h) f h mask)
          ∙ gapped_weakened (width_of h) f h mask s.ungapped;
    }

-- the bits of what is left
common_weakened : (f : List ℕ → ℕ → List ℕ) (h : Handle) (mask x : ℕ) → x ≡ common (width_of h) h.selector
    → (weakening (width_of h) f h mask).number ≡ 0
    → bit_and x mask ≡ common (width_of h) (weakened (width_of h) f h mask).selector
common_weakened f h mask x ex d =
    ap (λ (n : ℕ). bit_and n mask) ex
    ∙ and_has (width_of h) (references h.selector) mask
    ∙ sym (set_of_same (width_of h) (references (weakened (width_of h) f h mask).selector)
    (λ i. references h.selector i && has i mask)
    (references_weakened (width_of h) f h mask (unspent (width_of h) h mask (number_done (width_of h) f h mask d))))

seen_weakened : (f : List ℕ → ℕ → List ℕ) (h : Handle) (mask : ℕ) (v s : Seen) → Sees h v
    → (weakening (width_of h) f h mask).number ≡ 0
    → s.set ≡ common (width_of h) (weakened (width_of h) f h mask).selector
    → s.flat ≡ first_flat (width_of h) (weakened (width_of h) f h mask).selector
    → Sees (weakening (width_of h) f h mask).handle s
seen_weakened f h mask v s o d q r =
    subst (λ (g : Handle). Sees g s) (sym (handle_done (width_of h) f h mask d))
    (record {
      standing = standing_weakened f h mask o.standing;
      four =
          weakened_cases (width_of h) f h mask (λ g. length g.selector ≡ subselectors) (λ e. o.four)
          (λ e. length-set h.selector (first_flat (width_of h) h.selector) _ ∙ o.four);
      set =
          q ∙ ap (λ (w : ℕ). common w (weakened (width_of h) f h mask).selector) (sym (width_weakened (width_of h) f h mask));
      flat =
          r ∙ ap (λ (w : ℕ). first_flat w (weakened (width_of h) f h mask).selector) (sym (width_weakened (width_of h) f h mask));
    })

number_of : (w v : Weakened) → w ≡ v → v.number ≡ w.number
number_of w v q = ap (λ (w : Weakened). w.number) (sym q)

-- ---- the returns

module _ (s : Seen) (mask : ℕ) where
  abbrev x : ℕ
  x = s.set

  pub narrow_empty : bit_and s.set mask ≡ 0 → Refuses s mask Empty
  narrow_empty t =
      record {
        number = λ h v f.
            number_of (refusal empty_number) (weakening (width_of h) f h mask)
            (refused_empty (width_of h) f h mask 0 (own_none h v.standing) refl x v.set t (refusal empty_number) refl);
      }

  module _ (m : Fits w16 mask) (some : bit_and s.set mask ≡ 0 → ⊥) where
    pub narrow_same : bit_and s.set (full 16 - mask) ≡ 0 → Keeps s mask
    narrow_same t =
        record {
          number = λ h v f. number_of _ (weakening (width_of h) f h mask) (same h v f);
          same = λ h v f. ap (λ (w : Weakened). w.handle) (sym (same h v f));
        }
      where
        same : (h : Handle) → Sees h s → (f : List ℕ → ℕ → List ℕ)
            → reply 0 h (referenced (width_of h) h.selector) ≡ weakening (width_of h) f h mask
        same h v f =
            weaken_unchanged (width_of h) f h mask 0 (own_none h v.standing) refl (bits_le h.width) m x v.set some t
            (reply 0 h (referenced (width_of h) h.selector)) refl

    module _ (t : bit_and s.set (full 16 - mask) ≡ 0 → ⊥) where
      pub narrow_spent : subselectors ≤ s.flat → Refuses s mask Spent
      narrow_spent l =
          record {
            number = λ h v f.
                number_of (refusal spent_number) (weakening (width_of h) f h mask)
                (refused_spent (width_of h) f h mask 0 (own_none h v.standing) refl (bits_le h.width) m x v.set some t
                v.four s.flat v.flat l (refusal spent_number) refl);
          }

      pub narrow_cut : s.flat < subselectors → Cuts s mask (record { set = bit_and s.set mask; flat = s.flat + 1 })
      narrow_cut l =
          record {
            number = done;
            seen = λ h v f.
                seen_weakened f h mask s _ v (done h v f) (common_weakened f h mask x v.set (done h v f))
                (flats h v f);
          }
        where
          q : ℕ → ℕ
          q w = full w - bit_and s.set (full 16 - mask)

          is : (h : Handle) → Sees h s → (f : List ℕ → ℕ → List ℕ)
              → reply 0 (cut f h s.flat (q (width_of h))) (referenced (width_of h) (cut f h s.flat (q (width_of h))).selector)
              ≡ weakening (width_of h) f h mask
          is h v f =
              weaken_changed (width_of h) f h mask 0 (own_none h v.standing) refl (bits_le h.width) m x v.set some t
              v.four s.flat v.flat l (cut f h s.flat (q (width_of h))) refl refl _ refl

          done : (h : Handle) → Sees h s → (f : List ℕ → ℕ → List ℕ) → (weakening (width_of h) f h mask).number ≡ 0
          done h v f = sym (number_of (weakening (width_of h) f h mask) _ (sym (is h v f)))

          -- something is excluded, so the parameter is not flat
          low : (h : Handle) → Sees h s → flat (width_of h) (q (width_of h)) ≡ false
          low h v =
              ne_eqb (q (width_of h)) (full (width_of h))
              (λ e. t (let l = excluded_le (width_of h) (bits_le h.width) h.selector mask m x v.set in omega arith))

          flats : (h : Handle) → Sees h s → (f : List ℕ → ℕ → List ℕ)
              → s.flat + 1 ≡ first_flat (width_of h) (weakened (width_of h) f h mask).selector
          flats h v f =
              add-one s.flat ∙ ap suc v.flat
              ∙ sym (first_cut (width_of h) (q (width_of h)) (low h v) h.selector v.standing.ungapped
              (let a = v.flat in let b = v.four in omega arith))
              ∙ ap (λ (k : ℕ). first_flat (width_of h) (set h.selector k (q (width_of h)))) (sym v.flat)
              ∙ ap (λ (w : Weakened). first_flat (width_of h) w.handle.selector) (is h v f)
              ∙ ap (λ (g : Handle). first_flat (width_of h) g.selector) (handle_done (width_of h) f h mask (done h v f))

-- ---- a step

module _ (s : Seen) (mask : ℕ) where
  -- what is seen after the weakening: of the weaker handle, or of the same
  pub cut_of : (o : Option Seen) → Narrows s mask (Ok o) → (r : Seen) → r ≡ unwrap_or o s → Cuts s mask r
  cut_of None n r q =
      subst (Cuts s mask) (sym q)
      (record { number = n.number; seen = λ h v f. subst (λ (g : Handle). Sees g s) (sym (n.same h v f)) v })
  cut_of (Some v) n r q = subst (Cuts s mask) (sym q) n

  module _ (f : Name → List ℕ → ℕ → List ℕ) where
    weaker_is : (o : Option Seen) → Narrows s mask (Ok o) → (b : Bool) → b ≡ is_some o → (h g : Handle) → Weaker f b h mask g
        → Sees h s → g ≡ (weakening (width_of h) (f (name_of h)) h mask).handle
    weaker_is None n b q h g w v = w.kept q ∙ sym (n.same h v (f (name_of h)))
    weaker_is (Some c) n b q h g w v = w.made q (n.number h v (f (name_of h)))

    module _ (o : Option Seen) (n : Narrows s mask (Ok o)) (r : Seen) (u : r ≡ unwrap_or o s) (hs : List Handle)
        (above k : ℕ) where
      pub step_wanted : (wanted : Bool) → (hs' : List Handle) (b : Bool) → b ≡ is_some o → (g : Handle)
          → Weaker f b (get_or hs above blank) mask g → hs' ≡ set hs k g → length hs' ≡ 256 → k ≤ 255
          → StepsTo f wanted s hs above k mask hs' r
      step_wanted wanted hs' b q g w e long low =
          subst (λ (l : List Handle). StepsTo f wanted s hs above k mask l r) (sym e)
          (record {
            entry =
                record {
                  seen = cut_of o n r u;
                  handle = λ t v.
                      get_or-set_same hs k g blank (let l = ap length e in let m = length-set hs k g in omega arith)
                      ∙ weaker_is o n b q (get_or hs above blank) g w v;
                };
            others = λ i z. get_or-set_other hs k i g blank z;
          })

      pub step_unwanted : (wanted : Bool) → wanted ≡ false → (hs' : List Handle) → hs' ≡ hs → StepsTo f wanted s hs above k mask hs' r
      step_unwanted wanted z hs' e =
          subst (λ (l : List Handle). StepsTo f wanted s hs above k mask l r) (sym e)
          (record {
            entry = record { seen = cut_of o n r u; handle = λ t. absurd (true≢false (sym t ∙ z)) };
            others = λ i z. refl;
          })

pub code_has : (x i : ℕ) → i ≤ 7 → not (eqb (bit_and x (1 * 2 ^ i % 65536)) 0) ≡ has i x
code_has x i h =
    ap (λ (n : ℕ). not (eqb (bit_and x n) 0))
    (ap (λ (n : ℕ). n % 65536) (one-mul (2 ^ i)) ∙ mod-eq_of_lt (pow-lt {i = i} {j = 16} (omega arith)))
    ∙ mask_test i x
