-- Reduction, joining, weakening, its masks and the count in words. The definitions go along the row of subselectors and make sets of bits;
-- a row of four tells of each of them, and a set has the bits that it was made of.
-- Assumes nothing.
use mathlib.Core.Path.{◌≡◌, refl, sym, ap, ◌∙◌, subst}
use mathlib.Core.Logic.{◌≢◌, ◌⊎◌, inl, inr, ◌↔◌}
use Prim.Native.Nat.{ℕ, zero, suc, ◌+◌, ◌-◌, ◌^◌, ◌<◌}
use native.Mathlib.Omega.{arith}
use mathlib.Core.Bool.{Bool, true, false, not, ◌&&◌, ◌||◌, false≢true, or-true}
use mathlib.Core.List.{List, [], ◌∷◌}
use lib.Dec.{eqb}
use lib.ListN.{length, get_or, set, length-set}
use lib.Seq.{get_or-set_same, get_or-set_other}
use borrow.Author.Tests.{eqb-true, eq-eqb, ne_eqb}
use Rattle.bits.specs.Sets.{has, full, one, set_of, count}
use Rattle.bits.proofs.SetLaws.{set_of_lt, has_set_of, set_of_same, count_none}
use Rattle.loops.proofs.BelowLaws.{and_left, and_right, and_both, test_off}
use Rattle.handle.specs.declared.Handle.{Handle}
use Rattle.handle.specs.Selectors.{references, excludes, keeps, either, flat, all_flat, any_flat, gapped}
use Rattle.handle.specs.Selectors.{first_flat, keeps_all, keeps_none, parameter, referenced}
use Rattle.handle.specs.Handles.{renewed, cut, no_width, no_such_place, reply, weaken_number, weakened, made}
use Rattle.handle.specs.Handles.{reduced, joined, weakening}
use Rattle.handle.specs.Words.{Bit, subselector, Four, References, Excluded, Holding, ReducedInWords}
use Rattle.handle.specs.Words.{JoinedInWords, Cut, WeakenedInWords, MaskInWords, sum, CountInWords}
use Rattle.handle.proofs.SelectorLaws.{first_here, first_past, has_parameter, parameter_lt, keeps_each}
use Rattle.handle.proofs.HandleLaws.{telling, weakened_cases, reduced_cases}

-- ---- one bit, and a row of subselectors

bit_out : (i s : ℕ) → has i s ≡ true → Bit i s
unfolding has
bit_out i s e = eqb-true _ 1 e

bit_in : (i s : ℕ) → Bit i s → has i s ≡ true
unfolding has
bit_in i s b = eq-eqb _ 1 b

references_out : (i : ℕ) (ss : List ℕ) → references ss i ≡ true → (k : ℕ) → k < length ss → Bit i (get_or ss k 0)
references_out i [] e k l = absurd (omega arith)
references_out i (s ∷ ss) e zero l = bit_out i s (and_left (has i s) (references ss i) e)
references_out i (s ∷ ss) e (suc k) l =
    references_out i ss (and_right (has i s) (references ss i) e) k (omega arith)

references_in : (i : ℕ) (ss : List ℕ) → ((k : ℕ) → k < length ss → Bit i (get_or ss k 0)) → references ss i ≡ true
references_in i [] b = refl
references_in i (s ∷ ss) b =
    and_both (has i s) (references ss i) (bit_in i s (b 0 (omega arith)))
    (references_in i ss (λ k l. b (suc k) (omega arith)))

no_bits : (w : ℕ) → set_of w (λ i. false) ≡ 0
unfolding set_of
no_bits zero = refl
no_bits (suc w) = omega (arith, no_bits w)

-- a sum from the low end
sum_low : (n : ℕ) (f : ℕ → ℕ) → sum (suc n) f ≡ f 0 + sum n (λ i. f (suc i))
unfolding sum
sum_low zero f = omega arith
sum_low (suc n) f = omega (arith, sum_low n f)

count_sum : (w : ℕ) (p : ℕ → Bool) → count w p ≡ sum w (λ i. one (p i))
unfolding count sum
count_sum zero p = refl
count_sum (suc w) p = omega (arith, count_sum w (λ i. p (suc i)), sum_low w (λ i. one (p i)))

module _ (w : ℕ) where
  pub flat_out : (ss : List ℕ) → all_flat w ss ≡ true → (k : ℕ) → k < length ss → get_or ss k 0 ≡ full w
  flat_out [] e k l = absurd (omega arith)
  flat_out (s ∷ ss) e zero l = eqb-true s (full w) (and_left (flat w s) (all_flat w ss) e)
  flat_out (s ∷ ss) e (suc k) l = flat_out ss (and_right (flat w s) (all_flat w ss) e) k (omega arith)

  pub flat_in : (ss : List ℕ) → ((k : ℕ) → k < length ss → get_or ss k 0 ≡ full w) → all_flat w ss ≡ true
  flat_in [] b = refl
  flat_in (s ∷ ss) b =
      and_both (flat w s) (all_flat w ss) (eq-eqb s (full w) (b 0 (omega arith))) (flat_in ss (λ k l. b (suc k) (omega arith)))

  -- the first flat subselector is the one that is full w after others that are not
  first_is : (ss : List ℕ) (j : ℕ) → j < length ss → get_or ss j 0 ≡ full w → ((k : ℕ) → k < j → get_or ss k 0 ≢ full w)
      → first_flat w ss ≡ j
  first_is [] j l e b = absurd (omega arith)
  first_is (s ∷ ss) zero l e b = first_here w s ss (eq-eqb s (full w) e)
  first_is (s ∷ ss) (suc j) l e b =
      first_past w s ss (ne_eqb s (full w) (b 0 (omega arith)))
      ∙ ap suc (first_is ss j (omega arith) e (λ k q. b (suc k) (omega arith)))

  -- what is made of a set holds the segments of it
  made_holding : (f : List ℕ → ℕ → List ℕ) (q : ℕ → Bool) (S : ℕ → Type 0) → ((i : ℕ) → q i ≡ true → S i)
      → ((i : ℕ) → S i → q i ≡ true) → (p : List ℕ) (h : Handle) → Holding w f S p h (made w f h p (set_of w q))
  made_holding f q S out into p h =
      record {
        node = refl;
        local = refl;
        width = refl;
        four = refl;
        below = set_of_lt w q;
        bits = λ i l. (
          λ b. out i (sym (has_set_of w q i l) ∙ bit_in i (set_of w q) b),
          λ r. bit_out i (set_of w q) (has_set_of w q i l ∙ into i r),
        );
        others = rest;
        password = refl;
      }
    where
      rest : (k : ℕ) → 0 < k → k < 4 → get_or (set_of w q ∷ full w ∷ full w ∷ full w ∷ []) k 0 ≡ full w
      rest zero a b = absurd (omega arith)
      rest (suc zero) a b = refl
      rest (suc (suc zero)) a b = refl
      rest (suc (suc (suc zero))) a b = refl
      rest (suc (suc (suc (suc k)))) a b = absurd (omega arith)

  module _ (h : Handle) (e : Four h) where
    abbrev ss : List ℕ
    ss = h.selector

    refers_out : (i : ℕ) → references ss i ≡ true → References h i
    refers_out i q k l = references_out i ss q k (rw e l)

    refers_in : (i : ℕ) → References h i → references ss i ≡ true
    refers_in i r = references_in i ss (λ k l. r k (rw e at l))

    -- ---- the count

    pub count_in_words : CountInWords w h
    count_in_words =
        record { ones = λ i. one (references ss i); each = λ i l. go i (references ss i) refl; total = count_sum w (references ss) }
      where
        go : (i : ℕ) (b : Bool) → references ss i ≡ b
            → (References h i × (one b ≡ 1)) ⊎ ((¬ References h i) × (one b ≡ 0))
        go i true q = inl (refers_out i q, refl)
        go i false q = inr (λ r. false≢true (sym q ∙ refers_in i r), refl)

    -- ---- reduction

    module _ (f : List ℕ → ℕ → List ℕ) (p : List ℕ) where
      other_holding : (k : ℕ) → k < 4 → subselector h k ≢ full w → Holding w f (References h) p h (reduced w f h p)
      other_holding k l n =
          reduced_cases w f h p (Holding w f (References h) p h) (λ t. absurd (n (flat_out ss t k (rw e l))))
          (λ t. made_holding f (references ss) (References h) refers_out refers_in p h)

      pub reduced_in_words : ReducedInWords w f h p
      reduced_in_words =
          record {
            primary = λ all.
                reduced_cases w f h p (λ k. k ≡ h) (λ t. refl)
                (λ t. absurd (false≢true (sym t ∙ flat_in ss (λ k l. all k (rw e at l)))));
            other = other_holding;
          }

    -- ---- weakening

    module _ (f : List ℕ → ℕ → List ℕ) (mask : ℕ) where
      excluded_out : (i : ℕ) → excludes mask ss i ≡ true → Excluded h mask i
      excluded_out i q = (
        refers_out i (and_left (references ss i) (not (has i mask)) q),
        λ b. clear (has i mask) (bit_in i mask b) (and_right (references ss i) (not (has i mask)) q),
      )
        where
          clear : (m : Bool) → m ≡ true → not m ≡ true → ⊥
          clear true a b = false≢true b
          clear false a b = false≢true a

      excluded_in : (i : ℕ) → Excluded h mask i → excludes mask ss i ≡ true
      excluded_in i x =
          and_both (references ss i) (not (has i mask)) (refers_in i x.0) (clear (has i mask) (λ q. x.1 (bit_out i mask q)))
        where
          clear : (m : Bool) → (m ≡ true → ⊥) → not m ≡ true
          clear true n = absurd (n refl)
          clear false n = refl

      none_excluded : ((i : ℕ) → i < w → ¬ Excluded h mask i) → keeps_all w mask ss ≡ true
      none_excluded n =
          count_none w (excludes mask ss)
          ∙ eq-eqb (set_of w (excludes mask ss)) 0
          (set_of_same w (excludes mask ss) (λ i. false) (λ i l. test_off (excludes mask ss i) (λ q. n i l (excluded_out i q)))
          ∙ no_bits w)

      some_excluded : (i : ℕ) → i < w → Excluded h mask i → keeps_all w mask ss ≡ true → ⊥
      some_excluded i l x q = go (references ss i) (has i mask) (keeps_each w mask ss q i l) (excluded_in i x)
        where
          go : (r m : Bool) → r ≡ r && m → r && not m ≡ true → ⊥
          go true true a b = false≢true b
          go true false a b = false≢true (sym a)
          go false m a b = false≢true b

      abbrev v : ℕ
      v = parameter w mask ss

      cut_at : (j : ℕ) → j < 4 → Cut w f mask h j (renewed h (f h.password v) (set ss j v))
      cut_at j l =
          record {
            node = refl;
            local = refl;
            width = refl;
            four = length-set ss j v ∙ e;
            below = subst (λ (s : ℕ). s < 2 ^ w) (sym here) (parameter_lt w mask ss);
            bits = λ i b. subst (λ (s : ℕ). Bit i s ↔ (¬ Excluded h mask i)) (sym here) (of_bit i b);
            others = λ k n. get_or-set_other ss j k v 0 n;
            password = ap (f h.password) (sym here);
          }
        where
          here : get_or (set ss j v) j 0 ≡ v
          here = get_or-set_same ss j v 0 (rw e l)

          of_bit : (i : ℕ) → i < w → Bit i v ↔ (¬ Excluded h mask i)
          of_bit i b = (
            λ q x. go (excludes mask ss i) (excluded_in i x) (sym (has_parameter w mask ss i b) ∙ bit_in i v q),
            λ n. bit_out i v
                (has_parameter w mask ss i b ∙ ap not (test_off (excludes mask ss i) (λ q. n (excluded_out i q)))),
          )
            where
              go : (t : Bool) → t ≡ true → not t ≡ true → ⊥
              go true a c = false≢true c
              go false a c = false≢true a

      pub weakened_in_words : WeakenedInWords w f h mask
      weakened_in_words =
          record {
            kept = λ n.
                weakened_cases w f h mask (λ k. k ≡ h) (λ t. refl) (λ t. absurd (false≢true (sym t ∙ none_excluded n)));
            cut = λ i l x j a q b.
                weakened_cases w f h mask (Cut w f mask h j) (λ t. absurd (some_excluded i l x t))
                (λ t.
                subst (λ (k : ℕ). Cut w f mask h j (renewed h (f h.password v) (set ss k v)))
                (sym (first_is ss j (rw e a) q b)) (cut_at j a));
          }

  -- ---- masks with the same bits below the width

  module _ (m n : ℕ) (same : (i : ℕ) → i < w → Bit i m ↔ Bit i n) where
    same_bit : (i : ℕ) → i < w → has i m ≡ has i n
    same_bit i l =
        go (has i m) (has i n) (λ q. bit_in i n ((same i l).0 (bit_out i m q))) (λ q. bit_in i m ((same i l).1 (bit_out i n q)))
      where
        go : (a b : Bool) → (a ≡ true → b ≡ true) → (b ≡ true → a ≡ true) → a ≡ b
        go true b p q = sym (p refl)
        go false true p q = q refl
        go false false p q = refl

    module _ (ss : List ℕ) where
      same_excluded : set_of w (excludes m ss) ≡ set_of w (excludes n ss)
      same_excluded =
          set_of_same w (excludes m ss) (excludes n ss) (λ i l. ap (λ (b : Bool). references ss i && not b) (same_bit i l))

      same_kept : set_of w (keeps m ss) ≡ set_of w (keeps n ss)
      same_kept = set_of_same w (keeps m ss) (keeps n ss) (λ i l. ap (λ (b : Bool). references ss i && b) (same_bit i l))

      same_all : keeps_all w m ss ≡ keeps_all w n ss
      same_all =
          count_none w (excludes m ss) ∙ ap (λ (x : ℕ). eqb x 0) same_excluded ∙ sym (count_none w (excludes n ss))

      same_none : keeps_none w m ss ≡ keeps_none w n ss
      same_none = count_none w (keeps m ss) ∙ ap (λ (x : ℕ). eqb x 0) same_kept ∙ sym (count_none w (keeps n ss))

    module _ (f : List ℕ → ℕ → List ℕ) (h : Handle) where
      same_number : weaken_number w h m ≡ weaken_number w h n
      unfolding weaken_number
      same_number j =
          telling (no_width h) (no_such_place h) (gapped w h.selector) (same_none h.selector j)
          (not (same_all h.selector j) && not (any_flat w h.selector))

      same_weakened : weakened w f h m ≡ weakened w f h n
      unfolding weakened
      same_weakened j =
          elim (same_all h.selector j) [
            | true ↦ h
            | false ↦ cut f h (first_flat w h.selector) (full w - same_excluded h.selector j)
          ]

      same_weakening : weakening w f h m ≡ weakening w f h n
      unfolding weakening
      same_weakening j = reply (same_number j) (same_weakened j) (referenced w (same_weakened j).selector)

  pub mask_in_words : (f : List ℕ → ℕ → List ℕ) (h : Handle) → MaskInWords w f h
  mask_in_words f h m n same = same_weakening m n same f h

  -- ---- joining

  pub joined_in_words : (f : List ℕ → ℕ → List ℕ) (h k : Handle) → Four h → Four k → (p : List ℕ) → JoinedInWords w f h k p
  unfolding joined
  joined_in_words f h k e d p =
      made_holding f (either h.selector k.selector) (λ i. References h i ⊎ References k i) out into p h
    where
      out : (i : ℕ) → either h.selector k.selector i ≡ true → References h i ⊎ References k i
      out i q = go (references h.selector i) refl q
        where
          go : (b : Bool) → references h.selector i ≡ b → b || references k.selector i ≡ true
              → References h i ⊎ References k i
          go true r q = inl (refers_out h e i r)
          go false r q = inr (refers_out k d i q)

      into : (i : ℕ) → References h i ⊎ References k i → either h.selector k.selector i ≡ true
      into i (inl r) = ap (λ (b : Bool). b || references k.selector i) (refers_in h e i r)
      into i (inr r) = ap (λ (b : Bool). references h.selector i || b) (refers_in k d i r) ∙ or-true (references h.selector i)
