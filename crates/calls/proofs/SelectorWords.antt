-- The tests of a selector and of passwords in words, at the handle's own width. A test that goes along the row of
-- subselectors tells of each of them; whatever bytes hold has four.
-- Assumes nothing.
use mathlib.Core.Path.{◌≡◌, refl, sym, ap, ◌∙◌, subst}
use mathlib.Core.Logic.{◌≢◌, ◌⊎◌, inl, inr}
use Prim.Native.Nat.{ℕ, zero, suc, ◌<◌}
use native.Mathlib.Decide.{ℕ_discrete}
use native.Mathlib.Omega.{arith}
use mathlib.Core.Bool.{Bool, true, false, not, ◌&&◌, ◌||◌, false≢true}
use mathlib.Core.List.{List, [], ◌∷◌}
use lib.Dec.{eqb}
use lib.ListN.{length, get_or}
use borrow.Author.Tests.{not-true}
use Rattle.bits.specs.Sets.{has, full, set_of, count}
use Rattle.bits.proofs.SetLaws.{count_out, count_in, set_of_lt, has_set_of, same_bits}
use Rattle.bits.proofs.OperationLaws.{has_full, full_lt}
use Rattle.sizes.specs.Sizes.{password_bytes}
use Rattle.handle.specs.Selectors.{references, excludes, keeps, either, flat, all_flat, any_flat, gapped, keeps_none, spent}
use Rattle.handle.specs.Selectors.{whole_union}
use Rattle.handle.specs.declared.Width.{Width}
use Rattle.handle.specs.declared.Width.TheVariants.{None, Four, Eight, Sixteen}
use Rattle.handle.specs.Widths.{width_for, unpacked}
use Rattle.handle.specs.Handles.{width_of, decoded_as, decoded, same_password, converted, validates}
use Rattle.handle.proofs.CodeLaws.{converted_flat, converted_other, code_opened}
use Rattle.handle.specs.declared.Handle.{Handle}
use Rattle.handle.specs.Words.{Bit, References, subselector}
use Rattle.calls.specs.Words.{Flat, SamePassword, Converted, Chain, GappedHandle}
use Rattle.calls.proofs.TestLaws.{Is, map_is, same_is, not_is, and_is, or_is, eq_is, every_is}

-- ---- along a row of subselectors

module _ (t : List ℕ → Bool) (p : ℕ → Bool) (P : ℕ → Type 0) (each : (s : ℕ) → Is (p s) (P s)) where
  -- a test that all pass
  all_is : t [] ≡ true → ((s : ℕ) (ss : List ℕ) → t (s ∷ ss) ≡ p s && t ss) → (ss : List ℕ)
      → Is (t ss) ((k : ℕ) → k < length ss → P (get_or ss k 0))
  all_is start step [] = record { out = λ e k h. absurd (omega arith); into = λ f. start }
  all_is start step (s ∷ ss) =
      same_is (step s ss)
      (map_is to (λ f. (f 0 (omega arith), λ k h. f (suc k) (omega arith))) (and_is (each s) (all_is start step ss)))
    where
      to : P s × ((k : ℕ) → k < length ss → P (get_or ss k 0)) → (k : ℕ) → k < suc (length ss) → P (get_or (s ∷ ss) k 0)
      to f zero h = f.0
      to f (suc k) h = f.1 k (omega arith)

  -- a test that some pass
  some_is : t [] ≡ false → ((s : ℕ) (ss : List ℕ) → t (s ∷ ss) ≡ p s || t ss) → (ss : List ℕ)
      → Is (t ss) ((k : ℕ) × (k < length ss) × P (get_or ss k 0))
  some_is start step [] =
      record { out = λ e. absurd (false≢true (sym start ∙ e)); into = λ f. let h = f.1 in absurd (omega arith) }
  some_is start step (s ∷ ss) =
      same_is (step s ss)
      (map_is to (λ f. from f.0 f.1 f.2) (or_is (each s) (some_is start step ss)))
    where
      to : P s ⊎ ((k : ℕ) × (k < length ss) × P (get_or ss k 0))
          → (k : ℕ) × (k < suc (length ss)) × P (get_or (s ∷ ss) k 0)
      to (inl h) = (0, omega arith, h)
      to (inr f) = let h = f.1 in (suc f.0, omega arith, f.2)

      from : (k : ℕ) → k < suc (length ss) → P (get_or (s ∷ ss) k 0)
          → P s ⊎ ((k : ℕ) × (k < length ss) × P (get_or ss k 0))
      from zero h q = inl q
      from (suc k) h q = inr (k, omega arith, q)

not_and : (a b : Bool) → not (a && b) ≡ not a || not b
not_and true b = refl
not_and false b = refl

not_or : (a b : Bool) → not (a || b) ≡ not a && not b
not_or true b = refl
not_or false b = refl

pub bit_is : (i s : ℕ) → Is (has i s) (Bit i s)
unfolding has
bit_is i s = eq_is _ 1

pub row_references : (i : ℕ) (ss : List ℕ) → Is (references ss i) ((k : ℕ) → k < length ss → Bit i (get_or ss k 0))
row_references i = all_is (λ ss. references ss i) (has i) (Bit i) (bit_is i) refl (λ s ss. refl)

-- ---- the bits of a set, counted

count_is : (w : ℕ) (p : ℕ → Bool) → Is (not (eqb (count w p) 0)) ((i : ℕ) × (i < w) × (p i ≡ true))
count_is w p =
    record {
      out = λ e. count_out w p (not-true (eqb (count w p) 0) e);
      into = λ f. ap not (count_in w p f.0 f.1 f.2);
    }

-- a test that none passes
none_is : (w : ℕ) (p : ℕ → Bool) (P : ℕ → Type 0) → ((i : ℕ) → Is (p i) (P i))
    → Is (eqb (count w p) 0) ((i : ℕ) → i < w → ¬ P i)
none_is w p P each =
    same_is (sym (not_not (eqb (count w p) 0)))
    (map_is (λ n i l q. n (i, l, (each i).into q)) (λ n f. n f.0 f.1 ((each f.0).out f.2))
    (not_is (count_is w p)))
  where
    not_not : (b : Bool) → not (not b) ≡ b
    not_not true = refl
    not_not false = refl

-- ---- flat subselectors, and what a mask excludes, at a width

module _ (w : ℕ) where
  flat_is : (s : ℕ) → Is (flat w s) (s ≡ full w)
  flat_is s = eq_is s (full w)

  row_flat : (ss : List ℕ) → Is (all_flat w ss) ((k : ℕ) → k < length ss → get_or ss k 0 ≡ full w)
  row_flat = all_is (all_flat w) (flat w) (λ s. s ≡ full w) flat_is refl (λ s ss. refl)

  row_unflat : (ss : List ℕ) → Is (not (any_flat w ss)) ((k : ℕ) → k < length ss → get_or ss k 0 ≢ full w)
  row_unflat =
      all_is (λ ss. not (any_flat w ss)) (λ s. not (flat w s)) (λ s. s ≢ full w) (λ s. not_is (flat_is s)) refl
      (λ s ss. not_or (flat w s) (any_flat w ss))

  row_other : (ss : List ℕ) → Is (not (all_flat w ss)) ((k : ℕ) × (k < length ss) × (get_or ss k 0 ≢ full w))
  row_other =
      some_is (λ ss. not (all_flat w ss)) (λ s. not (flat w s)) (λ s. s ≢ full w) (λ s. not_is (flat_is s)) refl
      (λ s ss. not_and (flat w s) (all_flat w ss))

  abbrev Gap : ℕ → List ℕ → Type 0
  Gap n ss = (j : ℕ) × (k : ℕ) × (j < k) × (k < n) × (get_or ss j 0 ≡ full w) × (get_or ss k 0 ≢ full w)

  row_gapped : (ss : List ℕ) → Is (gapped w ss) (Gap (length ss) ss)
  row_gapped [] = record { out = λ e. absurd (false≢true e); into = λ g. let h = g.3 in absurd (omega arith) }
  row_gapped (s ∷ ss) =
      map_is to (λ g. from g.0 g.1 g.2 g.3 g.4 g.5)
      (or_is (and_is (flat_is s) (row_other ss)) (row_gapped ss))
    where
      to : ((s ≡ full w) × ((k : ℕ) × (k < length ss) × (get_or ss k 0 ≢ full w))) ⊎ Gap (length ss) ss
          → Gap (suc (length ss)) (s ∷ ss)
      to (inl (e, o)) = let h = o.1 in (0, suc o.0, omega arith, omega arith, e, o.2)
      to (inr g) = let a = g.2 in let b = g.3 in (suc g.0, suc g.1, omega arith, omega arith, g.4, g.5)

      from : (j k : ℕ) → j < k → k < suc (length ss) → get_or (s ∷ ss) j 0 ≡ full w → get_or (s ∷ ss) k 0 ≢ full w
          → ((s ≡ full w) × ((k : ℕ) × (k < length ss) × (get_or ss k 0 ≢ full w))) ⊎ Gap (length ss) ss
      from j zero a b e n = absurd (omega arith)
      from zero (suc k) a b e n = inl (e, (k, omega arith, n))
      from (suc j) (suc k) a b e n = inr (j, k, omega arith, omega arith, e, n)

  row_excluded : (mask : ℕ) (ss : List ℕ) → Is (not (eqb (count w (excludes mask ss)) 0))
      ((i : ℕ) × (i < w) × ((k : ℕ) → k < length ss → Bit i (get_or ss k 0)) × ¬ Bit i mask)
  row_excluded mask ss =
      map_is (λ f. let e = (each f.0).out f.2 in (f.0, f.1, e.0, e.1))
      (λ f. (f.0, f.1, (each f.0).into (f.2, f.3))) (count_is w (excludes mask ss))
    where
      each : (i : ℕ) → Is (excludes mask ss i) (((k : ℕ) → k < length ss → Bit i (get_or ss k 0)) × (¬ Bit i mask))
      each i = and_is (row_references i ss) (not_is (bit_is i mask))

-- ---- passwords

pub password_is : (a b : List ℕ) → Is (same_password a b) (SamePassword a b)
unfolding same_password
password_is a b =
    every_is password_bytes (λ k. eqb (get_or a k 0) (get_or b k 0)) (λ k. get_or a k 0 ≡ get_or b k 0)
    (λ k. eq_is (get_or a k 0) (get_or b k 0))

-- ---- the bytes of a handle

-- whatever the bytes, they hold four subselectors
pub four : (b : List ℕ) → length (decoded b).selector ≡ 4
unfolding decoded unpacked
four b = go (width_for (length b))
  where
    go : (v : Width) → length (decoded_as v b).selector ≡ 4
    go None = refl
    go Four = refl
    go Eight = refl
    go Sixteen = refl

module _ (h : Handle) (e : length h.selector ≡ 4) where
  abbrev ss : List ℕ
  ss = h.selector

  abbrev w : ℕ
  w = width_of h

  pub references_is : (i : ℕ) → Is (references ss i) (References h i)
  references_is i =
      subst (λ (n : ℕ). Is (references ss i) ((k : ℕ) → k < n → Bit i (subselector h k))) e (row_references i ss)

  pub primary_is : Is (all_flat w ss) ((k : ℕ) → k < 4 → Flat h k)
  primary_is = subst (λ (n : ℕ). Is (all_flat w ss) ((k : ℕ) → k < n → Flat h k)) e (row_flat w ss)

  pub other_is : Is (not (all_flat w ss)) ((k : ℕ) × (k < 4) × ¬ Flat h k)
  other_is =
      subst (λ (n : ℕ). Is (not (all_flat w ss)) ((k : ℕ) × (k < n) × ¬ Flat h k)) e (row_other w ss)

  pub gapped_is : Is (gapped w ss) (GappedHandle h)
  gapped_is = subst (λ (n : ℕ). Is (gapped w ss) (Gap w n ss)) e (row_gapped w ss)

  pub empty_is : (mask : ℕ) → Is (keeps_none w mask ss) ((i : ℕ) → i < w → ¬ (References h i × Bit i mask))
  empty_is mask =
      none_is w (keeps mask ss) (λ i. References h i × Bit i mask)
      (λ i. and_is (references_is i) (bit_is i mask))

  pub spent_is : (mask : ℕ) → Is (spent w mask ss)
      (((i : ℕ) × (i < w) × References h i × ¬ Bit i mask) × ((k : ℕ) → k < 4 → ¬ Flat h k))
  spent_is mask =
      subst
      (λ (n : ℕ).
      Is (spent w mask ss)
      (((i : ℕ) × (i < w) × ((k : ℕ) → k < n → Bit i (subselector h k)) × ¬ Bit i mask)
      × ((k : ℕ) → k < n → ¬ Flat h k)))
      e (and_is (row_excluded w mask ss) (row_unflat w ss))

  -- ---- validation

  module _ (g : List ℕ → ℕ → List ℕ) where
    converted_words : (k : ℕ) (p : List ℕ) → Converted g h k p (converted w g p (subselector h k))
    converted_words k p = go (ℕ_discrete (subselector h k) (full w))
      where
        go : Dec (subselector h k ≡ full w) → Converted g h k p (converted w g p (subselector h k))
        go (yes q) = inl (q, sym (converted_flat w g p (subselector h k) (full w) refl q))
        go (no q) =
            inr (q, sym (converted_other w g p (subselector h k) (full w) refl q (g p (subselector h k)) refl))

    words_converted : (k : ℕ) (p q : List ℕ) → Converted g h k p q → q ≡ converted w g p (subselector h k)
    words_converted k p q (inl (f, r)) = r ∙ converted_flat w g p (subselector h k) (full w) refl f
    words_converted k p q (inr (f, r)) = converted_other w g p (subselector h k) (full w) refl f q r

    chain_words : (p : List ℕ) → validates w g p h ≡ true → Chain g p h
    unfolding validates
    chain_words p t =
        record {
          after0 = a;
          after1 = b;
          after2 = c;
          after3 = d;
          by0 = converted_words 0 p;
          by1 = converted_words 1 a;
          by2 = converted_words 2 b;
          by3 = converted_words 3 c;
          ends =
              (password_is d h.password).out
              (ap (λ (q : List ℕ). same_password q h.password)
              (code_opened w g ss p a b c d e refl refl refl refl)
              ∙ t);
        }
      where
        a : List ℕ
        a = converted w g p (subselector h 0)

        b : List ℕ
        b = converted w g a (subselector h 1)

        c : List ℕ
        c = converted w g b (subselector h 2)

        d : List ℕ
        d = converted w g c (subselector h 3)

    words_chain : (p : List ℕ) → Chain g p h → validates w g p h ≡ true
    unfolding validates
    words_chain p c =
        ap (λ (q : List ℕ). same_password q h.password)
        (sym
        (code_opened w g ss p c.after0 c.after1 c.after2 c.after3 e
        (words_converted 0 p c.after0 c.by0)
        (words_converted 1 c.after0 c.after1 c.by1)
        (words_converted 2 c.after1 c.after2 c.by2)
        (words_converted 3 c.after2 c.after3 c.by3)))
        ∙ (password_is c.after3 h.password).into c.ends

    pub chain_is : (p : List ℕ) → Is (validates w g p h) (Chain g p h)
    chain_is p = record { out = chain_words p; into = words_chain p }

-- ---- what either of two handles references

-- a set is all of the width just where every segment passes
full_is : (w : ℕ) (q : ℕ → Bool) (S : ℕ → Type 0) → ((i : ℕ) → Is (q i) (S i))
    → Is (flat w (set_of w q)) ((i : ℕ) → i < w → S i)
full_is w q S each =
    map_is (λ e i l. (each i).out (sym (has_set_of w q i l) ∙ ap (has i) e ∙ has_full w i l)) back
    (flat_is w (set_of w q))
  where
    back : ((i : ℕ) → i < w → S i) → set_of w q ≡ full w
    back all =
        same_bits w (set_of w q) (full w) (set_of_lt w q) (full_lt w)
        (λ i l. has_set_of w q i l ∙ (each i).into (all i l) ∙ sym (has_full w i l))

pub whole_is : (w : ℕ) (h k : Handle) → length h.selector ≡ 4 → length k.selector ≡ 4
    → Is (whole_union w h.selector k.selector) ((i : ℕ) → i < w → References h i ⊎ References k i)
whole_is w h k e d =
    full_is w (either h.selector k.selector) (λ i. References h i ⊎ References k i)
    (λ i. or_is (references_is h e i) (references_is k d i))
