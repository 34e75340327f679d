-- Laws of spans: none is set at the start, one after another is one span, and a word touched by the mask that covers a span is that span marked.
-- Assumes nothing.
use mathlib.Core.Path.{◌≡◌, refl, sym, ap, ◌∙◌}
use mathlib.Core.Logic.{◌⊎◌, inl, inr}
use mathlib.Core.Bool.{Bool, true, false, ◌&&◌, ◌||◌, or-true, or-false, and-true}
use mathlib.Core.List.{List}
use Prim.Native.Nat.{ℕ, zero, suc, ◌+◌, ◌*◌, ◌/◌, ◌%◌, ◌^◌, ◌≤◌, ◌<◌}
use native.Mathlib.Omega.{arith}
use lib.Dec.{eqb, leb, ltb}
use lib.Bits.{bit_and, bit_or, and_le_r}
use lib.ListN.{length, get_or, set, replicate, length-set}
use lib.Seq.{get_or-set_same, get_or-set_other}
use borrow.Author.Tests.{ltb-true, ltb-false, leb-true, leb-false, eqb-true, eqb-false, eq-eqb}
use Rattle.bits.specs.Sets.{has}
use Rattle.bits.proofs.SetLaws.{same_bits}
use Rattle.bits.proofs.OperationLaws.{has_and, has_or, has_none}
use Rattle.loops.proofs.BelowLaws.{and_left, and_right, and_both, and_off}
use Rattle.spans.specs.Spans.{word_bits, marks, Stamped}

-- a map of zeros has no bit set
pub marks_none : (n x : ℕ) → marks (replicate n 0) x ≡ false
unfolding marks
marks_none n x = ap (has (x % word_bits)) (word n (x / word_bits)) ∙ has_none (x % word_bits)
  where
    word : (n k : ℕ) → get_or {A = ℕ} (replicate n 0) k 0 ≡ 0
    word zero k = refl
    word (suc n) zero = refl
    word (suc n) (suc k) = word n k

-- one span after another
pub stamped_next : (a m b : ℕ) (one two three : List ℕ) (r s : Bool) → a ≤ m → m ≤ b
    → Stamped a m one r two → Stamped m b two s three → Stamped a b one (s && r) three
stamped_next a m b one two three r s ha hb f g =
    record {
      size = g.size ∙ f.size;
      told = λ e x h k. told e x h k (ltb x m) refl;
      tells = λ t. and_both s r
          (g.tells (λ x h k. f.kept x (inr h) ∙ t x (omega arith) k))
          (f.tells (λ x h k. t x h (omega arith)));
      set = λ x h k. sets x h k (ltb x m) refl;
      kept = λ x h. g.kept x (right x h) ∙ f.kept x (left x h);
    }
  where
    told : (s && r) ≡ true → (x : ℕ) → a ≤ x → x < b → (t : Bool) → ltb x m ≡ t → marks one x ≡ false
    told e x h k true q = f.told (and_right s r e) x h (ltb-true x m q)
    told e x h k false q =
        sym (f.kept x (inr (ltb-false x m q))) ∙ g.told (and_left s r e) x (ltb-false x m q) k

    sets : (x : ℕ) → a ≤ x → x < b → (t : Bool) → ltb x m ≡ t → marks three x ≡ true
    sets x h k true q = g.kept x (inl (ltb-true x m q)) ∙ f.set x h (ltb-true x m q)
    sets x h k false q = g.set x (ltb-false x m q) k

    right : (x : ℕ) → (x < a) ⊎ (b ≤ x) → (x < m) ⊎ (b ≤ x)
    right x (inl h) = inl (omega arith)
    right x (inr h) = inr h

    left : (x : ℕ) → (x < a) ⊎ (b ≤ x) → (x < a) ⊎ (m ≤ x)
    left x (inl h) = inl h
    left x (inr h) = inr (omega arith)

-- ---- inside one word

-- the bits of the mask are those of the span, in word w
pub record Covers (w a b mask : ℕ) : Type 0 where
  pub low : w * word_bits ≤ a
  pub high : b ≤ w * word_bits + word_bits
  pub small : mask < 2 ^ word_bits
  pub on : (i : ℕ) → i < word_bits → a ≤ w * word_bits + i → w * word_bits + i < b → has i mask ≡ true
  pub off : (i : ℕ) → i < word_bits → (w * word_bits + i < a) ⊎ (b ≤ w * word_bits + i) → has i mask ≡ false

module _ (w a b mask : ℕ) (before : List ℕ) (v : Covers w a b mask) (short : w < length before) where
  old : ℕ
  old = get_or before w 0

  after : List ℕ
  unfolding old
  after = set before w (bit_or old mask)

  -- a bit of the word, afterwards and before, and a bit of another word
  in_word : (x : ℕ) → x / word_bits ≡ w → marks after x ≡ has (x % word_bits) old || has (x % word_bits) mask
  unfolding marks after old
  in_word x e =
      ap (λ (k : ℕ). has (x % word_bits) (get_or after k 0)) e
      ∙ ap (has (x % word_bits)) (get_or-set_same before w (bit_or old mask) 0 short)
      ∙ has_or (x % word_bits) old mask

  was : (x : ℕ) → x / word_bits ≡ w → marks before x ≡ has (x % word_bits) old
  unfolding marks old
  was x e = ap (λ (k : ℕ). has (x % word_bits) (get_or before k 0)) e

  out_word : (x : ℕ) → (x / word_bits ≡ w → ⊥) → marks after x ≡ marks before x
  unfolding marks after old
  out_word x n = ap (has (x % word_bits)) (get_or-set_other before w (x / word_bits) (bit_or old mask) 0 n)

  word_of : (x : ℕ) → a ≤ x → x < b → x / word_bits ≡ w
  word_of x h k = let p = v.low in let q = v.high in omega arith

  on_at : (x : ℕ) → a ≤ x → x < b → has (x % word_bits) mask ≡ true
  on_at x h k =
      let p = v.low in
      let q = v.high in
      v.on (x % word_bits) (omega arith) (omega arith) (omega arith)

  off_at : (x : ℕ) → x / word_bits ≡ w → (x < a) ⊎ (b ≤ x) → has (x % word_bits) mask ≡ false
  off_at x e (inl h) = v.off (x % word_bits) (omega arith) (inl (omega arith))
  off_at x e (inr h) = v.off (x % word_bits) (omega arith) (inr (omega arith))

  clear_out : eqb (bit_and old mask) 0 ≡ true → (x : ℕ) → a ≤ x → x < b → marks before x ≡ false
  clear_out e x h k =
      was x (word_of x h k)
      ∙ sym (and-true (has (x % word_bits) old))
      ∙ ap (λ (t : Bool). has (x % word_bits) old && t) (sym (on_at x h k))
      ∙ sym (has_and (x % word_bits) old mask)
      ∙ ap (has (x % word_bits)) (eqb-true (bit_and old mask) 0 e)
      ∙ has_none (x % word_bits)

  clear_in : ((x : ℕ) → a ≤ x → x < b → marks before x ≡ false) → eqb (bit_and old mask) 0 ≡ true
  clear_in f = eq-eqb (bit_and old mask) 0 (same_bits word_bits (bit_and old mask) 0 small (omega arith) each)
    where
      small : bit_and old mask < 2 ^ word_bits
      small = let p = and_le_r old mask in let q = v.small in omega (arith, p, q)

      each : (i : ℕ) → i < word_bits → has i (bit_and old mask) ≡ has i 0
      each i h = has_and i old mask ∙ go (leb a (w * word_bits + i)) refl (ltb (w * word_bits + i) b) refl ∙ sym (has_none i)
        where
          at : (w * word_bits + i) / word_bits ≡ w
          at = omega arith

          bit : (w * word_bits + i) % word_bits ≡ i
          bit = omega arith

          go : (s : Bool) → leb a (w * word_bits + i) ≡ s → (t : Bool) → ltb (w * word_bits + i) b ≡ t
              → (has i old && has i mask) ≡ false
          go true p true q =
              ap (λ (t : Bool). t && has i mask)
              (ap (λ (k : ℕ). has k old) (sym bit)
              ∙ sym (was (w * word_bits + i) at)
              ∙ f (w * word_bits + i) (leb-true a (w * word_bits + i) p) (ltb-true (w * word_bits + i) b q))
          go false p t q = and_off (has i old) (has i mask) (v.off i h (inl (leb-false a (w * word_bits + i) p)))
          go true p false q = and_off (has i old) (has i mask) (v.off i h (inr (ltb-false (w * word_bits + i) b q)))

  touched : Stamped a b before (eqb (bit_and old mask) 0) after
  unfolding after
  touched =
      record {
        size = length-set before w (bit_or old mask);
        told = clear_out;
        tells = clear_in;
        set = λ x h k.
            in_word x (word_of x h k)
            ∙ ap (λ (t : Bool). has (x % word_bits) old || t) (on_at x h k)
            ∙ or-true (has (x % word_bits) old);
        kept = λ x h. keeps x h (eqb (x / word_bits) w) refl;
      }
    where
      keeps : (x : ℕ) → (x < a) ⊎ (b ≤ x) → (t : Bool) → eqb (x / word_bits) w ≡ t → marks after x ≡ marks before x
      keeps x h true e =
          let q = eqb-true (x / word_bits) w e in
          in_word x q
          ∙ ap (λ (t : Bool). has (x % word_bits) old || t) (off_at x q h)
          ∙ or-false (has (x % word_bits) old)
          ∙ sym (was x q)
      keeps x h false e = out_word x (eqb-false (x / word_bits) w e)

  -- what the code does to a word
  pub stamped_touch : (r : Bool) (l : List ℕ)
      → (r ≡ eqb (bit_and (get_or before w 0) mask) 0) × (l ≡ set before w (bit_or (get_or before w 0) mask))
      → Stamped a b before r l
  unfolding old after
  stamped_touch r l e = rw (e.0, e.1) touched
