-- A handle's bytes in words: where a length is known, the list is that of its elements, and what it holds computes.
-- Assumes nothing.
use mathlib.Core.Path.{◌≡◌, refl, sym, ap, ◌∙◌}
use mathlib.Core.Logic.{◌≢◌, ◌⊎◌, inl, inr}
use Prim.Native.Nat.{ℕ, zero, suc, ◌+◌, ◌*◌, ◌/◌, ◌%◌, ◌≤◌, ◌<◌}
use native.Mathlib.Omega.{arith}
use mathlib.Core.List.{List, [], ◌∷◌}
use lib.ListN.{length, get_or, drop}
use lib.Seq.{get_or-take, get_or-drop}
use Rattle.bits.specs.Bytes.{word, word_from}
use Rattle.bits.proofs.ByteLaws.{word_two}
use Rattle.loops.specs.Tabulate.{tabulate}
use Rattle.handle.specs.declared.Handle.{Handle}
use Rattle.handle.specs.declared.Width.{Width}
use Rattle.handle.specs.declared.Width.TheVariants.{None, Four, Eight, Sixteen}
use Rattle.handle.specs.Widths.{bits_of, length_of, width_for, unpacked}
use Rattle.handle.specs.Handles.{node_of, width_of, held_with, held, decoded_as, decoded}
use Rattle.handle.specs.Words.{subselector}
use Rattle.handle.proofs.CodecLaws.{elements, listed, word_one, width_cases}
use Rattle.calls.specs.Words.{NoLength, Begun, HandleInWords}

begun : (v : Width) (b : List ℕ) → 19 ≤ length b → (ss : List ℕ) → decoded b ≡ held_with v b ss → Begun b
unfolding word word_from
begun v [] l ss e = absurd (omega arith)
begun v (n ∷ []) l ss e = absurd (omega arith)
begun v (n ∷ m ∷ bs) l ss e =
    record {
      node = ap (λ (h : Handle). node_of h) e ∙ omega arith;
      local = ap (λ (h : Handle). h.local) e;
      password = λ k h.
          ap (λ (d : Handle). get_or d.password k 0) e ∙ get_or-take 16 (drop 3 (n ∷ m ∷ bs)) k 0 h
          ∙ get_or-drop 3 (n ∷ m ∷ bs) k 0;
    }

module _ (b : List ℕ) where
  -- of a known length, as the definition reads them
  as_four : length b ≡ 21 → decoded b ≡ held Four b
  unfolding decoded
  as_four e = ap (λ (n : ℕ). decoded_as (width_for n) b) e

  as_eight : length b ≡ 23 → decoded b ≡ held Eight b
  unfolding decoded
  as_eight e = ap (λ (n : ℕ). decoded_as (width_for n) b) e

  as_sixteen : length b ≡ 27 → decoded b ≡ held Sixteen b
  unfolding decoded
  as_sixteen e = ap (λ (n : ℕ). decoded_as (width_for n) b) e

  one_byte : length b ≡ 23 → (k : ℕ) → k < 4 → subselector (decoded b) k ≡ get_or b (19 + k) 0
  unfolding unpacked tabulate
  one_byte e k l = ap (λ (h : Handle). subselector h k) (as_eight e ∙ ap (held Eight) (listed 23 b e)) ∙ go k l
    where
      go : (k : ℕ) → k < 4 → subselector (held Eight (elements 23 b)) k ≡ get_or b (19 + k) 0
      go zero l = word_one (get_or b 19 0)
      go (suc zero) l = word_one (get_or b 20 0)
      go (suc (suc zero)) l = word_one (get_or b 21 0)
      go (suc (suc (suc zero))) l = word_one (get_or b 22 0)
      go (suc (suc (suc (suc k)))) l = absurd (omega arith)

  two_bytes : length b ≡ 27 → (k : ℕ) → k < 4
      → subselector (decoded b) k ≡ get_or b (19 + 2 * k) 0 * 256 + get_or b (20 + 2 * k) 0
  unfolding unpacked tabulate
  two_bytes e k l = ap (λ (h : Handle). subselector h k) (as_sixteen e ∙ ap (held Sixteen) (listed 27 b e)) ∙ go k l
    where
      go : (k : ℕ) → k < 4
          → subselector (held Sixteen (elements 27 b)) k ≡ get_or b (19 + 2 * k) 0 * 256 + get_or b (20 + 2 * k) 0
      go zero l = sym (word_two (get_or b 19 0) (get_or b 20 0))
      go (suc zero) l = sym (word_two (get_or b 21 0) (get_or b 22 0))
      go (suc (suc zero)) l = sym (word_two (get_or b 23 0) (get_or b 24 0))
      go (suc (suc (suc zero))) l = sym (word_two (get_or b 25 0) (get_or b 26 0))
      go (suc (suc (suc (suc k)))) l = absurd (omega arith)

  half : length b ≡ 21 → (k : ℕ) → subselector (decoded b) k ≡ subselector (held Four b) k
  half e k = ap (λ (h : Handle). subselector h k) (as_four e)

  wide : (v : Width) → decoded b ≡ held v b → width_of (decoded b) ≡ bits_of v
  wide v e = ap width_of e

  no_width_lem : NoLength b → width_of (decoded b) ≡ 0
  unfolding decoded
  no_width_lem n = width_cases (λ v. width_of (decoded_as v b) ≡ 0) (length b) refl other
    where
      other : (v : Width) → length b ≡ length_of v → width_of (decoded_as v b) ≡ 0
      other None e = refl
      other Four e = absurd (n.0 e)
      other Eight e = absurd (n.1 e)
      other Sixteen e = absurd (n.2 e)

  pub handle_in_words : HandleInWords b
  unfolding unpacked
  handle_in_words =
      record {
        of21 = λ e. (
          begun Four b (omega arith) (unpacked Four (drop 19 b)) (as_four e),
          wide Four (as_four e),
          half e 0 ∙ ap (λ (n : ℕ). n % 16) (get_or-drop 19 b 0 0),
          half e 1 ∙ ap (λ (n : ℕ). n / 16) (get_or-drop 19 b 0 0),
          half e 2 ∙ ap (λ (n : ℕ). n % 16) (get_or-drop 19 b 1 0),
          half e 3 ∙ ap (λ (n : ℕ). n / 16) (get_or-drop 19 b 1 0),
        );
        of23 = λ e. (begun Eight b (omega arith) (unpacked Eight (drop 19 b)) (as_eight e), wide Eight (as_eight e), one_byte e);
        of27 = λ e. (
          begun Sixteen b (omega arith) (unpacked Sixteen (drop 19 b)) (as_sixteen e),
          wide Sixteen (as_sixteen e),
          two_bytes e,
        );
        other = no_width_lem;
      }

  -- a handle that has a width has one of the three lengths
  pub known_length : width_of (decoded b) ≢ 0 → ¬ NoLength b
  known_length h n = h (no_width_lem n)

  some_width : (length b ≡ 21) ⊎ (length b ≡ 23) ⊎ (length b ≡ 27) → width_of (decoded b) ≢ 0
  some_width (inl e) q = let w = wide Four (as_four e) in omega (arith, w, q)
  some_width (inr (inl e)) q = let w = wide Eight (as_eight e) in omega (arith, w, q)
  some_width (inr (inr e)) q = let w = wide Sixteen (as_sixteen e) in omega (arith, w, q)

  pub none_length : width_of (decoded b) ≡ 0 → NoLength b
  none_length q = (λ e. some_width (inl e) q, λ e. some_width (inr (inl e)) q, λ e. some_width (inr (inr e)) q)
