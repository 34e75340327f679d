-- The loop over the rounds: before turn i, i whole rounds are done and the key is the round key of round i. And the
-- cipher gives sixteen bytes.
-- Assumes nothing.
use mathlib.Core.Path.{◌≡◌, refl, sym, ap, ap₂, ◌∙◌}
use mathlib.Core.List.{List}
use Prim.Native.Nat.{ℕ, suc, ◌+◌, ◌*◌, ◌/◌, ◌%◌, ◌≤◌, ◌<◌}
use native.Mathlib.Numerals.{add-one}
use native.Mathlib.Omega.{arith}
use lib.Bits.{bit_xor}
use lib.ListN.{length}
use Rattle.loops.proofs.TabulateLaws.{length_tabulate}
use Rattle.aes.specs.Transformations.{cell, sub_bytes, shift_rows, mix_columns, add_round_key}
use Rattle.aes.specs.KeyExpansion.{expand, round_key}
use Rattle.aes.specs.Cipher.{rounds, cipher}
use Rattle.aes.proofs.KeyExpansionLaws.{key_next}

-- i rounds from the state s₀ under the key
pub record Rounds (key s₀ k s : List ℕ) (i : ℕ) : Type 0 where
  pub low : i ≤ 9
  pub at_key : k ≡ round_key key i
  pub at_state : s ≡ rounds key s₀ i

pub rounds_none : (key s₀ : List ℕ) → Rounds key s₀ key s₀ 0
unfolding rounds expand
rounds_none key s₀ = record { low = omega arith; at_key = refl; at_state = refl }

module _ (key s₀ k s : List ℕ) (i : ℕ) (w : Rounds key s₀ k s i) where
  next_key : (k' : List ℕ) → k' ≡ expand 4 (4 * (i + 1)) k → k' ≡ round_key key (suc i)
  next_key k' e = e ∙ ap (expand 4 (4 * (i + 1))) w.at_key ∙ key_next key i

  pub rounds_more : i < 9 → (k' a b c d : List ℕ) → k' ≡ expand 4 (4 * (i + 1)) k
      → a ≡ sub_bytes s → b ≡ shift_rows a → c ≡ mix_columns b → d ≡ add_round_key c k' → Rounds key s₀ k' d (i + 1)
  unfolding rounds
  rounds_more h k' a b c d ek ea eb ec ed =
      rw add-one
      (record {
        low = omega arith;
        at_key = next_key k' ek;
        at_state =
            ed
            ∙ ap₂ add_round_key
            (ec ∙ ap mix_columns (eb ∙ ap shift_rows (ea ∙ ap sub_bytes w.at_state)))
            (next_key k' ek);
      })

  pub rounds_all : 9 ≤ i → (block k' a b d : List ℕ) → s₀ ≡ add_round_key block key → a ≡ sub_bytes s → b ≡ shift_rows a
      → k' ≡ expand 4 40 k → d ≡ add_round_key b k' → d ≡ cipher key block
  unfolding cipher expand
  rounds_all h block k' a b d es ea eb ek ed =
      let nine : i ≡ 9 = omega arith in
      ed
      ∙ ap₂ add_round_key
      (eb ∙ ap shift_rows (ea ∙ ap sub_bytes (w.at_state ∙ ap₂ (rounds key) es nine)))
      (next_key k' (ek ∙ ap (λ (n : ℕ). expand 4 (4 * (n + 1)) k) (sym nine))
      ∙ ap (λ (n : ℕ). round_key key (suc n)) nine)

length_added : (s k : List ℕ) → length (add_round_key s k) ≡ 16
unfolding add_round_key
length_added s k = length_tabulate 16 (λ i. bit_xor (cell s (i % 4) (i / 4)) (cell k (i % 4) (i / 4)))

pub length_cipher : (key block : List ℕ) → length (cipher key block) ≡ 16
unfolding cipher
length_cipher key block = length_added _ _
