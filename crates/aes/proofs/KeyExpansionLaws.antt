-- Four words on from a round key, as the code makes them: the first takes the last word of the key before it, turned,
-- substituted and with the round's constant, each other the word just made. With the sixteen bytes written out both
-- sides compute to the same list.
-- Assumes nothing.
use mathlib.Core.Path.{◌≡◌, refl, sym, ap, ap₂, ◌∙◌}
use mathlib.Core.Bool.{Bool, cond}
use mathlib.Core.List.{List, [], ◌∷◌, ◌++◌}
use Prim.Native.Nat.{ℕ, zero, suc, ◌+◌, ◌-◌, ◌*◌, ◌/◌, ◌%◌, ◌≤◌, ◌<◌, min}
use native.Mathlib.Nat.{zero-add, suc-add}
use native.Mathlib.Numerals.{add-one}
use native.Mathlib.Omega.{arith}
use borrow.Author.Tests.{eq-eqb, ne_eqb}
use lib.Bits.{bit_xor, xor_zero_r}
use lib.ListN.{length, get_or, take, drop, replicate}
use Rattle.loops.specs.Tabulate.{tabulate}
use Rattle.loops.proofs.TabulateLaws.{tabulate_is, Filled}
use Rattle.aes.specs.Transformations.{cell, state}
use Rattle.field.specs.Substitution.{sbox}
use Rattle.aes.specs.KeyExpansion.{round_constant, rcon, rot_word, sub_word, add_words, new_word}
use Rattle.aes.specs.KeyExpansion.{slide, expand, round_key}
use Rattle.aes.proofs.StateLaws.{cells}

-- what is added to the first word of round r's key, k being the key before it
abbrev turned : ℕ → List ℕ → List ℕ
turned r k = add_words (sub_word (rot_word (drop 12 k))) (rcon r)

-- its bytes
abbrev bytes : ℕ → List ℕ → List ℕ
bytes r k =
    bit_xor (sbox (get_or k 13 0)) (round_constant r) ∷ bit_xor (sbox (get_or k 14 0)) 0 ∷ bit_xor (sbox (get_or k 15 0)) 0
    ∷ bit_xor (sbox (get_or k 12 0)) 0
    ∷ []

-- the byte in a row and a column of round r's key
unfoldable pub next_byte : ℕ → List ℕ → ℕ → ℕ → ℕ
next_byte r k row zero = bit_xor (cell k row 0) (get_or (bytes r k) row 0)
next_byte r k row (suc c) = bit_xor (cell k row (suc c)) (next_byte r k row c)

-- a word added to the four before it
abbrev with : List ℕ → List ℕ → List ℕ
with k t = drop 4 k ++ add_words (take 4 k) t

slide_first : (i r : ℕ) (k : List ℕ) → i ≡ 4 * r → slide i k ≡ with k (turned r k)
unfolding slide new_word
slide_first i r k e =
    ap₂ (λ (b : Bool) (j : ℕ). with k (cond b (turned j k) (drop 12 k))) (eq-eqb (i % 4) 0 (omega arith)) (omega arith)

slide_other : (i : ℕ) (k : List ℕ) → (i % 4 ≡ 0 → ⊥) → slide i k ≡ with k (drop 12 k)
unfolding slide new_word
slide_other i k h = ap (λ (b : Bool). with k (cond b (turned (i / 4) k) (drop 12 k))) (ne_eqb (i % 4) 0 h)

-- the last three words
abbrev rest : List ℕ → List ℕ
rest k = with k (drop 12 k)

expand_four : (r : ℕ) (k : List ℕ) → expand 4 (4 * r) k ≡ rest (rest (rest (with k (turned r k))))
unfolding expand
expand_four r k =
    slide_other (4 * r + 3) (expand 3 (4 * r) k) (λ e. omega arith)
    ∙ ap rest
    (slide_other (4 * r + 2) (expand 2 (4 * r) k) (λ e. omega arith)
    ∙ ap rest
    (slide_other (4 * r + 1) (expand 1 (4 * r) k) (λ e. omega arith)
    ∙ ap rest (slide_first (4 * r + 0) r k (omega arith))))

-- sixteen bytes written out
sixteen : (k : List ℕ) → length k ≡ 16 → k ≡ tabulate 16 (λ i. get_or k i 0)
sixteen k e = tabulate_is 16 (λ i. get_or k i 0) 0 k e (λ i h. refl)

pub next_key : (r : ℕ) (k : List ℕ) → length k ≡ 16 → state (next_byte r k) ≡ expand 4 (4 * r) k
unfolding next_byte tabulate
next_key r k e =
    ap (λ (l : List ℕ). state (next_byte r l)) (sixteen k e)
    ∙ ap (λ (l : List ℕ). rest (rest (rest (with l (turned r l))))) (sym (sixteen k e))
    ∙ sym (expand_four r k)

expand_add : (m n i : ℕ) (k : List ℕ) → expand (m + n) i k ≡ expand m (i + n) (expand n i k)
unfolding expand
expand_add zero n i k = ap (λ (x : ℕ). expand x i k) (zero-add n)
expand_add (suc m) n i k =
    ap (λ (x : ℕ). expand x i k) (suc-add m n)
    ∙ ap₂ slide at (expand_add m n i k)
  where
    at : i + (m + n) ≡ i + n + m
    at = omega arith

-- a round key from the one before it
pub key_next : (key : List ℕ) (n : ℕ) → expand 4 (4 * (n + 1)) (round_key key n) ≡ round_key key (suc n)
key_next key n =
    ap (λ (i : ℕ). expand 4 i (round_key key n)) from ∙ sym (expand_add 4 (4 * n) 4 key)
    ∙ ap (λ (x : ℕ). expand x 4 key) count
  where
    from : 4 * (n + 1) ≡ 4 + 4 * n
    from = omega arith

    count : 4 + 4 * n ≡ 4 * suc n
    count = omega arith

-- ---- the loop that makes a round key

-- four bytes of a key with four others added, and zeros
abbrev started : List ℕ → ℕ → ℕ → ℕ → ℕ → List ℕ
started k a b c d =
    bit_xor (get_or k 0 0) a ∷ bit_xor (get_or k 1 0) b ∷ bit_xor (get_or k 2 0) c ∷ bit_xor (get_or k 3 0) d ∷ replicate 12 0

-- the first word, from the substitutions of the last word's bytes and the round's constant
pub first_word : (r : ℕ) (k : List ℕ) (rc a b c d : ℕ) → rc ≡ round_constant r
    → a ≡ sbox (get_or k 13 0) → b ≡ sbox (get_or k 14 0) → c ≡ sbox (get_or k 15 0) → d ≡ sbox (get_or k 12 0)
    → Filled 16 (cells (next_byte r k)) 0 4 (started k (bit_xor a rc) b c d)
unfolding next_byte
first_word r k rc a b c d er ea eb ec ed = record { low = omega arith; size = refl; at = at }
  where
    plain : (i s x : ℕ) → x ≡ s → bit_xor (get_or k i 0) x ≡ bit_xor (get_or k i 0) (bit_xor s 0)
    plain i s x e = ap (bit_xor (get_or k i 0)) (e ∙ sym (xor_zero_r s))

    at : (i : ℕ) → i < 4 → get_or (started k (bit_xor a rc) b c d) i 0 ≡ cells (next_byte r k) i
    at zero h = ap (bit_xor (get_or k 0 0)) (ap₂ bit_xor ea er)
    at (suc zero) h = plain 1 (sbox (get_or k 14 0)) b eb
    at (suc (suc zero)) h = plain 2 (sbox (get_or k 15 0)) c ec
    at (suc (suc (suc zero))) h = plain 3 (sbox (get_or k 12 0)) d ed
    at (suc (suc (suc (suc i)))) h = absurd (omega arith)

-- each later byte, from the byte four places before it
pub later_byte : (r : ℕ) (k : List ℕ) (i x : ℕ) → 4 ≤ i → x ≡ cells (next_byte r k) (i - 4)
    → bit_xor (get_or k i 0) x ≡ cells (next_byte r k) i
unfolding next_byte
later_byte r k i x h e =
    ap₂ bit_xor (ap (λ (j : ℕ). get_or k j 0) at) e ∙ ap₂ (next_byte r k) row column
  where
    at : i ≡ (i - 4) % 4 + 4 * suc ((i - 4) / 4)
    at = omega arith

    row : (i - 4) % 4 ≡ i % 4
    row = omega arith

    column : suc ((i - 4) / 4) ≡ i / 4
    column = omega arith

-- ---- the loop from round key to round key

pub keys_more : (key k : List ℕ) (i : ℕ) → k ≡ round_key key i → (k' : List ℕ) → k' ≡ expand 4 (4 * (i + 1)) k
    → k' ≡ round_key key (i + 1)
keys_more key k i w k' e = rw add-one (e ∙ ap (expand 4 (4 * (i + 1))) w ∙ key_next key i)
