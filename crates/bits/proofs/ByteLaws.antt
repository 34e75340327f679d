-- A number and its row of bytes: each reads back as the other.
-- Assumes nothing.
use Prim.Native.Nat.{ℕ, zero, suc, ◌+◌, ◌*◌, ◌/◌, ◌%◌, ◌^◌, ◌<◌}
use native.Mathlib.Nat.{pow-suc, add-zero, zero-add}
use native.Mathlib.Omega.{arith}
use native.Mathlib.Numerals.{add-one}
use mathlib.Core.Path.{◌≡◌, refl, sym, ap, ap₂, ◌∙◌}
use mathlib.Core.List.{List, [], ◌∷◌, ◌++◌, append-nil, append_assoc}
use lib.ListN.{length, get_or, replicate, length-append}
use Rattle.bits.specs.Bytes.{bytes, word_from, word}

pub length_bytes : (k n : ℕ) → length (bytes k n) ≡ k
unfolding bytes
length_bytes zero n = refl
length_bytes (suc k) n =
    length-append (bytes k (n / 256)) (n % 256 ∷ []) ∙ ap (λ (m : ℕ). m + 1) (length_bytes k (n / 256)) ∙ add-one k

word_from_snoc : (high : ℕ) (bs : List ℕ) (b : ℕ) → word_from high (bs ++ (b ∷ [])) ≡ word_from high bs * 256 + b
unfolding word_from
word_from_snoc high [] b = refl
word_from_snoc high (a ∷ bs) b = word_from_snoc (high * 256 + a) bs b

-- a number below 256 ^ k is read back from its k bytes
pub word_bytes_lem : (k n : ℕ) → n < 256 ^ k → word (bytes k n) ≡ n
unfolding word word_from bytes
word_bytes_lem zero n h = omega arith
word_bytes_lem (suc k) n h =
    word_from_snoc 0 (bytes k (n / 256)) (n % 256)
    ∙ ap (λ (m : ℕ). m * 256 + n % 256) (word_bytes_lem k (n / 256) (omega (arith, pow-suc 256 k)))
    ∙ omega arith

-- what stands before the bytes, and then they
bytes_word_from : (bs : List ℕ) → ((i : ℕ) → get_or bs i 0 < 256) → (k high : ℕ)
    → bytes (length bs + k) (word_from high bs) ≡ bytes k high ++ bs
unfolding bytes word_from
bytes_word_from [] h k high = ap (λ (n : ℕ). bytes n high) (zero-add k) ∙ sym (append-nil (bytes k high))
bytes_word_from (b ∷ bs) h k high =
    ap (λ (n : ℕ). bytes n (word_from (high * 256 + b) bs)) (next (length bs))
    ∙ bytes_word_from bs (λ i. h (suc i)) (suc k) (high * 256 + b)
    ∙ ap₂ (λ (x y : ℕ). (bytes k x ++ (y ∷ [])) ++ bs) (before (h 0)) (last (h 0))
    ∙ append_assoc (bytes k high) (b ∷ []) bs
  where
    next : (n : ℕ) → suc n + k ≡ n + suc k
    next n = omega arith

    before : b < 256 → (high * 256 + b) / 256 ≡ high
    before l = omega arith

    last : b < 256 → (high * 256 + b) % 256 ≡ b
    last l = omega arith

-- bytes are those of the number that is read from them
pub bytes_word : (bs : List ℕ) → ((i : ℕ) → get_or bs i 0 < 256) → bytes (length bs) (word bs) ≡ bs
unfolding bytes word
bytes_word bs h = ap (λ (n : ℕ). bytes n (word bs)) (sym (add-zero (length bs))) ∙ bytes_word_from bs h 0 0

pub word_two : (high low : ℕ) → high * 256 + low ≡ word (high ∷ low ∷ [])
unfolding word word_from
word_two high low = omega arith

-- zero has zero bytes, and a number below 256 one after them
pub bytes_zero : (k : ℕ) → bytes k 0 ≡ replicate k 0
unfolding bytes
bytes_zero zero = refl
bytes_zero (suc k) = ap (λ (l : List ℕ). l ++ (0 ∷ [])) (bytes_zero k) ∙ replicate_snoc k
  where
    replicate_snoc : (n : ℕ) → ◌++◌ {A = ℕ} (replicate n 0) (0 ∷ []) ≡ replicate (suc n) 0
    replicate_snoc zero = refl
    replicate_snoc (suc n) = ap (λ (l : List ℕ). 0 ∷ l) (replicate_snoc n)

pub bytes_small : (k n : ℕ) → n < 256 → bytes (suc k) n ≡ replicate k 0 ++ (n ∷ [])
unfolding bytes
bytes_small k n h = ap₂ (λ (q r : ℕ). bytes k q ++ (r ∷ [])) high low ∙ ap (λ (l : List ℕ). l ++ (n ∷ [])) (bytes_zero k)
  where
    high : n / 256 ≡ 0
    high = omega arith

    low : n % 256 ≡ n
    low = omega arith

-- a number below 65536 has two bytes after the zeros
pub bytes_word16 : (k n : ℕ) → n < 65536
    → bytes (suc (suc k)) n ≡ (replicate k 0 ++ (n / 256 % 256 ∷ [])) ++ (n % 256 ∷ [])
unfolding bytes
bytes_word16 k n h = ap (λ (l : List ℕ). (l ++ (n / 256 % 256 ∷ [])) ++ (n % 256 ∷ [])) (ap (bytes k) high ∙ bytes_zero k)
  where
    high : n / 256 / 256 ≡ 0
    high = omega arith
