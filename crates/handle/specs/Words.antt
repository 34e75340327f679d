-- Document 01, "The handle", "Reduction" and "Weakening", and document 02, §5 and §8, in their own words and numbers: handles
-- of four subselectors and clusters of w segments, for every width w; of 4, 8 and 16, all bits are 15, 255 and 65535. Nothing
-- here is a test; `reduced`, `joined`, `weakened` and `referenced` are held to it.
--     all_bits w             a bit for each segment of the width: what a flat subselector is
--     Bit i s               bit i of s is set, 0 the least
--     subselector h k       subselector k of h
--     Four h                h has four subselectors
--     References h i        bit i is set in all four
--     Excluded h m i        segment i is referenced and its bit of the mask m is clear
--     Holding f S p h r     r is named as h and has its width; its subselector 0 has the bits of the segments of S and none at
--                           or above the width, and the others have all bits; its password is f of subselector 0 on p
--     ReducedInWords        a primary handle comes back unchanged; any other, one that references nothing too, holds the bits
--                           common to all four of its subselectors
--     JoinedInWords         what joining h and k makes, where it is not refused, holds the segments that either references
--     Cut f m h j r         r is h but for subselector j, which is all bits less those of the excluded segments; its password
--                           is that of h through f with this number
--     WeakenedInWords       what weakening makes, where it is not refused: if none is excluded the handle as it came;
--                           otherwise it is cut at the first subselector that has all bits
--     MaskInWords           masks that have the same bits below the width weaken h alike: the reply is the same as a whole
--     sum n f               f 0 + .. + f (n - 1)
--     CountInWords          the count has 1 for each segment that is referenced, and nothing for the others
-- Assumes nothing.
use Rattle.std.specs.Prelude.{◌≡◌, ◌≢◌, ◌⊎◌, ◌↔◌, ℕ, zero, suc, ◌+◌, ◌-◌, ◌/◌, ◌%◌, ◌^◌, ◌<◌, List, length, get_or}
use Rattle.handle.specs.declared.Handle.{Handle}
use Rattle.handle.specs.Selectors.{referenced}
use Rattle.handle.specs.Handles.{weakened, reduced, joined, weakening}

abbrev pub Bit : ℕ → ℕ → Type 0
Bit i s = s / 2 ^ i % 2 ≡ 1

abbrev pub subselector : Handle → ℕ → ℕ
subselector h k = get_or h.selector k 0

abbrev pub Four : Handle → Type 0
Four h = length h.selector ≡ 4

abbrev pub References : Handle → ℕ → Type 0
References h i = (k : ℕ) → k < 4 → Bit i (subselector h k)

abbrev pub Excluded : Handle → ℕ → ℕ → Type 0
Excluded h mask i = References h i × ¬ Bit i mask

abbrev pub all_bits : ℕ → ℕ
all_bits w = 2 ^ w - 1

unfoldable pub sum : ℕ → (ℕ → ℕ) → ℕ
sum zero f = 0
sum (suc n) f = sum n f + f n

module _ (w : ℕ) where
  module _ (f : List ℕ → ℕ → List ℕ) where
    -- ---- reduction and joining

    pub record Holding (S : ℕ → Type 0) (p : List ℕ) (h r : Handle) : Type 0 where
      pub node : r.node ≡ h.node
      pub local : r.local ≡ h.local
      pub width : r.width ≡ h.width
      pub four : Four r
      pub below : subselector r 0 < 2 ^ w
      pub bits : (i : ℕ) → i < w → Bit i (subselector r 0) ↔ S i
      pub others : (k : ℕ) → 0 < k → k < 4 → subselector r k ≡ all_bits w
      pub password : r.password ≡ f p (subselector r 0)

    pub record ReducedInWords (h : Handle) (p : List ℕ) : Type 0 where
      pub primary : ((k : ℕ) → k < 4 → subselector h k ≡ all_bits w) → reduced w f h p ≡ h
      pub other : (k : ℕ) → k < 4 → subselector h k ≢ all_bits w → Holding (References h) p h (reduced w f h p)

    abbrev pub JoinedInWords : Handle → Handle → List ℕ → Type 0
    JoinedInWords h k p = Holding (λ i. References h i ⊎ References k i) p h (joined w f h k p)

    -- ---- weakening

    pub record Cut (mask : ℕ) (h : Handle) (j : ℕ) (r : Handle) : Type 0 where
      pub node : r.node ≡ h.node
      pub local : r.local ≡ h.local
      pub width : r.width ≡ h.width
      pub four : Four r
      pub below : subselector r j < 2 ^ w
      pub bits : (i : ℕ) → i < w → Bit i (subselector r j) ↔ (¬ Excluded h mask i)
      pub others : (k : ℕ) → k ≢ j → subselector r k ≡ subselector h k
      pub password : r.password ≡ f h.password (subselector r j)

    pub record WeakenedInWords (h : Handle) (mask : ℕ) : Type 0 where
      pub kept : ((i : ℕ) → i < w → ¬ Excluded h mask i) → weakened w f h mask ≡ h
      pub cut : (i : ℕ) → i < w → Excluded h mask i → (j : ℕ) → j < 4 → subselector h j ≡ all_bits w
          → ((k : ℕ) → k < j → subselector h k ≢ all_bits w) → Cut mask h j (weakened w f h mask)

    abbrev pub MaskInWords : Handle → Type 0
    MaskInWords h =
        (m n : ℕ) → ((i : ℕ) → i < w → Bit i m ↔ Bit i n) → weakening w f h m ≡ weakening w f h n

  pub record CountInWords (h : Handle) : Type 0 where
    pub ones : ℕ → ℕ
    pub each : (i : ℕ) → i < w → (References h i × (ones i ≡ 1)) ⊎ ((¬ References h i) × (ones i ≡ 0))
    pub total : referenced w h.selector ≡ sum w ones
