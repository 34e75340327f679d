-- Many handles of one width, written out: three of them with three different numbers, in either order.
--     far, gap, idle    handles with node 4, gapped, of an inactive cluster
--     numbered hs       five places, from 11 to 15, after the handles hs were judged for reading on the starting store
--     BatchWritten      these three, and 22 bytes more, get 2, 4 and 8 in the first three places, in this order, and the rest is
--                       as it was; in the other order 8, 4 and 2
-- Assumes nothing.
use Rattle.std.specs.Prelude.{◌≡◌, ℕ, List, [], ◌∷◌, ◌++◌, replicate}
use Rattle.gelmuszta.specs.Validation.{numbers_of}

abbrev handle : ℕ → ℕ → List ℕ → List ℕ
handle v l s = 0 ∷ v ∷ l ∷ (replicate 16 0 ++ s)

abbrev pub far : List ℕ
far = handle 4 2 (replicate 4 255)

abbrev pub gap : List ℕ
gap = handle 1 2 (255 ∷ 254 ∷ 255 ∷ 255 ∷ [])

abbrev pub idle : List ℕ
idle = handle 3 7 (replicate 4 255)

abbrev numbered : List ℕ → List ℕ
numbered hs = numbers_of (replicate 3648 0) (replicate 16384 0) 1 23 hs (11 ∷ 12 ∷ 13 ∷ 14 ∷ 15 ∷ [])

pub record BatchWritten : Type 0 where
  pub forward : numbered (far ++ gap ++ idle ++ replicate 22 0) ≡ 2 ∷ 4 ∷ 8 ∷ 14 ∷ 15 ∷ []
  pub backward : numbered (idle ++ gap ++ far) ≡ 8 ∷ 4 ∷ 2 ∷ 14 ∷ 15 ∷ []
