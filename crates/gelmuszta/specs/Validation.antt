-- Many handles of one width validated against one store. The handles stand one after the other, as many bytes each as a
-- handle of that width has; the numbers go to the first places of a list, one for each handle.
--     each w                     the bytes of a handle of width w; none where w is no width
--     whole n k                  how many times n bytes there are among k; no times where n is 0
--     number_of b m mode h        the number that validating the handle of the bytes h in a mode gets on the image b and the
--                                memory m
--     fewer a b                  the smaller of the two
--     as_many n hs ns             how many handles of n bytes are judged: as many as hs has whole and ns has places for
--     numbers_of b m mode n hs ns    ns afterwards: the numbers of the handles judged, in their order, and then what was there
--     NumbersAre b mode n hs ..  the numbers before and after, with every memory of the store's size
--     Judged sd b mode n hs ..   the numbers before and after, where sd tells whether the image b holds a store that is sound
--                                with a memory: for each such memory those that the handles get by themselves
--     BatchCases                 widths and what is judged, written out: of 0, 4, 5, 8, 12, 16, 17, 260 and 65544 only 4, 8 and 16
--                                have handles; of 45 bytes at widths 4, 8, 16 and 5, with three places, and with one
-- Assumes nothing.
use Rattle.std.specs.Prelude.{◌≡◌, ℕ, zero, suc, ◌/◌, Bool, true, false, ◌&&◌, List, [], ◌∷◌, ◌++◌, map, ltb, length, drop, replicate}
use Rattle.loops.specs.Tabulate.{tabulate}
use Rattle.sizes.specs.Sizes.{memory}
use Rattle.handle.specs.Widths.{length_of, width_from}
use Rattle.store.specs.Sound.{sound}
use Rattle.calls.specs.Calls.{validating}
use Rattle.image.specs.Parts.{slot}
use Rattle.image.specs.Images.{good, store_in}
use Rattle.gelmuszta.specs.Exported.{exported}

abbrev pub number_of : List ℕ → List ℕ → ℕ → List ℕ → ℕ
number_of b m mode h = (exported (validating mode h) b m).reply.number

abbrev pub fewer : ℕ → ℕ → ℕ
fewer a b = elim (ltb a b) [ true ↦ a | false ↦ b ]

abbrev pub each : ℕ → ℕ
each w = length_of (width_from w)

abbrev pub whole : ℕ → ℕ → ℕ
whole zero k = 0
whole (suc n) k = k / suc n

abbrev pub as_many : ℕ → List ℕ → List ℕ → ℕ
as_many n hs ns = fewer (whole n (length hs)) (length ns)

abbrev pub numbers_of : List ℕ → List ℕ → ℕ → ℕ → List ℕ → List ℕ → List ℕ
numbers_of b m mode n hs ns =
    tabulate (as_many n hs ns) (λ i. number_of b m mode (slot n hs i)) ++ drop (as_many n hs ns) ns

abbrev pub NumbersAre : List ℕ → ℕ → ℕ → List ℕ → List ℕ → List ℕ → Type 0
NumbersAre b mode n hs before after =
    (m : List ℕ) → length m ≡ memory → after ≡ numbers_of b m mode n hs before

pub record Judged (sd : Bool) (b : List ℕ) (mode n : ℕ) (hs before after : List ℕ) : Type 0 where
  pub each : (m : List ℕ) → sd ≡ (good b && sound (store_in b) (length m))
      → after ≡ tabulate (length before) (λ i. number_of b m mode (slot n hs i))

pub record BatchCases : Type 0 where
  pub widths : map each (0 ∷ 4 ∷ 5 ∷ 8 ∷ 12 ∷ 16 ∷ 17 ∷ 260 ∷ 65544 ∷ []) ≡ 0 ∷ 21 ∷ 0 ∷ 23 ∷ 0 ∷ 27 ∷ 0 ∷ 0 ∷ 0 ∷ []
  pub three : map (λ w. as_many (each w) (replicate 45 0) (replicate 3 0)) (4 ∷ 8 ∷ 16 ∷ 5 ∷ []) ≡ 2 ∷ 1 ∷ 1 ∷ 0 ∷ []
  pub one : map (λ w. as_many (each w) (replicate 45 0) (replicate 1 0)) (4 ∷ 8 ∷ 16 ∷ 5 ∷ []) ≡ 1 ∷ 1 ∷ 1 ∷ 0 ∷ []
