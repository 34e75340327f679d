-- Document 02, §8: the widths of clusters, and what each makes of a handle's bytes. A handle's length tells its width.
--     bits_of v          how many segments a cluster of the width v has: 4, 8 or 16; none where there is no width
--     selector_bytes v   the bytes of a selector: two, four or eight
--     length_of v        the bytes of a handle; none where there is no width
--     most_bytes, room   the bytes of the longest handle, and the bits of its subselectors
--     width_for n        the width of a handle of n bytes; none where no handle has so many
--     width_from w       the width of a cluster of w segments; none where there is no such cluster
--     halves a b        two subselectors of four bits in a byte, the first in the low half
--     packed v ss       the bytes of the selector ss. Small: subselectors 0 and 2 in the low halves of bytes 0 and 1,
--                       1 and 3 in the high halves. Otherwise a byte for each, or two, high byte first
--     unpacked v bs     the four subselectors that the bytes bs of a selector hold
-- Assumes nothing.
use Rattle.std.specs.Prelude.{ℕ, ◌+◌, ◌*◌, ◌/◌, ◌%◌, true, false, List, [], ◌∷◌, ◌++◌, eqb, get_or, take, drop, replicate}
use Rattle.bits.specs.Bytes.{bytes, word}
use Rattle.handle.specs.declared.Width.{Width}
use Rattle.handle.specs.declared.Width.TheVariants.{None, Four, Eight, Sixteen}
use Rattle.handle.specs.Sizes.{subselectors, selector_at}

abbrev pub bits_of : Width → ℕ
bits_of None = 0
bits_of Four = 4
bits_of Eight = 8
bits_of Sixteen = 16

abbrev pub selector_bytes : Width → ℕ
selector_bytes None = 0
selector_bytes Four = 2
selector_bytes Eight = 4
selector_bytes Sixteen = 8

abbrev pub length_of : Width → ℕ
length_of None = 0
length_of Four = selector_at + selector_bytes Four
length_of Eight = selector_at + selector_bytes Eight
length_of Sixteen = selector_at + selector_bytes Sixteen

abbrev pub most_bytes : ℕ
most_bytes = length_of Sixteen

abbrev pub room : ℕ
room = bits_of Sixteen

abbrev pub width_for : ℕ → Width
width_for n =
    elim (eqb n (length_of Four)) [
      | true ↦ Four
      | false ↦
          elim (eqb n (length_of Eight)) [
            | true ↦ Eight
            | false ↦ elim (eqb n (length_of Sixteen)) [ true ↦ Sixteen | false ↦ None ]
          ]
    ]

abbrev pub width_from : ℕ → Width
width_from w =
    elim (eqb w (bits_of Four)) [
      | true ↦ Four
      | false ↦
          elim (eqb w (bits_of Eight)) [
            | true ↦ Eight
            | false ↦ elim (eqb w (bits_of Sixteen)) [ true ↦ Sixteen | false ↦ None ]
          ]
    ]

-- ---- selectors

abbrev pub halves : ℕ → ℕ → ℕ
halves a b = a % 16 + b % 16 * 16

-- the subselectors with k bytes each
abbrev in_bytes : ℕ → List ℕ → List ℕ
in_bytes k ss = bytes k (get_or ss 0 0) ++ bytes k (get_or ss 1 0) ++ bytes k (get_or ss 2 0) ++ bytes k (get_or ss 3 0)

-- the subselector of k bytes that stands at the place i
abbrev from_bytes : ℕ → List ℕ → ℕ → ℕ
from_bytes k bs i = word (take k (drop (i * k) bs))

unfoldable pub packed : Width → List ℕ → List ℕ
packed None ss = []
packed Four ss = halves (get_or ss 0 0) (get_or ss 1 0) ∷ halves (get_or ss 2 0) (get_or ss 3 0) ∷ []
packed Eight ss = in_bytes 1 ss
packed Sixteen ss = in_bytes 2 ss

unfoldable pub unpacked : Width → List ℕ → List ℕ
unpacked None bs = replicate subselectors 0
unpacked Four bs = get_or bs 0 0 % 16 ∷ get_or bs 0 0 / 16 ∷ get_or bs 1 0 % 16 ∷ get_or bs 1 0 / 16 ∷ []
unpacked Eight bs = from_bytes 1 bs 0 ∷ from_bytes 1 bs 1 ∷ from_bytes 1 bs 2 ∷ from_bytes 1 bs 3 ∷ []
unpacked Sixteen bs = from_bytes 2 bs 0 ∷ from_bytes 2 bs 1 ∷ from_bytes 2 bs 2 ∷ from_bytes 2 bs 3 ∷ []
