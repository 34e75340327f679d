-- Document 01, "The handle" and "Weakening", and document 02, §1, §5 and §8: rows of subselectors, for every width w;
-- clusters have 4, 8 or 16 segments, and there full w is 15, 255 or 65535. Subselector 0 stands first, and bit i of each
-- stands for segment i.
--     references ss i    bit i is set in every subselector
--     excludes m ss i    segment i is referenced and its bit of the mask m is clear
--     keeps m ss i       segment i is referenced and its bit of the mask m is set
--     either ss ts i     segment i is referenced by ss or by ts
--     flat s             all bits of the width are set
--     all_flat, any_flat   every subselector is flat; some subselector is
--     gapped             a flat subselector stands below one that is not flat
--     first_flat          the place of the first flat subselector; how many there are, where none is flat
--     place_of p          the place p; how many subselectors a selector has, where there is none
--     common             the bits set in every subselector
--     referenced         how many segments are referenced
--     keeps_all m ss      the mask m excludes none
--     keeps_none m ss     the mask m keeps none
--     parameter m ss     all bits of the width less those of the excluded segments
--     replaced v ss      the first flat subselector becomes v
--     spent m ss         something would be excluded and no subselector is flat
--     union ss ts        the bits of the segments that either references
--     whole_union ss ts   these are all of the width
--     flats              every subselector flat
--     in_first s          subselector 0 is s and the others are flat
--     Within ss          no subselector has a bit at or above the width
-- Assumes nothing.
use Rattle.std.specs.Prelude.{ℕ, zero, suc, ◌-◌, ◌^◌, ◌<◌, Bool, true, false, not, ◌&&◌, ◌||◌, List, [], ◌∷◌, eqb, set, replicate, Option, None, Some}
use Rattle.bits.specs.Sets.{has, full, set_of, count}
use Rattle.handle.specs.Sizes.{subselectors}

abbrev pub references : List ℕ → ℕ → Bool
references [] i = true
references (s ∷ ss) i = has i s && references ss i

abbrev pub excludes : ℕ → List ℕ → ℕ → Bool
excludes mask ss i = references ss i && not (has i mask)

abbrev pub keeps : ℕ → List ℕ → ℕ → Bool
keeps mask ss i = references ss i && has i mask

abbrev pub either : List ℕ → List ℕ → ℕ → Bool
either ss ts i = references ss i || references ts i

abbrev pub place_of : Option ℕ → ℕ
place_of None = subselectors
place_of (Some k) = k

module _ (w : ℕ) where
  abbrev pub flat : ℕ → Bool
  flat s = eqb s (full w)

  abbrev pub all_flat : List ℕ → Bool
  all_flat [] = true
  all_flat (s ∷ ss) = flat s && all_flat ss

  abbrev pub any_flat : List ℕ → Bool
  any_flat [] = false
  any_flat (s ∷ ss) = flat s || any_flat ss

  abbrev pub gapped : List ℕ → Bool
  gapped [] = false
  gapped (s ∷ ss) = flat s && not (all_flat ss) || gapped ss

  abbrev pub first_flat : List ℕ → ℕ
  first_flat [] = zero
  first_flat (s ∷ ss) = elim (flat s) [ true ↦ zero | false ↦ suc (first_flat ss) ]

  abbrev pub common : List ℕ → ℕ
  common ss = set_of w (references ss)

  abbrev pub referenced : List ℕ → ℕ
  referenced ss = count w (references ss)

  abbrev pub keeps_all : ℕ → List ℕ → Bool
  keeps_all mask ss = eqb (count w (excludes mask ss)) 0

  abbrev pub keeps_none : ℕ → List ℕ → Bool
  keeps_none mask ss = eqb (count w (keeps mask ss)) 0

  abbrev pub parameter : ℕ → List ℕ → ℕ
  parameter mask ss = full w - set_of w (excludes mask ss)

  abbrev pub replaced : ℕ → List ℕ → List ℕ
  replaced v ss = set ss (first_flat ss) v

  abbrev pub spent : ℕ → List ℕ → Bool
  spent mask ss = not (keeps_all mask ss) && not (any_flat ss)

  abbrev pub union : List ℕ → List ℕ → ℕ
  union ss ts = set_of w (either ss ts)

  abbrev pub whole_union : List ℕ → List ℕ → Bool
  whole_union ss ts = flat (union ss ts)

  abbrev pub flats : List ℕ
  flats = replicate subselectors (full w)

  abbrev pub in_first : ℕ → List ℕ
  in_first s = s ∷ replicate (subselectors - 1) (full w)

  abbrev pub Within : List ℕ → Type 0
  Within [] = Unit
  Within (s ∷ ss) = (s < 2 ^ w) × Within ss
