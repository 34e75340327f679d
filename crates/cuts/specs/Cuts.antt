-- Document 02, §10, "Two cuts and one cut", of one handle and without a store: it is weakened by one mask and then by a second, in
-- either order, or once by the bits that both masks share; for every conversion f, every primary password p and every width w that a
-- handle has. Masks are any numbers; of each the bits below the width count and no others.
--     kept ms i          every mask of the row ms has bit i
--     Among n ms         n is one of the masks ms
--     SameMasks ms ns    the two rows have the same masks, in whatever order and however often
--     cut_by ms h         h weakened by the masks of ms, the first of them first, each weakening on the handle that the one before
--                        it gave
--     Accepted ms h      each of these weakenings gets the number 0
--     Shares a b s       below the width, the mask s has just the bits that both a and b have
--     AndShares          so has the bitwise `and` of a and b, at every width
--     Way, masks         by the first mask and then the second, by the second and then the first, once by the shared bits
--     Valid h            h validates from p; it is whole and ungapped and has the width
--     AnyCuts h          of a handle h, and of any row of masks:
--       opens              what the row makes, where each weakening is accepted, has the name and the width of h, is whole and
--                          ungapped, validates from p, and references exactly the segments that h references and every mask
--                          keeps
--       alike              where two rows that are accepted keep the same of the segments that h references, the reductions of
--                          what they make are one handle
--       reordered          so where the two rows have the same masks
--     TwoCuts h a b s    of a handle h, of masks a and b, and of s, which has just the bits that both have:
--       opens              what a way makes, where it is accepted, has the name and the width of h, is whole and ungapped,
--                          validates from p, and references exactly the segments that h references and both masks keep
--       alike              any two ways that are accepted have one reduction
--       single             the single cut is accepted wherever either double cut is; not the other way about (`DoneTogether`)
--       all                all three are accepted where h names a place that there is, two subselectors are flat, and some segment
--                          is referenced and kept by both masks
--     CutsHold           so it is of every handle that is valid
-- That the handles are equal before reduction is not said: they may differ (`CutsApart`).
-- Assumes nothing.
use Rattle.std.specs.Prelude.{ℕ, ◌<◌, ◌≡◌, ◌⊎◌, ◌↔◌, Bool, true, false, ◌&&◌, List, [], ◌∷◌}
use Rattle.std.specs.Int.Bits.{bit_and}
use Rattle.bits.specs.Sets.{has}
use Rattle.handle.specs.declared.Handle.{Handle}
use Rattle.handle.specs.Selectors.{references, first_flat}
use Rattle.handle.specs.Handles.{name_of, no_such_place, weakening, reduced}
use Rattle.handle.specs.Opens.{Opens}

abbrev pub kept : List ℕ → ℕ → Bool
kept [] i = true
kept (m ∷ ms) i = has i m && kept ms i

abbrev pub Among : ℕ → List ℕ → Type 0
Among n [] = ⊥
Among n (m ∷ ms) = (n ≡ m) ⊎ Among n ms

abbrev pub SameMasks : List ℕ → List ℕ → Type 0
SameMasks ms ns = (n : ℕ) → Among n ms ↔ Among n ns

pub data Way : Type 0 where
  first_second second_first once : Way

abbrev pub masks : ℕ → ℕ → ℕ → Way → List ℕ
masks a b s first_second = a ∷ b ∷ []
masks a b s second_first = b ∷ a ∷ []
masks a b s once = s ∷ []

module _ (w : ℕ) where
  abbrev pub Shares : ℕ → ℕ → ℕ → Type 0
  Shares a b s = (i : ℕ) → i < w → has i s ≡ has i a && has i b

  module _ (f : List ℕ → ℕ → List ℕ) where
    abbrev pub cut_by : List ℕ → Handle → Handle
    cut_by [] h = h
    cut_by (m ∷ ms) h = cut_by ms (weakening w f h m).handle

    abbrev pub Accepted : List ℕ → Handle → Type 0
    Accepted [] h = Unit {0}
    Accepted (m ∷ ms) h = ((weakening w f h m).number ≡ 0) × Accepted ms (weakening w f h m).handle

    module _ (p : List ℕ) where
      abbrev pub Valid : Handle → Type 0
      Valid h = Opens w f (name_of h) p (references h.selector) h

      pub record AnyCuts (h : Handle) : Type 0 where
        pub opens : (ms : List ℕ) → Accepted ms h
            → Opens w f (name_of h) p (λ i. references h.selector i && kept ms i) (cut_by ms h)
        pub alike : (ms ns : List ℕ) → Accepted ms h → Accepted ns h
            → ((i : ℕ) → i < w → references h.selector i && kept ms i ≡ references h.selector i && kept ns i)
            → reduced w f (cut_by ms h) p ≡ reduced w f (cut_by ns h) p
        pub reordered : (ms ns : List ℕ) → Accepted ms h → Accepted ns h → SameMasks ms ns
            → reduced w f (cut_by ms h) p ≡ reduced w f (cut_by ns h) p

      pub record TwoCuts (h : Handle) (a b s : ℕ) : Type 0 where
        pub opens : (x : Way) → Accepted (masks a b s x) h
            → Opens w f (name_of h) p (λ i. references h.selector i && (has i a && has i b)) (cut_by (masks a b s x) h)
        pub alike : (x y : Way) → Accepted (masks a b s x) h → Accepted (masks a b s y) h
            → reduced w f (cut_by (masks a b s x) h) p ≡ reduced w f (cut_by (masks a b s y) h) p
        pub single : (x : Way) → Accepted (masks a b s x) h → Accepted (masks a b s once) h
        pub all : no_such_place h ≡ false → first_flat w h.selector < 3
            → (i : ℕ) → i < w → references h.selector i ≡ true → has i a ≡ true → has i b ≡ true
            → (x : Way) → Accepted (masks a b s x) h

abbrev pub CutsHold : Type 0
CutsHold =
    (w : ℕ) (f : List ℕ → ℕ → List ℕ) (p : List ℕ) (h : Handle) → Valid w f p h
    → AnyCuts w f p h × ((a b s : ℕ) → Shares w a b s → TwoCuts w f p h a b s)

abbrev pub AndShares : Type 0
AndShares = (w a b : ℕ) → Shares w a b (bit_and a b)
