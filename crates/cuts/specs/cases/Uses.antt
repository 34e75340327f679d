-- What each clause of the statements about cuts is used for, with the conversion f, the copy, the handle and the masks left open. Calls,
-- what they start from and what masks share are written out here, and not by the names of the statements; rows of masks are of any
-- length, the empty one too.
--     got, made          of one handle: a weakening gets the number 0; the handle that it makes
--     CutsUses w f p h   of `CutsHold`, for a handle that validates from p: each clause, of rows and of the three ways
--     CutsUsed           so it is of every handle of the width w that is whole and ungapped and has the password that its chain ends with
--     Got, after         of calls that are answered in some way: call 7 gets the number 0; the bytes of the handle that it gives
--     Valid, reduction   validation gets the number 0; the reply of call 8
--     BothOf h a b s     s has, below the width of h, just the bits that both a and b have
--     WaysUses n m h     of `TwoCutsInWords` and `AnyCutsInWords`, of a handle h of n bytes in the mode m: each clause
--     OfEach n m P       P holds of every handle of n bytes that validates in the mode m on a copy whose cluster has a password of
--                        sixteen bytes for it
--     UsesAt n m         of `TwoCutsInAll` and `AnyCutsInAll`, of such a handle: all these, answered by the step on the copy
--     UsesEach           so at 21, 23 and 27 bytes, in either mode
--     TwoCutsUses        so by every conversion that gives sixteen bytes
--     PairUses e k e' k'    of `ReducedAlike` and `EntriesAlike`, of entry k of the register e and entry k' of e': each clause
--     EntryUses, EntriesUsed    so of any two entries whose ways have the same masks, of an entry by two masks and one by what they share, of
--                        entries of registers that are written out
--     CopyUses, CopyUsed    of `CopyStays`: calls 7 and 8 and validation, whatever they are refused with
-- Assumes nothing.
use Rattle.std.specs.Prelude.{ℕ, ◌<◌, ◌≡◌, ◌↔◌, Bool, true, false, ◌&&◌, List, [], ◌∷◌, length}
use Rattle.std.specs.Int.Bits.{bit_and}
use Rattle.bits.specs.Sets.{has}
use Rattle.bits.specs.Bytes.{Bytes}
use Rattle.handle.specs.declared.Handle.{Handle}
use Rattle.handle.specs.Selectors.{references, gapped, first_flat}
use Rattle.handle.specs.Handles.{Name, name_of, width_of, no_such_place, encoded, decoded, bytes_in, through, weakening, reduced}
use Rattle.handle.specs.Conversion.{SixteenBytes}
use Rattle.handle.specs.Opens.{Whole, Opens}
use Rattle.handle.specs.Words.{Bit, References}
use Rattle.calls.specs.Calls.{Copy, Call, weakening_by, reducing, validating}
use Rattle.calls.specs.JoinWords.{PrimaryFor}
use Rattle.calls.specs.Words.{Flat, cluster_of}
use Rattle.calls.specs.Steps.{Reply, step}
use Rattle.register.specs.Registers.{masks_of, way_of, given}
use Rattle.register.specs.Registers as Registers
use Rattle.cuts.specs.Cuts.{kept, Among, cut_by, Accepted}
use Rattle.cuts.specs.Words.{Kept, cut, Done}
use Rattle.cuts.specs.cases.Computed.{either, fourfold, twofold}

-- ---- of one handle

module _ (w : ℕ) (f : List ℕ → ℕ → List ℕ) where
  abbrev got : ℕ → Handle → Type 0
  got m h = (weakening w f h m).number ≡ 0

  abbrev made : ℕ → Handle → Handle
  made m h = (weakening w f h m).handle

  module _ (p : List ℕ) (h : Handle) where
    abbrev to : Handle → Handle
    to k = reduced w f k p

    pub record CutsUses : Type 0 where
      pub row_named : (ms : List ℕ) → Accepted w f ms h → name_of (cut_by w f ms h) ≡ name_of h
      pub row_wide : (ms : List ℕ) → Accepted w f ms h → width_of (cut_by w f ms h) ≡ w
      pub row_whole : (ms : List ℕ) → Accepted w f ms h → Whole w (cut_by w f ms h)
      pub row_ungapped : (ms : List ℕ) → Accepted w f ms h → gapped w (cut_by w f ms h).selector ≡ false
      pub row_valid : (ms : List ℕ) → Accepted w f ms h
          → through w f (cut_by w f ms h).selector p ≡ (cut_by w f ms h).password
      pub row_refers : (ms : List ℕ) (i : ℕ) → Accepted w f ms h → i < w
          → references (cut_by w f ms h).selector i ≡ references h.selector i && kept ms i
      pub row_of_three : (x y z i : ℕ) → got x h → got y (made x h) → got z (made y (made x h)) → i < w
          → references (made z (made y (made x h))).selector i
          ≡ references h.selector i && (has i x && (has i y && (has i z && true)))
      pub row_alike : (ms ns : List ℕ) → Accepted w f ms h → Accepted w f ns h
          → ((i : ℕ) → i < w → references h.selector i && kept ms i ≡ references h.selector i && kept ns i)
          → to (cut_by w f ms h) ≡ to (cut_by w f ns h)
      pub reordered : (ms ns : List ℕ) → Accepted w f ms h → Accepted w f ns h → ((n : ℕ) → Among n ms ↔ Among n ns)
          → to (cut_by w f ms h) ≡ to (cut_by w f ns h)
      pub named : (a b : ℕ) → got a h → got b (made a h) → name_of (made b (made a h)) ≡ name_of h
      pub wide : (a b : ℕ) → got b h → got a (made b h) → width_of (made a (made b h)) ≡ w
      pub whole : (a b : ℕ) → got a h → got b (made a h) → Whole w (made b (made a h))
      pub ungapped : (a b : ℕ) → got a h → got b (made a h) → gapped w (made b (made a h)).selector ≡ false
      pub valid : (a b s : ℕ) → ((i : ℕ) → i < w → has i s ≡ has i a && has i b) → got s h
          → through w f (made s h).selector p ≡ (made s h).password
      pub refers : (a b i : ℕ) → got b h → got a (made b h) → i < w
          → references (made a (made b h)).selector i ≡ references h.selector i && (has i a && has i b)
      pub orders : (a b : ℕ) → got a h → got b (made a h) → got b h → got a (made b h)
          → to (made b (made a h)) ≡ to (made a (made b h))
      pub once : (a b s : ℕ) → ((i : ℕ) → i < w → has i s ≡ has i a && has i b) → got a h → got b (made a h) → got s h
          → to (made b (made a h)) ≡ to (made s h)
      pub single : (a b s : ℕ) → ((i : ℕ) → i < w → has i s ≡ has i a && has i b) → got a h → got b (made a h) → got s h
      pub single_other : (a b s : ℕ) → ((i : ℕ) → i < w → has i s ≡ has i a && has i b) → got b h → got a (made b h)
          → got s h
      pub all : (a b i : ℕ) → no_such_place h ≡ false → first_flat w h.selector < 3 → i < w
          → references h.selector i ≡ true → has i a ≡ true → has i b ≡ true → got b h × got a (made b h)

abbrev pub CutsUsed : Type 0
CutsUsed =
    (w : ℕ) (f : List ℕ → ℕ → List ℕ) (p : List ℕ) (h : Handle) → width_of h ≡ w → Whole w h → gapped w h.selector ≡ false
    → through w f h.selector p ≡ h.password → CutsUses w f p h

-- ---- of calls

-- s has, below the width of h, just the bits that both a and b have
abbrev BothOf : List ℕ → ℕ → ℕ → ℕ → Type 0
BothOf h a b s = (i : ℕ) → i < width_of (decoded h) → Bit i s ↔ (Bit i a × Bit i b)

module _ (answer : Call → Reply) where
  abbrev Got : ℕ → List ℕ → Type 0
  Got m h = (answer (weakening_by m h)).number ≡ 0

  abbrev after : ℕ → List ℕ → List ℕ
  after m h = bytes_in (answer (weakening_by m h)).first

  abbrev Valid : ℕ → List ℕ → Type 0
  Valid m h = (answer (validating m h)).number ≡ 0

  abbrev reduction : ℕ → List ℕ → Reply
  reduction m h = answer (reducing m h)

  pub record WaysUses (n m : ℕ) (h : List ℕ) : Type 0 where
    pub named : (a b : ℕ) → Got a h → Got b (after a h) → name_of (decoded (after b (after a h))) ≡ name_of (decoded h)
    pub long : (a b : ℕ) → Got b h → Got a (after b h) → length (after a (after b h)) ≡ n
    pub valid_double : (a b : ℕ) → Got a h → Got b (after a h) → Valid m (after b (after a h))
    pub valid_single : (a b s : ℕ) → BothOf h a b s → Got s h → Valid m (after s h)
    pub reduces : (a b : ℕ) → Got b h → Got a (after b h) → (reduction m (after a (after b h))).number ≡ 0
    pub reduces_single : (a b s : ℕ) → BothOf h a b s → Got s h → (reduction m (after s h)).number ≡ 0
    pub of_old : (a b i : ℕ) → Got a h → Got b (after a h) → i < width_of (decoded h)
        → References (decoded (after b (after a h))) i → References (decoded h) i
    pub of_first : (a b i : ℕ) → Got a h → Got b (after a h) → i < width_of (decoded h)
        → References (decoded (after b (after a h))) i → Bit i a
    pub of_second : (a b s i : ℕ) → BothOf h a b s → Got s h → i < width_of (decoded h) → References (decoded (after s h)) i
        → Bit i b
    pub by_all : (a b i : ℕ) → Got b h → Got a (after b h) → i < width_of (decoded h) → References (decoded h) i → Bit i a
        → Bit i b → References (decoded (after a (after b h))) i
    pub orders : (a b : ℕ) → Got a h → Got b (after a h) → Got b h → Got a (after b h)
        → reduction m (after b (after a h)) ≡ reduction m (after a (after b h))
    pub once : (a b s : ℕ) → BothOf h a b s → Got a h → Got b (after a h) → Got s h
        → reduction m (after b (after a h)) ≡ reduction m (after s h)
    pub once_anded : (a b : ℕ) → Got b h → Got a (after b h) → Got (bit_and a b) h
        → reduction m (after a (after b h)) ≡ reduction m (after (bit_and a b) h)
    pub single : (a b s : ℕ) → BothOf h a b s → Got a h → Got b (after a h) → Got s h
    pub single_other : (a b s : ℕ) → BothOf h a b s → Got b h → Got a (after b h) → Got s h
    pub all : (a b i : ℕ) → Flat (decoded h) 2 → i < width_of (decoded h) → References (decoded h) i → Bit i a → Bit i b
        → Got b h × Got a (after b h)
    pub row_named : (ms : List ℕ) → Done answer ms h → name_of (decoded (cut answer ms h)) ≡ name_of (decoded h)
    pub row_long : (ms : List ℕ) → Done answer ms h → length (cut answer ms h) ≡ n
    pub row_valid : (ms : List ℕ) → Done answer ms h → Valid m (cut answer ms h)
    pub row_reduces : (ms : List ℕ) → Done answer ms h → (reduction m (cut answer ms h)).number ≡ 0
    pub row_refers : (ms : List ℕ) (i : ℕ) → Done answer ms h → i < width_of (decoded h)
        → References (decoded (cut answer ms h)) i ↔ (References (decoded h) i × Kept ms i)
    pub row_of_three : (a b x i : ℕ) → Got a h → Got b (after a h) → Got x (after b (after a h)) → i < width_of (decoded h)
        → References (decoded (after x (after b (after a h)))) i → Bit i a × Bit i b × Bit i x
    pub row_alike : (ms ns : List ℕ) → Done answer ms h → Done answer ns h
        → ((i : ℕ) → i < width_of (decoded h) → References (decoded h) i → Kept ms i ↔ Kept ns i)
        → reduction m (cut answer ms h) ≡ reduction m (cut answer ns h)

module _ (f : Name → List ℕ → ℕ → List ℕ) where
  -- of every handle of n bytes that validates in the mode m on a copy whose cluster has a password of sixteen bytes for it
  abbrev OfEach : ℕ → ℕ → (List ℕ → Copy → Type 0) → Type 0
  OfEach n m P =
      (h : List ℕ) (c : Copy) → Bytes n h
      → ((p : List ℕ) → PrimaryFor m (cluster_of (decoded h) c.store) p → length p ≡ 16)
      → (step f (validating m h) c).reply.number ≡ 0 → P h c

  abbrev pub UsesAt : ℕ → ℕ → Type 0
  UsesAt n m = OfEach n m (λ h c. WaysUses (λ x. (step f x c).reply) n m h)

  pub record UsesEach : Type 0 where
    pub four_read : UsesAt 21 1
    pub four_write : UsesAt 21 2
    pub eight_read : UsesAt 23 1
    pub eight_write : UsesAt 23 2
    pub sixteen_read : UsesAt 27 1
    pub sixteen_write : UsesAt 27 2

  -- ---- of registers

  pub record PairUses (e : List ℕ) (k : ℕ) (e' : List ℕ) (k' : ℕ) : Type 0 where
    pub refers : (w : ℕ) (n : Name) (p : List ℕ) (r : ℕ → Bool) (h : Handle) → Opens w (f n) n p r h → (g g' : Handle)
        → Registers.made f h e k ≡ given g → Registers.made f h e' k' ≡ given g'
        → (i : ℕ) → i < w → references g.selector i ≡ references g'.selector i
    pub reduced : (w : ℕ) (n : Name) (p : List ℕ) (r : ℕ → Bool) (h : Handle) → Opens w (f n) n p r h → (g g' : Handle)
        → Registers.made f h e k ≡ given g → Registers.made f h e' k' ≡ given g' → reduced w (f n) g p ≡ reduced w (f n) g' p
    pub validates : (m : ℕ) → OfEach 23 m (λ h c. (g g' : Handle) → Registers.made f (decoded h) e k ≡ given g
        → Registers.made f (decoded h) e' k' ≡ given g' → ((step f (validating m (encoded g)) c).reply.number ≡ 0) × ((step f (validating m (encoded g')) c).reply.number ≡ 0))
    pub reduces : (m : ℕ) → OfEach 23 m (λ h c. (g g' : Handle) → Registers.made f (decoded h) e k ≡ given g
        → Registers.made f (decoded h) e' k' ≡ given g' → (step f (reducing m (encoded g)) c).reply.number ≡ 0)
    pub references : (m : ℕ) → OfEach 23 m (λ h c. (g g' : Handle) → Registers.made f (decoded h) e k ≡ given g
        → Registers.made f (decoded h) e' k' ≡ given g' → (i : ℕ) → i < 8 → References g i ↔ References g' i)
    pub alike : (m : ℕ) → OfEach 23 m (λ h c. (g g' : Handle) → Registers.made f (decoded h) e k ≡ given g
        → Registers.made f (decoded h) e' k' ≡ given g' → (step f (reducing m (encoded g)) c).reply ≡ (step f (reducing m (encoded g')) c).reply)

abbrev pub TwoCutsUses : Type 0
TwoCutsUses = (f : Name → List ℕ → ℕ → List ℕ) → SixteenBytes f → UsesEach f

pub record EntryUses (f : Name → List ℕ → ℕ → List ℕ) : Type 0 where
  pub same_masks : (e e' : List ℕ) (k k' : ℕ)
      → ((n : ℕ) → Among n (masks_of e k (way_of e k).records) ↔ Among n (masks_of e' k' (way_of e' k').records))
      → PairUses f e k e' k'
  pub orders : (x y : ℕ) → PairUses f (either x y) 2 (either y x) 2
  pub one_register : (x y : ℕ) → PairUses f (fourfold x y) 2 (fourfold x y) 4
  pub again : (x : ℕ) → PairUses f (twofold x) 1 (twofold x) 2
  pub shared : (x y : ℕ) → PairUses f (either x y) 2 (0 ∷ bit_and x y ∷ []) 1

abbrev pub EntriesUsed : Type 0
EntriesUsed = (f : Name → List ℕ → ℕ → List ℕ) → SixteenBytes f → EntryUses f

-- ---- of the copy

pub record CopyUses (f : Name → List ℕ → ℕ → List ℕ) (m : ℕ) (h : List ℕ) (c : Copy) : Type 0 where
  pub weakens : (step f (weakening_by m h) c).copy ≡ c
  pub reduces : (step f (reducing m h) c).copy ≡ c
  pub validates : (step f (validating m h) c).copy ≡ c

abbrev pub CopyUsed : Type 0
CopyUsed = (f : Name → List ℕ → ℕ → List ℕ) (m : ℕ) (h : List ℕ) (c : Copy) → CopyUses f m h c
