-- Document 02, §10, "Two cuts and one cut", in words, of calls: a handle is weakened by call 7, the handle of the reply is presented to
-- the next call, and what comes out is validated, or reduced by call 8, in a mode. Handles are bytes of every width, masks any
-- numbers.
-- Of calls that are answered in some way, by a step on a copy or on an image:
--     weaker m h           the bytes of the handle that call 7 gives for the handle h and the mask m
--     cut ms h             so by the masks of ms, the first of them first, each call on the handle that the one before it gave
--     Done ms h            each of these calls gets the number 0
--     Validates m h        so does the validation of h in the mode m
--     Both w a b s         below the width w, the mask s has just the bits that both a and b have
--     AndBoth              so has the bitwise `and` of a and b, at every width
--     Kept ms i            every mask of ms has bit i
--     CutInWords m h P k   of a handle k that is made of h, where P i says that the masks keep segment i:
--       name, long           it names the cluster that h names, and is as long
--       validates, reduces   it validates in the mode m, and call 8 is done with it
--       references           it references exactly the segments that h references and the masks keep
--     AnyCutsInWords m h   of any row of masks:
--       each                 what it makes of h, where all its calls are done, is such a handle
--       alike                where two rows, all done, keep the same of the segments that h references, call 8 gives the same reply
--                            for what they make, byte by byte
--     TwoCutsInWords m h a b s    of two masks a and b, and s, which has just the bits that both have:
--       each                 each of the three ways whose calls are done makes a handle that names the cluster that h names, is as
--                            long, validates in the mode, with which call 8 is done, and which references exactly the
--                            segments that h references and both masks keep
--       alike                for any two ways that are done call 8 gives the same reply, byte by byte
--       single               the single cut is done wherever either double cut is; not the other way about (`DoneTogether`)
--       all                  all three are done where subselector 2 is flat, so that two are, and some segment is referenced and
--                            kept by both masks
-- Of steps:
--     on_copy c             calls answered by the step on the copy c
--     Sixteen m h s        the password of the mode m of the cluster that the handle h names has sixteen bytes
--     Start m h c          where they start: h is bytes below 256 and validates in the mode m on the copy c, which has a password of
--                          sixteen bytes there
--     AnyCutsWith f, TwoCutsWith f    so it is of every mode, handle and copy, by the conversion f
--     AnyCutsInAll, TwoCutsInAll    by every conversion that gives sixteen bytes
--     CopyStays            none of these calls alters the copy, so that all are said of one
-- That the bytes are equal before reduction is not said: they may differ (`EqualBefore`).
-- Assumes nothing.
use Rattle.std.specs.Prelude.{◌≡◌, ◌↔◌, ℕ, ◌<◌, List, [], ◌∷◌, length, get_or}
use Rattle.std.specs.Int.Bits.{bit_and}
use Rattle.handle.specs.declared.Handle.{Handle}
use Rattle.handle.specs.Handles.{Name, name_of, width_of, decoded, bytes_in}
use Rattle.handle.specs.Conversion.{SixteenBytes}
use Rattle.handle.specs.Words.{Bit, References}
use Rattle.store.specs.declared.Store.{Store}
use Rattle.calls.specs.Calls.{Copy, Call, weaken, reduce, validate, weakening_by, reducing, validating}
use Rattle.calls.specs.Words.{Named, Flat, cluster_of}
use Rattle.calls.specs.JoinWords.{PrimaryFor}
use Rattle.calls.specs.Steps.{Reply, step}
use Rattle.cuts.specs.Cuts.{Way, once, masks}

abbrev pub Both : ℕ → ℕ → ℕ → ℕ → Type 0
Both w a b s = (i : ℕ) → i < w → Bit i s ↔ (Bit i a × Bit i b)

abbrev pub AndBoth : Type 0
AndBoth = (w a b : ℕ) → Both w a b (bit_and a b)

abbrev pub Kept : List ℕ → ℕ → Type 0
Kept [] i = Unit {0}
Kept (m ∷ ms) i = Bit i m × Kept ms i

-- ---- calls that are answered in some way

module _ (answer : Call → Reply) where
  abbrev pub weaker : ℕ → List ℕ → List ℕ
  weaker mask h = bytes_in (answer (weakening_by mask h)).first

  abbrev pub cut : List ℕ → List ℕ → List ℕ
  cut [] h = h
  cut (m ∷ ms) h = cut ms (weaker m h)

  abbrev pub Done : List ℕ → List ℕ → Type 0
  Done [] h = Unit {0}
  Done (m ∷ ms) h = ((answer (weakening_by m h)).number ≡ 0) × Done ms (weaker m h)

  abbrev pub Validates : ℕ → List ℕ → Type 0
  Validates m h = (answer (validating m h)).number ≡ 0

  module _ (m : ℕ) (h : List ℕ) where
    pub record CutInWords (P : ℕ → Type 0) (k : List ℕ) : Type 0 where
      pub name : name_of (decoded k) ≡ name_of (decoded h)
      pub long : length k ≡ length h
      pub validates : Validates m k
      pub reduces : (answer (reducing m k)).number ≡ 0
      pub references : (i : ℕ) → i < width_of (decoded h) → References (decoded k) i ↔ (References (decoded h) i × P i)

    pub record AnyCutsInWords : Type 0 where
      pub each : (ms : List ℕ) → Done ms h → CutInWords (Kept ms) (cut ms h)
      pub alike : (ms ns : List ℕ) → Done ms h → Done ns h
          → ((i : ℕ) → i < width_of (decoded h) → References (decoded h) i → Kept ms i ↔ Kept ns i)
          → answer (reducing m (cut ms h)) ≡ answer (reducing m (cut ns h))

    pub record TwoCutsInWords (a b s : ℕ) : Type 0 where
      pub each : (x : Way) → Done (masks a b s x) h → CutInWords (λ i. Bit i a × Bit i b) (cut (masks a b s x) h)
      pub alike : (x y : Way) → Done (masks a b s x) h → Done (masks a b s y) h
          → answer (reducing m (cut (masks a b s x) h)) ≡ answer (reducing m (cut (masks a b s y) h))
      pub single : (x : Way) → Done (masks a b s x) h → Done (masks a b s once) h
      pub all : Flat (decoded h) 2 → (i : ℕ) → i < width_of (decoded h) → References (decoded h) i → Bit i a → Bit i b
          → (x : Way) → Done (masks a b s x) h

-- ---- on a copy

abbrev pub Sixteen : ℕ → Handle → Store → Type 0
Sixteen m h s = (p : List ℕ) → PrimaryFor m (cluster_of h s) p → length p ≡ 16

module _ (f : Name → List ℕ → ℕ → List ℕ) where
  abbrev pub on_copy : Copy → Call → Reply
  on_copy c x = (step f x c).reply

  pub record Start (m : ℕ) (h : List ℕ) (c : Copy) : Type 0 where
    pub bytes : (i : ℕ) → get_or h i 0 < 256
    pub sixteen : Sixteen m (decoded h) c.store
    pub valid : Validates (on_copy c) m h

  abbrev pub AnyCutsWith : Type 0
  AnyCutsWith = (m : ℕ) (h : List ℕ) (c : Copy) → Start m h c → AnyCutsInWords (on_copy c) m h

  abbrev pub TwoCutsWith : Type 0
  TwoCutsWith =
      (m : ℕ) (h : List ℕ) (c : Copy) → Start m h c → (a b s : ℕ) → Both (width_of (decoded h)) a b s
      → TwoCutsInWords (on_copy c) m h a b s

abbrev pub AnyCutsInAll : Type 0
AnyCutsInAll = (f : Name → List ℕ → ℕ → List ℕ) → SixteenBytes f → AnyCutsWith f

abbrev pub TwoCutsInAll : Type 0
TwoCutsInAll = (f : Name → List ℕ → ℕ → List ℕ) → SixteenBytes f → TwoCutsWith f

abbrev pub CopyStays : Type 0
CopyStays =
    (f : Name → List ℕ → ℕ → List ℕ) (x : Call) (c : Copy) → Named (weaken ∷ reduce ∷ validate ∷ []) x
    → (step f x c).copy ≡ c
