-- Document 02, §10, of a register of handles given out (§9): entries of two registers, or of one, that were weakened from one handle
-- which is supplied, by the same masks in another order or by others that keep the same.
--     masks_to e k          the masks on the way of entry k of the register e, its own first; none where the way does not end at zero
--     SameWays e k e' k'   the way of entry k of e and that of entry k' of e' have the same masks, in whatever order and however often
--     KeepAlike h e k e' k'    the masks on the two ways keep the same of the segments that h references
--     SameWaysKeep         so it is where the ways have the same masks
--     Entry h e k g        entry k of e has the handle g, where h is supplied; entry 0 is h itself
--     ReducedWith f        where the handle supplied, of any width, opens a cluster from a primary password: the handles of two such
--                          entries reference the same segments, and their reductions are one handle
--     ReducedAlike         by every conversion
--     EntriesInWords m g k    of the handles g and k of two entries, in calls that are answered in some way:
--       validates, reduces   both validate in the mode m, and call 8 is done
--       references           they reference the same segments
--       alike                call 8 gives the same reply for both, byte by byte
--     EntriesWith f        so it is on every copy on which the 23 bytes supplied validate in the mode, by the conversion f
--     EntriesAlike         by every conversion that gives sixteen bytes
-- That the handles of the entries are equal before reduction is not said: they may differ.
-- Assumes nothing.
use Rattle.std.specs.Prelude.{ℕ, ◌<◌, ◌≡◌, ◌↔◌, Bool, List, length}
use Rattle.handle.specs.declared.Handle.{Handle}
use Rattle.handle.specs.Selectors.{references}
use Rattle.handle.specs.Handles.{Name, width_of, encoded, decoded, reduced}
use Rattle.handle.specs.Conversion.{SixteenBytes}
use Rattle.handle.specs.Opens.{Opens}
use Rattle.handle.specs.Words.{References}
use Rattle.calls.specs.Calls.{Copy, Call, reducing}
use Rattle.calls.specs.Steps.{Reply}
use Rattle.register.specs.Registers.{way_of, masks_of, given, made}
use Rattle.cuts.specs.Cuts.{SameMasks}
use Rattle.cuts.specs.Words.{Kept, Validates, on_copy, Start}

abbrev pub masks_to : List ℕ → ℕ → List ℕ
masks_to e k = masks_of e k (way_of e k).records

abbrev pub SameWays : List ℕ → ℕ → List ℕ → ℕ → Type 0
SameWays e k e' k' = SameMasks (masks_to e k) (masks_to e' k')

pub record EntriesInWords (answer : Call → Reply) (m : ℕ) (g k : Handle) : Type 0 where
  pub validates : Validates answer m (encoded g) × Validates answer m (encoded k)
  pub reduces : (answer (reducing m (encoded g))).number ≡ 0
  pub references : (i : ℕ) → i < 8 → References g i ↔ References k i
  pub alike : answer (reducing m (encoded g)) ≡ answer (reducing m (encoded k))

abbrev pub KeepAlike : Handle → List ℕ → ℕ → List ℕ → ℕ → Type 0
KeepAlike h e k e' k' =
    (i : ℕ) → i < width_of h → References h i → Kept (masks_to e k) i ↔ Kept (masks_to e' k') i

abbrev pub SameWaysKeep : Type 0
SameWaysKeep = (h : Handle) (e e' : List ℕ) (k k' : ℕ) → SameWays e k e' k' → KeepAlike h e k e' k'

module _ (f : Name → List ℕ → ℕ → List ℕ) where
  abbrev pub Entry : Handle → List ℕ → ℕ → Handle → Type 0
  Entry h e k g = made f h e k ≡ given g

  abbrev pub ReducedWith : Type 0
  ReducedWith =
      (w : ℕ) (n : Name) (p : List ℕ) (r : ℕ → Bool) (h : Handle) → Opens w (f n) n p r h
      → (e e' : List ℕ) (k k' : ℕ) (g g' : Handle) → Entry h e k g → Entry h e' k' g' → KeepAlike h e k e' k'
      → ((i : ℕ) → i < w → references g.selector i ≡ references g'.selector i)
      × (reduced w (f n) g p ≡ reduced w (f n) g' p)

  abbrev pub EntriesWith : Type 0
  EntriesWith =
      (m : ℕ) (b : List ℕ) (c : Copy) → length b ≡ 23 → Start f m b c
      → (e e' : List ℕ) (k k' : ℕ) (g g' : Handle) → Entry (decoded b) e k g → Entry (decoded b) e' k' g'
      → KeepAlike (decoded b) e k e' k'
      → EntriesInWords (on_copy f c) m g g'

abbrev pub ReducedAlike : Type 0
ReducedAlike = (f : Name → List ℕ → ℕ → List ℕ) → ReducedWith f

abbrev pub EntriesAlike : Type 0
EntriesAlike = (f : Name → List ℕ → ℕ → List ℕ) → SixteenBytes f → EntriesWith f
