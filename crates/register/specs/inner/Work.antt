-- What the inner functions promise.
--     IsEntry e k        k is the number of an entry
--     Has es k           something is seen of the handle of entry k
--     segment_in s o     what is seen of a handle has the segment s
--     Small e known p k  there are at most 255 entries, k is at most 255, the arrays have room, and the handle supplied is known
--     Climbs ..          a climb from an entry: its way's number; or it is on entries a number of times, kept in order, and then at
--                        one that is known
--     Standing h         weakening the handle h meets no number but 21 and 17
--     Sees h s           s is what the weakenings of such a handle of four subselectors go by
--     Refuses s m n      the weakening by the mask m of every handle of which s is seen has the number n
--     Keeps s m          that weakening is done and leaves the handle as it is
--     Cuts s m v         it is done, and v is seen of the weaker handle
--     Narrows s m r      r says which of these three it is
--     Weaker f c p m r   r is that of weakening p by the mask m if it is cut and that is done; p if it is not cut
--     Steps ..           weakening by a mask the handle of the entry above: refused with the result's number, or the result is seen of the
--                        weaker one, which has the place of entry k in the array, if handles are wanted
--     Works f h e w r    r is the lowest entry that fails and its number; or of all entries what is seen has the bits of what their
--                        handles reference, and the handles are theirs, if they are wanted
--     Put before after at text    the text follows the buffer's first at bytes, and all else is as before
--     openers_in es s n   the numbers of those of the first n of es that have segment s
--     laid_in es n        the bytes of the first n handles, 23 of each
-- Assumes nothing.
use Rattle.std.specs.Prelude.{ℕ, zero, suc, ◌+◌, ◌*◌, ◌≤◌, ◌<◌, ◌≡◌, List, [], ◌++◌, length, get_or, take, drop, Bool, true, false, Option, Some, None, Result, Ok, Err, MatchResult}
use Rattle.chain.specs.Way.{reached, refusal}
use Rattle.chain.specs.Means.{OnRecords}
use Rattle.handle.specs.declared.Handle.{Handle}
use Rattle.handle.specs.declared.Width.TheVariants as width
use Rattle.handle.specs.Selectors.{references, gapped, common, first_flat}
use Rattle.handle.specs.Sizes.{subselectors}
use Rattle.bits.specs.Sets.{has}
use Rattle.handle.specs.Handles.{Name, name_of, width_of, no_width, no_such_place, written, weakening}
use Rattle.numbers.specs.declared.Number.{Number}
use Rattle.numbers.specs.Codes.{code}
use Rattle.register.specs.declared.Seen.{Seen}
use Rattle.register.specs.declared.Fault.{Fault}
use Rattle.register.specs.declared.work.Climbed.{Climbed}
use Rattle.register.specs.Registers.{entries, parent_of, way_of, told, given, made, lowest, one_if, handle_bytes}

pub record IsEntry (e : List ℕ) (k : ℕ) : Type 0 where
  pub first : 1 ≤ k
  pub last : k ≤ entries e
  pub few : entries e ≤ 255

-- ---- entries kept by their numbers

pub record Has (es : List (Option Seen)) (k : ℕ) : Type 0 where
  pub seen : Seen
  pub is : get_or es k None ≡ Some seen

abbrev pub segment_in : ℕ → Option Seen → Bool
segment_in segment None = false
segment_in segment (Some s) = has segment s.set

-- what is read beyond an array of handles
abbrev pub blank : Handle
blank = record { node = 0; local = 0; password = []; width = width.None; selector = [] }

-- what is seen of an entry's handle, and the handle
pub record Entry : Type 0 where
  pub seen : Seen
  pub handle : Handle

-- ---- a climb

pub record Small (e : List ℕ) (known : List (Option Seen)) (path : List ℕ) (k : ℕ) : Type 0 where
  pub few : entries e ≤ 255
  pub byte : k ≤ 255
  pub size : length known ≡ 256
  pub room : length path ≡ 256
  pub supplied : Has known 0

pub record ClimbedTo (e : List ℕ) (known : List (Option Seen)) (path : List ℕ) (from : ℕ) (c : Climbed) : Type 0 where
  pub low : c.met ≤ entries e
  pub on : OnRecords (entries e) (parent_of e) from c.met
  pub kept : (i : ℕ) → i < c.met → get_or path i 0 ≡ reached (parent_of e) from i
  pub above : c.above ≡ reached (parent_of e) from c.met
  pub end : get_or known c.above None ≡ Some c.seen

abbrev pub Climbs : List ℕ → List (Option Seen) → List ℕ → ℕ → Result Climbed Number → Type 0
Climbs e known path from r = MatchResult r (ClimbedTo e known path from) (λ n. way_of e from ≡ refusal (code n))

-- ---- what a weakening goes by

pub record Standing (h : Handle) : Type 0 where
  pub wide : no_width h ≡ false
  pub here : no_such_place h ≡ false
  pub ungapped : gapped (width_of h) h.selector ≡ false

pub record Sees (h : Handle) (s : Seen) : Type 0 where
  pub standing : Standing h
  pub four : length h.selector ≡ subselectors
  pub set : s.set ≡ common (width_of h) h.selector
  pub flat : s.flat ≡ first_flat (width_of h) h.selector

pub record Refuses (s : Seen) (mask : ℕ) (n : Number) : Type 0 where
  pub number : (h : Handle) → Sees h s → (f : List ℕ → ℕ → List ℕ) → (weakening (width_of h) f h mask).number ≡ code n

pub record Keeps (s : Seen) (mask : ℕ) : Type 0 where
  pub number : (h : Handle) → Sees h s → (f : List ℕ → ℕ → List ℕ) → (weakening (width_of h) f h mask).number ≡ 0
  pub same : (h : Handle) → Sees h s → (f : List ℕ → ℕ → List ℕ) → (weakening (width_of h) f h mask).handle ≡ h

pub record Cuts (s : Seen) (mask : ℕ) (v : Seen) : Type 0 where
  pub number : (h : Handle) → Sees h s → (f : List ℕ → ℕ → List ℕ) → (weakening (width_of h) f h mask).number ≡ 0
  pub seen : (h : Handle) → Sees h s → (f : List ℕ → ℕ → List ℕ) → Sees (weakening (width_of h) f h mask).handle v

abbrev pub Narrows : Seen → ℕ → Result (Option Seen) Number → Type 0
Narrows s mask (Ok None) = Keeps s mask
Narrows s mask (Ok (Some v)) = Cuts s mask v
Narrows s mask (Err n) = Refuses s mask n

module _ (f : Name → List ℕ → ℕ → List ℕ) where
  pub record Weaker (cut : Bool) (parent : Handle) (mask : ℕ) (r : Handle) : Type 0 where
    pub made : cut ≡ true → (weakening (width_of parent) (f (name_of parent)) parent mask).number ≡ 0
        → r ≡ (weakening (width_of parent) (f (name_of parent)) parent mask).handle
    pub kept : cut ≡ false → r ≡ parent

  -- the entry x becomes y
  pub record Stepped (wanted : Bool) (x : Entry) (mask : ℕ) (y : Entry) : Type 0 where
    pub seen : Cuts x.seen mask y.seen
    pub handle : wanted ≡ true → Sees x.handle x.seen
        → y.handle ≡ (weakening (width_of x.handle) (f (name_of x.handle)) x.handle mask).handle

  pub record StepsTo (wanted : Bool) (s : Seen) (hs : List Handle) (above k mask : ℕ) (hs' : List Handle) (s' : Seen) : Type 0 where
    pub entry : Stepped wanted (record { seen = s; handle = get_or hs above blank }) mask (record { seen = s'; handle = get_or hs' k blank })
    pub others : (i : ℕ) → (i ≡ k → ⊥) → get_or hs' i blank ≡ get_or hs i blank

  abbrev pub Steps : Bool → Seen → List Handle → ℕ → ℕ → ℕ → List Handle → Result Seen Number → Type 0
  Steps wanted s hs above k mask hs' r = MatchResult r (StepsTo wanted s hs above k mask hs') (Refuses s mask)

  -- ---- all entries

  pub record Worked (h : Handle) (e : List ℕ) (wanted : Bool) (ss : List (Option Seen)) (hs : List Handle) : Type 0 where
    pub told : lowest f h e ≡ told 0 0
    pub seen : (k : ℕ) → k < entries e + 1 → (i : ℕ) → i < width_of h
        → references (made f h e k).handle.selector i ≡ segment_in i (get_or ss k None)
    pub all : wanted ≡ true → (k : ℕ) → k < entries e + 1 → made f h e k ≡ given (get_or hs k blank)

  abbrev pub Works : Handle → List ℕ → Bool → List (Option Seen) → List Handle → Result (Unit {0}) Fault → Type 0
  Works h e wanted ss hs r =
      MatchResult r (λ done. Worked h e wanted ss hs) (λ fault. lowest f h e ≡ told (code fault.number) fault.entry)

-- ---- the buffer

pub record Put (before after : List ℕ) (at : ℕ) (text : List ℕ) : Type 0 where
  pub size : length after ≡ length before
  pub start : take (at + length text) after ≡ take at before ++ text
  pub rest : drop (at + length text) after ≡ drop (at + length text) before

-- the first 23 of the bytes are put
pub record PutHandle (before after : List ℕ) (at : ℕ) (bytes : List ℕ) : Type 0 where
  pub put : Put before after at (take handle_bytes bytes)
  pub long : length (take handle_bytes bytes) ≡ handle_bytes

unfoldable pub openers_in : List (Option Seen) → ℕ → ℕ → List ℕ
openers_in es segment zero = []
openers_in es segment (suc n) =
    openers_in es segment n ++ one_if (segment_in segment (get_or es (suc n) None)) (suc n)

unfoldable pub laid_in : List Handle → ℕ → List ℕ
laid_in hs zero = []
laid_in hs (suc n) = laid_in hs n ++ take handle_bytes (written (get_or hs (suc n) blank)).bytes

-- a handle fits after the first at of so many bytes; n handles do, and are at most 255
pub record Fitting (at room : ℕ) : Type 0 where
  pub ends : at + handle_bytes ≤ room
  pub low : at < 65536

pub record Room (n room : ℕ) : Type 0 where
  pub few : n ≤ 255
  pub ends : n * handle_bytes ≤ room
