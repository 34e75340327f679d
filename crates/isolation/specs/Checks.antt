-- What `step` does, in words that are not its text: conditions 1 and 2, and the column "Must hold" of document 01's
-- calls. For every conversion f:
--     Refused x c          the copy and the buffer stay; the handles have length 0, the count and the length zero, and no
--                          byte is shown
--     RefusalChangesNothing    condition 1: a call whose number is not 0 is so refused, with that number
--     FirstTold            condition 1: the number is that of a row which applies and above which none applies
--     MustHold k x s       the column "Must hold" for the kind k:
--       Opener m h           the handle h validates in the mode m, is not gapped, and its cluster is active and of its width
--       Primary m            the call's handle is such a one, and all its subselectors are flat
--       Owner                it is a write primary handle of the current node
--       Access m             it validates in the mode m and references the segment
--       Local                it does so for reading, and its node is the current one
--       Pair m               each of the two handles of a join is such a one, they name one cluster, and some segment is
--                            referenced by neither
--       Fresh                the cluster is inactive, and the two passwords differ
--     DoneHeld             a call done had what must hold
--     Judgeable g s size   validation by the arguments g gets as far as row 9: the handle has 21, 23 or 27 bytes, the store is
--                          sound, the place exists, the mode is one of the two, the selector is not gapped, the cluster is
--                          active and of the handle's width
--     chained g s          what the chain of conversions makes of the primary password of the mode named
--     ValidationJudges     condition 2: then the handle validates if its password is what the chain gives, and is refused
--                          with 9 in every other case
--     ValidationIsReduction    validation gives the number that call 8 would give
--     WeakeningIs          call 7 gives that reply, whatever the store, and leaves the store alone
--     trimmed u g          the arguments g, those not used by u blank
--     UnusedIgnored        calls that agree in what they use have equal steps
-- Assumes nothing.
use Rattle.std.specs.Prelude.{◌≡◌, ◌≢◌, ◌⊎◌, ℕ, Bool, true, false, List, [], ◌∷◌, ◌++◌, length}
use Rattle.sizes.specs.Sizes.{password_bytes}
use Rattle.handle.specs.declared.Handle.{Handle}
use Rattle.handle.specs.Selectors.{references, all_flat, gapped, whole_union}
use Rattle.handle.specs.Handles.{Name, name_of, node_of, width_of, same_password, no_such_place, through}
use Rattle.handle.specs.Handles.{weakening}
use Rattle.handle.specs.Trips.{OfWidth}
use Rattle.store.specs.declared.Store.{Store}
use Rattle.store.specs.Records.{record_of, cluster_at, table_at, read_mode, write_mode, primary_of}
use Rattle.store.specs.Sound.{sound}
use Rattle.calls.specs.Calls.{Copy, Call, call, Arguments, Kind, new_cluster, delete_cluster, new_segment, delete_segment}
use Rattle.calls.specs.Calls.{read, write, weaken, reduce, new_password, freeze, join, validate, look, Uses, uses}
use Rattle.calls.specs.Calls.{handle_of, other_of, buffer, record_named}
use Rattle.calls.specs.Numbers.{valid, rows, number}
use Rattle.calls.specs.Clear.{Clear}
use Rattle.calls.specs.Numbers.{Line, at}
use Rattle.calls.specs.Steps.{weaken_reply, step}
use Rattle.calls.specs.Literals.{none, told}

-- ---- unused arguments

abbrev number_if : Bool → ℕ → ℕ
number_if true n = n
number_if false n = 0

abbrev bytes_if : Bool → List ℕ → List ℕ
bytes_if true b = b
bytes_if false b = []

abbrev pub trimmed : Uses → Arguments → Arguments
trimmed u g =
    record {
      current = number_if u.current g.current;
      local = number_if u.local g.local;
      width = number_if u.width g.width;
      mode = number_if u.mode g.mode;
      segment = number_if u.segment g.segment;
      size = number_if u.size g.size;
      mask = number_if u.mask g.mask;
      handle = bytes_if u.handle g.handle;
      other = bytes_if u.other g.other;
      first = bytes_if u.first g.first;
      second = bytes_if u.second g.second;
      bytes = bytes_if u.bytes g.bytes;
    }

module _ (f : Name → List ℕ → ℕ → List ℕ) where
  abbrev pub UnusedIgnored : Type 0
  UnusedIgnored =
      (k : Kind) (g h : Arguments) (c : Copy) → trimmed (uses k) g ≡ trimmed (uses k) h
      → step f (call k g) c ≡ step f (call k h) c

  -- ---- condition 1

  pub record Refused (x : Call) (c : Copy) : Type 0 where
    pub copy : (step f x c).copy ≡ c
    pub reply : (step f x c).reply ≡ told (number f x c.store (length c.memory)) none none 0 0 (buffer x)

  abbrev pub RefusalChangesNothing : Type 0
  RefusalChangesNothing = (x : Call) (c : Copy) → number f x c.store (length c.memory) ≢ 0 → Refused x c

  abbrev pub FirstTold : Type 0
  FirstTold =
      (x : Call) (s : Store) (size : ℕ) (above below : List Line) (r : Line)
      → rows f size ≡ above ++ (r ∷ below) → Clear (at x s above) → (r x s).applies ≡ true
      → number f x s size ≡ (r x s).number

  -- ---- the column "Must hold"

  pub record Opener (mode : ℕ) (h : Handle) (s : Store) : Type 0 where
    pub valid : valid f mode h s ≡ true
    pub even : gapped (width_of h) h.selector ≡ false
    pub active : (table_at s (record_named h)).active ≡ true
    pub wide : width_of h ≡ (table_at s (record_named h)).width

  pub record Primary (mode : ℕ) (x : Call) (s : Store) : Type 0 where
    pub opener : Opener mode (handle_of x) s
    pub flat : all_flat (width_of (handle_of x)) (handle_of x).selector ≡ true

  pub record Owner (x : Call) (s : Store) : Type 0 where
    pub primary : Primary write_mode x s
    pub here : x.args.current ≡ node_of (handle_of x)

  pub record Access (mode : ℕ) (x : Call) (s : Store) : Type 0 where
    pub opener : Opener mode (handle_of x) s
    pub refers : references (handle_of x).selector x.args.segment ≡ true

  pub record Local (x : Call) (s : Store) : Type 0 where
    pub access : Access read_mode x s
    pub here : x.args.current ≡ node_of (handle_of x)

  pub record Pair (mode : ℕ) (x : Call) (s : Store) : Type 0 where
    pub first : Opener mode (handle_of x) s
    pub second : Opener mode (other_of x) s
    pub one : name_of (handle_of x) ≡ name_of (other_of x)
    pub part : whole_union (width_of (handle_of x)) (handle_of x).selector (other_of x).selector ≡ false

  pub record Fresh (x : Call) (s : Store) : Type 0 where
    pub free : (table_at s (record_of x.args.current x.args.local)).active ≡ false
    pub two : same_password x.args.first x.args.second ≡ false

  abbrev pub MustHold : Kind → Call → Store → Type 0
  MustHold new_cluster x s = Fresh x s
  MustHold delete_cluster x s = Owner x s
  MustHold new_segment x s = Owner x s
  MustHold delete_segment x s = Owner x s
  MustHold read x s = Access read_mode x s
  MustHold write x s = Access write_mode x s
  MustHold weaken x s = Unit {0}
  MustHold reduce x s = Opener x.args.mode (handle_of x) s
  MustHold new_password x s = Primary x.args.mode x s
  MustHold freeze x s = Owner x s
  MustHold join x s = Pair x.args.mode x s
  MustHold validate x s = Opener x.args.mode (handle_of x) s
  MustHold look x s = Local x s

  abbrev pub DoneHeld : Type 0
  DoneHeld = (x : Call) (s : Store) (size : ℕ) → number f x s size ≡ 0 → MustHold x.kind x s

  -- ---- condition 2

  pub record Judgeable (g : Arguments) (s : Store) (size : ℕ) : Type 0 where
    pub long : OfWidth (length g.handle)
    pub sound : sound s size ≡ true
    pub place : no_such_place (handle_of (call validate g)) ≡ false
    pub mode : (g.mode ≡ read_mode) ⊎ (g.mode ≡ write_mode)
    pub even : gapped (width_of (handle_of (call validate g))) (handle_of (call validate g)).selector ≡ false
    pub active : (table_at s (record_named (handle_of (call validate g)))).active ≡ true
    pub wide : width_of (handle_of (call validate g)) ≡ (table_at s (record_named (handle_of (call validate g)))).width

  abbrev pub chained : Arguments → Store → List ℕ
  chained g s =
      let h = handle_of (call validate g) in
      through (width_of h) (f (name_of h)) h.selector (primary_of (cluster_at s (record_named h)) g.mode)

  pub record Judged (g : Arguments) (s : Store) (size : ℕ) : Type 0 where
    pub right : chained g s ≡ (handle_of (call validate g)).password → number f (call validate g) s size ≡ 0
    pub wrong : chained g s ≢ (handle_of (call validate g)).password → number f (call validate g) s size ≡ 9

  abbrev pub ValidationJudges : Type 0
  ValidationJudges =
      (g : Arguments) (s : Store) (size : ℕ)
      → length (primary_of (cluster_at s (record_named (handle_of (call validate g)))) g.mode) ≡ password_bytes
      → Judgeable g s size → Judged g s size

  abbrev pub ValidationIsReduction : Type 0
  ValidationIsReduction =
      (g : Arguments) (s : Store) (size : ℕ)
      → number f (call validate g) s size ≡ number f (call reduce g) s size

  abbrev pub WeakeningIs : Type 0
  WeakeningIs =
      (g : Arguments) (c : Copy) → let h = handle_of (call weaken g) in
      step f (call weaken g) c
      ≡ record { copy = c; reply = weaken_reply (weakening (width_of h) (f (name_of h)) h g.mask) }
