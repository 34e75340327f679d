-- Document 01, "Two copies": the terms in which the laws speak of copies and of one cluster in them.
--     SoundCopy c       the records and the slice's length are sound
--     InPlace v p a     address a of the slice is a byte of the place p in the memory of node v
--     Done f x c        the call x gets the number 0 on the copy c, by the conversion f
--     SixteenBytes f    the conversion f gives passwords of sixteen bytes
-- Of the cluster of a node and a local number, the one set apart:
--     set_apart          its record
--     names h           the handle h names it: node and local number, each compared alone
--     Outside ts a      address a is in none of its segments
--     Alike a b         every other record is equal, its table is equal, with its width, every byte outside its segments is equal
--     SameBytes a b     its segments' bytes in the copy b are those in the copy a
--     Held a b          its record and its segments' bytes in b are those in a
--     Unaltered a b     its table, its write password and its segments' bytes in b are those in a
-- Over a conversion f:
--     keyed m x s       the call x opens a cluster, and some handle that it presents, of a join the first or the second,
--                       names this one, is not gapped and validates in the mode m; a weakening opens none. Gapped handles
--                       are refused whatever they hold, so that leaving them out asks less of a list; and so are handles of
--                       another width than the cluster's, which do not validate
--     Shut x s          it is keyed in neither mode: so is asked of each handle that it presents
--     AllShut, NoWriter    each call of a list is shut, or not keyed for writing, on the copy that it gets
-- Of a list whose calls are carried out by p, which is the step unless another is named:
--     Along p t xs c    t holds of each call of xs and of the store of the copy that it gets
--     also t l ls       l before ls, where t is true
--     places_by f p      what the looks of a list tell by f, in their order: each its number and the part of the memory, on the
--                       copy that it gets
--     places f          the same where the step carries them out
-- Assumes nothing.
use Rattle.std.specs.Prelude.{◌≡◌, ◌≢◌, ℕ, ◌+◌, ◌≤◌, ◌<◌, Bool, true, false, not, ◌&&◌, List, [], ◌∷◌, eqb, length, get_or}
use Rattle.sizes.specs.Sizes.{segments}
use Rattle.handle.specs.declared.Handle.{Handle}
use Rattle.handle.specs.Selectors.{gapped}
use Rattle.handle.specs.Handles.{Name, node_of, width_of}
pub use Rattle.handle.specs.Conversion.{SixteenBytes}
use Rattle.store.specs.Places.{Place, None, Some}
use Rattle.store.specs.declared.Store.{Store}
use Rattle.store.specs.Records.{Tables, record_of, cluster_at, table_at, place_at, read_mode, write_mode, address}
use Rattle.store.specs.Sound.{sound}
use Rattle.calls.specs.Looks.{Looked}
use Rattle.calls.specs.Calls.{Copy, Call, is_look, opens, presented, any_of}
use Rattle.calls.specs.Numbers.{valid, number}
use Rattle.calls.specs.Steps.{Outcome, step}
use Rattle.calls.specs.Looks.{looked}

abbrev pub SoundCopy : Copy → Type 0
SoundCopy c = sound c.store (length c.memory) ≡ true

abbrev pub InPlace : ℕ → Place → ℕ → Type 0
InPlace v None a = ⊥
InPlace v (Some span) a = (address v span.base ≤ a) × (a < address v span.base + span.length)

abbrev pub Done : (Name → List ℕ → ℕ → List ℕ) → Call → Copy → Type 0
Done f x c = number f x c.store (length c.memory) ≡ 0

abbrev pub also : {A : Type 0} → Bool → A → List A → List A
also true l ls = l ∷ ls
also false l ls = ls

abbrev pub places_by : (Name → List ℕ → ℕ → List ℕ) → (Call → Copy → Outcome) → List Call → Copy → List Looked
places_by f p [] c = []
places_by f p (x ∷ xs) c =
    also (is_look x.kind) (looked f x c.store (length c.memory)) (places_by f p xs (p x c).copy)

abbrev pub places : (Name → List ℕ → ℕ → List ℕ) → List Call → Copy → List Looked
places f = places_by f (step f)

abbrev pub Along : (Call → Copy → Outcome) → (Call → Store → Type 0) → List Call → Copy → Type 0
Along p t [] c = Unit {0}
Along p t (x ∷ xs) c = t x c.store × Along p t xs (p x c).copy

module _ (node local : ℕ) where
  abbrev pub set_apart : ℕ
  set_apart = record_of node local

  abbrev pub names : Handle → Bool
  names h = eqb (node_of h) node && eqb h.local local

  abbrev pub Outside : Tables → ℕ → Type 0
  Outside ts a = (i : ℕ) → i < segments → InPlace node (place_at ts set_apart i) a → ⊥

  pub record Alike (a b : Copy) : Type 0 where
    pub records : length a.store.clusters ≡ length b.store.clusters
    pub others : (n : ℕ) → n ≢ set_apart → cluster_at a.store n ≡ cluster_at b.store n
    pub table : table_at a.store set_apart ≡ table_at b.store set_apart
    pub size : length a.memory ≡ length b.memory
    pub bytes : (p : ℕ) → Outside (table_at a.store) p → get_or a.memory p 0 ≡ get_or b.memory p 0

  abbrev pub SameBytes : Copy → Copy → Type 0
  SameBytes a b =
      (p i : ℕ) → i < segments → InPlace node (place_at (table_at a.store) set_apart i) p
      → get_or a.memory p 0 ≡ get_or b.memory p 0

  pub record Held (a b : Copy) : Type 0 where
    pub cluster : cluster_at a.store set_apart ≡ cluster_at b.store set_apart
    pub bytes : SameBytes a b

  pub record Unaltered (a b : Copy) : Type 0 where
    pub table : table_at a.store set_apart ≡ table_at b.store set_apart
    pub write : (cluster_at a.store set_apart).write ≡ (cluster_at b.store set_apart).write
    pub bytes : SameBytes a b

  module _ (f : Name → List ℕ → ℕ → List ℕ) where
    unfoldable pub keyed : ℕ → Call → Store → Bool
    keyed mode x s =
        opens x.kind
        && any_of (λ h. names h && not (gapped (width_of h) h.selector) && valid f mode h s) (presented x)

    abbrev pub Shut : Call → Store → Type 0
    Shut x s = (keyed read_mode x s ≡ false) × (keyed write_mode x s ≡ false)

    abbrev pub AllShut : List Call → Copy → Type 0
    AllShut = Along (step f) Shut

    abbrev pub NoWriter : List Call → Copy → Type 0
    NoWriter = Along (step f) (λ x s. keyed write_mode x s ≡ false)
