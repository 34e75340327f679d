-- Condition 3 and what stands beside it, each as one statement about `step` and `run`, for every conversion f.
--     StartSound              the starting copy is sound
--     SoundKept               any list of calls leaves a sound copy sound
--     Agreed xs a b           condition 3's conclusions, for the list xs on the copies a and b:
--       replies                 the answers, the buffers and the bytes shown are equal, call by call
--       places                  the looks tell the same places in the memory, and not only the same bytes
--       alike                   at the end every other record is equal, and every byte outside the cluster's segments
--       others                  at the end the bytes of every segment of another cluster are equal
--       held_first, held_second    in each copy the cluster's record and segment bytes are what they were at the start
--     TwoCopies               condition 3: two sound copies, alike but for the segment bytes and the passwords of one
--                             active cluster, of which no call presents a handle that validates in either copy, a join
--                             neither as its first nor as its second
--     Key m h s               the handle h names the cluster, is not gapped and validates in the mode m
--     KeyedInWords            what these lists are asked: a call is keyed just where it opens a cluster, and the handle that
--                             it takes, or the second one of a join, is such a key
--     KeysFit                 a key has its cluster's width: no handle of another width is one, whatever its password
--     ReadersAlterNothing     where no call of a list presents a handle of a cluster that validates for writing, a join
--                             neither as its first nor as its second, the cluster's table, its write password and its
--                             segments' bytes are at the end what they were
--     Touched k x ts p        address p is a byte of the segment that the call x, of the kind k, makes or writes
--     OnlyItsOwn x c          the call x on the copy c leaves every record but that of its own cluster as it was, and
--                             every byte but those of the segment that it makes or writes
--     OthersAlone             every call on a sound copy does only that
--     OtherHeld               and the record and the segment bytes of every cluster that a call is not about are held
-- Assumes nothing.
use Rattle.std.specs.Prelude.{◌≡◌, ◌≢◌, ◌↔◌, ℕ, ◌<◌, true, false, List, length, get_or}
use Rattle.sizes.specs.Sizes.{nodes, clusters, segments}
use Rattle.handle.specs.declared.Handle.{Handle}
use Rattle.handle.specs.Selectors.{gapped}
use Rattle.handle.specs.Handles.{Name, node_of, width_of}
use Rattle.store.specs.declared.Store.{Store}
use Rattle.store.specs.Records.{Tables, record_of, cluster_at, table_at, place_on}
use Rattle.calls.specs.Calls.{Copy, start, Call, Kind, new_cluster, delete_cluster, new_segment, delete_segment}
use Rattle.calls.specs.Calls.{read, write, weaken, reduce, new_password, freeze, join, validate, look, node_for, local_for, record_for}
use Rattle.calls.specs.Calls.{place_for}
use Rattle.calls.specs.Numbers.{valid}
use Rattle.calls.specs.Words.{Some, Opening}
use Rattle.calls.specs.Steps.{new_place, step, run}
use Rattle.isolation.specs.Copies.{SoundCopy, InPlace, set_apart, Alike, Held, Unaltered, keyed, AllShut, NoWriter}
use Rattle.isolation.specs.Copies.{places}

abbrev pub StartSound : Type 0
StartSound = SoundCopy start

abbrev pub Touched : Kind → Call → Tables → ℕ → Type 0
Touched new_cluster x ts p = ⊥
Touched delete_cluster x ts p = ⊥
Touched new_segment x ts p = InPlace (node_for x) (new_place x ts) p
Touched delete_segment x ts p = ⊥
Touched read x ts p = ⊥
Touched write x ts p = InPlace (node_for x) (place_for x ts) p
Touched weaken x ts p = ⊥
Touched reduce x ts p = ⊥
Touched new_password x ts p = ⊥
Touched freeze x ts p = ⊥
Touched join x ts p = ⊥
Touched validate x ts p = ⊥
Touched look x ts p = ⊥

-- the copy d is c but for what a call may change
pub record OnlyItsOwn (x : Call) (c d : Copy) : Type 0 where
  pub records : (n : ℕ) → n ≢ record_for x → cluster_at d.store n ≡ cluster_at c.store n
  pub size : length d.memory ≡ length c.memory
  pub bytes : (p : ℕ) → (Touched x.kind x (table_at c.store) p → ⊥) → get_or d.memory p 0 ≡ get_or c.memory p 0

module _ (f : Name → List ℕ → ℕ → List ℕ) where
  abbrev pub SoundKept : Type 0
  SoundKept = (xs : List Call) (c : Copy) → SoundCopy c → SoundCopy (run f xs c).copy

  abbrev pub OthersAlone : Type 0
  OthersAlone = (x : Call) (c : Copy) → SoundCopy c → OnlyItsOwn x c (step f x c).copy

module _ (node local : ℕ) (f : Name → List ℕ → ℕ → List ℕ) where
  abbrev pub OtherHeld : Type 0
  OtherHeld =
      node < nodes → local < clusters → (x : Call) (c : Copy) → SoundCopy c
      → ((node_for x ≡ node) × (local_for x ≡ local) → ⊥) → Held node local c (step f x c).copy

  pub record Agreed (xs : List Call) (a b : Copy) : Type 0 where
    pub replies : (run f xs a).replies ≡ (run f xs b).replies
    pub places : places f xs a ≡ places f xs b
    pub alike : Alike node local (run f xs a).copy (run f xs b).copy
    pub others : (v l i p : ℕ) → v < nodes → l < clusters → i < segments → record_of v l ≢ set_apart node local
        → InPlace v (place_on (table_at (run f xs a).copy.store) v l i) p
        → get_or (run f xs a).copy.memory p 0 ≡ get_or (run f xs b).copy.memory p 0
    pub held_first : Held node local a (run f xs a).copy
    pub held_second : Held node local b (run f xs b).copy

  abbrev pub TwoCopies : Type 0
  TwoCopies =
      node < nodes → local < clusters → (xs : List Call) (a b : Copy) → SoundCopy a → SoundCopy b
      → (table_at a.store (set_apart node local)).active ≡ true → Alike node local a b
      → AllShut node local f xs a → AllShut node local f xs b → Agreed xs a b

  pub record Key (mode : ℕ) (h : Handle) (s : Store) : Type 0 where
    pub named_node : node_of h ≡ node
    pub named_local : h.local ≡ local
    pub even : gapped (width_of h) h.selector ≡ false
    pub valid : valid f mode h s ≡ true

  abbrev pub KeyedInWords : Type 0
  KeyedInWords =
      (mode : ℕ) (x : Call) (s : Store)
      → (keyed node local f mode x s ≡ true) ↔ (Opening x × Some (λ h. Key mode h s) x)

  abbrev pub KeysFit : Type 0
  KeysFit = (mode : ℕ) (h : Handle) (s : Store) → Key mode h s → width_of h ≡ (cluster_at s (set_apart node local)).width

  abbrev pub ReadersAlterNothing : Type 0
  ReadersAlterNothing =
      node < nodes → local < clusters → (xs : List Call) (a : Copy) → SoundCopy a
      → (table_at a.store (set_apart node local)).active ≡ true → NoWriter node local f xs a
      → Unaltered node local a (run f xs a).copy
