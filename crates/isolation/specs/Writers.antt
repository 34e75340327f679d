-- Document 02, §7, "Writers learn nothing of what lies there". Of the cluster of a node and a local number:
--     OthersBytes ts m n      the memories m and n agree in the bytes of every segment of another cluster, by the tables ts
--     SameToWriters a b       what the two copies have in common: every other record, the bytes of every other cluster's
--                             segments, and of this cluster its table and its write password. Its read password and its
--                             segments' bytes are anything in each copy, and so are the bytes that belong to no segment
--     AlikeIsSame             copies that begin as §7 has it, alike but for the cluster's segment bytes and its read password,
--                             have that in common
--     Spies f x s             the cluster is active, the call is a read, a look or in mode 1, and the handle that it takes, or
--                             the second one of a join, names the cluster, is not gapped and validates for reading
--     WritingIsFree f         no call that asks for writing spies, no new cluster and no weakening, whatever handles it presents
-- Of calls carried out by p, for every conversion f:
--     NoReader p xs c         no call of the list xs spies on the copy that it gets
--     Untold p xs a b         the list xs tells nothing, begun on the copies a and b:
--       replies                 the answers, the buffers and the bytes shown are equal, call by call
--       places                  the looks tell the same places in the memory
--       same                    at the end the copies have in common what they had at the start
--     UntoldBy f p            so it is for every list in which no call spies in either copy, on any two sound copies with that
--                             in common
--     WritersLearnNothing f   §7: where the calls are carried out by the step
--     RestsOnClearing f       it would not be so if new segments were not cleared
--     RestsOnTwelve f         nor if number 12 were for the current password of either mode
-- Assumes nothing.
use Rattle.std.specs.Prelude.{◌≡◌, ◌≢◌, ◌⊎◌, ℕ, ◌<◌, true, List, [], ◌∷◌, length, get_or}
use Rattle.sizes.specs.Sizes.{nodes, clusters, segments}
use Rattle.handle.specs.Handles.{Name}
use Rattle.store.specs.declared.Store.{Store}
use Rattle.store.specs.Records.{Tables, record_of, cluster_at, table_at, place_on}
use Rattle.calls.specs.Calls.{Copy, Call, new_cluster, weaken}
use Rattle.calls.specs.Words.{Named, Some, ReadMode, WriteMode}
use Rattle.calls.specs.Steps.{Outcome, run_by, step}
use Rattle.isolation.specs.Copies.{SoundCopy, InPlace, set_apart, Alike, Along, places_by}
use Rattle.isolation.specs.Statements.{Key}
use Rattle.isolation.specs.Leaks.{uncleared, twelve_of_either}

module _ (node local : ℕ) where
  abbrev pub OthersBytes : Tables → List ℕ → List ℕ → Type 0
  OthersBytes ts m n =
      (v l i p : ℕ) → v < nodes → l < clusters → i < segments → record_of v l ≢ set_apart node local
      → InPlace v (place_on ts v l i) p → get_or m p 0 ≡ get_or n p 0

  pub record SameToWriters (a b : Copy) : Type 0 where
    pub records : length a.store.clusters ≡ length b.store.clusters
    pub others : (n : ℕ) → n ≢ set_apart node local → cluster_at a.store n ≡ cluster_at b.store n
    pub table : table_at a.store (set_apart node local) ≡ table_at b.store (set_apart node local)
    pub write : (cluster_at a.store (set_apart node local)).write ≡ (cluster_at b.store (set_apart node local)).write
    pub size : length a.memory ≡ length b.memory
    pub bytes : OthersBytes (table_at a.store) a.memory b.memory

  abbrev pub AlikeIsSame : Type 0
  AlikeIsSame =
      node < nodes → local < clusters → (a b : Copy) → SoundCopy a → Alike node local a b
      → (cluster_at a.store (set_apart node local)).write ≡ (cluster_at b.store (set_apart node local)).write
      → SameToWriters a b

  module _ (f : Name → List ℕ → ℕ → List ℕ) where
    pub record Spies (x : Call) (s : Store) : Type 0 where
      pub active : (cluster_at s (set_apart node local)).active ≡ true
      pub reading : ReadMode x
      pub key : Some (λ h. Key node local f 1 h s) x

    abbrev pub WritingIsFree : Type 0
    WritingIsFree = (x : Call) (s : Store) → WriteMode x ⊎ Named (new_cluster ∷ weaken ∷ []) x → ¬ Spies x s

    module _ (p : Call → Copy → Outcome) where
      abbrev pub NoReader : List Call → Copy → Type 0
      NoReader = Along p (λ x s. ¬ Spies x s)

      pub record Untold (xs : List Call) (a b : Copy) : Type 0 where
        pub replies : (run_by p xs a).replies ≡ (run_by p xs b).replies
        pub places : places_by f p xs a ≡ places_by f p xs b
        pub same : SameToWriters (run_by p xs a).copy (run_by p xs b).copy

abbrev pub UntoldBy : (Name → List ℕ → ℕ → List ℕ) → (Call → Copy → Outcome) → Type 0
UntoldBy f p =
    (node local : ℕ) → node < nodes → local < clusters → (xs : List Call) (a b : Copy) → SoundCopy a → SoundCopy b
    → SameToWriters node local a b → NoReader node local f p xs a → NoReader node local f p xs b
    → Untold node local f p xs a b

abbrev pub WritersLearnNothing : (Name → List ℕ → ℕ → List ℕ) → Type 0
WritersLearnNothing f = UntoldBy f (step f)

abbrev pub RestsOnClearing : (Name → List ℕ → ℕ → List ℕ) → Type 0
RestsOnClearing f = ¬ UntoldBy f (uncleared f)

abbrev pub RestsOnTwelve : (Name → List ℕ → ℕ → List ℕ) → Type 0
RestsOnTwelve f = ¬ UntoldBy f (twelve_of_either f)
