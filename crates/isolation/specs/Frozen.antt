-- Document 02, §3: what is frozen stays. The cluster of node v and local number l is record v * 8 + l, and byte k of the
-- memory of node v is byte v * 4,096 + k of the slice.
--     place_at, frozen_at       the place and the mark of segment i of that cluster
--     Fixed v l i b n c d     in the copy d the cluster is active, and segment i of it is present and frozen, with base b
--                             and length n; its bytes are those of the copy c
--     FromThenOn v l i c d    segment i of that cluster is present in the copy c, and with the base and the length that
--                             it has there it is fixed in the copy d
-- For every conversion f:
--     FrozenStays             a segment that is present and frozen in a sound copy is fixed, after any list of calls at
--                             all: none of them is left out, whatever handle it presents
--     FixedFromThenOn         document 02's own sentence: a freeze that is done, and then any list of calls; the bytes
--                             are those that the segment had before the freeze
-- Assumes nothing.
use Rattle.std.specs.Prelude.{◌≡◌, ℕ, ◌+◌, ◌*◌, ◌<◌, Bool, true, List, ◌∷◌, get_or}
use Rattle.handle.specs.Handles.{Name, node_of}
use Rattle.store.specs.Places.{Place, present_at}
use Rattle.store.specs.declared.Store.{Store}
use Rattle.store.specs.Records.{table_of, cluster_at, segment_of}
use Rattle.calls.specs.Calls.{Copy, Call, Arguments, call, freeze, handle_of}
use Rattle.calls.specs.Steps.{run}
use Rattle.isolation.specs.Copies.{SoundCopy, Done}

abbrev pub place_at : Store → ℕ → ℕ → ℕ → Place
place_at s v l i = (segment_of (table_of (cluster_at s (v * 8 + l))) i).place

abbrev pub frozen_at : Store → ℕ → ℕ → ℕ → Bool
frozen_at s v l i = (segment_of (table_of (cluster_at s (v * 8 + l))) i).frozen

pub record Fixed (v l i base length : ℕ) (c d : Copy) : Type 0 where
  pub active : (cluster_at d.store (v * 8 + l)).active ≡ true
  pub place : place_at d.store v l i ≡ present_at base length
  pub frozen : frozen_at d.store v l i ≡ true
  pub bytes : (k : ℕ) → k < length
      → get_or d.memory (v * 4096 + (base + k)) 0 ≡ get_or c.memory (v * 4096 + (base + k)) 0

pub record FromThenOn (v l i : ℕ) (c d : Copy) : Type 0 where
  pub present : (base : ℕ) × (length : ℕ) × (place_at c.store v l i ≡ present_at base length)
  pub fixed : (base length : ℕ) → place_at c.store v l i ≡ present_at base length → Fixed v l i base length c d

module _ (f : Name → List ℕ → ℕ → List ℕ) where
  abbrev pub FrozenStays : Type 0
  FrozenStays =
      (v l i base length : ℕ) → v < 4 → l < 8 → i < 16 → (xs : List Call) (c : Copy) → SoundCopy c
      → place_at c.store v l i ≡ present_at base length → frozen_at c.store v l i ≡ true
      → Fixed v l i base length c (run f xs c).copy

  abbrev pub FixedFromThenOn : Type 0
  FixedFromThenOn =
      (g : Arguments) (xs : List Call) (c : Copy) → let x = call freeze g in
      let v = node_of (handle_of x) in
      let l = (handle_of x).local in
      Done f x c → FromThenOn v l g.segment c (run f (x ∷ xs) c).copy
