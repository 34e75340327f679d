-- Document 02, §3, in words: what a call has to do with marks. A frozen segment can still be read, and everything but calls 2,
-- 4 and 6 treats it as any other.
--     SameButMarks a b    the two stores are the same but for marks: each cluster is active in both or in neither, its
--                         width and its passwords are the same, and its segments lie in the same places
--     OwnMarks x a b      what of the marks a call may go by is the same too: for call 2 those of the cluster that it is about,
--                         for calls 4 and 6 that of the segment that it names, for all others none
--     MarksAside f        on two such sound stores with one memory a call gets the same reply, number and bytes
--     AsAnyOther f        a freeze that is done alters the reply of no call but 2, 4 and 6
--     FrozenTwice f       a freeze that is done is done again, and then alters nothing
--     FreezeUses f        a freeze with any arguments is the freeze from its current node of its segment with its handle, and
--                         it looks at what call 4 looks at
-- Assumes nothing.
use Rattle.std.specs.Prelude.{◌≡◌, ◌≢◌, ◌⊎◌, ℕ, ◌<◌, true, List, length}
use Rattle.handle.specs.Handles.{Name}
use Rattle.store.specs.declared.Store.{Store}
use Rattle.store.specs.Records.{cluster_at, table_at, place_at, frozen_of}
use Rattle.store.specs.Sound.{sound}
use Rattle.calls.specs.Calls.{Copy, Call, Arguments, call, delete_cluster, delete_segment, write, freeze, freezing}
use Rattle.calls.specs.Calls.{uses, record_for, frozen_for}
use Rattle.calls.specs.Numbers.{number}
use Rattle.calls.specs.Steps.{step}
use Rattle.calls.specs.Answers.{copy_of}

pub record SameButMarks (a b : Store) : Type 0 where
  pub active : (n : ℕ) → (cluster_at a n).active ≡ (cluster_at b n).active
  pub width : (n : ℕ) → (cluster_at a n).width ≡ (cluster_at b n).width
  pub read : (n : ℕ) → (cluster_at a n).read ≡ (cluster_at b n).read
  pub write : (n : ℕ) → (cluster_at a n).write ≡ (cluster_at b n).write
  pub places : (n i : ℕ) → place_at (table_at a) n i ≡ place_at (table_at b) n i

pub record OwnMarks (x : Call) (a b : Store) : Type 0 where
  pub cluster : x.kind ≡ delete_cluster → (i : ℕ) → i < 16
      → frozen_of (table_at a (record_for x)) i ≡ frozen_of (table_at b (record_for x)) i
  pub segment : (x.kind ≡ delete_segment) ⊎ (x.kind ≡ write) → frozen_for x (table_at a) ≡ frozen_for x (table_at b)

module _ (f : Name → List ℕ → ℕ → List ℕ) where
  abbrev pub MarksAside : Type 0
  MarksAside =
      (x : Call) (a b : Store) (m : List ℕ) → sound a (length m) ≡ true → sound b (length m) ≡ true
      → SameButMarks a b → OwnMarks x a b → (step f x (copy_of a m)).reply ≡ (step f x (copy_of b m)).reply

  abbrev pub AsAnyOther : Type 0
  AsAnyOther =
      (g : Arguments) (c : Copy) → let after = (step f (call freeze g) c).copy in
      number f (call freeze g) c.store (length c.memory) ≡ 0
      → (x : Call) → x.kind ≢ delete_cluster → x.kind ≢ delete_segment → x.kind ≢ write
      → (step f x after).reply ≡ (step f x c).reply

  abbrev pub FrozenTwice : Type 0
  FrozenTwice =
      (g : Arguments) (c : Copy) → let after = (step f (call freeze g) c).copy in
      number f (call freeze g) c.store (length c.memory) ≡ 0
      → (number f (call freeze g) after.store (length after.memory) ≡ 0)
      × ((step f (call freeze g) after).copy ≡ after)

  pub record FreezeUses : Type 0 where
    pub step : (g : Arguments) (c : Copy)
        → step f (call freeze g) c ≡ step f (freezing g.current g.segment g.handle) c
    pub arguments : uses freeze ≡ uses delete_segment
