-- Document 01, "The calls", the sentence on the base of a new segment, in its own words and with its own numbers;
-- `placement` is held to it both ways.
--     Room s v size base      the base is one of 0 to 4,095, that many bytes from it on lie inside the node's 4,096, and
--                             none of them is a byte of a present segment of node v, in whichever cluster
--     PlacementInWords        placement gives the smallest base with room, and 16 where no base has room
-- Assumes nothing.
use Rattle.std.specs.Prelude.{◌≡◌, ◌↔◌, ℕ, ◌+◌, ◌*◌, ◌≤◌, ◌<◌}
use Rattle.store.specs.declared.Store.{Store}
use Rattle.store.specs.Records.{table_at, place_at}
use Rattle.store.specs.Placement.{placement}
use Rattle.store.specs.SoundWords.{ByteOf}

pub record Room (s : Store) (v size base : ℕ) : Type 0 where
  pub low : base ≤ 4095
  pub ends : base + size ≤ 4096
  pub free : (l i k : ℕ) → l < 8 → i < 16 → base ≤ k → k < base + size → ByteOf k (place_at (table_at s) (v * 8 + l) i) → ⊥

pub record PlacementInWords (s : Store) (v size : ℕ) : Type 0 where
  pub at : (base : ℕ) → (placement (table_at s) v size ≡ record { number = 0; base = base })
      ↔ (Room s v size base × ((k : ℕ) → k < base → Room s v size k → ⊥))
  pub nowhere : ((placement (table_at s) v size).number ≡ 16) ↔ ((base : ℕ) → Room s v size base → ⊥)
