-- What is told of an image at once.
--     sound_in b               the bytes hold a store that is sound with the whole memory
--     placement_in b node n    what a new segment of n bytes is told on the node of that store, once its place and its size are
--                             good; no room where there is none, since a call on such bytes is refused with 1 before it
-- Assumes nothing.
use Rattle.std.specs.Prelude.{ℕ, Bool, ◌&&◌, cond, List}
use Rattle.sizes.specs.Sizes.{memory}
use Rattle.store.specs.Records.{table_at}
use Rattle.store.specs.Sound.{sound}
use Rattle.store.specs.Placement.{Placed, no_room, placement}
use Rattle.image.specs.Images.{good, store_in}

abbrev pub sound_in : List ℕ → Bool
sound_in b = good b && sound (store_in b) memory

abbrev pub placement_in : List ℕ → ℕ → ℕ → Placed
placement_in b node n = cond (sound_in b) (placement (table_at (store_in b)) node n) no_room
