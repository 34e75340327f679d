-- Document 01, "The calls": the base of a new segment is the smallest at which it fits.
--     clear ts node p           a place shares no byte with a present segment of the node, in whichever cluster
--     fits ts node size base    that many bytes from base on lie inside the node's memory, and are clear; a node
--                               above 3 has no memory
--     new_base ts node size      the smallest base at which that many bytes fit, or none
--     Placed                    a number of the table, 0 for done, and a base
--     room_at b, no_room          done with the base b; 16, no room
--     placed_at o                that of the base found, or of none
--     placement ts node size    what a new segment of that size is told, once its place and its size are good
--     placed_by                  what each case of the code's answer says
--     PlacedIn s node size r    the answer r is the placement of that many bytes on the node, where the store s is sound:
--                               in any other nothing is placed, since a call on it is refused with 1
-- Assumes nothing.
use Rattle.std.specs.Prelude.{ℕ, ◌≡◌, Bool, true, ◌&&◌, ltb}
use Rattle.std.proofs.Math.Option.{Option, none, some}
use Rattle.loops.specs.Below.{every}
use Rattle.loops.specs.Search.{least}
use Rattle.store.specs.Places.{Place, Found, None, Some, present_at}
use Rattle.store.specs.declared.Store.{Store}
use Rattle.sizes.specs.Sizes.{nodes, clusters, segments, node_memory, memory}
use Rattle.store.specs.Records.{Tables, table_at, place_on}
use Rattle.store.specs.Sound.{inside, apart, sound}
use Rattle.numbers.specs.Numbers.{no_room_number}

unfoldable pub clear : Tables → ℕ → Place → Bool
clear ts node p = every clusters (λ l. every segments (λ i. apart p (place_on ts node l i)))

unfoldable pub fits : Tables → ℕ → ℕ → ℕ → Bool
fits ts node size base = ltb node nodes && inside (present_at base size) && clear ts node (present_at base size)

unfoldable pub new_base : Tables → ℕ → ℕ → Option ℕ
new_base ts node size = least node_memory (fits ts node size)

pub record Placed : Type 0 where
  pub number : ℕ
  pub base : ℕ

abbrev pub room_at : ℕ → Placed
room_at b = record { number = 0; base = b }

abbrev pub no_room : Placed
no_room = record { number = no_room_number; base = 0 }

abbrev pub placed_at : Option ℕ → Placed
placed_at (some base) = room_at base
placed_at none = no_room

unfoldable pub placement : Tables → ℕ → ℕ → Placed
placement ts node size = placed_at (new_base ts node size)

abbrev pub placed_by : Found → Placed
placed_by (Some base) = room_at base
placed_by None = no_room

pub record PlacedIn (s : Store) (node size : ℕ) (r : Found) : Type 0 where
  pub told : sound s memory ≡ true → placed_by r ≡ placement (table_at s) node size
