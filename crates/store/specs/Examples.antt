-- Document 01, "Selector and placement examples": the five of placement, P10 to P14.
--     Example        a store, the size asked for on node 0, and what is told
--     tells          what placement tells
--     holding        a cluster with one segment
--     two_segments    node 0 has segments at 0 to 99 and at 150 to 159 only, here in two clusters
--     examples       P10, P11, P12 and P13 on that store, P14 on one that is empty
-- Assumes nothing.
use Rattle.std.specs.Prelude.{ℕ, List, [], ◌∷◌, replicate}
use Rattle.store.specs.Places.{Place, present_at}
use Rattle.store.specs.declared.Cluster.{Cluster}
use Rattle.store.specs.declared.Store.{Store}
use Rattle.sizes.specs.Sizes.{password_bytes}
use Rattle.store.specs.Records.{starting_store, started, record_of, table_at, put_record, with_place}
use Rattle.store.specs.Placement.{Placed, room_at, no_room, placement}

pub record Example : Type 0 where
  pub store : Store
  pub size : ℕ
  pub told : Placed

abbrev pub tells : Example → Placed
tells e = placement (table_at e.store) 0 e.size

abbrev holding : ℕ → Place → Cluster
holding i p = with_place (started 8 (replicate password_bytes 0) (replicate password_bytes 0)) i p

unfoldable pub two_segments : Store
two_segments =
    put_record (put_record starting_store (record_of 0 2) (holding 5 (present_at 0 100)))
    (record_of 0 7) (holding 0 (present_at 150 10))

unfoldable pub examples : List Example
examples =
    record { store = two_segments; size = 50; told = room_at 100 }
    ∷ record { store = two_segments; size = 51; told = room_at 160 }
    ∷ record { store = two_segments; size = 3936; told = room_at 160 }
    ∷ record { store = two_segments; size = 3937; told = no_room }
    ∷ record { store = starting_store; size = 4096; told = room_at 0 }
    ∷ []
