-- Document 01, calls done at their bounds, as computed lists: node 3, local number 7, segment 7, size 4,096, a buffer or
-- data exactly as long as the segment, one segment left by a mask, both modes, for every kind that has such an
-- argument. The shorthands are those of the numbers' lists.
--     corner b             the primary handle, with sixteen bytes b, of node 3 and local number 7
--     part b s             its handle that references the segments of the set s
--     bare, edge           stores with that cluster: no segment; segment 7, the last three bytes of the node's memory
--     sealed               that store with segment 7 frozen
--     free, empty, full    calls done on the starting store, on the bare one, and on the one with the segment; for joins
--                          also 23, where the last segment completes the union
--     frozen               calls on the sealed one: 22 at the last segment of the last cluster, and what is done
--     BoundsDone           all these are told as they say
-- Assumes nothing.
use Rattle.std.specs.Prelude.{◌≡◌, ℕ, ◌+◌, List, [], ◌∷◌}
use Rattle.sizes.specs.Sizes.{memory}
use Rattle.handle.specs.Selectors.{flats, in_first}
use Rattle.store.specs.Places.{present_at}
use Rattle.store.specs.declared.Cluster.{Cluster}
use Rattle.store.specs.declared.Store.{Store}
use Rattle.store.specs.Records.{starting_store, started, put_record, with_place, with_mark}
use Rattle.calls.specs.Calls.{making_cluster, deleting_cluster, making_segment, deleting_segment, reading}
use Rattle.calls.specs.Calls.{writing, weakening_by, reducing, renewing, freezing, joining, validating, looking}
use Rattle.calls.specs.Cases.{sixteen, shown, room, Case, gives, told_on, named}

abbrev corner : ℕ → List ℕ
corner b = shown 3 7 b (flats 8)

abbrev part : ℕ → ℕ → List ℕ
part b s = shown 3 7 (b + s) (in_first 8 s)

abbrev owned : Cluster
owned = started 8 (sixteen 3) (sixteen 4)

abbrev pub bare : Store
bare = put_record starting_store 31 owned

abbrev pub edge : Store
edge = put_record starting_store 31 (with_place owned 7 (present_at 4093 3))

abbrev pub sealed : Store
sealed = put_record starting_store 31 (with_mark (with_place owned 7 (present_at 4093 3)) 7)

abbrev pub free : List Case
free = gives 0 (making_cluster 3 7 8 (sixteen 1) (sixteen 2)) ∷ []

abbrev pub empty : List Case
empty =
    gives 0 (making_segment 3 7 4096 (corner 4))
    ∷ gives 0 (making_segment 3 7 1 (corner 4))
    ∷ []

abbrev pub full : List Case
full =
    gives 0 (deleting_cluster 3 (corner 4))
    ∷ gives 0 (making_segment 3 6 4093 (corner 4))
    ∷ gives 0 (deleting_segment 3 7 (corner 4))
    ∷ gives 0 (reading 7 (corner 3) room)
    ∷ gives 0 (writing 7 (corner 4) room)
    ∷ gives 0 (weakening_by 255 (corner 3))
    ∷ gives 0 (weakening_by 128 (shown 3 7 3 (254 ∷ 253 ∷ 251 ∷ 255 ∷ [])))
    ∷ gives 0 (weakening_by 8 (shown 3 7 3 (254 ∷ 253 ∷ 251 ∷ 255 ∷ [])))
    ∷ gives 0 (weakening_by 240 (shown 3 7 3 (254 ∷ 253 ∷ 251 ∷ 247 ∷ [])))
    ∷ gives 0 (reducing 1 (corner 3))
    ∷ gives 0 (reducing 2 (corner 4))
    ∷ gives 0 (renewing 1 (corner 3) (sixteen 8))
    ∷ gives 0 (renewing 2 (corner 4) (sixteen 8))
    ∷ gives 0 (freezing 3 7 (corner 4))
    ∷ gives 0 (joining 1 (part 3 15) (part 3 112))
    ∷ gives 0 (joining 2 (part 4 126) (part 4 128))
    ∷ gives 0 (joining 2 (part 4 128) (part 4 1))
    ∷ gives 23 (joining 1 (part 3 127) (part 3 128))
    ∷ gives 23 (joining 2 (part 4 5) (part 4 250))
    ∷ gives 0 (validating 1 (corner 3))
    ∷ gives 0 (validating 2 (corner 4))
    ∷ gives 0 (looking 3 7 (corner 3))
    ∷ []

abbrev pub frozen : List Case
frozen =
    gives 22 (deleting_cluster 3 (corner 4))
    ∷ gives 22 (deleting_segment 3 7 (corner 4))
    ∷ gives 22 (writing 7 (corner 4) room)
    ∷ gives 0 (freezing 3 7 (corner 4))
    ∷ gives 0 (reading 7 (corner 3) room)
    ∷ gives 0 (looking 3 7 (corner 3))
    ∷ []

pub record BoundsDone : Type 0 where
  pub free : told_on starting_store memory free ≡ named free
  pub empty : told_on bare memory empty ≡ named empty
  pub full : told_on edge memory full ≡ named full
  pub frozen : told_on sealed memory frozen ≡ named frozen
