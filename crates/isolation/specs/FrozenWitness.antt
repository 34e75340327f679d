-- That what is frozen stays is not empty: a list of calls by a holder of both primary handles of the cluster, on the copy
-- `one` of the witness of condition 3. Handles and answers are written out.
--     the_freeze          a freeze of the cluster's segment, of four bytes
--     attempts           it is frozen again; written to, with enough data and with too little; deleted, and made anew;
--                        its cluster is deleted, and made anew; the same with a new write password; a segment beside it
--                        is made, written and deleted; a weakening, a reduction, a join and a validation; another cluster
--                        of the node with a segment after it; and the frozen one is read and looked at
--     marked             the copy `one` with the segment frozen
--     attempt_answers     what is answered to the freeze and to these
--     otherwise          what the write handle does to the segment and the cluster where nothing is frozen
-- For every conversion f:
--     FrozenList         the freeze is done, and the answers are computed
--     Standing           what the theorem says of it: in the end the segment has its place, its mark and its bytes still,
--                        and the cluster is active
--     Otherwise          without the freeze the same handle writes, deletes and makes anew
--     Tabled             the mark is part of the table: the copies `one` and `marked` are not alike
-- Assumes nothing.
use Rattle.std.specs.Prelude.{◌≡◌, ℕ, ◌<◌, true, List, [], ◌∷◌, get_or}
use Rattle.handle.specs.Handles.{Name}
use Rattle.store.specs.Places.{present_at}
use Rattle.store.specs.Records.{starting_store, cluster_at, put_record, with_mark}
use Rattle.calls.specs.Calls.{Copy, Call, making_cluster, deleting_cluster, making_segment, deleting_segment, reading}
use Rattle.calls.specs.Calls.{writing, weakening_by, reducing, renewing, freezing, joining, validating, looking}
use Rattle.calls.specs.Steps.{Reply, run}
use Rattle.calls.specs.Literals.{sixteen, primary, none, told, shows}
use Rattle.isolation.specs.Copies.{Done, Alike}
use Rattle.isolation.specs.Frozen.{place_at, frozen_at}
use Rattle.isolation.specs.Witness.{one}

abbrev pub the_freeze : Call
the_freeze = freezing 0 5 (primary 0 2 34)

abbrev pub attempts : List Call
attempts =
    freezing 0 5 (primary 0 2 34)
    ∷ writing 5 (primary 0 2 34) (6 ∷ 6 ∷ 6 ∷ 6 ∷ [])
    ∷ writing 5 (primary 0 2 34) (6 ∷ [])
    ∷ deleting_segment 0 5 (primary 0 2 34)
    ∷ making_segment 0 5 4 (primary 0 2 34)
    ∷ deleting_cluster 0 (primary 0 2 34)
    ∷ making_cluster 0 2 8 (sixteen 3) (sixteen 4)
    ∷ renewing 2 (primary 0 2 34) (sixteen 6)
    ∷ writing 5 (primary 0 2 6) (6 ∷ 6 ∷ 6 ∷ 6 ∷ [])
    ∷ making_segment 0 6 4 (primary 0 2 6)
    ∷ writing 6 (primary 0 2 6) (5 ∷ 5 ∷ 5 ∷ 5 ∷ [])
    ∷ deleting_segment 0 6 (primary 0 2 6)
    ∷ deleting_cluster 0 (primary 0 2 6)
    ∷ weakening_by 255 (primary 0 2 6)
    ∷ reducing 2 (primary 0 2 6)
    ∷ joining 2 (primary 0 2 6) (primary 0 2 6)
    ∷ validating 2 (primary 0 2 6)
    ∷ making_cluster 0 3 8 (sixteen 3) (sixteen 4)
    ∷ making_segment 0 5 4 (primary 0 3 4)
    ∷ writing 5 (primary 0 3 4) (5 ∷ 5 ∷ 5 ∷ 5 ∷ [])
    ∷ deleting_segment 0 5 (primary 0 3 4)
    ∷ deleting_cluster 0 (primary 0 3 4)
    ∷ reading 5 (primary 0 2 17) (1 ∷ 2 ∷ 3 ∷ 4 ∷ 5 ∷ [])
    ∷ looking 0 5 (primary 0 2 17)
    ∷ []

abbrev pub attempt_answers : List Reply
attempt_answers =
    told 0 none none 0 0 []
    ∷ told 0 none none 0 0 []
    ∷ told 22 none none 0 0 (6 ∷ 6 ∷ 6 ∷ 6 ∷ [])
    ∷ told 22 none none 0 0 (6 ∷ [])
    ∷ told 22 none none 0 0 []
    ∷ told 13 none none 0 0 []
    ∷ told 22 none none 0 0 []
    ∷ told 6 none none 0 0 []
    ∷ told 0 (primary 0 2 6) none 0 0 []
    ∷ told 22 none none 0 0 (6 ∷ 6 ∷ 6 ∷ 6 ∷ [])
    ∷ told 0 none none 0 0 []
    ∷ told 0 none none 0 0 (5 ∷ 5 ∷ 5 ∷ 5 ∷ [])
    ∷ told 0 none none 0 0 []
    ∷ told 22 none none 0 0 []
    ∷ told 0 (primary 0 2 6) none 8 0 []
    ∷ told 0 (primary 0 2 6) none 0 0 []
    ∷ told 23 none none 0 0 []
    ∷ told 0 none none 0 0 []
    ∷ told 0 (primary 0 3 3) (primary 0 3 4) 0 0 []
    ∷ told 0 none none 0 0 []
    ∷ told 0 none none 0 0 (5 ∷ 5 ∷ 5 ∷ 5 ∷ [])
    ∷ told 0 none none 0 0 []
    ∷ told 0 none none 0 0 []
    ∷ told 0 none none 0 4 (7 ∷ 7 ∷ 7 ∷ 7 ∷ 5 ∷ [])
    ∷ shows 0 (7 ∷ 7 ∷ 7 ∷ 7 ∷ [])
    ∷ []

abbrev pub otherwise : List Call
otherwise =
    writing 5 (primary 0 2 34) (6 ∷ 6 ∷ 6 ∷ 6 ∷ [])
    ∷ reading 5 (primary 0 2 17) (1 ∷ 2 ∷ 3 ∷ 4 ∷ 5 ∷ [])
    ∷ deleting_segment 0 5 (primary 0 2 34)
    ∷ deleting_cluster 0 (primary 0 2 34)
    ∷ making_cluster 0 2 8 (sixteen 3) (sixteen 4)
    ∷ []

abbrev marked : Copy
marked = record { store = put_record starting_store 2 (with_mark (cluster_at one.store 2) 5); memory = one.memory }

abbrev pub Tabled : Type 0
Tabled = Alike 0 2 one marked → ⊥

module _ (f : Name → List ℕ → ℕ → List ℕ) where
  pub record FrozenList : Type 0 where
    pub done : Done f the_freeze one
    pub replies : (run f (the_freeze ∷ attempts) one).replies ≡ attempt_answers

  pub record Standing : Type 0 where
    pub active : (cluster_at (run f (the_freeze ∷ attempts) one).copy.store 2).active ≡ true
    pub place : place_at (run f (the_freeze ∷ attempts) one).copy.store 0 2 5 ≡ present_at 0 4
    pub frozen : frozen_at (run f (the_freeze ∷ attempts) one).copy.store 0 2 5 ≡ true
    pub bytes : (p : ℕ) → p < 4 → get_or (run f (the_freeze ∷ attempts) one).copy.memory p 0 ≡ 7

  abbrev pub Otherwise : Type 0
  Otherwise =
      (run f otherwise one).replies
      ≡ (told 0 none none 0 0 (6 ∷ 6 ∷ 6 ∷ 6 ∷ [])
      ∷ told 0 none none 0 4 (6 ∷ 6 ∷ 6 ∷ 6 ∷ 5 ∷ [])
      ∷ told 0 none none 0 0 []
      ∷ told 0 none none 0 0 []
      ∷ told 0 (primary 0 2 3) (primary 0 2 4) 0 0 []
      ∷ [])
