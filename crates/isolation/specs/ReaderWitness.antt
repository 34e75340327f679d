-- That readers alter nothing is not empty: a list of calls by a holder of the read primary handle of the cluster set apart,
-- on the copy `one` of the witness of condition 3. Handles and answers are written out.
--     reader_calls        calls 5, 7, 8, 9, validation and a look done with that handle, a join with itself, which gets as
--                        far as 23, and a read with the handle that call 9 gave; each call that writes, a freeze, a new
--                        write password and a join for writing, tried with it and refused; and the calls that write done
--                        for other clusters with their write primary handles
--     reader_answers      what is answered
--     reader_joins        the handle is weakened twice; the two are joined for reading and, in vain, for writing; what is
--                        given reads, and does not write
--     join_answers        what is answered, by the conversion of the numbers' lists
--     ReadersJoin        no call of that list presents such a handle either, first or second, and the answers are computed
-- For every conversion f:
--     ReadersList        no call presents a handle of the cluster that validates for writing, and the answers are computed
--     Unharmed           what the theorem says of it: in the end the segment has its place and its bytes still, and the
--                        write password is what it was
-- Assumes nothing.
use Rattle.std.specs.Prelude.{◌≡◌, ℕ, ◌<◌, List, [], ◌∷◌, get_or}
use Rattle.handle.specs.Handles.{Name}
use Rattle.store.specs.Places.{present_at}
use Rattle.store.specs.Records.{cluster_at, table_at, place_on}
use Rattle.calls.specs.Calls.{Call, making_cluster, deleting_cluster, making_segment, deleting_segment, reading}
use Rattle.calls.specs.Calls.{writing, weakening_by, reducing, renewing, freezing, joining, validating, looking}
use Rattle.calls.specs.Steps.{Reply, run}
use Rattle.calls.specs.Cases.{added}
use Rattle.calls.specs.Literals.{sixteen, handle, primary, none, told, shows}
use Rattle.isolation.specs.Copies.{NoWriter}
use Rattle.isolation.specs.Witness.{one}

abbrev pub reader_calls : List Call
reader_calls =
    -- with the read handle of the cluster
    reading 5 (primary 0 2 17) (1 ∷ 2 ∷ 3 ∷ 4 ∷ 5 ∷ [])
    ∷ looking 0 5 (primary 0 2 17)
    ∷ weakening_by 255 (primary 0 2 17)
    ∷ reducing 1 (primary 0 2 17)
    ∷ joining 1 (primary 0 2 17) (primary 0 2 17)
    ∷ validating 1 (primary 0 2 17)
    ∷ validating 2 (primary 0 2 17)
    ∷ making_cluster 0 2 8 (sixteen 3) (sixteen 4)
    ∷ deleting_cluster 0 (primary 0 2 17)
    ∷ making_segment 0 1 4 (primary 0 2 17)
    ∷ deleting_segment 0 5 (primary 0 2 17)
    ∷ writing 5 (primary 0 2 17) (6 ∷ 6 ∷ 6 ∷ 6 ∷ [])
    ∷ renewing 2 (primary 0 2 17) (sixteen 6)
    ∷ freezing 0 5 (primary 0 2 17)
    ∷ joining 2 (primary 0 2 17) (primary 0 2 17)
    ∷ renewing 1 (primary 0 2 17) (sixteen 18)
    ∷ reading 5 (primary 0 2 18) (1 ∷ 2 ∷ 3 ∷ 4 ∷ [])
    -- with the write handle of another
    ∷ making_cluster 0 3 8 (sixteen 3) (sixteen 4)
    ∷ making_segment 0 5 2 (primary 0 3 4)
    ∷ writing 5 (primary 0 3 4) (6 ∷ 6 ∷ [])
    ∷ renewing 2 (primary 0 3 4) (sixteen 6)
    ∷ deleting_segment 0 5 (primary 0 3 6)
    ∷ deleting_cluster 0 (primary 0 3 6)
    ∷ making_cluster 0 4 8 (sixteen 3) (sixteen 4)
    ∷ making_segment 0 5 2 (primary 0 4 4)
    ∷ freezing 0 5 (primary 0 4 4)
    ∷ []

abbrev pub reader_answers : List Reply
reader_answers =
    told 0 none none 0 4 (7 ∷ 7 ∷ 7 ∷ 7 ∷ 5 ∷ [])
    ∷ shows 0 (7 ∷ 7 ∷ 7 ∷ 7 ∷ [])
    ∷ told 0 (primary 0 2 17) none 8 0 []
    ∷ told 0 (primary 0 2 17) none 0 0 []
    ∷ told 23 none none 0 0 []
    ∷ told 0 none none 0 0 []
    ∷ told 9 none none 0 0 []
    ∷ told 6 none none 0 0 []
    ∷ told 9 none none 0 0 []
    ∷ told 9 none none 0 0 []
    ∷ told 9 none none 0 0 []
    ∷ told 9 none none 0 0 (6 ∷ 6 ∷ 6 ∷ 6 ∷ [])
    ∷ told 9 none none 0 0 []
    ∷ told 9 none none 0 0 []
    ∷ told 9 none none 0 0 []
    ∷ told 0 (primary 0 2 18) none 0 0 []
    ∷ told 0 none none 0 4 (7 ∷ 7 ∷ 7 ∷ 7 ∷ [])
    -- with the write handle of another
    ∷ told 0 (primary 0 3 3) (primary 0 3 4) 0 0 []
    ∷ told 0 none none 0 0 []
    ∷ told 0 none none 0 0 (6 ∷ 6 ∷ [])
    ∷ told 0 (primary 0 3 6) none 0 0 []
    ∷ told 0 none none 0 0 []
    ∷ told 0 none none 0 0 []
    ∷ told 0 (primary 0 4 3) (primary 0 4 4) 0 0 []
    ∷ told 0 none none 0 0 []
    ∷ told 0 none none 0 0 []
    ∷ []

-- ---- joins

-- handles of the segments 0 to 2, 3 to 5, and 0 to 5: their passwords are sixteen bytes 17 and the parameter
abbrev lower : List ℕ
lower = handle 0 2 24 (7 ∷ 255 ∷ 255 ∷ 255 ∷ [])

abbrev upper : List ℕ
upper = handle 0 2 73 (56 ∷ 255 ∷ 255 ∷ 255 ∷ [])

abbrev both : List ℕ
both = handle 0 2 80 (63 ∷ 255 ∷ 255 ∷ 255 ∷ [])

abbrev pub reader_joins : List Call
reader_joins =
    weakening_by 7 (primary 0 2 17)
    ∷ weakening_by 56 (primary 0 2 17)
    ∷ joining 1 lower upper
    ∷ reading 5 both (1 ∷ 2 ∷ 3 ∷ 4 ∷ 5 ∷ [])
    ∷ joining 2 lower upper
    ∷ writing 5 both (6 ∷ 6 ∷ 6 ∷ 6 ∷ [])
    -- a gapped handle, with the password that its chain from the write password ends with
    ∷ joining 2 lower (handle 0 2 35 (255 ∷ 1 ∷ 255 ∷ 255 ∷ []))
    ∷ []

abbrev pub join_answers : List Reply
join_answers =
    told 0 lower none 3 0 []
    ∷ told 0 upper none 3 0 []
    ∷ told 0 both none 0 0 []
    ∷ told 0 none none 0 4 (7 ∷ 7 ∷ 7 ∷ 7 ∷ 5 ∷ [])
    ∷ told 9 none none 0 0 []
    ∷ told 9 none none 0 0 (6 ∷ 6 ∷ 6 ∷ 6 ∷ [])
    ∷ told 4 none none 0 0 []
    ∷ []

pub record ReadersJoin : Type 0 where
  pub no_writer : NoWriter 0 2 added reader_joins one
  pub replies : (run added reader_joins one).replies ≡ join_answers

module _ (f : Name → List ℕ → ℕ → List ℕ) where
  pub record ReadersList : Type 0 where
    pub no_writer : NoWriter 0 2 f reader_calls one
    pub replies : (run f reader_calls one).replies ≡ reader_answers

  pub record Unharmed : Type 0 where
    pub place : place_on (table_at (run f reader_calls one).copy.store) 0 2 5 ≡ present_at 0 4
    pub write : (cluster_at (run f reader_calls one).copy.store 2).write ≡ sixteen 34
    pub bytes : (p : ℕ) → p < 4 → get_or (run f reader_calls one).copy.memory p 0 ≡ 7
