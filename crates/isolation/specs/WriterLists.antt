-- Lists with which §7 is shown not to be empty, on copies of one shape. The cluster is local number 2 of node 0. It has segments
-- 5, 4 and 3, of four, two and one bytes, and its write password is sixteen bytes 34. Local number 2 of node 1 has a segment of the
-- bytes 6 and 7. Bytes 6 to 9 of node 0 and byte 2 of node 1 belong to no segment. Handles and answers are written out.
--     tenth, second r, kept r    the records 10 and 2, and a store with them; `beyond` is the memory from byte 4 on
--     keeping r b z      a copy in which the cluster's read password is sixteen r and its segments' bytes are b, and the bytes
--                        named that belong to no segment are z
--     ours, theirs       two such copies that differ in all of these
--     leak               the cluster's segments of four and two bytes are deleted; another cluster is made, and gets and reads a
--                        segment where they were
--     guess              a new write password that is the read password of the copy `ours`
--     marks, marks_answers    a segment in which the copies differ is frozen, and what is then refused
--     rest, rest_answers  with the write handle: what asks for reading, in vain, and a weakening of a read handle; segments made
--                        where the copies differ, written, deleted and made again; what the cluster frees in another's hands,
--                        read and looked at; calls in mode 1, reads and looks of other clusters; the guess, and with the handle
--                        given, which opens the copy `ours` in both modes, a write, a validation, a segment deleted and made, the
--                        cluster deleted; a read of it with the password zero; the cluster made anew, a segment of it frozen
--                        by a handle of both modes, and what is then refused, a read with a handle that opened it before too
--     told_places         what the looks tell: the number, and from where to where the part goes
-- For every conversion f:
--     password b c       what the parameter c turns sixteen bytes b into, for the cluster
--     weaker_made c, weaker_shown c    the handle that a weakening of the write handle by the mask c gives, as it is made, and shown
--                        with sixteen bytes of its password
--     gapped_shown c      a gapped handle, with the password that its chain from the read password of the copy `ours` ends with
--     opening, opening_answers    a read with a gapped handle; the write handle weakened twice; a write, a reduction and a join
--                        for writing with what is given
--     whole_list, answers    the opening and the rest, and what both copies answer
-- Assumes nothing.
use Rattle.std.specs.Prelude.{ℕ, ◌-◌, List, [], ◌∷◌, ◌++◌, get_or, replicate}
use Rattle.loops.specs.Tabulate.{tabulate}
use Rattle.sizes.specs.Sizes.{memory}
use Rattle.handle.specs.Handles.{Name}
use Rattle.store.specs.Places.{present_at}
use Rattle.store.specs.declared.Cluster.{Cluster}
use Rattle.store.specs.declared.Store.{Store}
use Rattle.store.specs.Records.{starting_store, started, put_record, with_place}
use Rattle.calls.specs.Looks.{Looked}
use Rattle.calls.specs.Calls.{Copy, Call, making_cluster, deleting_cluster, making_segment, deleting_segment, reading}
use Rattle.calls.specs.Calls.{writing, weakening_by, reducing, renewing, freezing, joining, validating, looking}
use Rattle.calls.specs.Steps.{Reply}
use Rattle.calls.specs.Literals.{sixteen, primary, none, told, shows}
use Rattle.calls.specs.Written.{telling}
use Rattle.isolation.specs.Witness.{made, shown}

-- ---- the copies

-- records 10 and 2
abbrev pub tenth : Cluster
tenth = with_place (started 8 (sixteen 50) (sixteen 51)) 0 (present_at 0 2)

abbrev pub second : ℕ → Cluster
second r = with_place (with_place (with_place (started 8 (sixteen r) (sixteen 34)) 5 (present_at 0 4)) 4 (present_at 4 2)) 3 (present_at 10 1)

abbrev pub kept : ℕ → Store
kept r = put_record (put_record starting_store 10 tenth) 2 (second r)

-- the memory from byte 4 on
abbrev pub beyond : ℕ → ℕ → List ℕ
beyond b z = b ∷ b ∷ z ∷ z ∷ z ∷ z ∷ b ∷ (replicate 4085 0 ++ (6 ∷ 7 ∷ z ∷ replicate (memory - 4099) 0))

abbrev pub keeping : ℕ → ℕ → ℕ → Copy
keeping r b z = record { store = kept r; memory = b ∷ b ∷ b ∷ b ∷ beyond b z }

abbrev pub ours : Copy
ours = keeping 17 7 5

abbrev pub theirs : Copy
theirs = keeping 1 9 6

-- ---- short lists

abbrev pub leak : List Call
leak =
    deleting_segment 0 5 (primary 0 2 34)
    ∷ deleting_segment 0 4 (primary 0 2 34)
    ∷ making_cluster 0 3 8 (sixteen 3) (sixteen 4)
    ∷ making_segment 0 7 6 (primary 0 3 4)
    ∷ reading 7 (primary 0 3 3) (replicate 6 8)
    ∷ []

abbrev pub guess : List Call
guess = renewing 2 (primary 0 2 34) (sixteen 17) ∷ []

abbrev pub marks : List Call
marks =
    freezing 0 4 (primary 0 2 34)
    ∷ freezing 0 4 (primary 0 2 34)
    ∷ writing 4 (primary 0 2 34) (8 ∷ 8 ∷ [])
    ∷ deleting_segment 0 4 (primary 0 2 34)
    ∷ deleting_cluster 0 (primary 0 2 34)
    ∷ writing 5 (primary 0 2 34) (8 ∷ 8 ∷ 8 ∷ 8 ∷ [])
    ∷ reading 4 (primary 0 2 34) (8 ∷ 8 ∷ [])
    ∷ []

abbrev pub marks_answers : List Reply
marks_answers =
    told 0 none none 0 0 []
    ∷ told 0 none none 0 0 []
    ∷ told 22 none none 0 0 (8 ∷ 8 ∷ [])
    ∷ told 22 none none 0 0 []
    ∷ told 22 none none 0 0 []
    ∷ told 0 none none 0 0 (8 ∷ 8 ∷ 8 ∷ 8 ∷ [])
    ∷ told 9 none none 0 0 (8 ∷ 8 ∷ [])
    ∷ []

-- ---- the long one

abbrev pub rest : List Call
rest =
    -- what asks for reading, with the write handle, and a read handle weakened
    validating 2 (primary 0 2 34)
    ∷ validating 1 (primary 0 2 34)
    ∷ reading 4 (primary 0 2 34) (8 ∷ 8 ∷ [])
    ∷ looking 0 4 (primary 0 2 34)
    ∷ reducing 1 (primary 0 2 34)
    ∷ renewing 1 (primary 0 2 34) (sixteen 9)
    ∷ joining 1 (primary 0 2 34) (primary 0 2 34)
    ∷ weakening_by 255 (primary 0 2 17)
    -- where bytes of no segment differ
    ∷ making_segment 0 6 3 (primary 0 2 34)
    ∷ writing 6 (primary 0 2 34) (1 ∷ 2 ∷ [])
    ∷ writing 6 (primary 0 2 34) (1 ∷ 2 ∷ 3 ∷ 4 ∷ [])
    ∷ deleting_segment 0 6 (primary 0 2 34)
    ∷ making_segment 0 2 1 (primary 0 2 34)
    -- what the cluster frees, in another's hands
    ∷ (leak
    ++ (looking 0 7 (primary 0 3 3)
    -- other clusters
    ∷ reducing 1 (primary 0 3 3)
    ∷ renewing 1 (primary 0 3 3) (sixteen 33)
    ∷ joining 1 (primary 0 3 33) (primary 0 2 34)
    ∷ reading 0 (primary 1 2 50) (8 ∷ 8 ∷ 8 ∷ [])
    ∷ looking 1 0 (primary 1 2 50)
    ∷ making_segment 1 1 1 (primary 1 2 51)
    ∷ reading 1 (primary 1 2 50) (8 ∷ [])
    -- the read password of the copy `ours` as the write password
    ∷ renewing 2 (primary 0 2 34) (sixteen 17)
    ∷ renewing 2 (primary 0 2 17) (sixteen 17)
    ∷ writing 2 (primary 0 2 17) (8 ∷ [])
    ∷ validating 2 (primary 0 2 17)
    ∷ deleting_segment 0 2 (primary 0 2 17)
    ∷ making_segment 0 2 1 (primary 0 2 17)
    ∷ deleting_cluster 0 (primary 0 2 17)
    -- the cluster deleted, and made anew
    ∷ reading 3 (primary 0 2 0) (8 ∷ [])
    ∷ making_cluster 0 2 8 (sixteen 5) (sixteen 6)
    ∷ making_segment 0 3 2 (primary 0 2 6)
    ∷ writing 3 (primary 0 2 6) (7 ∷ 7 ∷ [])
    ∷ renewing 2 (primary 0 2 6) (sixteen 5)
    ∷ freezing 0 3 (primary 0 2 5)
    ∷ writing 3 (primary 0 2 5) (8 ∷ 8 ∷ [])
    ∷ deleting_segment 0 3 (primary 0 2 5)
    ∷ deleting_cluster 0 (primary 0 2 5)
    ∷ renewing 2 (primary 0 2 5) (sixteen 6)
    ∷ reading 3 (primary 0 2 6) (8 ∷ 8 ∷ [])
    ∷ reading 3 (primary 0 2 17) (8 ∷ 8 ∷ [])
    ∷ []))

abbrev pub rest_answers : List Reply
rest_answers =
    told 0 none none 0 0 []
    ∷ told 9 none none 0 0 []
    ∷ told 9 none none 0 0 (8 ∷ 8 ∷ [])
    ∷ shows 9 []
    ∷ told 9 none none 0 0 []
    ∷ told 9 none none 0 0 []
    ∷ told 9 none none 0 0 []
    ∷ told 0 (primary 0 2 17) none 8 0 []
    -- where bytes of no segment differ
    ∷ told 0 none none 0 0 []
    ∷ told 15 none none 0 0 (1 ∷ 2 ∷ [])
    ∷ told 0 none none 0 0 (1 ∷ 2 ∷ 3 ∷ 4 ∷ [])
    ∷ told 0 none none 0 0 []
    ∷ told 0 none none 0 0 []
    -- what the cluster frees, in another's hands
    ∷ told 0 none none 0 0 []
    ∷ told 0 none none 0 0 []
    ∷ told 0 (primary 0 3 3) (primary 0 3 4) 0 0 []
    ∷ told 0 none none 0 0 []
    ∷ told 0 none none 0 6 (0 ∷ 0 ∷ 0 ∷ 0 ∷ 0 ∷ 0 ∷ [])
    ∷ shows 0 (0 ∷ 0 ∷ 0 ∷ 0 ∷ 0 ∷ 0 ∷ [])
    -- other clusters
    ∷ told 0 (primary 0 3 3) none 0 0 []
    ∷ told 0 (primary 0 3 33) none 0 0 []
    ∷ told 24 none none 0 0 []
    ∷ told 0 none none 0 2 (6 ∷ 7 ∷ 8 ∷ [])
    ∷ shows 0 (6 ∷ 7 ∷ [])
    ∷ told 0 none none 0 0 []
    ∷ told 0 none none 0 1 (0 ∷ [])
    -- the read password of the copy `ours` as the write password
    ∷ told 0 (primary 0 2 17) none 0 0 []
    ∷ told 12 none none 0 0 []
    ∷ told 0 none none 0 0 (8 ∷ [])
    ∷ told 0 none none 0 0 []
    ∷ told 0 none none 0 0 []
    ∷ told 0 none none 0 0 []
    ∷ told 0 none none 0 0 []
    -- the cluster deleted, and made anew
    ∷ told 8 none none 0 0 (8 ∷ [])
    ∷ told 0 (primary 0 2 5) (primary 0 2 6) 0 0 []
    ∷ told 0 none none 0 0 []
    ∷ told 0 none none 0 0 (7 ∷ 7 ∷ [])
    ∷ told 0 (primary 0 2 5) none 0 0 []
    ∷ told 0 none none 0 0 []
    ∷ told 22 none none 0 0 (8 ∷ 8 ∷ [])
    ∷ told 22 none none 0 0 []
    ∷ told 22 none none 0 0 []
    ∷ told 0 (primary 0 2 6) none 0 0 []
    ∷ told 9 none none 0 0 (8 ∷ 8 ∷ [])
    ∷ told 9 none none 0 0 (8 ∷ 8 ∷ [])
    ∷ []

abbrev pub told_places : List Looked
told_places = telling 9 0 0 ∷ telling 0 0 6 ∷ telling 0 4096 4098 ∷ []

module _ (f : Name → List ℕ → ℕ → List ℕ) where
  abbrev pub password : ℕ → ℕ → List ℕ
  password b c = f (record { node = 0; local = 2 }) (sixteen b) c

  abbrev pub weaker_made : ℕ → List ℕ
  weaker_made c = made 0 2 (password 34 c) c

  abbrev pub weaker_shown : ℕ → List ℕ
  weaker_shown c = shown 0 2 (password 34 c) c

  abbrev pub gapped_shown : ℕ → List ℕ
  gapped_shown c = 0 ∷ 0 ∷ 2 ∷ (tabulate 16 (λ k. get_or (password 17 c) k 0) ++ (255 ∷ c ∷ 255 ∷ 255 ∷ []))

  abbrev pub opening : List Call
  opening =
      reading 5 (gapped_shown 32) (8 ∷ [])
      ∷ weakening_by 32 (primary 0 2 34)
      ∷ weakening_by 16 (primary 0 2 34)
      ∷ writing 5 (weaker_shown 32) (1 ∷ 2 ∷ 3 ∷ 4 ∷ 5 ∷ [])
      ∷ reducing 2 (weaker_shown 32)
      ∷ joining 2 (weaker_shown 32) (weaker_shown 16)
      ∷ []

  abbrev pub opening_answers : List Reply
  opening_answers =
      told 4 none none 0 0 (8 ∷ [])
      ∷ told 0 (weaker_made 32) none 1 0 []
      ∷ told 0 (weaker_made 16) none 1 0 []
      ∷ told 0 none none 0 0 (1 ∷ 2 ∷ 3 ∷ 4 ∷ 5 ∷ [])
      ∷ told 0 (weaker_made 32) none 0 0 []
      ∷ told 0 (weaker_made 48) none 0 0 []
      ∷ []

  abbrev pub whole_list : List Call
  whole_list = opening ++ rest

  abbrev pub answers : List Reply
  answers = opening_answers ++ rest_answers
