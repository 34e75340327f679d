-- Document 02, §8: what holders of handles do in a cluster of four and in one of sixteen, on the copies of `WidthLists`. Handles
-- and answers are written out.
--     writes, writes_answers    with the write handle of the copy `one`: what asks for reading, in vain; with the read password in
--                           handles of another width, refused with 25, in a join as the second; a write, a segment made, and
--                           one at the width; what the cluster frees in another's hands; the cluster deleted, and made anew
--                           with the other width and the same read password, to which the old handles are strange
--     writes_places          what the looks tell
--     strays, stray_answers  a read, a look and a validation with bytes that hold no handle
--     reads, reads_answers   with the read handle: what reads is done, and what writes refused; with the write password in handles
--                           of another width, refused with 25, in a join as the first and as the second
--     the_freeze             a freeze of the highest segment
--     attempts, attempt_answers    what the write handle then cannot do, a new cluster of the other width among it; and what is
--                           answered to the freeze and to these
-- Assumes nothing.
use Rattle.std.specs.Prelude.{List, [], ◌∷◌, replicate}
use Rattle.calls.specs.Looks.{Looked}
use Rattle.calls.specs.Calls.{Call, making_cluster, deleting_cluster, making_segment, deleting_segment, reading}
use Rattle.calls.specs.Calls.{writing, weakening_by, reducing, renewing, freezing, joining, validating, looking}
use Rattle.calls.specs.Steps.{Reply}
use Rattle.calls.specs.Literals.{sixteen, primary, none, told, shows}
use Rattle.calls.specs.Written.{telling}
use Rattle.isolation.specs.WidthLists.{Sort, turned, width, top, own, other}

-- ---- writers

abbrev pub writes : Sort → List Call
writes v =
    validating 2 (own v 0 2 34)
    ∷ validating 1 (own v 0 2 34)
    ∷ reading (top v) (own v 0 2 34) (8 ∷ [])
    ∷ reading 3 (other v 0 2 17) (8 ∷ [])
    ∷ looking 0 3 (primary 0 2 17)
    ∷ joining 1 (own v 0 2 34) (other v 0 2 17)
    ∷ writing (top v) (own v 0 2 34) (1 ∷ 2 ∷ 3 ∷ 4 ∷ [])
    ∷ making_segment 0 0 2 (own v 0 2 34)
    ∷ making_segment 0 (width v) 2 (own v 0 2 34)
    ∷ weakening_by 65535 (own v 0 2 17)
    ∷ reducing 2 (own v 0 2 34)
    ∷ joining 2 (own v 0 2 34) (own v 0 2 34)
    ∷ renewing 2 (own v 0 2 34) (sixteen 6)
    -- what the cluster frees, in another's hands
    ∷ deleting_segment 0 (top v) (own v 0 2 6)
    ∷ making_cluster 0 3 (width (turned v)) (sixteen 3) (sixteen 4)
    ∷ making_segment 0 (top (turned v)) 4 (other v 0 3 4)
    ∷ looking 0 (top (turned v)) (other v 0 3 3)
    -- the cluster deleted, and made anew with the other width
    ∷ deleting_cluster 0 (own v 0 2 6)
    ∷ making_cluster 0 2 (width (turned v)) (sixteen 17) (sixteen 6)
    ∷ making_segment 0 (top (turned v)) 1 (other v 0 2 6)
    ∷ reading 3 (own v 0 2 17) (8 ∷ [])
    ∷ reading (top (turned v)) (other v 0 2 6) (8 ∷ [])
    ∷ writing (top (turned v)) (other v 0 2 6) (8 ∷ [])
    ∷ []

abbrev pub writes_answers : Sort → List Reply
writes_answers v =
    told 0 none none 0 0 []
    ∷ told 9 none none 0 0 []
    ∷ told 9 none none 0 0 (8 ∷ [])
    ∷ told 25 none none 0 0 (8 ∷ [])
    ∷ shows 25 []
    ∷ told 25 none none 0 0 []
    ∷ told 0 none none 0 0 (1 ∷ 2 ∷ 3 ∷ 4 ∷ [])
    ∷ told 0 none none 0 0 []
    ∷ told 3 none none 0 0 []
    ∷ told 0 (own v 0 2 17) none (width v) 0 []
    ∷ told 0 (own v 0 2 34) none 0 0 []
    ∷ told 23 none none 0 0 []
    ∷ told 0 (own v 0 2 6) none 0 0 []
    -- what the cluster frees, in another's hands
    ∷ told 0 none none 0 0 []
    ∷ told 0 (other v 0 3 3) (other v 0 3 4) 0 0 []
    ∷ told 0 none none 0 0 []
    ∷ shows 0 (0 ∷ 0 ∷ 0 ∷ 0 ∷ [])
    -- the cluster deleted, and made anew with the other width
    ∷ told 0 none none 0 0 []
    ∷ told 0 (other v 0 2 17) (other v 0 2 6) 0 0 []
    ∷ told 0 none none 0 0 []
    ∷ told 25 none none 0 0 (8 ∷ [])
    ∷ told 9 none none 0 0 (8 ∷ [])
    ∷ told 0 none none 0 0 (8 ∷ [])
    ∷ []

abbrev pub writes_places : List Looked
writes_places = telling 25 0 0 ∷ telling 0 0 4 ∷ []

abbrev pub strays : List Call
strays = reading 0 [] (8 ∷ []) ∷ looking 0 0 (replicate 22 0) ∷ validating 1 (replicate 28 0) ∷ []

abbrev pub stray_answers : List Reply
stray_answers = told 25 none none 0 0 (8 ∷ []) ∷ shows 25 [] ∷ told 25 none none 0 0 [] ∷ []

-- ---- readers

abbrev pub reads : Sort → List Call
reads v =
    reading (top v) (own v 0 2 17) (1 ∷ 2 ∷ 3 ∷ 4 ∷ 5 ∷ [])
    ∷ looking 0 (top v) (own v 0 2 17)
    ∷ weakening_by 65535 (own v 0 2 17)
    ∷ reducing 1 (own v 0 2 17)
    ∷ joining 1 (own v 0 2 17) (own v 0 2 17)
    ∷ writing (top v) (own v 0 2 17) (6 ∷ 6 ∷ 6 ∷ 6 ∷ [])
    ∷ deleting_cluster 0 (own v 0 2 17)
    -- the write password in handles of another width
    ∷ writing 3 (other v 0 2 34) (6 ∷ 6 ∷ 6 ∷ 6 ∷ [])
    ∷ making_segment 0 0 1 (primary 0 2 34)
    ∷ deleting_segment 0 3 (other v 0 2 34)
    ∷ deleting_cluster 0 (primary 0 2 34)
    ∷ renewing 2 (other v 0 2 34) (sixteen 6)
    ∷ freezing 0 3 (primary 0 2 34)
    ∷ joining 2 (other v 0 2 34) (own v 0 2 17)
    ∷ joining 2 (own v 0 2 17) (primary 0 2 34)
    -- the read password replaced, and a cluster of the other width
    ∷ renewing 1 (own v 0 2 17) (sixteen 18)
    ∷ reading (top v) (own v 0 2 18) (1 ∷ 2 ∷ 3 ∷ 4 ∷ [])
    ∷ making_cluster 0 2 (width (turned v)) (sixteen 3) (sixteen 4)
    ∷ making_cluster 0 3 (width (turned v)) (sixteen 3) (sixteen 4)
    ∷ making_segment 0 (top (turned v)) 2 (other v 0 3 4)
    ∷ []

abbrev pub reads_answers : Sort → List Reply
reads_answers v =
    told 0 none none 0 4 (7 ∷ 7 ∷ 7 ∷ 7 ∷ 5 ∷ [])
    ∷ shows 0 (7 ∷ 7 ∷ 7 ∷ 7 ∷ [])
    ∷ told 0 (own v 0 2 17) none (width v) 0 []
    ∷ told 0 (own v 0 2 17) none 0 0 []
    ∷ told 23 none none 0 0 []
    ∷ told 9 none none 0 0 (6 ∷ 6 ∷ 6 ∷ 6 ∷ [])
    ∷ told 9 none none 0 0 []
    -- the write password in handles of another width
    ∷ told 25 none none 0 0 (6 ∷ 6 ∷ 6 ∷ 6 ∷ [])
    ∷ told 25 none none 0 0 []
    ∷ told 25 none none 0 0 []
    ∷ told 25 none none 0 0 []
    ∷ told 25 none none 0 0 []
    ∷ told 25 none none 0 0 []
    ∷ told 25 none none 0 0 []
    ∷ told 25 none none 0 0 []
    -- the read password replaced, and a cluster of the other width
    ∷ told 0 (own v 0 2 18) none 0 0 []
    ∷ told 0 none none 0 4 (7 ∷ 7 ∷ 7 ∷ 7 ∷ [])
    ∷ told 6 none none 0 0 []
    ∷ told 0 (other v 0 3 3) (other v 0 3 4) 0 0 []
    ∷ told 0 none none 0 0 []
    ∷ []

-- ---- what is frozen

abbrev pub the_freeze : Sort → Call
the_freeze v = freezing 0 (top v) (own v 0 2 34)

abbrev pub attempts : Sort → List Call
attempts v =
    freezing 0 (top v) (own v 0 2 34)
    ∷ writing (top v) (own v 0 2 34) (6 ∷ 6 ∷ 6 ∷ 6 ∷ [])
    ∷ writing 3 (other v 0 2 34) (6 ∷ 6 ∷ 6 ∷ 6 ∷ [])
    ∷ deleting_segment 0 (top v) (own v 0 2 34)
    ∷ making_segment 0 (top v) 4 (own v 0 2 34)
    ∷ deleting_cluster 0 (own v 0 2 34)
    ∷ making_cluster 0 2 (width (turned v)) (sixteen 3) (sixteen 4)
    ∷ making_segment 0 0 1 (own v 0 2 34)
    ∷ reading (top v) (own v 0 2 17) (1 ∷ 2 ∷ 3 ∷ 4 ∷ 5 ∷ [])
    ∷ looking 0 (top v) (own v 0 2 17)
    ∷ []

abbrev pub attempt_answers : List Reply
attempt_answers =
    told 0 none none 0 0 []
    ∷ told 0 none none 0 0 []
    ∷ told 22 none none 0 0 (6 ∷ 6 ∷ 6 ∷ 6 ∷ [])
    ∷ told 25 none none 0 0 (6 ∷ 6 ∷ 6 ∷ 6 ∷ [])
    ∷ told 22 none none 0 0 []
    ∷ told 13 none none 0 0 []
    ∷ told 22 none none 0 0 []
    ∷ told 6 none none 0 0 []
    ∷ told 0 none none 0 0 []
    ∷ told 0 none none 0 4 (7 ∷ 7 ∷ 7 ∷ 7 ∷ 5 ∷ [])
    ∷ shows 0 (7 ∷ 7 ∷ 7 ∷ 7 ∷ [])
    ∷ []
