-- The copies and the lists of the uses, which say of each theorem what it gives: as wide as the documents have them. The cluster is
-- the last one, local number 7 of node 3, of each width, with its highest segment frozen. Handles and answers are written out.
--     Wide, bits, top, own    the three widths; how many segments there are, the highest of them, and the primary handles
--     beside             local number 3 of node 0: a cluster of eight whose segment 7 has the bytes 5 and 6
--     near               local number 2 of node 3: a cluster of sixteen with one password for both modes, whose segment 15 has the bytes
--                        21 and 22 and is frozen
--     rest, records v r w    the store of these two, and with the cluster
--     apart v r w        the record of the cluster, with the passwords r and w: its highest segment has four bytes and is frozen,
--                        and segment 0 has the two bytes after them
--     low, high          the memory of the nodes below the last, with a byte z that belongs to no segment; that of the last one: the
--                        bytes of the two segments, a byte y that belongs to none, and those of the cluster near
--     keeping v r w b c d y z    a copy with that cluster; passwords and bytes are open
--     repeated n xs      the list xs n times over; it is empty where n is zero, and its length has no bound
--     shut, shut_answers, shut_places    calls of which none presents a handle of the cluster that validates, whatever the passwords
--                        are: handles of no length, of 22 bytes, gapped ones of each width, a place that does not exist; the
--                        cluster made again; a weakening; for the cluster beside every kind of call, done; a read and a write of the
--                        cluster near; and numbers above 255, and data of 300 bytes
--     writes, write_answers, write_places    calls with the write handle of the cluster, among them what a frozen segment refuses and a
--                        segment made where a byte of no segment is; what asks for reading, with handles of no length; numbers
--                        above 255, and data of 300 bytes
-- Assumes nothing.
use Rattle.std.specs.Prelude.{ℕ, zero, suc, List, [], ◌∷◌, ◌++◌, replicate}
use Rattle.store.specs.Places.{present_at}
use Rattle.store.specs.declared.Cluster.{Cluster}
use Rattle.store.specs.declared.Store.{Store}
use Rattle.store.specs.Records.{starting_store, started, put_record, with_place, with_mark}
use Rattle.calls.specs.Looks.{Looked}
use Rattle.calls.specs.Calls.{Copy, Call, making_cluster, deleting_cluster, making_segment, deleting_segment, reading}
use Rattle.calls.specs.Calls.{writing, weakening_by, reducing, renewing, freezing, joining, validating, looking}
use Rattle.calls.specs.Steps.{Reply}
use Rattle.calls.specs.Literals.{sixteen, handle, primary, small, large, none, told, shows}
use Rattle.calls.specs.Written.{telling}

-- ---- the three widths

pub data Wide : Type 0 where
  of_four of_eight of_sixteen : Wide

abbrev pub bits : Wide → ℕ
bits of_four = 4
bits of_eight = 8
bits of_sixteen = 16

abbrev pub top : Wide → ℕ
top of_four = 3
top of_eight = 7
top of_sixteen = 15

abbrev pub own : Wide → ℕ → ℕ → ℕ → List ℕ
own of_four = small
own of_eight = primary
own of_sixteen = large

-- ---- the copies

abbrev pub beside : Cluster
beside = with_place (started 8 (sixteen 3) (sixteen 4)) 7 (present_at 0 2)

abbrev pub near : Cluster
near = with_mark (with_place (started 16 (sixteen 50) (sixteen 50)) 15 (present_at 7 2)) 15

abbrev pub apart : Wide → List ℕ → List ℕ → Cluster
apart v r w = with_mark (with_place (with_place (started (bits v) r w) (top v) (present_at 0 4)) 0 (present_at 4 2)) (top v)

abbrev pub rest : Store
rest = put_record (put_record starting_store 3 beside) 26 near

abbrev pub records : Wide → List ℕ → List ℕ → Store
records v r w = put_record rest 31 (apart v r w)

abbrev pub low : ℕ → List ℕ
low z = 5 ∷ 6 ∷ 0 ∷ 0 ∷ z ∷ replicate 12283 0

abbrev pub high : ℕ → ℕ → ℕ → ℕ → List ℕ
high b c d y = b ∷ b ∷ b ∷ b ∷ c ∷ d ∷ y ∷ 21 ∷ 22 ∷ replicate 4087 0

abbrev pub keeping : Wide → List ℕ → List ℕ → ℕ → ℕ → ℕ → ℕ → ℕ → Copy
keeping v r w b c d y z = record { store = records v r w; memory = low z ++ high b c d y }

-- ---- the lists

abbrev pub repeated : {A : Type 0} → ℕ → List A → List A
repeated zero xs = []
repeated (suc n) xs = xs ++ repeated n xs

abbrev pub shut : List Call
shut =
    validating 1 []
    ∷ validating 2 (handle 3 7 17 (255 ∷ 255 ∷ 255 ∷ []))
    ∷ reading 0 (handle 3 7 17 (239 ∷ 255 ∷ [])) (8 ∷ [])
    ∷ writing 0 (handle 3 7 17 (255 ∷ 254 ∷ 255 ∷ 255 ∷ [])) (8 ∷ [])
    ∷ looking 3 0 (handle 3 7 17 (255 ∷ 255 ∷ 255 ∷ 254 ∷ 255 ∷ 255 ∷ 255 ∷ 255 ∷ []))
    ∷ deleting_cluster 4 (primary 4 7 17)
    ∷ making_cluster 3 7 8 (sixteen 1) (sixteen 2)
    ∷ weakening_by 65535 (primary 3 7 17)
    -- the cluster beside
    ∷ reading 7 (primary 0 3 3) (9 ∷ 9 ∷ 9 ∷ [])
    ∷ looking 0 7 (primary 0 3 3)
    ∷ writing 7 (primary 0 3 4) (5 ∷ 6 ∷ 7 ∷ [])
    ∷ validating 1 (primary 0 3 3)
    ∷ validating 2 (primary 0 3 3)
    ∷ reducing 2 (primary 0 3 4)
    ∷ joining 1 (primary 0 3 3) (primary 0 3 3)
    ∷ making_segment 0 6 1 (primary 0 3 4)
    ∷ deleting_segment 0 6 (primary 0 3 4)
    ∷ renewing 1 (primary 0 3 3) (sixteen 33)
    ∷ renewing 1 (primary 0 3 33) (sixteen 3)
    ∷ making_cluster 0 2 4 (sixteen 1) (sixteen 2)
    ∷ deleting_cluster 0 (small 0 2 2)
    -- the cluster near
    ∷ reading 15 (large 3 2 50) (9 ∷ 9 ∷ 9 ∷ [])
    ∷ writing 15 (large 3 2 50) (1 ∷ 2 ∷ [])
    -- numbers above 255, and long data
    ∷ writing 7 (primary 0 3 4) (5 ∷ 6 ∷ replicate 298 7)
    ∷ reading 7 (primary 0 3 3) (replicate 300 9)
    ∷ reading 300 (primary 0 3 3) (9 ∷ [])
    ∷ validating 257 (primary 0 3 3)
    ∷ making_segment 0 6 65536 (primary 0 3 4)
    ∷ making_cluster 0 258 4 (sixteen 1) (sixteen 2)
    ∷ making_cluster 0 2 260 (sixteen 1) (sixteen 2)
    ∷ looking 256 7 (primary 0 3 3)
    ∷ []

abbrev pub shut_answers : List Reply
shut_answers =
    told 25 none none 0 0 []
    ∷ told 25 none none 0 0 []
    ∷ told 4 none none 0 0 (8 ∷ [])
    ∷ told 4 none none 0 0 (8 ∷ [])
    ∷ shows 4 []
    ∷ told 2 none none 0 0 []
    ∷ told 6 none none 0 0 []
    ∷ told 0 (primary 3 7 17) none 8 0 []
    -- the cluster beside
    ∷ told 0 none none 0 2 (5 ∷ 6 ∷ 9 ∷ [])
    ∷ shows 0 (5 ∷ 6 ∷ [])
    ∷ told 0 none none 0 0 (5 ∷ 6 ∷ 7 ∷ [])
    ∷ told 0 none none 0 0 []
    ∷ told 9 none none 0 0 []
    ∷ told 0 (primary 0 3 4) none 0 0 []
    ∷ told 23 none none 0 0 []
    ∷ told 0 none none 0 0 []
    ∷ told 0 none none 0 0 []
    ∷ told 0 (primary 0 3 33) none 0 0 []
    ∷ told 0 (primary 0 3 3) none 0 0 []
    ∷ told 0 (small 0 2 1) (small 0 2 2) 0 0 []
    ∷ told 0 none none 0 0 []
    -- the cluster near
    ∷ told 0 none none 0 2 (21 ∷ 22 ∷ 9 ∷ [])
    ∷ told 22 none none 0 0 (1 ∷ 2 ∷ [])
    -- numbers above 255, and long data
    ∷ told 0 none none 0 0 (5 ∷ 6 ∷ replicate 298 7)
    ∷ told 0 none none 0 2 (5 ∷ 6 ∷ replicate 298 9)
    ∷ told 3 none none 0 0 (9 ∷ [])
    ∷ told 3 none none 0 0 []
    ∷ told 3 none none 0 0 []
    ∷ told 2 none none 0 0 []
    ∷ told 3 none none 0 0 []
    ∷ shows 2 []
    ∷ []

abbrev pub shut_places : List Looked
shut_places = telling 4 0 0 ∷ telling 0 0 2 ∷ telling 2 0 0 ∷ []

abbrev pub writes : Wide → List Call
writes v =
    writing (top v) (own v 3 7 34) (1 ∷ 2 ∷ 3 ∷ 4 ∷ [])
    ∷ deleting_segment 3 (top v) (own v 3 7 34)
    ∷ deleting_cluster 3 (own v 3 7 34)
    ∷ freezing 3 (top v) (own v 3 7 34)
    ∷ writing 0 (own v 3 7 34) (8 ∷ 9 ∷ [])
    ∷ making_segment 3 1 1 (own v 3 7 34)
    ∷ deleting_segment 3 1 (own v 3 7 34)
    ∷ renewing 2 (own v 3 7 34) (sixteen 35)
    ∷ renewing 2 (own v 3 7 35) (sixteen 34)
    ∷ validating 2 (own v 3 7 34)
    ∷ reading 0 [] (8 ∷ [])
    ∷ validating 1 (handle 3 7 34 (255 ∷ 255 ∷ 255 ∷ []))
    ∷ looking 0 7 (primary 0 3 3)
    -- the cluster near
    ∷ looking 3 15 (large 3 2 50)
    -- numbers above 255, and long data
    ∷ writing 0 (own v 3 7 34) (8 ∷ 9 ∷ replicate 298 7)
    ∷ writing 300 (own v 3 7 34) (8 ∷ [])
    ∷ validating 257 (own v 3 7 34)
    ∷ making_segment 3 1 65536 (own v 3 7 34)
    ∷ making_cluster 3 258 4 (sixteen 1) (sixteen 2)
    ∷ making_cluster 3 3 260 (sixteen 1) (sixteen 2)
    ∷ looking 256 7 (primary 0 3 3)
    ∷ []

abbrev pub write_answers : Wide → List Reply
write_answers v =
    told 22 none none 0 0 (1 ∷ 2 ∷ 3 ∷ 4 ∷ [])
    ∷ told 22 none none 0 0 []
    ∷ told 22 none none 0 0 []
    ∷ told 0 none none 0 0 []
    ∷ told 0 none none 0 0 (8 ∷ 9 ∷ [])
    ∷ told 0 none none 0 0 []
    ∷ told 0 none none 0 0 []
    ∷ told 0 (own v 3 7 35) none 0 0 []
    ∷ told 0 (own v 3 7 34) none 0 0 []
    ∷ told 0 none none 0 0 []
    ∷ told 25 none none 0 0 (8 ∷ [])
    ∷ told 25 none none 0 0 []
    ∷ shows 0 (5 ∷ 6 ∷ [])
    -- the cluster near
    ∷ shows 0 (21 ∷ 22 ∷ [])
    -- numbers above 255, and long data
    ∷ told 0 none none 0 0 (8 ∷ 9 ∷ replicate 298 7)
    ∷ told 3 none none 0 0 (8 ∷ [])
    ∷ told 3 none none 0 0 []
    ∷ told 3 none none 0 0 []
    ∷ told 2 none none 0 0 []
    ∷ told 3 none none 0 0 []
    ∷ shows 2 []
    ∷ []

abbrev pub write_places : List Looked
write_places = telling 0 0 2 ∷ telling 0 12295 12297 ∷ telling 2 0 0 ∷ []
