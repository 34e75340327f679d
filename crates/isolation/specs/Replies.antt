-- Document 01, "The calls", the column "Done, it gives and leaves", as a computed list: every kind done, from the
-- starting store, by the conversion of the numbers' lists. Handles and replies are written out.
--     weak b                    a handle of node 1 and local number 2 that references segment 5 alone: its password is
--                               sixteen bytes b and 32, the parameter that keeps segment 5
--     wide b c                  a handle of 27 bytes, of node 2 and local number 1, with sixteen bytes b and the parameter c
--     done_calls, done_replies    the calls and their whole replies, in clusters of eight, of four and of sixteen; some take the
--                               highest node, local number, segment and size, and a mask with bits at and above the width; a
--                               read takes the handle that a join gives; a freeze is the last, since what is frozen stays
--     seen                      what is looked at in the end: the replies, the records, three bytes of the memory
--     frozen_store               the starting store but for one cluster, whose segment is frozen
--     EachDone                  they are the replies; the records are those, and the bytes written stay
-- Assumes nothing.
use Rattle.std.specs.Prelude.{◌≡◌, ℕ, ◌+◌, List, [], ◌∷◌, true, false, take, drop, replicate}
use Rattle.store.specs.Places.{None, present_at}
use Rattle.store.specs.declared.Store.{Store}
use Rattle.store.specs.Records.{starting_store, put_record}
use Rattle.calls.specs.Calls.{start, Call}
use Rattle.calls.specs.Steps.{Reply, Ran, run}
use Rattle.calls.specs.Cases.{added}
use Rattle.calls.specs.Calls.{making_cluster, deleting_cluster, making_segment, deleting_segment, reading}
use Rattle.calls.specs.Calls.{writing, weakening_by, reducing, renewing, freezing, joining, validating, looking}
use Rattle.calls.specs.Literals.{sixteen, handle, primary, small, large, none, told, shows}

abbrev weak : ℕ → List ℕ
weak b = handle 1 2 (b + 32) (32 ∷ 255 ∷ 255 ∷ 255 ∷ [])

abbrev wide : ℕ → ℕ → List ℕ
wide b c = handle 2 1 b (0 ∷ c ∷ 255 ∷ 255 ∷ 255 ∷ 255 ∷ 255 ∷ 255 ∷ [])

abbrev pub done_calls : List Call
done_calls =
    making_cluster 1 2 8 (sixteen 3) (sixteen 4)
    ∷ making_segment 1 5 3 (primary 1 2 4)
    ∷ reading 5 (primary 1 2 3) (1 ∷ 2 ∷ 3 ∷ 4 ∷ [])
    ∷ writing 5 (primary 1 2 4) (7 ∷ 8 ∷ 9 ∷ 10 ∷ [])
    ∷ weakening_by 48 (primary 1 2 3)
    ∷ reading 5 (weak 3) (0 ∷ 0 ∷ 0 ∷ 6 ∷ [])
    ∷ looking 1 5 (weak 3)
    ∷ reducing 1 (weak 3)
    ∷ joining 1 (handle 1 2 19 (16 ∷ 255 ∷ 255 ∷ 255 ∷ [])) (weak 3)
    ∷ reading 5 (handle 1 2 51 (48 ∷ 255 ∷ 255 ∷ 255 ∷ [])) (6 ∷ 6 ∷ 6 ∷ [])
    ∷ validating 2 (primary 1 2 4)
    ∷ renewing 1 (primary 1 2 3) (sixteen 5)
    ∷ validating 1 (primary 1 2 3)
    ∷ deleting_segment 1 5 (primary 1 2 4)
    ∷ deleting_cluster 1 (primary 1 2 4)
    ∷ validating 2 (primary 1 2 4)
    ∷ making_cluster 3 7 8 (sixteen 5) (sixteen 6)
    ∷ making_segment 3 7 4096 (primary 3 7 6)
    ∷ deleting_cluster 3 (primary 3 7 6)
    -- a cluster of four
    ∷ making_cluster 2 1 4 (sixteen 3) (sixteen 4)
    ∷ making_segment 2 3 2 (small 2 1 4)
    ∷ writing 3 (small 2 1 4) (7 ∷ 8 ∷ [])
    ∷ weakening_by 65528 (small 2 1 3)
    ∷ reading 3 (handle 2 1 11 (248 ∷ 255 ∷ [])) (0 ∷ 0 ∷ 6 ∷ [])
    ∷ looking 2 3 (handle 2 1 11 (248 ∷ 255 ∷ []))
    ∷ joining 1 (handle 2 1 11 (248 ∷ 255 ∷ [])) (handle 2 1 7 (244 ∷ 255 ∷ []))
    ∷ weakening_by 4 (handle 2 1 15 (252 ∷ 255 ∷ []))
    ∷ reducing 1 (handle 2 1 22 (124 ∷ 255 ∷ []))
    ∷ validating 2 (small 2 1 4)
    ∷ renewing 1 (small 2 1 3) (sixteen 5)
    ∷ deleting_segment 2 3 (small 2 1 4)
    ∷ deleting_cluster 2 (small 2 1 4)
    -- a cluster of sixteen
    ∷ making_cluster 2 1 16 (sixteen 3) (sixteen 4)
    ∷ making_segment 2 15 3 (large 2 1 4)
    ∷ making_segment 2 5 1 (large 2 1 4)
    ∷ writing 15 (large 2 1 4) (7 ∷ 8 ∷ 9 ∷ [])
    ∷ reading 15 (large 2 1 3) (0 ∷ 0 ∷ 0 ∷ 6 ∷ [])
    ∷ looking 2 15 (large 2 1 3)
    ∷ weakening_by 65535 (large 2 1 3)
    ∷ weakening_by 32 (large 2 1 3)
    ∷ joining 1 (wide 19 16) (wide 35 32)
    ∷ reading 5 (wide 51 48) (6 ∷ 6 ∷ [])
    ∷ renewing 2 (large 2 1 4) (sixteen 5)
    ∷ deleting_cluster 2 (large 2 1 5)
    ∷ making_cluster 0 0 8 (sixteen 7) (sixteen 8)
    ∷ making_segment 0 0 1 (primary 0 0 8)
    ∷ freezing 0 0 (primary 0 0 8)
    ∷ []

abbrev pub done_replies : List Reply
done_replies =
    told 0 (primary 1 2 3) (primary 1 2 4) 0 0 []
    ∷ told 0 none none 0 0 []
    ∷ told 0 none none 0 3 (0 ∷ 0 ∷ 0 ∷ 4 ∷ [])
    ∷ told 0 none none 0 0 (7 ∷ 8 ∷ 9 ∷ 10 ∷ [])
    ∷ told 0 (handle 1 2 51 (48 ∷ 255 ∷ 255 ∷ 255 ∷ [])) none 2 0 []
    ∷ told 0 none none 0 3 (7 ∷ 8 ∷ 9 ∷ 6 ∷ [])
    ∷ shows 0 (7 ∷ 8 ∷ 9 ∷ [])
    ∷ told 0 (weak 3) none 0 0 []
    ∷ told 0 (handle 1 2 51 (48 ∷ 255 ∷ 255 ∷ 255 ∷ [])) none 0 0 []
    ∷ told 0 none none 0 3 (7 ∷ 8 ∷ 9 ∷ [])
    ∷ told 0 none none 0 0 []
    ∷ told 0 (primary 1 2 5) none 0 0 []
    ∷ told 9 none none 0 0 []
    ∷ told 0 none none 0 0 []
    ∷ told 0 none none 0 0 []
    ∷ told 8 none none 0 0 []
    ∷ told 0 (primary 3 7 5) (primary 3 7 6) 0 0 []
    ∷ told 0 none none 0 0 []
    ∷ told 0 none none 0 0 []
    -- a cluster of four
    ∷ told 0 (small 2 1 3) (small 2 1 4) 0 0 []
    ∷ told 0 none none 0 0 []
    ∷ told 0 none none 0 0 (7 ∷ 8 ∷ [])
    ∷ told 0 (handle 2 1 11 (248 ∷ 255 ∷ [])) none 1 0 []
    ∷ told 0 none none 0 2 (7 ∷ 8 ∷ 6 ∷ [])
    ∷ shows 0 (7 ∷ 8 ∷ [])
    ∷ told 0 (handle 2 1 15 (252 ∷ 255 ∷ [])) none 0 0 []
    ∷ told 0 (handle 2 1 22 (124 ∷ 255 ∷ [])) none 1 0 []
    ∷ told 0 (handle 2 1 7 (244 ∷ 255 ∷ [])) none 0 0 []
    ∷ told 0 none none 0 0 []
    ∷ told 0 (small 2 1 5) none 0 0 []
    ∷ told 0 none none 0 0 []
    ∷ told 0 none none 0 0 []
    -- a cluster of sixteen
    ∷ told 0 (large 2 1 3) (large 2 1 4) 0 0 []
    ∷ told 0 none none 0 0 []
    ∷ told 0 none none 0 0 []
    ∷ told 0 none none 0 0 (7 ∷ 8 ∷ 9 ∷ [])
    ∷ told 0 none none 0 3 (7 ∷ 8 ∷ 9 ∷ 6 ∷ [])
    ∷ shows 0 (7 ∷ 8 ∷ 9 ∷ [])
    ∷ told 0 (large 2 1 3) none 16 0 []
    ∷ told 0 (wide 35 32) none 1 0 []
    ∷ told 0 (wide 51 48) none 0 0 []
    ∷ told 0 none none 0 1 (0 ∷ 6 ∷ [])
    ∷ told 0 (large 2 1 5) none 0 0 []
    ∷ told 0 none none 0 0 []
    ∷ told 0 (primary 0 0 7) (primary 0 0 8) 0 0 []
    ∷ told 0 none none 0 0 []
    ∷ told 0 none none 0 0 []
    ∷ []

-- its first cluster is active, with these passwords; its segment 0 is the first byte of node 0's memory, and frozen
abbrev pub frozen_store : Store
frozen_store =
    put_record starting_store 0
    (record {
      active = true;
      width = 8;
      read = sixteen 7;
      write = sixteen 8;
      segments = record { place = present_at 0 1; frozen = true } ∷ replicate 15 (record { place = None; frozen = false });
    })

pub record Seen : Type 0 where
  pub replies : List Reply
  pub store : Store
  pub bytes : List ℕ

abbrev pub seen : Ran → Seen
seen r = record { replies = r.replies; store = r.copy.store; bytes = take 3 (drop 4096 r.copy.memory) }

abbrev pub EachDone : Type 0
EachDone =
    seen (run added done_calls start)
    ≡ record { replies = done_replies; store = frozen_store; bytes = 7 ∷ 8 ∷ 9 ∷ [] }
