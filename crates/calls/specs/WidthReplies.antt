-- Document 02, §8, beside "Done, it gives and leaves" of document 01: the whole reply of a call of every kind, done at widths
-- 4 and 16, and the records that calls leave, written out. Conversion and store are those of the widths' lists.
--     held               a copy of that store: node 1's memory begins with 11, 12, 13, 21, 22, 31, 32, 33, 34, so that the last
--                        segments of the three clusters hold 11 to 13, 21 and 22, and 31 to 34
--     only, one, counts, buffers    a reply with a number alone, with a handle, with a handle and a count, and with a number, a
--                        length and the buffer
--     Answered, tells    a call and its whole reply
--     answered           the calls and their replies
--     cluster w a b gs   an active record: width w, sixteen bytes a, sixteen bytes b, the segments gs
--     none               an inactive record: all of it is zero and absent
--     at b n, frozen b n, no k    a segment of n bytes at base b, one that is frozen, and k absent ones
--     Leaving, leaves    a call, the number of a record and what it leaves of it
--     left               the calls and what they leave
--     widths             the widths of the thirty-two records after call 1 has made a cluster of sixteen
--     WidthsAnswered     they get these replies and leave these records, each on that copy
-- Assumes nothing.
use Rattle.std.specs.Prelude.{◌≡◌, ℕ, true, false, List, [], ◌∷◌, ◌++◌, map, replicate}
use Rattle.store.specs.Places.{None, present_at}
use Rattle.store.specs.declared.Segment.{Segment}
use Rattle.store.specs.declared.Cluster.{Cluster}
use Rattle.store.specs.Records.{cluster_at}
use Rattle.calls.specs.Calls.{Copy, Call, making_cluster, deleting_cluster, making_segment, deleting_segment, reading}
use Rattle.calls.specs.Calls.{writing, weakening_by, reducing, renewing, freezing, joining, validating, looking}
use Rattle.calls.specs.Steps.{Reply, step}
use Rattle.calls.specs.Literals.{sixteen, handle, primary, small, large, told, shows}
use Rattle.calls.specs.Literals as literal
use Rattle.calls.specs.WidthCases.{folded, mixed, short, middle, long}

abbrev pub held : Copy
held =
    record {
      store = mixed;
      memory =
          replicate 4096 0 ++ (11 ∷ 12 ∷ 13 ∷ 21 ∷ 22 ∷ 31 ∷ 32 ∷ 33 ∷ 34 ∷ replicate 12279 0);
    }

-- ---- replies

pub record Answered : Type 0 where
  pub call : Call
  pub reply : Reply

abbrev tells : Call → Reply → Answered
tells x r = record { call = x; reply = r }

abbrev only : ℕ → Reply
only n = told n literal.none literal.none 0 0 []

abbrev one : List ℕ → Reply
one h = told 0 h literal.none 0 0 []

abbrev counts : List ℕ → ℕ → Reply
counts h n = told 0 h literal.none n 0 []

abbrev buffers : ℕ → ℕ → List ℕ → Reply
buffers n l bs = told n literal.none literal.none 0 l bs

abbrev pub answered : List Answered
answered =
    -- 1: handles of 21, 23 and 27 bytes
    tells (making_cluster 1 3 4 (sixteen 9) (sixteen 10)) (told 0 (small 1 3 9) (small 1 3 10) 0 0 [])
    ∷ tells (making_cluster 1 3 8 (sixteen 9) (sixteen 10)) (told 0 (primary 1 3 9) (primary 1 3 10) 0 0 [])
    ∷ tells (making_cluster 1 3 16 (sixteen 9) (sixteen 10)) (told 0 (large 1 3 9) (large 1 3 10) 0 0 [])
    ∷ tells (making_cluster 1 3 9 (sixteen 9) (sixteen 10)) (only 3)
    -- 2, 3, 4
    ∷ tells (deleting_cluster 1 (small 1 2 4)) (only 0)
    ∷ tells (deleting_cluster 1 (large 1 5 8)) (only 0)
    ∷ tells (making_segment 1 2 2 (small 1 2 4)) (only 0)
    ∷ tells (making_segment 1 14 2 (large 1 5 8)) (only 0)
    ∷ tells (deleting_segment 1 3 (small 1 2 4)) (only 0)
    ∷ tells (deleting_segment 1 15 (large 1 5 8)) (only 0)
    -- 5, 6
    ∷ tells (reading 3 (small 1 2 3) (1 ∷ 2 ∷ 3 ∷ 4 ∷ [])) (buffers 0 3 (11 ∷ 12 ∷ 13 ∷ 4 ∷ []))
    ∷ tells (reading 15 (long 5 135 128 0) (1 ∷ 2 ∷ 3 ∷ 4 ∷ 5 ∷ []))
    (buffers 0 4 (31 ∷ 32 ∷ 33 ∷ 34 ∷ 5 ∷ []))
    ∷ tells (writing 3 (short 2 12 248) (1 ∷ 2 ∷ 3 ∷ [])) (buffers 0 0 (1 ∷ 2 ∷ 3 ∷ []))
    ∷ tells (writing 15 (large 1 5 8) (1 ∷ 2 ∷ 3 ∷ 4 ∷ [])) (buffers 0 0 (1 ∷ 2 ∷ 3 ∷ 4 ∷ []))
    -- 7: bits of the mask at or above the width do not count; the second subselector of 21 bytes is the high half
    ∷ tells (weakening_by 2 (small 1 2 3)) (counts (short 2 5 242) 1)
    ∷ tells (weakening_by 65522 (small 1 2 3)) (counts (short 2 5 242) 1)
    ∷ tells (weakening_by 18 (small 1 2 3)) (counts (short 2 5 242) 1)
    ∷ tells (weakening_by 15 (small 1 2 3)) (counts (small 1 2 3) 4)
    ∷ tells (weakening_by 65535 (small 1 2 3)) (counts (small 1 2 3) 4)
    ∷ tells (weakening_by 244 (short 2 9 246)) (counts (short 2 22 214) 1)
    ∷ tells (weakening_by 65328 (primary 1 4 5)) (counts (middle 4 53 48) 2)
    ∷ tells (weakening_by 65535 (large 1 5 7)) (counts (large 1 5 7) 16)
    ∷ tells (weakening_by 32769 (large 1 5 7)) (counts (long 5 136 128 1) 2)
    ∷ tells (weakening_by 65280 (large 1 5 7)) (counts (long 5 6 255 0) 8)
    ∷ tells (weakening_by 32768 (long 5 136 128 1))
    (counts (handle 1 5 133 (128 ∷ 1 ∷ 255 ∷ 254 ∷ 255 ∷ 255 ∷ 255 ∷ 255 ∷ [])) 1)
    -- 8: what two subselectors reference in the first alone
    ∷ tells (reducing 1 (short 2 22 214)) (one (short 2 7 244))
    ∷ tells (reducing 2 (small 1 2 4)) (one (small 1 2 4))
    ∷ tells (reducing 1 (handle 1 5 133 (128 ∷ 1 ∷ 255 ∷ 254 ∷ 255 ∷ 255 ∷ 255 ∷ 255 ∷ []))) (one (long 5 135 128 0))
    ∷ tells (reducing 2 (large 1 5 8)) (one (large 1 5 8))
    -- 9
    ∷ tells (renewing 2 (small 1 2 4) (sixteen 9)) (one (small 1 2 9))
    ∷ tells (renewing 1 (large 1 5 7) (sixteen 9)) (one (large 1 5 9))
    -- 10
    ∷ tells (freezing 1 3 (small 1 2 4)) (only 0)
    ∷ tells (freezing 1 15 (large 1 5 8)) (only 0)
    -- 11: of segments 0 and 3, and 0 and 15, either way round; of two that overlap
    ∷ tells (joining 1 (short 2 4 241) (short 2 11 248)) (one (short 2 12 249))
    ∷ tells (joining 2 (short 2 12 248) (short 2 5 241)) (one (short 2 13 249))
    ∷ tells (joining 1 (short 2 22 214) (short 2 9 246)) (one (short 2 9 246))
    ∷ tells (joining 1 (long 5 8 0 1) (long 5 135 128 0)) (one (long 5 136 128 1))
    ∷ tells (joining 2 (long 5 136 128 0) (long 5 9 0 1)) (one (long 5 137 128 1))
    ∷ tells (joining 1 (short 2 10 247) (short 2 11 248)) (only 23)
    ∷ tells (joining 1 (long 5 6 0 255) (long 5 6 255 0)) (only 23)
    -- validation, looks
    ∷ tells (validating 1 (short 2 22 214)) (only 0)
    ∷ tells (validating 2 (large 1 5 8)) (only 0)
    ∷ tells (looking 1 3 (short 2 11 248)) (shows 0 (11 ∷ 12 ∷ 13 ∷ []))
    ∷ tells (looking 1 15 (large 1 5 7)) (shows 0 (31 ∷ 32 ∷ 33 ∷ 34 ∷ []))
    -- 25, in either place: no handle, and the buffer as it was
    ∷ tells (reading 3 [] (1 ∷ 2 ∷ 3 ∷ [])) (buffers 25 0 (1 ∷ 2 ∷ 3 ∷ []))
    ∷ tells (reading 3 (primary 1 2 3) (1 ∷ 2 ∷ 3 ∷ [])) (buffers 25 0 (1 ∷ 2 ∷ 3 ∷ []))
    ∷ tells (weakening_by 1 []) (only 25)
    ∷ tells (reducing 1 (large 1 2 3)) (only 25)
    ∷ tells (renewing 1 (small 1 5 7) (sixteen 9)) (only 25)
    ∷ tells (joining 1 (short 2 4 241) (middle 2 11 8)) (only 25)
    ∷ tells (looking 1 3 (primary 1 2 3)) (shows 25 [])
    ∷ []

-- ---- records

abbrev cluster : ℕ → ℕ → ℕ → List Segment → Cluster
cluster w a b gs = record { active = true; width = w; read = sixteen a; write = sixteen b; segments = gs }

abbrev no : ℕ → List Segment
no k = replicate k (record { place = None; frozen = false })

abbrev none : Cluster
none = record { active = false; width = 0; read = sixteen 0; write = sixteen 0; segments = no 16 }

abbrev at : ℕ → ℕ → Segment
at b n = record { place = present_at b n; frozen = false }

abbrev frozen : ℕ → ℕ → Segment
frozen b n = record { place = present_at b n; frozen = true }

pub record Leaving : Type 0 where
  pub call : Call
  pub number : ℕ
  pub cluster : Cluster

abbrev leaves : Call → ℕ → Cluster → Leaving
leaves x n c = record { call = x; number = n; cluster = c }

abbrev pub left : List Leaving
left =
    leaves (making_cluster 1 3 4 (sixteen 9) (sixteen 10)) 11 (cluster 4 9 10 (no 16))
    ∷ leaves (making_cluster 1 3 8 (sixteen 9) (sixteen 10)) 11 (cluster 8 9 10 (no 16))
    ∷ leaves (making_cluster 1 3 16 (sixteen 9) (sixteen 10)) 11 (cluster 16 9 10 (no 16))
    ∷ leaves (making_cluster 1 3 12 (sixteen 9) (sixteen 10)) 11 none
    ∷ leaves (deleting_cluster 1 (small 1 2 4)) 10 none
    ∷ leaves (deleting_cluster 1 (large 1 5 8)) 13 none
    -- the first base that is free is 9
    ∷ leaves (making_segment 1 2 2 (small 1 2 4)) 10 (cluster 4 3 4 (no 2 ++ (at 9 2 ∷ at 0 3 ∷ no 12)))
    ∷ leaves (making_segment 1 14 2 (large 1 5 8)) 13 (cluster 16 7 8 (no 14 ++ (at 9 2 ∷ at 5 4 ∷ [])))
    ∷ leaves (deleting_segment 1 3 (small 1 2 4)) 10 (cluster 4 3 4 (no 16))
    ∷ leaves (deleting_segment 1 15 (large 1 5 8)) 13 (cluster 16 7 8 (no 16))
    ∷ leaves (renewing 2 (small 1 2 4) (sixteen 9)) 10 (cluster 4 3 9 (no 3 ++ (at 0 3 ∷ no 12)))
    ∷ leaves (renewing 1 (large 1 5 7) (sixteen 9)) 13 (cluster 16 9 8 (no 15 ++ (at 5 4 ∷ [])))
    ∷ leaves (freezing 1 3 (small 1 2 4)) 10 (cluster 4 3 4 (no 3 ++ (frozen 0 3 ∷ no 12)))
    ∷ leaves (freezing 1 15 (large 1 5 8)) 13 (cluster 16 7 8 (no 15 ++ (frozen 5 4 ∷ [])))
    ∷ leaves (joining 1 (long 5 8 0 1) (long 5 135 128 0)) 13 (cluster 16 7 8 (no 15 ++ (at 5 4 ∷ [])))
    ∷ []

abbrev pub widths : List ℕ
widths = replicate 10 0 ++ (4 ∷ 16 ∷ 8 ∷ 16 ∷ replicate 18 0)

pub record WidthsAnswered : Type 0 where
  pub replies : map (λ (a : Answered). (step folded a.call held).reply) answered
      ≡ map (λ (a : Answered). a.reply) answered
  pub records : map (λ (l : Leaving). cluster_at (step folded l.call held).copy.store l.number) left
      ≡ map (λ (l : Leaving). l.cluster) left
  pub widths : map (λ (c : Cluster). c.width)
      (step folded (making_cluster 1 3 16 (sixteen 9) (sixteen 10)) held).copy.store.clusters
      ≡ widths
