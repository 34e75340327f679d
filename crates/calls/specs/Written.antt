-- Document 01, "The calls", the column "Done, it gives and leaves": the whole reply of a call of every kind, done, and of
-- some refused, written out; and the parts that looks tell. The conversion and the store are those of the numbers' lists.
--     held               a copy of that store: its segment of three bytes, the first of node 1, has 7, 8, 9
--     Answered, tells    a call and its whole reply
--     answered           the calls and their replies
--     EachAnswered       they get these replies, each on that copy
--     telling n a b      what a look tells: its number, and the part from a to b
--     PartsTold          the parts of looks on that store, done and refused, and on that of the bounds, where the segment is
--                        the last three bytes of the memory
-- Assumes nothing.
use Rattle.std.specs.Prelude.{◌≡◌, ℕ, List, [], ◌∷◌, ◌++◌, map, replicate}
use Rattle.calls.specs.Looks.{Looked}
use Rattle.calls.specs.Calls.{Copy, Call, making_cluster, deleting_cluster, making_segment, deleting_segment, reading}
use Rattle.calls.specs.Calls.{writing, weakening_by, reducing, renewing, freezing, joining, validating, looking}
use Rattle.calls.specs.Steps.{Reply, step}
use Rattle.calls.specs.Looks.{looked}
use Rattle.calls.specs.Cases.{added, sample}
use Rattle.calls.specs.Bounds.{edge}
use Rattle.calls.specs.Literals.{sixteen, handle, primary, none, told, shows}

abbrev pub held : Copy
held = record { store = sample; memory = replicate 4096 0 ++ (7 ∷ 8 ∷ 9 ∷ replicate 12285 0) }

pub record Answered : Type 0 where
  pub call : Call
  pub reply : Reply

abbrev tells : Call → Reply → Answered
tells x r = record { call = x; reply = r }

abbrev pub answered : List Answered
answered =
    tells (making_cluster 1 3 8 (sixteen 5) (sixteen 6)) (told 0 (primary 1 3 5) (primary 1 3 6) 0 0 [])
    ∷ tells (deleting_cluster 1 (primary 1 2 4)) (told 0 none none 0 0 [])
    ∷ tells (making_segment 1 6 2 (primary 1 2 4)) (told 0 none none 0 0 [])
    ∷ tells (deleting_segment 1 5 (primary 1 2 4)) (told 0 none none 0 0 [])
    ∷ tells (reading 5 (primary 1 2 3) (1 ∷ 2 ∷ 3 ∷ 4 ∷ [])) (told 0 none none 0 3 (7 ∷ 8 ∷ 9 ∷ 4 ∷ []))
    ∷ tells (writing 5 (primary 1 2 4) (1 ∷ 2 ∷ 3 ∷ 4 ∷ [])) (told 0 none none 0 0 (1 ∷ 2 ∷ 3 ∷ 4 ∷ []))
    ∷ tells (weakening_by 48 (primary 1 2 3)) (told 0 (handle 1 2 51 (48 ∷ 255 ∷ 255 ∷ 255 ∷ [])) none 2 0 [])
    ∷ tells (reducing 1 (handle 1 2 67 (48 ∷ 16 ∷ 255 ∷ 255 ∷ [])))
    (told 0 (handle 1 2 19 (16 ∷ 255 ∷ 255 ∷ 255 ∷ [])) none 0 0 [])
    ∷ tells (reducing 1 (handle 1 2 51 (16 ∷ 32 ∷ 255 ∷ 255 ∷ [])))
    (told 0 (handle 1 2 3 (0 ∷ 255 ∷ 255 ∷ 255 ∷ [])) none 0 0 [])
    ∷ tells (renewing 2 (primary 1 2 4) (sixteen 5)) (told 0 (primary 1 2 5) none 0 0 [])
    ∷ tells (freezing 1 5 (primary 1 2 4)) (told 0 none none 0 0 [])
    ∷ tells (freezing 1 6 (primary 1 2 4)) (told 14 none none 0 0 [])
    -- joins: segments 0 to 2 and 3 to 4, either way round, in either mode; two that overlap; one with itself; nothing and
    -- nothing; refused
    ∷ tells (joining 1 (handle 1 2 10 (7 ∷ 255 ∷ 255 ∷ 255 ∷ [])) (handle 1 2 27 (24 ∷ 255 ∷ 255 ∷ 255 ∷ [])))
    (told 0 (handle 1 2 34 (31 ∷ 255 ∷ 255 ∷ 255 ∷ [])) none 0 0 [])
    ∷ tells (joining 1 (handle 1 2 27 (24 ∷ 255 ∷ 255 ∷ 255 ∷ [])) (handle 1 2 10 (7 ∷ 255 ∷ 255 ∷ 255 ∷ [])))
    (told 0 (handle 1 2 34 (31 ∷ 255 ∷ 255 ∷ 255 ∷ [])) none 0 0 [])
    ∷ tells (joining 2 (handle 1 2 11 (7 ∷ 255 ∷ 255 ∷ 255 ∷ [])) (handle 1 2 28 (24 ∷ 255 ∷ 255 ∷ 255 ∷ [])))
    (told 0 (handle 1 2 35 (31 ∷ 255 ∷ 255 ∷ 255 ∷ [])) none 0 0 [])
    ∷ tells (joining 1 (handle 1 2 67 (48 ∷ 16 ∷ 255 ∷ 255 ∷ [])) (handle 1 2 51 (48 ∷ 255 ∷ 255 ∷ 255 ∷ [])))
    (told 0 (handle 1 2 51 (48 ∷ 255 ∷ 255 ∷ 255 ∷ [])) none 0 0 [])
    ∷ tells (joining 1 (handle 1 2 67 (48 ∷ 16 ∷ 255 ∷ 255 ∷ [])) (handle 1 2 67 (48 ∷ 16 ∷ 255 ∷ 255 ∷ [])))
    (told 0 (handle 1 2 19 (16 ∷ 255 ∷ 255 ∷ 255 ∷ [])) none 0 0 [])
    ∷ tells (joining 1 (handle 1 2 51 (16 ∷ 32 ∷ 255 ∷ 255 ∷ [])) (handle 1 2 51 (16 ∷ 32 ∷ 255 ∷ 255 ∷ [])))
    (told 0 (handle 1 2 3 (0 ∷ 255 ∷ 255 ∷ 255 ∷ [])) none 0 0 [])
    ∷ tells (joining 1 (primary 1 2 3) (handle 1 2 10 (7 ∷ 255 ∷ 255 ∷ 255 ∷ []))) (told 23 none none 0 0 [])
    ∷ tells (joining 1 (handle 1 2 10 (7 ∷ 255 ∷ 255 ∷ 255 ∷ [])) (handle 1 3 27 (24 ∷ 255 ∷ 255 ∷ 255 ∷ [])))
    (told 24 none none 0 0 [])
    ∷ tells (validating 2 (primary 1 2 4)) (told 0 none none 0 0 [])
    ∷ tells (validating 1 (handle 1 2 51 (16 ∷ 32 ∷ 255 ∷ 255 ∷ []))) (told 0 none none 0 0 [])
    ∷ tells (reading 5 (primary 1 2 4) (1 ∷ 2 ∷ 3 ∷ 4 ∷ [])) (told 9 none none 0 0 (1 ∷ 2 ∷ 3 ∷ 4 ∷ []))
    ∷ tells (weakening_by 32 (primary 1 2 3)) (told 0 (handle 1 2 35 (32 ∷ 255 ∷ 255 ∷ 255 ∷ [])) none 1 0 [])
    ∷ tells (weakening_by 0 (primary 1 2 3)) (told 21 none none 0 0 [])
    ∷ tells (weakening_by 255 (handle 1 2 51 (16 ∷ 32 ∷ 255 ∷ 255 ∷ []))) (told 21 none none 0 0 [])
    -- looks, done and refused
    ∷ tells (looking 1 5 (primary 1 2 3)) (shows 0 (7 ∷ 8 ∷ 9 ∷ []))
    ∷ tells (looking 1 5 (handle 1 2 35 (32 ∷ 255 ∷ 255 ∷ 255 ∷ []))) (shows 0 (7 ∷ 8 ∷ 9 ∷ []))
    ∷ tells (looking 4 5 (primary 1 2 3)) (shows 2 [])
    ∷ tells (looking 0 5 (primary 1 2 3)) (shows 5 [])
    ∷ tells (looking 1 5 (primary 1 2 4)) (shows 9 [])
    ∷ tells (looking 1 6 (primary 1 2 3)) (shows 14 [])
    ∷ []

abbrev pub EachAnswered : Type 0
EachAnswered =
    map (λ (a : Answered). (step added a.call held).reply) answered ≡ map (λ (a : Answered). a.reply) answered

abbrev pub telling : ℕ → ℕ → ℕ → Looked
telling n a b = record { number = n; part = record { from = a; to = b } }

pub record PartsTold : Type 0 where
  pub done : looked added (looking 1 5 (primary 1 2 3)) sample 16384 ≡ telling 0 4096 4099
  pub elsewhere : looked added (looking 0 5 (primary 1 2 3)) sample 16384 ≡ telling 5 0 0
  pub violated : looked added (looking 1 5 (primary 1 2 4)) sample 16384 ≡ telling 9 0 0
  pub last : looked added (looking 3 7 (primary 3 7 3)) edge 16384 ≡ telling 0 16381 16384
