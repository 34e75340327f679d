-- Document 01, "The calls" and "The handle": calls in which passwords go in or out, done and refused, with passwords of which
-- no two bytes are equal, and whole replies, records and bytes of the memory written out.
--     turned             a conversion in which every byte of the password, its place, the parameter and the name count: the
--                        password turned by one byte, the parameter and the number of the cluster added to its last byte
--     from n             sixteen bytes from n on, each greater by one than the one before
--     after n z          fifteen bytes from n on, and z: what `turned` makes of `from (n - 1)`
--     twice n y z        fourteen bytes from n on, y and z: what it makes of that
--     back n             sixteen bytes down from n
--     bytes l p s        the bytes of a handle of node 2 and local number l: the password p, the selector's bytes s
--     held               a copy: cluster 5 of node 2 has the width 8, the passwords from 1 and from 17 on, and one segment, 4,
--                        of the three bytes 201 to 203 at base 7; no two bytes about it are equal
--     Answered, answered    calls and their whole replies
--     Leaving, left         calls and what they leave of a record
--     written            what a write leaves of the memory, about the segment
--     DistinctAnswered   they get these replies and leave these records and bytes, each on that copy
-- Assumes nothing.
use Rattle.std.specs.Prelude.{◌≡◌, ℕ, zero, suc, ◌+◌, ◌*◌, ◌-◌, true, false, List, [], ◌∷◌, ◌++◌, map, get_or, take, drop, replicate}
use Rattle.handle.specs.Handles.{Name}
use Rattle.store.specs.Places.{None, present_at}
use Rattle.store.specs.declared.Segment.{Segment}
use Rattle.store.specs.declared.Cluster.{Cluster}
use Rattle.store.specs.declared.Store.{Store}
use Rattle.store.specs.Records.{cluster_at}
use Rattle.calls.specs.Calls.{Copy, Call, making_cluster, reading, writing, weakening_by, reducing, renewing, joining}
use Rattle.calls.specs.Calls.{validating, looking}
use Rattle.calls.specs.Steps.{Reply, step}
use Rattle.calls.specs.Literals.{told, shows}
use Rattle.calls.specs.Literals as literal

abbrev pub turned : Name → List ℕ → ℕ → List ℕ
turned n p c = drop 1 p ++ ((get_or p 0 0 + c + n.node * 8 + n.local) ∷ [])

-- ---- passwords and handles

abbrev upward : ℕ → ℕ → List ℕ
upward zero n = []
upward (suc k) n = n ∷ upward k (suc n)

abbrev from : ℕ → List ℕ
from n = upward 16 n

abbrev after : ℕ → ℕ → List ℕ
after n z = upward 15 n ++ (z ∷ [])

abbrev twice : ℕ → ℕ → ℕ → List ℕ
twice n y z = upward 14 n ++ (y ∷ z ∷ [])

abbrev downward : ℕ → ℕ → List ℕ
downward zero n = []
downward (suc k) n = n ∷ downward k (n - 1)

abbrev back : ℕ → List ℕ
back n = downward 16 n

abbrev bytes : ℕ → List ℕ → List ℕ → List ℕ
bytes l p s = 0 ∷ 2 ∷ l ∷ (p ++ s)

abbrev flat : ℕ → List ℕ
flat k = replicate k 255

-- the two primary handles; one with a subselector that is not flat, and with two
abbrev reader : List ℕ
reader = bytes 5 (from 1) (flat 4)

abbrev writer : List ℕ
writer = bytes 5 (from 17) (flat 4)

abbrev weak : List ℕ → ℕ → List ℕ
weak p s = bytes 5 p (s ∷ flat 3)

abbrev weaker : List ℕ → ℕ → ℕ → List ℕ
weaker p s r = bytes 5 p (s ∷ r ∷ flat 2)

-- ---- the copy

abbrev no : ℕ → List Segment
no k = replicate k (record { place = None; frozen = false })

abbrev cluster : ℕ → List ℕ → List ℕ → List Segment → Cluster
cluster w p q gs = record { active = true; width = w; read = p; write = q; segments = gs }

abbrev none : Cluster
none = record { active = false; width = 0; read = replicate 16 0; write = replicate 16 0; segments = no 16 }

abbrev own : List Segment
own = no 4 ++ (record { place = present_at 7 3; frozen = false } ∷ no 11)

abbrev pub single : Store
single = record { clusters = replicate 21 none ++ (cluster 8 (from 1) (from 17) own ∷ replicate 10 none) }

abbrev pub held : Copy
held =
    record {
      store = single;
      memory =
          replicate 8192 0
          ++ (upward 7 11 ++ (201 ∷ 202 ∷ 203 ∷ 21 ∷ replicate 8181 0));
    }

-- ---- replies

pub record Answered : Type 0 where
  pub call : Call
  pub reply : Reply

abbrev tells : Call → Reply → Answered
tells x r = record { call = x; reply = r }

abbrev only : ℕ → Reply
only n = told n literal.none literal.none 0 0 []

abbrev one : List ℕ → Reply
one h = told 0 h literal.none 0 0 []

abbrev pub answered : List Answered
answered =
    -- 1: the first password in the first handle, the second in the second, at each width
    tells (making_cluster 2 6 4 (from 33) (from 49)) (told 0 (bytes 6 (from 33) (flat 2)) (bytes 6 (from 49) (flat 2)) 0 0 [])
    ∷ tells (making_cluster 2 6 8 (from 33) (from 49)) (told 0 (bytes 6 (from 33) (flat 4)) (bytes 6 (from 49) (flat 4)) 0 0 [])
    ∷ tells (making_cluster 2 6 16 (from 33) (from 49)) (told 0 (bytes 6 (from 33) (flat 8)) (bytes 6 (from 49) (flat 8)) 0 0 [])
    -- 9
    ∷ tells (renewing 1 reader (from 33)) (one (bytes 5 (from 33) (flat 4)))
    ∷ tells (renewing 2 writer (from 33)) (one (bytes 5 (from 33) (flat 4)))
    ∷ tells (renewing 1 reader (from 1)) (only 12)
    ∷ tells (renewing 1 reader (back 16)) (one (bytes 5 (back 16) (flat 4)))
    ∷ tells (renewing 1 reader (from 17)) (one (bytes 5 (from 17) (flat 4)))
    -- 7: segments 4 and 5, and of these 4
    ∷ tells (weakening_by 48 reader) (told 0 (weak (after 2 70) 48) literal.none 2 0 [])
    ∷ tells (weakening_by 16 (weak (after 2 70) 48)) (told 0 (weaker (twice 3 70 246) 48 223) literal.none 1 0 [])
    -- 8: from the password of the mode
    ∷ tells (reducing 1 (weaker (twice 3 70 246) 48 223)) (one (weak (after 2 38) 16))
    ∷ tells (reducing 2 (weaker (twice 19 86 57) 48 17)) (only 9)
    ∷ tells (reducing 2 (weaker (twice 19 86 56) 48 17)) (one (weak (after 18 54) 16))
    -- 11
    ∷ tells (joining 1 (weak (after 2 70) 48) (weak (after 2 25) 3)) (one (weak (after 2 73) 51))
    ∷ tells (joining 2 (weak (after 18 41) 3) (weak (after 18 86) 48)) (one (weak (after 18 89) 51))
    -- validation: the chain by subselector 0 first; passwords turned round, or of the other mode, open nothing
    ∷ tells (validating 1 reader) (only 0)
    ∷ tells (validating 2 writer) (only 0)
    ∷ tells (validating 1 writer) (only 9)
    ∷ tells (validating 1 (bytes 5 (back 16) (flat 4))) (only 9)
    ∷ tells (validating 1 (weaker (twice 3 70 246) 48 223)) (only 0)
    ∷ tells (validating 1 (weaker (twice 3 245 71) 48 223)) (only 9)
    -- 5, 6 and a look
    ∷ tells (reading 4 (weaker (twice 3 70 246) 48 223) (upward 5 61)) (told 0 literal.none literal.none 0 3 (201 ∷ 202 ∷ 203 ∷ upward 2 64))
    ∷ tells (writing 4 (weak (after 18 54) 16) (upward 5 71)) (told 0 literal.none literal.none 0 0 (upward 5 71))
    ∷ tells (looking 2 4 (weak (after 2 38) 16)) (shows 0 (201 ∷ 202 ∷ 203 ∷ []))
    ∷ []

-- ---- what is left

pub record Leaving : Type 0 where
  pub call : Call
  pub number : ℕ
  pub cluster : Cluster

abbrev leaves : Call → ℕ → Cluster → Leaving
leaves x n c = record { call = x; number = n; cluster = c }

abbrev pub left : List Leaving
left =
    leaves (making_cluster 2 6 4 (from 33) (from 49)) 22 (cluster 4 (from 33) (from 49) (no 16))
    ∷ leaves (making_cluster 2 6 16 (from 33) (from 49)) 22 (cluster 16 (from 33) (from 49) (no 16))
    ∷ leaves (renewing 1 reader (from 33)) 21 (cluster 8 (from 33) (from 17) own)
    ∷ leaves (renewing 2 writer (from 33)) 21 (cluster 8 (from 1) (from 33) own)
    ∷ leaves (renewing 1 reader (back 16)) 21 (cluster 8 (back 16) (from 17) own)
    ∷ []

abbrev pub written : List ℕ
written = 0 ∷ 0 ∷ (upward 7 11 ++ (71 ∷ 72 ∷ 73 ∷ 21 ∷ 0 ∷ 0 ∷ []))

pub record DistinctAnswered : Type 0 where
  pub replies : map (λ (a : Answered). (step turned a.call held).reply) answered
      ≡ map (λ (a : Answered). a.reply) answered
  pub records : map (λ (l : Leaving). cluster_at (step turned l.call held).copy.store l.number) left
      ≡ map (λ (l : Leaving). l.cluster) left
  pub bytes : take 15 (drop 8190 (step turned (writing 4 (weak (after 18 54) 16) (upward 5 71)) held).copy.memory) ≡ written
