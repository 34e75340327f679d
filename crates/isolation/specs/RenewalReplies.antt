-- Document 02, §6, as computed lists, from the starting store; handles and replies are written out.
--     weak b                    a handle of node 1 and local number 2 that references segment 5 alone: its password is
--                               sixteen bytes b and 32, the parameter that keeps segment 5
--     renew_calls, renew_replies  12 for the password of the mode named, in each mode. The read password as a new write
--                               password is taken: then one handle is good for every kind of call, weakened too, and in
--                               both modes, and 12 is still for the own password. Another password ends it; the write
--                               password as a new read password is taken as well. Two equal passwords for a new cluster
--                               are still twins. So it is in a cluster of four and in one of sixteen, where handles of
--                               another width get 25
--     BothDone                  they are the replies, by the conversion of the numbers' lists, and both passwords of the
--                               record that is left are sixteen bytes 6
--     alone r w                 the copy with one cluster, node 1 and local number 2, of the passwords sixteen r and w
--     tries, answers            new passwords for one mode of it, among them both that the other mode has in the copies
--                               below; and the replies
--     Guessed                   two copies that differ in the write password alone, and two that differ in the read password
--                               alone, are what the theorem speaks of; by every conversion these are the replies
-- Assumes nothing.
use Rattle.std.specs.Prelude.{◌≡◌, ℕ, ◌+◌, true, false, List, [], ◌∷◌, replicate}
use Rattle.handle.specs.Handles.{Name}
use Rattle.store.specs.Places.{None}
use Rattle.store.specs.Records.{starting_store, cluster_at, put_record}
use Rattle.calls.specs.Calls.{Copy, start, Call, making_cluster, deleting_cluster, making_segment, deleting_segment, reading}
use Rattle.calls.specs.Calls.{writing, reducing, renewing, freezing, joining, validating, looking}
use Rattle.calls.specs.Steps.{Reply, Ran, run}
use Rattle.calls.specs.Cases.{added}
use Rattle.calls.specs.Literals.{sixteen, handle, primary, small, large, none, told, shows}
use Rattle.isolation.specs.Renewals.{SameButOther, Guess, guesses}

abbrev weak : ℕ → List ℕ
weak b = handle 1 2 (b + 32) (32 ∷ 255 ∷ 255 ∷ 255 ∷ [])

abbrev pub renew_calls : List Call
renew_calls =
    making_cluster 1 2 8 (sixteen 3) (sixteen 4)
    ∷ making_segment 1 5 3 (primary 1 2 4)
    ∷ renewing 1 (primary 1 2 3) (sixteen 3)
    ∷ renewing 2 (primary 1 2 4) (sixteen 4)
    ∷ validating 2 (primary 1 2 3)
    -- the read password for writing too
    ∷ renewing 2 (primary 1 2 4) (sixteen 3)
    ∷ validating 1 (primary 1 2 3)
    ∷ validating 2 (primary 1 2 3)
    ∷ validating 2 (primary 1 2 4)
    ∷ writing 5 (primary 1 2 3) (7 ∷ 8 ∷ 9 ∷ [])
    ∷ reading 5 (primary 1 2 3) (0 ∷ 0 ∷ 0 ∷ [])
    ∷ writing 5 (weak 3) (4 ∷ 5 ∷ 6 ∷ [])
    ∷ reading 5 (weak 3) (0 ∷ 0 ∷ 0 ∷ [])
    ∷ reducing 1 (weak 3)
    ∷ reducing 2 (weak 3)
    ∷ joining 1 (weak 3) (weak 3)
    ∷ joining 2 (weak 3) (weak 3)
    ∷ making_segment 1 6 2 (primary 1 2 3)
    ∷ deleting_segment 1 6 (primary 1 2 3)
    ∷ freezing 1 5 (primary 1 2 3)
    ∷ looking 1 5 (primary 1 2 3)
    -- the own password, while the two are equal
    ∷ renewing 1 (primary 1 2 3) (sixteen 3)
    ∷ renewing 2 (primary 1 2 3) (sixteen 3)
    -- two again
    ∷ renewing 2 (primary 1 2 3) (sixteen 6)
    ∷ validating 1 (primary 1 2 3)
    ∷ validating 2 (primary 1 2 3)
    -- the write password for reading too
    ∷ renewing 1 (primary 1 2 3) (sixteen 6)
    ∷ validating 1 (primary 1 2 3)
    ∷ validating 1 (primary 1 2 6)
    ∷ validating 2 (primary 1 2 6)
    -- a cluster is deleted with such a handle, and is not made with two equal passwords
    ∷ making_cluster 1 3 8 (sixteen 6) (sixteen 7)
    ∷ renewing 1 (primary 1 3 6) (sixteen 7)
    ∷ deleting_cluster 1 (primary 1 3 7)
    ∷ making_cluster 1 3 8 (sixteen 6) (sixteen 6)
    -- a cluster of four, and one of sixteen
    ∷ making_cluster 1 4 4 (sixteen 6) (sixteen 7)
    ∷ renewing 2 (small 1 4 7) (sixteen 7)
    ∷ renewing 2 (small 1 4 7) (sixteen 6)
    ∷ validating 1 (small 1 4 6)
    ∷ validating 2 (small 1 4 6)
    ∷ validating 2 (small 1 4 7)
    ∷ renewing 1 (primary 1 4 6) (sixteen 8)
    ∷ making_cluster 1 5 16 (sixteen 6) (sixteen 7)
    ∷ renewing 1 (large 1 5 6) (sixteen 6)
    ∷ renewing 1 (large 1 5 6) (sixteen 7)
    ∷ validating 1 (large 1 5 7)
    ∷ validating 2 (large 1 5 7)
    ∷ validating 1 (large 1 5 6)
    ∷ renewing 2 (small 1 5 7) (sixteen 8)
    ∷ []

abbrev pub renew_replies : List Reply
renew_replies =
    told 0 (primary 1 2 3) (primary 1 2 4) 0 0 []
    ∷ told 0 none none 0 0 []
    ∷ told 12 none none 0 0 []
    ∷ told 12 none none 0 0 []
    ∷ told 9 none none 0 0 []
    ∷ told 0 (primary 1 2 3) none 0 0 []
    ∷ told 0 none none 0 0 []
    ∷ told 0 none none 0 0 []
    ∷ told 9 none none 0 0 []
    ∷ told 0 none none 0 0 (7 ∷ 8 ∷ 9 ∷ [])
    ∷ told 0 none none 0 3 (7 ∷ 8 ∷ 9 ∷ [])
    ∷ told 0 none none 0 0 (4 ∷ 5 ∷ 6 ∷ [])
    ∷ told 0 none none 0 3 (4 ∷ 5 ∷ 6 ∷ [])
    ∷ told 0 (weak 3) none 0 0 []
    ∷ told 0 (weak 3) none 0 0 []
    ∷ told 0 (weak 3) none 0 0 []
    ∷ told 0 (weak 3) none 0 0 []
    ∷ told 0 none none 0 0 []
    ∷ told 0 none none 0 0 []
    ∷ told 0 none none 0 0 []
    ∷ shows 0 (4 ∷ 5 ∷ 6 ∷ [])
    ∷ told 12 none none 0 0 []
    ∷ told 12 none none 0 0 []
    ∷ told 0 (primary 1 2 6) none 0 0 []
    ∷ told 0 none none 0 0 []
    ∷ told 9 none none 0 0 []
    ∷ told 0 (primary 1 2 6) none 0 0 []
    ∷ told 9 none none 0 0 []
    ∷ told 0 none none 0 0 []
    ∷ told 0 none none 0 0 []
    ∷ told 0 (primary 1 3 6) (primary 1 3 7) 0 0 []
    ∷ told 0 (primary 1 3 7) none 0 0 []
    ∷ told 0 none none 0 0 []
    ∷ told 7 none none 0 0 []
    -- a cluster of four, and one of sixteen
    ∷ told 0 (small 1 4 6) (small 1 4 7) 0 0 []
    ∷ told 12 none none 0 0 []
    ∷ told 0 (small 1 4 6) none 0 0 []
    ∷ told 0 none none 0 0 []
    ∷ told 0 none none 0 0 []
    ∷ told 9 none none 0 0 []
    ∷ told 25 none none 0 0 []
    ∷ told 0 (large 1 5 6) (large 1 5 7) 0 0 []
    ∷ told 12 none none 0 0 []
    ∷ told 0 (large 1 5 7) none 0 0 []
    ∷ told 0 none none 0 0 []
    ∷ told 0 none none 0 0 []
    ∷ told 9 none none 0 0 []
    ∷ told 25 none none 0 0 []
    ∷ []

pub record Seen : Type 0 where
  pub replies : List Reply
  pub read : List ℕ
  pub write : List ℕ

-- record 10 is that of node 1 and local number 2
abbrev pub seen : Ran → Seen
seen r =
    record {
      replies = r.replies;
      read = (cluster_at r.copy.store 10).read;
      write = (cluster_at r.copy.store 10).write;
    }

abbrev pub BothDone : Type 0
BothDone = seen (run added renew_calls start) ≡ record { replies = renew_replies; read = sixteen 6; write = sixteen 6 }

-- ---- two copies that differ in one password

abbrev pub alone : ℕ → ℕ → Copy
alone r w =
    record {
      store =
          put_record starting_store 10
          (record {
            active = true;
            width = 8;
            read = sixteen r;
            write = sixteen w;
            segments = replicate 16 (record { place = None; frozen = false });
          });
      memory = start.memory;
    }

abbrev try : ℕ → ℕ → Guess
try b n = record { handle = primary 1 2 b; password = sixteen n }

abbrev pub tries : List Guess
tries = try 3 3 ∷ try 3 4 ∷ try 4 5 ∷ try 5 5 ∷ try 5 6 ∷ []

abbrev pub answers : List Reply
answers =
    told 12 none none 0 0 []
    ∷ told 0 (primary 1 2 4) none 0 0 []
    ∷ told 0 (primary 1 2 5) none 0 0 []
    ∷ told 12 none none 0 0 []
    ∷ told 0 (primary 1 2 6) none 0 0 []
    ∷ []

pub record Guessed (f : Name → List ℕ → ℕ → List ℕ) : Type 0 where
  pub reading : SameButOther 1 10 (alone 3 4) (alone 3 5)
  pub writing : SameButOther 2 10 (alone 4 3) (alone 5 3)
  pub told : (run f (guesses 1 tries) (alone 3 4)).replies ≡ answers
  pub told_other : (run f (guesses 1 tries) (alone 3 5)).replies ≡ answers
  pub written : (run f (guesses 2 tries) (alone 4 3)).replies ≡ answers
  pub written_other : (run f (guesses 2 tries) (alone 5 3)).replies ≡ answers
