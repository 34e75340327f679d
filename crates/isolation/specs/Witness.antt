-- Condition 3 is not empty, and it bites. The cluster set apart is local number 2 of node 0, with a segment of four bytes.
-- Handles and answers are written out. No call of the list is left out of condition 3's lists; those with the right handle
-- are, and tell the copies apart.
--     holding_of n i r w b a copy in which its width is n, the four bytes of its segment i are b, and its passwords are sixteen r
--                         and sixteen w
--     holding r w b       such a copy, of width 8, with segment 5
--     one, two            two such copies that differ in all of these
--     right_read, right_look, right_join    a read, a look and a join with the read primary handle of the copy one
--     second_right         a join whose second handle alone is that one; its first does not validate
--     made v l p c        the bytes of the handle of a node and a local number with the password p, whose subselector 0 is c
--     shown v l p c       with the first sixteen bytes of p; the same, where p has sixteen bytes
--     told_places          what the looks among the calls below tell in both copies: the number, and from where to where the
--                         part goes
-- For every conversion f:
--     weak_password c      what the parameter c turns the read password of local number 2 of node 3 into
--     weak_given c, weak_shown c    the handle made, and shown, with that password and that parameter
--     before              each of the eleven calls, validation and a look with a handle of the cluster that does not
--                         validate, all refused, and a weakening of one that does; calls with its passwords in handles of 21,
--                         22 and 27 bytes, refused with 25; each of them but the join done for a
--                         cluster of the same node, a freeze for a second one, which is then not deleted; joins refused
--                         because of the second handle alone, once one that does not validate and once one of the cluster
--                         set apart, because of the first alone, again one of that cluster, and because the union is all eight; and some for a cluster with the same local
--                         number, whose read handle is weakened twice, with looks from its node, one of them with a handle
--                         of the cluster set apart
--     last, last_look      a read and a look with a weakened handle
--     last_join            the two weakened handles joined
--     tries, answers      all these calls, and what both copies answer: answers_before, and answers_after to the last ones
--     Witnessed           the copies and the list meet each hypothesis of condition 3, and the answers are computed
--     Concluded           what condition 3 says of them: the other copy gives these answers and places too; the record
--                         and a byte of the last cluster, record 26, are equal in the end; and each copy has its
--                         passwords and bytes still
--     Bites               the read is done on the copy one and refused with 9 on the other; the look shows the segment's
--                         bytes on the one, and is refused on the other; the join gets as far as 23 on the one, and 9 on
--                         the other; and what is asked of a handle is asked of a join's second handle too
-- Assumes nothing.
use Rattle.std.specs.Prelude.{◌≡◌, ℕ, ◌-◌, ◌<◌, true, List, [], ◌∷◌, ◌++◌, get_or, replicate}
use Rattle.loops.specs.Tabulate.{tabulate}
use Rattle.sizes.specs.Sizes.{memory}
use Rattle.handle.specs.Handles.{Name}
use Rattle.store.specs.Places.{present_at}
use Rattle.store.specs.Records.{starting_store, started, record_of, cluster_at, table_at, put_record, with_place, read_mode}
use Rattle.calls.specs.Calls.{Copy, Call, making_cluster, deleting_cluster, making_segment, deleting_segment, reading}
use Rattle.calls.specs.Calls.{writing, weakening_by, reducing, renewing, freezing, joining, validating, looking}
use Rattle.calls.specs.Numbers.{number}
use Rattle.calls.specs.Steps.{Reply, step, run}
use Rattle.calls.specs.Literals.{sixteen, handle, primary, small, large, none, told, shows}
use Rattle.calls.specs.Looks.{Looked}
use Rattle.calls.specs.Written.{telling}
use Rattle.isolation.specs.Copies.{SixteenBytes, SoundCopy, set_apart, Alike, keyed, AllShut, places}

abbrev pub holding_of : ℕ → ℕ → ℕ → ℕ → ℕ → Copy
holding_of n i r w b =
    record {
      store = put_record starting_store (record_of 0 2) (with_place (started n (sixteen r) (sixteen w)) i (present_at 0 4));
      memory = b ∷ b ∷ b ∷ b ∷ replicate (memory - 4) 0;
    }

abbrev pub holding : ℕ → ℕ → ℕ → Copy
holding = holding_of 8 5

abbrev pub one : Copy
one = holding 17 34 7

abbrev pub two : Copy
two = holding 1 2 9

abbrev pub right_read : Call
right_read = reading 5 (primary 0 2 17) (replicate 6 9)

abbrev pub right_look : Call
right_look = looking 0 5 (primary 0 2 17)

abbrev pub right_join : Call
right_join = joining 1 (primary 0 2 17) (primary 0 2 17)

abbrev pub second_right : Call
second_right = joining 1 (primary 0 2 5) (primary 0 2 17)

-- what a copy that was holding these passwords and bytes has still
pub record Still (c : Copy) (r w b : ℕ) : Type 0 where
  pub read : (cluster_at c.store 2).read ≡ sixteen r
  pub write : (cluster_at c.store 2).write ≡ sixteen w
  pub bytes : (p : ℕ) → p < 4 → get_or c.memory p 0 ≡ b

abbrev pub told_places : List Looked
told_places =
    telling 9 0 0
    ∷ telling 25 0 0
    ∷ telling 0 4 6
    ∷ telling 0 12288 12290
    ∷ telling 5 0 0
    ∷ telling 0 12288 12290
    ∷ []

abbrev pub made : ℕ → ℕ → List ℕ → ℕ → List ℕ
made v l p c = 0 ∷ v ∷ l ∷ (p ++ (c ∷ 255 ∷ 255 ∷ 255 ∷ []))

abbrev pub shown : ℕ → ℕ → List ℕ → ℕ → List ℕ
shown v l p c = made v l (tabulate 16 (λ k. get_or p k 0)) c

module _ (f : Name → List ℕ → ℕ → List ℕ) where
  abbrev weak_password : ℕ → List ℕ
  weak_password c = f (record { node = 3; local = 2 }) (sixteen 3) c

  abbrev pub weak_given : ℕ → List ℕ
  weak_given c = made 3 2 (weak_password c) c

  abbrev pub weak_shown : ℕ → List ℕ
  weak_shown c = shown 3 2 (weak_password c) c

  abbrev pub before : List Call
  before =
      -- the cluster set apart
      making_cluster 0 2 8 (sixteen 3) (sixteen 4)
      ∷ deleting_cluster 0 (primary 0 2 5)
      ∷ making_segment 0 1 4 (primary 0 2 5)
      ∷ deleting_segment 0 5 (primary 0 2 5)
      ∷ reading 5 (primary 0 2 5) (replicate 6 9)
      ∷ writing 5 (primary 0 2 5) (replicate 5 8)
      ∷ weakening_by 0 (handle 0 2 17 (255 ∷ 254 ∷ 255 ∷ 255 ∷ []))
      ∷ weakening_by 255 (primary 0 2 17)
      ∷ reducing 1 (primary 0 2 5)
      ∷ renewing 1 (primary 0 2 5) (sixteen 6)
      ∷ freezing 0 5 (primary 0 2 5)
      ∷ joining 1 (primary 0 2 5) (primary 0 2 6)
      ∷ validating 2 (primary 0 2 5)
      ∷ looking 0 5 (primary 0 2 5)
      -- its passwords, and another width
      ∷ validating 1 (small 0 2 17)
      ∷ reading 3 (small 0 2 17) (9 ∷ [])
      ∷ writing 5 (large 0 2 34) (8 ∷ 8 ∷ 8 ∷ 8 ∷ [])
      ∷ looking 0 5 (large 0 2 17)
      ∷ joining 1 (primary 0 2 5) (large 0 2 17)
      ∷ validating 1 (handle 0 2 17 (255 ∷ 255 ∷ 255 ∷ []))
      -- a cluster of the same node
      ∷ making_cluster 0 3 8 (sixteen 3) (sixteen 4)
      ∷ making_segment 0 7 2 (primary 0 3 4)
      ∷ writing 7 (primary 0 3 4) (5 ∷ 6 ∷ 7 ∷ [])
      ∷ reading 7 (primary 0 3 3) (9 ∷ 9 ∷ 9 ∷ [])
      ∷ looking 0 7 (primary 0 3 3)
      ∷ weakening_by 255 (primary 0 3 3)
      ∷ reducing 2 (primary 0 3 4)
      ∷ joining 1 (primary 0 3 3) (primary 0 3 5)
      ∷ joining 1 (primary 0 3 3) (primary 0 2 5)
      ∷ joining 1 (primary 0 2 5) (primary 0 3 3)
      ∷ joining 2 (primary 0 3 4) (primary 0 3 4)
      ∷ renewing 2 (primary 0 3 4) (sixteen 6)
      ∷ validating 2 (primary 0 3 6)
      ∷ deleting_segment 0 7 (primary 0 3 6)
      ∷ deleting_cluster 0 (primary 0 3 6)
      ∷ making_cluster 0 4 8 (sixteen 3) (sixteen 4)
      ∷ making_segment 0 6 1 (primary 0 4 4)
      ∷ freezing 0 6 (primary 0 4 4)
      ∷ freezing 0 6 (primary 0 4 4)
      ∷ deleting_cluster 0 (primary 0 4 4)
      -- a cluster with the same local number
      ∷ making_cluster 3 2 8 (sixteen 3) (sixteen 4)
      ∷ making_segment 3 7 2 (primary 3 2 4)
      ∷ writing 7 (primary 3 2 4) (8 ∷ 9 ∷ [])
      ∷ looking 3 7 (primary 3 2 3)
      ∷ looking 3 5 (primary 0 2 5)
      ∷ weakening_by 128 (primary 3 2 3)
      ∷ weakening_by 64 (primary 3 2 3)
      ∷ []

  abbrev pub last : Call
  last = reading 7 (weak_shown 128) (1 ∷ 2 ∷ 3 ∷ [])

  abbrev pub last_look : Call
  last_look = looking 3 7 (weak_shown 128)

  abbrev pub last_join : Call
  last_join = joining 1 (weak_shown 128) (weak_shown 64)

  abbrev pub tries : List Call
  tries = before ++ (last ∷ last_look ∷ last_join ∷ [])

  abbrev pub answers_before : List Reply
  answers_before =
      told 6 none none 0 0 []
      ∷ told 9 none none 0 0 []
      ∷ told 9 none none 0 0 []
      ∷ told 9 none none 0 0 []
      ∷ told 9 none none 0 0 (9 ∷ 9 ∷ 9 ∷ 9 ∷ 9 ∷ 9 ∷ [])
      ∷ told 9 none none 0 0 (8 ∷ 8 ∷ 8 ∷ 8 ∷ 8 ∷ [])
      ∷ told 4 none none 0 0 []
      ∷ told 0 (primary 0 2 17) none 8 0 []
      ∷ told 9 none none 0 0 []
      ∷ told 9 none none 0 0 []
      ∷ told 9 none none 0 0 []
      ∷ told 9 none none 0 0 []
      ∷ told 9 none none 0 0 []
      ∷ shows 9 []
      -- its passwords, and another width
      ∷ told 25 none none 0 0 []
      ∷ told 25 none none 0 0 (9 ∷ [])
      ∷ told 25 none none 0 0 (8 ∷ 8 ∷ 8 ∷ 8 ∷ [])
      ∷ shows 25 []
      ∷ told 25 none none 0 0 []
      ∷ told 25 none none 0 0 []
      -- a cluster of the same node
      ∷ told 0 (primary 0 3 3) (primary 0 3 4) 0 0 []
      ∷ told 0 none none 0 0 []
      ∷ told 0 none none 0 0 (5 ∷ 6 ∷ 7 ∷ [])
      ∷ told 0 none none 0 2 (5 ∷ 6 ∷ 9 ∷ [])
      ∷ shows 0 (5 ∷ 6 ∷ [])
      ∷ told 0 (primary 0 3 3) none 8 0 []
      ∷ told 0 (primary 0 3 4) none 0 0 []
      ∷ told 9 none none 0 0 []
      ∷ told 24 none none 0 0 []
      ∷ told 24 none none 0 0 []
      ∷ told 23 none none 0 0 []
      ∷ told 0 (primary 0 3 6) none 0 0 []
      ∷ told 0 none none 0 0 []
      ∷ told 0 none none 0 0 []
      ∷ told 0 none none 0 0 []
      ∷ told 0 (primary 0 4 3) (primary 0 4 4) 0 0 []
      ∷ told 0 none none 0 0 []
      ∷ told 0 none none 0 0 []
      ∷ told 0 none none 0 0 []
      ∷ told 22 none none 0 0 []
      -- a cluster with the same local number
      ∷ told 0 (primary 3 2 3) (primary 3 2 4) 0 0 []
      ∷ told 0 none none 0 0 []
      ∷ told 0 none none 0 0 (8 ∷ 9 ∷ [])
      ∷ shows 0 (8 ∷ 9 ∷ [])
      ∷ shows 5 []
      ∷ told 0 (weak_given 128) none 1 0 []
      ∷ told 0 (weak_given 64) none 1 0 []
      ∷ []

  abbrev pub answers_after : List Reply
  answers_after =
      told 0 none none 0 2 (8 ∷ 9 ∷ 3 ∷ [])
      ∷ shows 0 (8 ∷ 9 ∷ [])
      ∷ told 0 (weak_given 192) none 0 0 []
      ∷ []

  abbrev pub answers : List Reply
  answers = answers_before ++ answers_after

  pub record Witnessed : Type 0 where
    pub sound_one : SoundCopy one
    pub sound_two : SoundCopy two
    pub active : (table_at one.store (set_apart 0 2)).active ≡ true
    pub alike : Alike 0 2 one two
    pub shut_one : AllShut 0 2 f tries one
    pub shut_two : AllShut 0 2 f tries two
    pub replies : (run f tries one).replies ≡ answers
    pub places : places f tries one ≡ told_places
    pub weak : SixteenBytes f → (c : ℕ) → weak_given c ≡ weak_shown c

  pub record Concluded : Type 0 where
    pub replies : (run f tries two).replies ≡ answers
    pub places : places f tries two ≡ told_places
    pub other_record : cluster_at (run f tries one).copy.store 26 ≡ cluster_at (run f tries two).copy.store 26
    pub other_byte : get_or (run f tries one).copy.memory 12289 0 ≡ get_or (run f tries two).copy.memory 12289 0
    pub still_one : Still (run f tries one).copy 17 34 7
    pub still_two : Still (run f tries two).copy 1 2 9

  pub record Bites : Type 0 where
    pub done : number f right_read one.store memory ≡ 0
    pub refused : number f right_read two.store memory ≡ 9
    pub looked : (step f right_look one).reply ≡ shows 0 (7 ∷ 7 ∷ 7 ∷ 7 ∷ [])
    pub hidden : (step f right_look two).reply ≡ shows 9 []
    pub whole : number f right_join one.store memory ≡ 23
    pub unjoined : number f right_join two.store memory ≡ 9
    pub asked_second : keyed 0 2 f read_mode second_right one.store ≡ true
