-- Document 02, §8: lists with which the theorems are shown not to be empty for clusters of four and of sixteen. The cluster is
-- local number 2 of node 0; its highest segment has four bytes at the start of the node's memory. Handles and answers are
-- written out.
--     Sort                  the cluster has four segments, or sixteen; `turned` is the other sort
--     width, top, own       its width; the number of its highest segment; its primary handles
--     other                 the primary handles of the other sort
--     Cut, high, next, both    a mask, and the selector that keeps so much of a primary handle: the highest segment, the one
--                           before it, and the two
--     here v r p b          a copy in which the cluster has the passwords sixteen r and sixteen p, and its four bytes are b
--     one, two, mate        three such copies: `two` differs from `one` in all of these, `mate` in all but the write password
--     strange, strange_answers    calls with the cluster's passwords in handles of 23 bytes and of the other sort, all refused
--                           with 25, in a join as the first and as the second; and in one of 22 bytes, which is no handle
--     before, before_answers    these; a weakening of a right handle; calls with handles of the right width that do not validate,
--                           and one with a segment at the width; a width that is none; and a cluster of the other sort on the
--                           same node made, with its highest segment written, read and looked at, and its read handle weakened
--                           twice
--     told_places            what the looks tell: the number, and from where to where the part goes
-- For every conversion f:
--     password c            what the parameter c turns the read password of the other cluster into
--     cut_made c, cut_shown c    the handle that a weakening of that cluster's read handle gives, as it is made, and shown with sixteen
--                           bytes of its password
--     lasts, lasts_answers   a read and a look with such a handle, and two of them joined
--     tries, answers        all these calls for condition 3
-- Assumes nothing.
use Rattle.std.specs.Prelude.{ℕ, List, [], ◌∷◌, ◌++◌, get_or}
use Rattle.loops.specs.Tabulate.{tabulate}
use Rattle.handle.specs.Handles.{Name}
use Rattle.calls.specs.Looks.{Looked}
use Rattle.calls.specs.Calls.{Copy, Call, making_cluster, deleting_cluster, making_segment, deleting_segment, reading}
use Rattle.calls.specs.Calls.{writing, weakening_by, reducing, renewing, freezing, joining, validating, looking}
use Rattle.calls.specs.Steps.{Reply}
use Rattle.calls.specs.Literals.{sixteen, handle, primary, small, large, none, told, shows}
use Rattle.calls.specs.Written.{telling}
use Rattle.isolation.specs.Witness.{holding_of}

-- ---- the two sorts

pub data Sort : Type 0 where
  of_four of_sixteen : Sort

abbrev pub turned : Sort → Sort
turned of_four = of_sixteen
turned of_sixteen = of_four

abbrev pub width : Sort → ℕ
width of_four = 4
width of_sixteen = 16

abbrev pub top : Sort → ℕ
top of_four = 3
top of_sixteen = 15

abbrev pub own : Sort → ℕ → ℕ → ℕ → List ℕ
own of_four = small
own of_sixteen = large

abbrev pub other : Sort → ℕ → ℕ → ℕ → List ℕ
other v = own (turned v)

pub record Cut : Type 0 where
  pub mask : ℕ
  pub selector : List ℕ

abbrev cut : ℕ → List ℕ → Cut
cut m s = record { mask = m; selector = s }

abbrev pub high : Sort → Cut
high of_four = cut 8 (248 ∷ 255 ∷ [])
high of_sixteen = cut 32768 (128 ∷ 0 ∷ 255 ∷ 255 ∷ 255 ∷ 255 ∷ 255 ∷ 255 ∷ [])

abbrev pub next : Sort → Cut
next of_four = cut 4 (244 ∷ 255 ∷ [])
next of_sixteen = cut 16384 (64 ∷ 0 ∷ 255 ∷ 255 ∷ 255 ∷ 255 ∷ 255 ∷ 255 ∷ [])

abbrev pub both : Sort → Cut
both of_four = cut 12 (252 ∷ 255 ∷ [])
both of_sixteen = cut 49152 (192 ∷ 0 ∷ 255 ∷ 255 ∷ 255 ∷ 255 ∷ 255 ∷ 255 ∷ [])

-- ---- the copies

abbrev pub here : Sort → ℕ → ℕ → ℕ → Copy
here v = holding_of (width v) (top v)

abbrev pub one : Sort → Copy
one v = here v 17 34 7

abbrev pub two : Sort → Copy
two v = here v 1 2 9

abbrev pub mate : Sort → Copy
mate v = here v 1 34 9

-- ---- condition 3

abbrev strange : Sort → List Call
strange v =
    validating 1 (other v 0 2 17)
    ∷ validating 2 (primary 0 2 34)
    ∷ deleting_cluster 0 (other v 0 2 34)
    ∷ making_segment 0 1 4 (primary 0 2 34)
    ∷ deleting_segment 0 3 (other v 0 2 34)
    ∷ reading 3 (other v 0 2 17) (9 ∷ 9 ∷ 9 ∷ 9 ∷ [])
    ∷ writing 3 (primary 0 2 34) (8 ∷ 8 ∷ 8 ∷ 8 ∷ [])
    ∷ looking 0 3 (other v 0 2 17)
    ∷ reducing 1 (primary 0 2 17)
    ∷ renewing 1 (other v 0 2 17) (sixteen 6)
    ∷ freezing 0 3 (primary 0 2 34)
    ∷ joining 1 (other v 0 2 17) (other v 0 2 17)
    ∷ joining 1 (own v 0 2 5) (primary 0 2 17)
    ∷ joining 1 (primary 0 2 17) (own v 0 2 5)
    ∷ validating 1 (handle 0 2 17 (255 ∷ 255 ∷ 255 ∷ []))
    ∷ []

abbrev strange_answers : List Reply
strange_answers =
    told 25 none none 0 0 []
    ∷ told 25 none none 0 0 []
    ∷ told 25 none none 0 0 []
    ∷ told 25 none none 0 0 []
    ∷ told 25 none none 0 0 []
    ∷ told 25 none none 0 0 (9 ∷ 9 ∷ 9 ∷ 9 ∷ [])
    ∷ told 25 none none 0 0 (8 ∷ 8 ∷ 8 ∷ 8 ∷ [])
    ∷ shows 25 []
    ∷ told 25 none none 0 0 []
    ∷ told 25 none none 0 0 []
    ∷ told 25 none none 0 0 []
    ∷ told 25 none none 0 0 []
    ∷ told 25 none none 0 0 []
    ∷ told 25 none none 0 0 []
    ∷ told 25 none none 0 0 []
    ∷ []

abbrev pub before : Sort → List Call
before v =
    strange v
    ++ (weakening_by 65535 (own v 0 2 17)
    -- the right width, and another password
    ∷ making_cluster 0 2 (width v) (sixteen 3) (sixteen 4)
    ∷ deleting_cluster 0 (own v 0 2 5)
    ∷ reading (top v) (own v 0 2 5) (9 ∷ [])
    ∷ reading (width v) (own v 0 2 5) (9 ∷ [])
    ∷ writing (top v) (own v 0 2 5) (8 ∷ [])
    ∷ looking 0 (top v) (own v 0 2 5)
    ∷ joining 1 (own v 0 2 5) (own v 0 2 6)
    -- a cluster of the other sort, on the same node
    ∷ making_cluster 0 3 5 (sixteen 3) (sixteen 4)
    ∷ making_cluster 0 3 (width (turned v)) (sixteen 3) (sixteen 4)
    ∷ making_segment 0 (top (turned v)) 2 (other v 0 3 4)
    ∷ writing (top (turned v)) (other v 0 3 4) (5 ∷ 6 ∷ 7 ∷ [])
    ∷ reading (top (turned v)) (other v 0 3 3) (9 ∷ 9 ∷ 9 ∷ [])
    ∷ looking 0 (top (turned v)) (other v 0 3 3)
    ∷ reading 0 (own v 0 3 3) (9 ∷ [])
    ∷ joining 2 (other v 0 3 4) (other v 0 3 4)
    ∷ weakening_by (high (turned v)).mask (other v 0 3 3)
    ∷ weakening_by (next (turned v)).mask (other v 0 3 3)
    ∷ [])

abbrev pub told_places : List Looked
told_places = telling 25 0 0 ∷ telling 9 0 0 ∷ telling 0 4 6 ∷ telling 0 4 6 ∷ []

module _ (f : Name → List ℕ → ℕ → List ℕ) where
  abbrev pub password : ℕ → List ℕ
  password c = f (record { node = 0; local = 3 }) (sixteen 3) c

  abbrev pub cut_made : Cut → List ℕ
  cut_made c = 0 ∷ 0 ∷ 3 ∷ (password c.mask ++ c.selector)

  abbrev pub cut_shown : Cut → List ℕ
  cut_shown c = 0 ∷ 0 ∷ 3 ∷ (tabulate 16 (λ k. get_or (password c.mask) k 0) ++ c.selector)

  abbrev pub before_answers : Sort → List Reply
  before_answers v =
      strange_answers
      ++ (told 0 (own v 0 2 17) none (width v) 0 []
      -- the right width, and another password
      ∷ told 6 none none 0 0 []
      ∷ told 9 none none 0 0 []
      ∷ told 9 none none 0 0 (9 ∷ [])
      ∷ told 3 none none 0 0 (9 ∷ [])
      ∷ told 9 none none 0 0 (8 ∷ [])
      ∷ shows 9 []
      ∷ told 9 none none 0 0 []
      -- a cluster of the other sort, on the same node
      ∷ told 3 none none 0 0 []
      ∷ told 0 (other v 0 3 3) (other v 0 3 4) 0 0 []
      ∷ told 0 none none 0 0 []
      ∷ told 0 none none 0 0 (5 ∷ 6 ∷ 7 ∷ [])
      ∷ told 0 none none 0 2 (5 ∷ 6 ∷ 9 ∷ [])
      ∷ shows 0 (5 ∷ 6 ∷ [])
      ∷ told 25 none none 0 0 (9 ∷ [])
      ∷ told 23 none none 0 0 []
      ∷ told 0 (cut_made (high (turned v))) none 1 0 []
      ∷ told 0 (cut_made (next (turned v))) none 1 0 []
      ∷ [])

  abbrev pub last_read : Sort → Call
  last_read v = reading (top (turned v)) (cut_shown (high (turned v))) (1 ∷ 2 ∷ 3 ∷ [])

  abbrev pub last_look : Sort → Call
  last_look v = looking 0 (top (turned v)) (cut_shown (high (turned v)))

  abbrev pub last_join : Sort → Call
  last_join v = joining 1 (cut_shown (high (turned v))) (cut_shown (next (turned v)))

  abbrev pub lasts : Sort → List Call
  lasts v = last_read v ∷ last_look v ∷ last_join v ∷ []

  abbrev pub lasts_answers : Sort → List Reply
  lasts_answers v =
      told 0 none none 0 2 (5 ∷ 6 ∷ 3 ∷ [])
      ∷ shows 0 (5 ∷ 6 ∷ [])
      ∷ told 0 (cut_made (both (turned v))) none 0 0 []
      ∷ []

  abbrev pub tries : Sort → List Call
  tries v = before v ++ lasts v

  abbrev pub answers : Sort → List Reply
  answers v = before_answers v ++ lasts_answers v
