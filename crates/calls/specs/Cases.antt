-- Document 01, "Numbers a call may be turned down with", with document 02's 21 and 22, as computed lists. The conversion
-- adds its parameter to the first byte, and gives sixteen such bytes.
--     added                     that conversion
--     sixteen b                 sixteen bytes b
--     shown v l b ss            the 23 bytes of the handle of node v and local number l: sixteen bytes b, the selector ss
--     primary b, weak b         the primary handle of node 1 and local number 2; one that references segment 5 alone
--     other b, gap, far, high, idle    handles that reference segment 6 alone, are gapped, name a node above 3, a local
--                               number above 7, an inactive cluster
--     spent                     a selector with no flat subselector
--     nothing                   a selector that references nothing
--     room, tight               buffers of three bytes and of two
--     sample                    a store with that cluster: passwords of sixteen 3 and sixteen 4, and three bytes at 0
--     marked                    that store with its segment frozen; its segment 4 has the two bytes at 3, and a second
--                               cluster of the node, local number 4 with sixteen 6 and sixteen 7, three bytes at 5
--     beside b                  the primary handle of that cluster
--     Case, gives               a number and a call that gets it
--     damaged                   a call of every kind on a slice that lacks a byte: weakening alone does not get 1
--     refusals                  for each number from 2 on but 22, a call of each kind that its row names; a look, a freeze
--                               and new passwords done
--     frozen                    where the segment is frozen: 22 for each call that its rows name, and all others as ever
--     told_on s size cs          the numbers that the calls of the cases cs get on a store
--     calls cs, named cs        the calls of the cases, and the numbers that they name
--     NumbersGiven              all these numbers are given, on these stores
-- Assumes nothing.
use Rattle.std.specs.Prelude.{◌≡◌, ℕ, ◌+◌, ◌-◌, List, [], ◌∷◌, map, get_or, replicate}
use Rattle.sizes.specs.Sizes.{memory, password_bytes}
use Rattle.handle.specs.declared.Width.TheVariants.{Eight}
use Rattle.handle.specs.Selectors.{flats, in_first}
use Rattle.handle.specs.Handles.{Name, encoded}
use Rattle.store.specs.Places.{present_at}
use Rattle.store.specs.declared.Store.{Store}
use Rattle.store.specs.Records.{starting_store, started, record_of, put_record, with_place, with_mark}
use Rattle.calls.specs.Calls.{Call, making_cluster, deleting_cluster, making_segment, deleting_segment, reading}
use Rattle.calls.specs.Calls.{writing, weakening_by, reducing, renewing, freezing, joining, validating, looking}
use Rattle.calls.specs.Numbers.{number}

abbrev pub added : Name → List ℕ → ℕ → List ℕ
added n p c = replicate password_bytes (get_or p 0 0 + c)

-- ---- the calls

abbrev pub sixteen : ℕ → List ℕ
sixteen b = replicate password_bytes b

abbrev pub shown : ℕ → ℕ → ℕ → List ℕ → List ℕ
shown v l b ss = encoded (record { node = v; local = l; password = sixteen b; width = Eight; selector = ss })

-- ---- the numbers

abbrev pub primary : ℕ → List ℕ
primary b = shown 1 2 b (flats 8)

-- its password is that of the primary handle and 32, the parameter that keeps segment 5
abbrev pub weak : ℕ → List ℕ
weak b = shown 1 2 (b + 32) (in_first 8 32)

-- a handle that references segment 6 alone
abbrev pub other : ℕ → List ℕ
other b = shown 1 2 (b + 64) (in_first 8 64)

abbrev pub gap : List ℕ
gap = shown 1 2 3 (255 ∷ 254 ∷ 255 ∷ 255 ∷ [])

abbrev pub far : List ℕ
far = shown 4 2 3 (flats 8)

abbrev pub high : List ℕ
high = shown 1 8 3 (flats 8)

-- a cluster that is inactive: its passwords are zero
abbrev pub idle : List ℕ
idle = shown 1 3 0 (flats 8)

-- a selector with no flat subselector
abbrev pub spent : List ℕ
spent = 254 ∷ 253 ∷ 251 ∷ 247 ∷ []

abbrev pub nothing : List ℕ
nothing = 240 ∷ 15 ∷ 255 ∷ 255 ∷ []

abbrev pub sample : Store
sample = put_record starting_store (record_of 1 2) (with_place (started 8 (sixteen 3) (sixteen 4)) 5 (present_at 0 3))

abbrev pub marked : Store
marked =
    put_record
    (put_record starting_store (record_of 1 2)
    (with_place (with_mark (with_place (started 8 (sixteen 3) (sixteen 4)) 5 (present_at 0 3)) 5) 4 (present_at 3 2)))
    (record_of 1 4)
    (with_place (started 8 (sixteen 6) (sixteen 7)) 5 (present_at 5 3))

abbrev pub beside : ℕ → List ℕ
beside b = shown 1 4 b (flats 8)

abbrev pub room : List ℕ
room = 0 ∷ 0 ∷ 0 ∷ []

abbrev pub tight : List ℕ
tight = 0 ∷ 0 ∷ []

pub record Case : Type 0 where
  pub number : ℕ
  pub call : Call

abbrev pub gives : ℕ → Call → Case
gives n x = record { number = n; call = x }

abbrev pub damaged : List Case
damaged =
    gives 1 (making_cluster 1 3 8 (sixteen 1) (sixteen 2))
    ∷ gives 1 (deleting_cluster 1 (primary 4))
    ∷ gives 1 (making_segment 1 6 2 (primary 4))
    ∷ gives 1 (deleting_segment 1 5 (primary 4))
    ∷ gives 1 (reading 5 (primary 3) room)
    ∷ gives 1 (writing 5 (primary 4) room)
    ∷ gives 0 (weakening_by 1 (primary 3))
    ∷ gives 21 (weakening_by 0 (primary 3))
    ∷ gives 1 (reducing 1 (primary 3))
    ∷ gives 1 (renewing 1 (primary 3) (sixteen 8))
    ∷ gives 1 (freezing 1 5 (primary 4))
    ∷ gives 1 (joining 1 (weak 3) (other 3))
    ∷ gives 1 (validating 1 (primary 3))
    ∷ gives 1 (looking 1 5 (primary 3))
    -- 1 above 2, and above 3 and 9
    ∷ gives 1 (making_cluster 4 3 8 (sixteen 1) (sixteen 1))
    ∷ gives 1 (deleting_cluster 1 far)
    ∷ gives 1 (making_segment 4 6 2 (primary 4))
    ∷ gives 1 (deleting_segment 1 5 high)
    ∷ gives 1 (reading 5 far room)
    ∷ gives 1 (writing 5 high room)
    ∷ gives 1 (reducing 1 far)
    ∷ gives 1 (renewing 1 high (sixteen 8))
    ∷ gives 1 (freezing 4 5 far)
    ∷ gives 1 (joining 1 far (weak 3))
    ∷ gives 1 (joining 1 (weak 3) high)
    ∷ gives 1 (validating 1 far)
    ∷ gives 1 (looking 4 5 far)
    ∷ gives 1 (reducing 3 (primary 9))
    ∷ []

abbrev pub refusals : List Case
refusals =
    gives 2 (making_cluster 4 3 8 (sixteen 1) (sixteen 2))
    ∷ gives 2 (making_cluster 1 8 8 (sixteen 1) (sixteen 2))
    ∷ gives 2 (deleting_cluster 4 (primary 4))
    ∷ gives 2 (deleting_cluster 1 far)
    ∷ gives 2 (making_segment 4 6 2 (primary 4))
    ∷ gives 2 (making_segment 1 6 2 high)
    ∷ gives 2 (deleting_segment 4 5 (primary 4))
    ∷ gives 2 (deleting_segment 1 5 far)
    ∷ gives 2 (reading 5 high room)
    ∷ gives 2 (writing 5 far room)
    ∷ gives 2 (weakening_by 0 far)
    ∷ gives 2 (weakening_by 0 high)
    ∷ gives 2 (reducing 1 far)
    ∷ gives 2 (renewing 1 high (sixteen 8))
    ∷ gives 2 (freezing 4 5 (primary 4))
    ∷ gives 2 (freezing 1 5 far)
    ∷ gives 2 (freezing 1 5 high)
    ∷ gives 2 (validating 1 far)
    ∷ gives 2 (looking 4 5 (primary 3))
    ∷ gives 2 (looking 1 5 far)
    ∷ gives 2 (looking 1 5 high)
    ∷ gives 3 (making_segment 1 8 2 (primary 4))
    ∷ gives 3 (making_segment 1 6 0 (primary 4))
    ∷ gives 3 (making_segment 1 6 4097 (primary 4))
    ∷ gives 3 (deleting_segment 1 8 (primary 4))
    ∷ gives 3 (reading 8 (primary 3) room)
    ∷ gives 3 (writing 8 (primary 4) room)
    ∷ gives 3 (reducing 0 (primary 3))
    ∷ gives 3 (reducing 3 (primary 3))
    ∷ gives 3 (renewing 3 (primary 3) (sixteen 8))
    ∷ gives 3 (freezing 1 8 (primary 4))
    ∷ gives 3 (validating 3 (primary 3))
    ∷ gives 3 (looking 1 8 (primary 3))
    ∷ gives 4 (deleting_cluster 1 gap)
    ∷ gives 4 (making_segment 1 6 2 gap)
    ∷ gives 4 (deleting_segment 1 5 gap)
    ∷ gives 4 (reading 5 gap room)
    ∷ gives 4 (writing 5 gap room)
    ∷ gives 4 (weakening_by 0 gap)
    ∷ gives 4 (reducing 1 gap)
    ∷ gives 4 (renewing 1 gap (sixteen 8))
    ∷ gives 4 (freezing 1 5 gap)
    ∷ gives 4 (validating 1 gap)
    ∷ gives 4 (looking 1 5 gap)
    ∷ gives 5 (deleting_cluster 0 (primary 4))
    ∷ gives 5 (making_segment 0 6 2 (primary 4))
    ∷ gives 5 (deleting_segment 0 5 (primary 4))
    ∷ gives 5 (freezing 0 5 (primary 4))
    ∷ gives 5 (looking 0 5 (primary 3))
    ∷ gives 6 (making_cluster 1 2 8 (sixteen 1) (sixteen 2))
    ∷ gives 7 (making_cluster 1 3 8 (sixteen 1) (sixteen 1))
    ∷ gives 8 (deleting_cluster 1 idle)
    ∷ gives 8 (making_segment 1 6 2 idle)
    ∷ gives 8 (deleting_segment 1 5 idle)
    ∷ gives 8 (reading 5 idle room)
    ∷ gives 8 (writing 5 idle room)
    ∷ gives 8 (reducing 1 idle)
    ∷ gives 8 (renewing 1 idle (sixteen 8))
    ∷ gives 8 (freezing 1 5 idle)
    ∷ gives 8 (validating 1 idle)
    ∷ gives 8 (looking 1 5 idle)
    ∷ gives 9 (deleting_cluster 1 (primary 3))
    ∷ gives 9 (making_segment 1 6 2 (primary 3))
    ∷ gives 9 (deleting_segment 1 5 (primary 3))
    ∷ gives 9 (reading 5 (primary 4) room)
    ∷ gives 9 (writing 5 (primary 3) room)
    ∷ gives 9 (reducing 1 (primary 4))
    ∷ gives 9 (renewing 2 (primary 3) (sixteen 8))
    ∷ gives 9 (freezing 1 5 (primary 3))
    ∷ gives 9 (validating 1 (weak 4))
    ∷ gives 9 (looking 1 5 (primary 4))
    ∷ gives 9 (looking 1 5 (weak 4))
    ∷ gives 10 (deleting_cluster 1 (weak 4))
    ∷ gives 10 (making_segment 1 6 2 (weak 4))
    ∷ gives 10 (deleting_segment 1 5 (weak 4))
    ∷ gives 10 (renewing 1 (weak 3) (sixteen 8))
    ∷ gives 10 (freezing 1 5 (weak 4))
    ∷ gives 11 (reading 5 (other 3) room)
    ∷ gives 11 (writing 5 (other 4) room)
    ∷ gives 11 (looking 1 5 (other 3))
    -- the mode's own password; that of the other mode is as good as any
    ∷ gives 12 (renewing 1 (primary 3) (sixteen 3))
    ∷ gives 12 (renewing 2 (primary 4) (sixteen 4))
    ∷ gives 0 (renewing 1 (primary 3) (sixteen 4))
    ∷ gives 0 (renewing 2 (primary 4) (sixteen 3))
    ∷ gives 13 (making_segment 1 5 2 (primary 4))
    ∷ gives 14 (deleting_segment 1 6 (primary 4))
    ∷ gives 14 (reading 6 (primary 3) room)
    ∷ gives 14 (writing 6 (primary 4) room)
    ∷ gives 14 (freezing 1 6 (primary 4))
    ∷ gives 14 (looking 1 6 (primary 3))
    ∷ gives 15 (reading 5 (weak 3) tight)
    ∷ gives 15 (writing 5 (weak 4) tight)
    -- a look brings no buffer that could be short
    ∷ gives 0 (looking 1 5 (weak 3))
    ∷ gives 0 (freezing 1 5 (primary 4))
    ∷ gives 16 (making_segment 1 6 4094 (primary 4))
    ∷ gives 17 (weakening_by 239 (shown 1 2 3 spent))
    ∷ gives 21 (weakening_by 0 (primary 3))
    ∷ gives 21 (weakening_by 223 (weak 3))
    ∷ gives 21 (weakening_by 255 (shown 1 2 3 nothing))
    ∷ gives 21 (weakening_by 255 (shown 1 2 3 (240 ∷ 15 ∷ 254 ∷ 253 ∷ [])))
    ∷ []

abbrev pub frozen : List Case
frozen =
    gives 22 (deleting_cluster 1 (primary 4))
    ∷ gives 22 (deleting_segment 1 5 (primary 4))
    ∷ gives 22 (writing 5 (primary 4) room)
    ∷ gives 22 (writing 5 (weak 4) room)
    -- another segment of the cluster is absent as ever, and it is present
    ∷ gives 14 (deleting_segment 1 6 (primary 4))
    ∷ gives 14 (writing 6 (primary 4) room)
    ∷ gives 14 (freezing 1 6 (primary 4))
    ∷ gives 13 (making_segment 1 5 2 (primary 4))
    -- frozen twice, and all that does not alter it
    ∷ gives 0 (freezing 1 5 (primary 4))
    ∷ gives 0 (making_segment 1 6 2 (primary 4))
    ∷ gives 0 (reading 5 (primary 3) room)
    ∷ gives 15 (reading 5 (primary 3) tight)
    ∷ gives 0 (weakening_by 32 (primary 4))
    ∷ gives 0 (reducing 2 (weak 4))
    ∷ gives 0 (renewing 2 (primary 4) (sixteen 8))
    ∷ gives 0 (validating 2 (weak 4))
    ∷ gives 0 (looking 1 5 (weak 3))
    ∷ gives 0 (reading 5 (weak 3) room)
    ∷ gives 0 (reducing 1 (weak 3))
    ∷ gives 0 (renewing 1 (primary 3) (sixteen 8))
    ∷ gives 0 (validating 1 (weak 3))
    -- the segment beside it, and another cluster of the node
    ∷ gives 0 (freezing 1 4 (primary 4))
    ∷ gives 0 (writing 4 (primary 4) room)
    ∷ gives 0 (deleting_segment 1 4 (primary 4))
    ∷ gives 0 (freezing 1 5 (beside 7))
    ∷ gives 0 (writing 5 (beside 7) room)
    ∷ gives 0 (deleting_segment 1 5 (beside 7))
    ∷ gives 0 (deleting_cluster 1 (beside 7))
    ∷ []

abbrev pub calls : List Case → List Call
calls cs = map (λ (c : Case). c.call) cs

abbrev pub told_on : Store → ℕ → List Case → List ℕ
told_on s size cs = map (λ (x : Call). number added x s size) (calls cs)

abbrev pub named : List Case → List ℕ
named cs = map (λ (c : Case). c.number) cs

pub record NumbersGiven : Type 0 where
  pub damaged : told_on sample (memory - 1) damaged ≡ named damaged
  pub refusals : told_on sample memory refusals ≡ named refusals
  pub frozen : told_on marked memory frozen ≡ named frozen
