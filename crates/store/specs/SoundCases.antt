-- Document 01, "The store", the sentence that begins "Sound:", as computed lists: a table for each way to break it, and
-- tables that go to its bounds; with the clauses of document 02, §3 and §8.
--     Case, told           records and a slice's size, and whether they are sound; what `sound` tells
--     sixteen b            a password of sixteen bytes, of which the last is b and the others are zero
--     fresh w              an active cluster of width w with no segment
--     last p               an active cluster of width 8 whose segment 7 is p, the others absent
--     holding p q          an active cluster of width 8 whose segment 0 is p and segment 7 is q
--     quiet r w            an inactive cluster with two passwords and no segment
--     wide w i             an active cluster of width w whose segment i has the first byte of the node, the others absent
--     idle w               an inactive cluster of width w, as in the starting store otherwise
--     on n c               the starting store with record n replaced
--     both n c m d         and with record m replaced too
--     damaged, whole       tables that are unsound, each by what the comment above it says, and such as are sound
-- Assumes nothing.
use Rattle.std.specs.Prelude.{ℕ, Bool, true, false, List, [], ◌∷◌, set, replicate}
use Rattle.store.specs.Places.{Place, present_at}
use Rattle.store.specs.declared.Cluster.{Cluster}
use Rattle.store.specs.declared.Store.{Store}
use Rattle.store.specs.Records.{inactive, starting_store, started, put_record, with_place, with_mark}
use Rattle.store.specs.Sound.{sound}

pub record Case : Type 0 where
  pub store : Store
  pub size : ℕ
  pub told : Bool

abbrev pub told : Case → Bool
told c = sound c.store c.size

abbrev sixteen : ℕ → List ℕ
sixteen b = set (replicate 16 0) 15 b

abbrev fresh : ℕ → Cluster
fresh w = started w (sixteen 1) (sixteen 2)

abbrev last : Place → Cluster
last p = with_place (fresh 8) 7 p

abbrev holding : Place → Place → Cluster
holding p q = with_place (last q) 0 p

abbrev quiet : ℕ → ℕ → Cluster
quiet r w = record { active = false; width = 0; read = sixteen r; write = sixteen w; segments = inactive.segments }

abbrev wide : ℕ → ℕ → Cluster
wide w i = with_place (fresh w) i (present_at 0 1)

abbrev idle : ℕ → Cluster
idle w =
    record { active = false; width = w; read = sixteen 0; write = sixteen 0; segments = inactive.segments }

abbrev on : ℕ → Cluster → Store
on n c = put_record starting_store n c

abbrev both : ℕ → Cluster → ℕ → Cluster → Store
both n c m d = put_record (on n c) m d

abbrev unsound : Store → Case
unsound s = record { store = s; size = 16384; told = false }

abbrev fine : Store → Case
fine s = record { store = s; size = 16384; told = true }

-- record 31 is that of node 3 and local number 7
unfoldable pub damaged : List Case
damaged =
    -- a slice one byte short, and one byte long
    record { store = starting_store; size = 16383; told = false }
    ∷ record { store = starting_store; size = 16385; told = false }
    -- length 0; base 4,096; ends of 4,097
    ∷ unsound (on 31 (last (present_at 5 0)))
    ∷ unsound (on 31 (last (present_at 4096 1)))
    ∷ unsound (on 31 (last (present_at 4095 2)))
    ∷ unsound (on 31 (last (present_at 0 4097)))
    -- a byte shared: within a cluster, and by two clusters of one node
    ∷ unsound (on 31 (holding (present_at 0 10) (present_at 9 1)))
    ∷ unsound (both 24 (last (present_at 9 1)) 31 (last (present_at 0 10)))
    -- inactive with a read password, with a write password, with a segment
    ∷ unsound (on 31 (quiet 1 0))
    ∷ unsound (on 31 (quiet 0 1))
    ∷ unsound (on 31 (with_place inactive 7 (present_at 0 1)))
    -- frozen and absent: beside a present segment, in a cluster with none, in an inactive one
    ∷ unsound (on 31 (with_mark (last (present_at 0 1)) 0))
    ∷ unsound (on 0 (with_mark (fresh 8) 7))
    ∷ unsound (on 31 (with_mark inactive 7))
    -- active with a width that is none of the three
    ∷ unsound (on 31 (fresh 0))
    ∷ unsound (on 0 (fresh 5))
    ∷ unsound (on 31 (fresh 15))
    ∷ unsound (on 31 (fresh 17))
    ∷ unsound (on 31 (fresh 255))
    -- inactive with a width, one of the three and another
    ∷ unsound (on 31 (idle 8))
    ∷ unsound (on 0 (idle 1))
    -- a segment at or above the width: the first above and the last that there is room for
    ∷ unsound (on 31 (wide 4 4))
    ∷ unsound (on 31 (wide 4 15))
    ∷ unsound (on 31 (wide 8 8))
    ∷ unsound (on 0 (wide 8 15))
    -- a byte shared by two segments of the upper half
    ∷ unsound (on 31 (with_place (wide 16 15) 8 (present_at 0 10)))
    ∷ []

unfoldable pub whole : List Case
whole =
    -- the last base, and the whole memory of a node
    fine (on 31 (last (present_at 4095 1)))
    ∷ fine (on 31 (last (present_at 0 4096)))
    -- two that touch; the same bytes of two nodes
    ∷ fine (on 31 (holding (present_at 0 10) (present_at 10 4086)))
    ∷ fine (both 23 (last (present_at 0 4096)) 31 (last (present_at 0 4096)))
    -- frozen and present, the last segment of the last cluster and the first of the first
    ∷ fine (on 31 (with_mark (last (present_at 0 4096)) 7))
    ∷ fine (on 0 (with_mark (holding (present_at 0 1) (present_at 1 1)) 0))
    -- the three widths, each with its last segment
    ∷ fine (on 31 (wide 4 3))
    ∷ fine (on 31 (wide 8 7))
    ∷ fine (on 31 (wide 16 15))
    -- clusters of three widths on one node
    ∷ fine (put_record (both 24 (wide 4 3) 25 (fresh 8)) 31 (with_place (fresh 16) 8 (present_at 1 4095)))
    ∷ []
