-- Document 01, "The store", the sentence that begins "Sound:", clause by clause and in its order. With document 02:
-- an absent segment is never frozen (§3), an active cluster has one of the three widths and an inactive one 0, and no
-- segment at or above the width is present (§8).
--     sound s size    the records and a slice of that many bytes are sound:
--       memory          the slice has as many bytes as the four memories
--       sound_segment    its base and length lie in their ranges, and base plus length inside the node's memory; and it is
--                       not frozen if it is absent
--       node_apart       present segments of one node share no byte
--       settled         an inactive cluster has zero passwords and only absent segments; and the cluster is sized
--     in_ranges        base from 0 to 4,095, length from 1 to 4,096
--     ends_inside      base plus length at most 4,096
--     inside          both of these
--     apart           two places, of at least one byte each, share no byte: one ends where the other begins, or
--                     before it
--     is_absent        the place is that of an absent segment
--     sound_mark       the segment is not both absent and frozen
--     zero_bytes       every byte of the password is zero
--     idle            zero passwords and only absent segments
--     is_width         the number is 4, 8 or 16
--     sound_width      one of these where the cluster is active, 0 where it is not
--     allowed p i w   segment i of a cluster of width w may have the place p: i is below w, or p is absent
--     below           no segment at or above the cluster's width is present
--     sized           the cluster's width is sound, and the segments are below it
-- Assumes nothing.
use Rattle.std.specs.Prelude.{ℕ, ◌+◌, Bool, true, false, not, ◌&&◌, ◌||◌, List, leb, ltb, eqb, get_or, is_none}
use Rattle.loops.specs.Below.{every}
use Rattle.store.specs.Places.{Place, None, Some}
use Rattle.store.specs.declared.Segment.{Segment}
use Rattle.store.specs.declared.Cluster.{Cluster}
use Rattle.store.specs.declared.Store.{Store}
use Rattle.sizes.specs.Sizes.{nodes, clusters, segments, records, node_memory, memory, password_bytes}
use Rattle.store.specs.Records.{Tables, table_of, cluster_at, table_at, segment_of, place_of, place_on}

unfoldable pub in_ranges : Place → Bool
in_ranges None = true
in_ranges (Some span) = ltb span.base node_memory && leb 1 span.length && leb span.length node_memory

unfoldable pub ends_inside : Place → Bool
ends_inside None = true
ends_inside (Some span) = leb (span.base + span.length) node_memory

unfoldable pub inside : Place → Bool
inside p = in_ranges p && ends_inside p

abbrev pub is_absent : Place → Bool
is_absent p = is_none p

unfoldable pub sound_mark : Segment → Bool
sound_mark g = not (is_absent g.place && g.frozen)

unfoldable pub sound_segment : Segment → Bool
sound_segment g = inside g.place && sound_mark g

unfoldable pub apart : Place → Place → Bool
apart None q = true
apart (Some span) None = true
apart (Some span) (Some span') = leb (span.base + span.length) span'.base || leb (span'.base + span'.length) span.base

-- segment i of local number l and segment j of local number m, unless they are one
unfoldable pub node_apart : Tables → ℕ → Bool
node_apart ts node =
    every clusters
    (λ l. every segments
    (λ i. every clusters
    (λ m. every segments
    (λ j. eqb l m && eqb i j || apart (place_on ts node l i) (place_on ts node m j)))))

unfoldable pub zero_bytes : List ℕ → Bool
zero_bytes password = every password_bytes (λ i. eqb (get_or password i 0) 0)

unfoldable pub idle : Cluster → Bool
idle c = zero_bytes c.read && zero_bytes c.write && every segments (λ i. is_absent (place_of (table_of c) i))

abbrev pub is_width : ℕ → Bool
is_width w = eqb w 4 || (eqb w 8 || eqb w 16)

abbrev pub sound_width : Bool → ℕ → Bool
sound_width true w = is_width w
sound_width false w = eqb w 0

abbrev pub allowed : Place → ℕ → ℕ → Bool
allowed p i w = ltb i w || is_absent p

unfoldable pub below : Cluster → Bool
below c = every segments (λ i. allowed (place_of (table_of c) i) i c.width)

unfoldable pub sized : Cluster → Bool
sized c = sound_width c.active c.width && below c

unfoldable pub settled : Cluster → Bool
settled c = (c.active || idle c) && sized c

unfoldable pub sound : Store → ℕ → Bool
sound s size =
    eqb size memory
    && every records (λ n. every segments (λ i. sound_segment (segment_of (table_at s n) i)))
    && every nodes (node_apart (table_at s))
    && every records (λ n. settled (cluster_at s n))
