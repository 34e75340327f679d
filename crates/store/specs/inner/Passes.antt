-- What the code's pass over a node's segments works out: a map of its bytes, and the base that the map tells.
--     Map                       which bytes of a node's memory are marked
--     map_words                  the words of a map in the code, a bit for each byte
--     holds x p                 byte x is one of the place's
--     free p map                no byte of the place is marked in the map
--     claimable g map           the segment is sound by itself, and its place is free
--     stamped p map             the map after the place's turn: its bytes are marked too, if the place lies inside
--     stamped_by n ps map        the map after n places
--     claims n gs map           each of n segments was claimable when its turn came
--     Claimed, ClaimedAll       what is told of a segment, and of a cluster's segments, and how the map is left
--     blank, node_map            a node's map with no byte marked, and after the segments of l clusters
--     cluster_sound s node l     cluster l of a node is settled, and its segments were claimable
--     Mapped ts node map        the places of a node lie inside its memory, and the map is that of all its segments
--     Based map size r          r is the placement of that many bytes on every node whose map this is
-- Assumes nothing.
use Rattle.std.specs.Prelude.{◌≡◌, ℕ, ◌+◌, ◌<◌, Bool, true, false, not, ◌&&◌, ◌||◌, leb, ltb}
use Rattle.loops.specs.Below.{every}
use Rattle.loops.specs.Turns.{turns}
use Rattle.store.specs.Places.{Place, Found, None, Some}
use Rattle.store.specs.declared.Segment.{Segment}
use Rattle.store.specs.declared.Cluster.{Cluster}
use Rattle.store.specs.declared.Store.{Store}
use Rattle.sizes.specs.Sizes.{nodes, clusters, segments}
use Rattle.store.specs.Records.{Tables, table_of, record_of, cluster_at, table_at}
use Rattle.store.specs.Records.{segment_of, segment_on, place_of, place_on}
use Rattle.store.specs.Sound.{inside, sound_segment, settled}
use Rattle.store.specs.Placement.{placement, placed_by}

-- ---- marking bytes

abbrev pub Map : Type 0
Map = ℕ → Bool

abbrev pub map_words : ℕ
map_words = 64

abbrev pub holds : ℕ → Place → Bool
holds x None = false
holds x (Some span) = leb span.base x && ltb x (span.base + span.length)

unfoldable pub free : Place → Map → Bool
free None map = true
free (Some span) map = every span.length (λ i. not (map (span.base + i)))

unfoldable pub claimable : Segment → Map → Bool
claimable g map = sound_segment g && free g.place map

unfoldable pub stamped : Place → Map → Map
stamped p map x = inside p && holds x p || map x

unfoldable pub stamped_by : ℕ → (ℕ → Place) → Map → Map
stamped_by n ps map = turns n (λ i. stamped (ps i)) map

unfoldable pub claims : ℕ → (ℕ → Segment) → Map → Bool
claims n gs map = every n (λ i. claimable (gs i) (stamped_by i (λ k. (gs k).place) map))

pub record Claimed (g : Segment) (before : Map) (r : Bool) (after : Map) : Type 0 where
  pub told : r ≡ claimable g before
  pub left : after ≡ stamped g.place before

pub record ClaimedAll (c : Cluster) (before : Map) (r : Bool) (after : Map) : Type 0 where
  pub told : r ≡ claims segments (segment_of (table_of c)) before
  pub left : after ≡ stamped_by segments (place_of (table_of c)) before

abbrev pub blank : Map
blank x = false

unfoldable pub node_map : Tables → ℕ → ℕ → Map
node_map ts node l = turns l (λ m. stamped_by segments (place_on ts node m)) blank

unfoldable pub cluster_sound : Store → ℕ → ℕ → Bool
cluster_sound s node l =
    settled (cluster_at s (record_of node l))
    && claims segments (segment_on (table_at s) node l) (node_map (table_at s) node l)

-- ---- the base that a map tells

pub record Mapped (ts : Tables) (node : ℕ) (map : Map) : Type 0 where
  pub within : (l i : ℕ) → l < clusters → i < segments → inside (place_on ts node l i) ≡ true
  pub whole : map ≡ node_map ts node clusters

pub record Based (map : Map) (size : ℕ) (r : Found) : Type 0 where
  pub told : (ts : Tables) (node : ℕ) → node < nodes → Mapped ts node map → placed_by r ≡ placement ts node size
