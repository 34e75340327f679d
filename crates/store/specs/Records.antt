-- Document 01, "The store": the nodes, the clusters' records and how a segment is found in them. With document 02:
-- a segment is frozen or not (§3), and a cluster has a width, 0 while it is inactive, and room for sixteen segments (§8).
--     segment_at, marked_at          a segment at a place, not frozen, and frozen
--     absent_segment, inactive      an absent segment, and a cluster's record as in the starting store
--     starting_store                all clusters inactive
--     started w read write         the record of a new cluster of width w with these passwords
--     Table, table_of, Tables       all of a cluster's record but its passwords; the tables of all records
--     record_of                     the number of the record of a node's cluster
--     no_cluster                    what a read past the last record gives: inactive, with no bytes and no segments
--     cluster_at, table_at           record n of the store, and its table
--     segment_of, place_of           segment i of a table, and its place
--     segment_on                    segment i of a node's cluster
--     frozen_of, none_frozen         segment i of a table is frozen; no segment of it is
--     place_at, place_on             the place of segment i of record n, and of a node's cluster
--     put_record                    the store with record n replaced
--     with_segment                  the record with segment i replaced
--     with_place                    the record with segment i at another place, and not frozen
--     with_mark                     the record with segment i frozen where it lies
--     base_of, length_of             of a place; zero where it is absent
--     address                      where byte k of a node's memory stands in the slice: node 0 first
--     read_mode, write_mode          the two modes
--     primary_of c m                the primary password of a cluster for the mode m
--     with_password                 the record with the primary password of a mode replaced
--     record_at                     the number of a cluster's record; the first where there is no such place
-- Assumes nothing.
use Rattle.std.specs.Prelude.{ℕ, ◌+◌, ◌*◌, Bool, true, false, not, ◌||◌, cond, List, [], eqb, leb, get_or, set, replicate}
use Rattle.loops.specs.Below.{every}
use Rattle.sizes.specs.Sizes.{nodes, clusters, records, segments, node_memory, password_bytes}
use Rattle.store.specs.Places.{Place, None, Some}
use Rattle.store.specs.declared.Segment.{Segment}
use Rattle.store.specs.declared.Cluster.{Cluster}
use Rattle.store.specs.declared.Store.{Store}

-- ---- the starting store

abbrev pub segment_at : Place → Segment
segment_at p = record { place = p; frozen = false }

abbrev pub marked_at : Place → Segment
marked_at p = record { place = p; frozen = true }

abbrev pub absent_segment : Segment
absent_segment = segment_at None

abbrev pub inactive : Cluster
inactive =
    record {
      active = false;
      width = 0;
      read = replicate password_bytes 0;
      write = replicate password_bytes 0;
      segments = replicate segments absent_segment;
    }

abbrev pub starting_store : Store
starting_store = record { clusters = replicate records inactive }

abbrev pub started : ℕ → List ℕ → List ℕ → Cluster
started width read write =
    record { active = true; width = width; read = read; write = write; segments = replicate segments absent_segment }

-- ---- reading the records

pub record Table : Type 0 where
  pub active : Bool
  pub width : ℕ
  pub segments : List Segment

abbrev pub table_of : Cluster → Table
table_of c = record { active = c.active; width = c.width; segments = c.segments }

abbrev pub Tables : Type 0
Tables = ℕ → Table

abbrev pub record_of : ℕ → ℕ → ℕ
record_of node local = node * clusters + local

abbrev pub no_cluster : Cluster
no_cluster = record { active = false; width = 0; read = []; write = []; segments = [] }

abbrev pub cluster_at : Store → ℕ → Cluster
cluster_at s n = get_or s.clusters n no_cluster

abbrev pub table_at : Store → Tables
table_at s n = table_of (cluster_at s n)

abbrev pub segment_of : Table → ℕ → Segment
segment_of t i = get_or t.segments i absent_segment

abbrev pub place_of : Table → ℕ → Place
place_of t i = (segment_of t i).place

abbrev pub segment_on : Tables → ℕ → ℕ → ℕ → Segment
segment_on ts node local i = segment_of (ts (record_of node local)) i

abbrev pub frozen_of : Table → ℕ → Bool
frozen_of t i = (segment_of t i).frozen

unfoldable pub none_frozen : Table → Bool
none_frozen t = every segments (λ i. not (frozen_of t i))

abbrev pub place_at : Tables → ℕ → ℕ → Place
place_at ts n i = place_of (ts n) i

abbrev pub place_on : Tables → ℕ → ℕ → ℕ → Place
place_on ts node local i = place_at ts (record_of node local) i

abbrev pub record_at : ℕ → ℕ → ℕ
record_at node local = cond (leb nodes node || leb clusters local) 0 (record_of node local)

abbrev pub base_of : Place → ℕ
base_of None = 0
base_of (Some span) = span.base

abbrev pub length_of : Place → ℕ
length_of None = 0
length_of (Some span) = span.length

abbrev pub address : ℕ → ℕ → ℕ
address node k = node * node_memory + k

-- ---- the two modes

abbrev pub read_mode : ℕ
read_mode = 1

abbrev pub write_mode : ℕ
write_mode = 2

abbrev pub primary_of : Cluster → ℕ → List ℕ
primary_of c mode = elim (eqb mode read_mode) [ true ↦ c.read | false ↦ c.write ]

-- ---- changing them

abbrev pub put_record : Store → ℕ → Cluster → Store
put_record s n c = record { clusters = set s.clusters n c }

abbrev pub with_segment : Cluster → ℕ → Segment → Cluster
with_segment c i g =
    record { active = c.active; width = c.width; read = c.read; write = c.write; segments = set c.segments i g }

abbrev pub with_place : Cluster → ℕ → Place → Cluster
with_place c i p = with_segment c i (segment_at p)

abbrev pub with_mark : Cluster → ℕ → Cluster
with_mark c i = with_segment c i (marked_at (place_of (table_of c) i))

abbrev pub with_password : Cluster → ℕ → List ℕ → Cluster
with_password c mode p =
    record {
      active = c.active;
      width = c.width;
      read = elim (eqb mode read_mode) [ true ↦ p | false ↦ c.read ];
      write = elim (eqb mode read_mode) [ true ↦ c.write | false ↦ p ];
      segments = c.segments;
    }
