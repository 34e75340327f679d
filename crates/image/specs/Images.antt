-- The image of a store: the records of all clusters as bytes, in the order of their numbers. A record is its active
-- byte, 1 or 0; its width, a byte; its read password; its write password; and for each of the sixteen segments its base
-- and its length, two bytes each, high byte first, and its mark, 1 if it is frozen and 0 if it is not. A length of zero
-- stands for an absent segment, whose base is zero too.
--     word_bytes, place_bytes, segment_bytes, record_bytes, image_bytes    how many bytes a base or a length has, a place, a
--                                                  segment, a record, an image
--     width_bytes, width_at                          how many bytes a width has, and where it stands in a record
--     read_at, write_at, segments_at                  where the passwords and the segments begin in a record
--     mark_at                                       where the mark stands in a segment
-- What the bytes hold:
--     flag_in, good_flag                             what an active byte or a mark says, yes by 1; the byte is 0 or 1
--     base_in, length_in, mark_in                     the base, the length and the byte of the mark in a segment's bytes
--     place_with zero base length                   a place from a base and a length: absent where the length is zero
--     place_in, segment_in                           the place, and the segment, in a segment's bytes
--     segment_held b i                              segment i of sixteen
--     segments_in, cluster_in, store_in               sixteen segments, a cluster, the store
--     good_place, good_segment, good_segments, good_record, good    the bytes are those of a place, of a segment, of
--                                                  sixteen, of a record, of a store: no active byte and no mark is above
--                                                  1, no absent segment has a base. A width may be any byte: whether it is
--                                                  one that a cluster can have is a question of soundness
-- The bytes of each:
--     flag_out                                      1 or 0, the active byte and the mark
--     place_out, segment_out, segments_out            of a place, of a segment, of sixteen
--     record_out, image_of                           of a record; the image of a store
--     with_record b n c                             the bytes b with record n replaced by that of the cluster c
-- Assumes nothing.
use Rattle.std.specs.Prelude.{ℕ, ◌+◌, ◌*◌, Bool, true, false, not, ◌&&◌, ◌||◌, List, [], ◌∷◌, ◌++◌, eqb, leb, get_or}
use Rattle.bits.specs.Bytes.{bytes, word}
use Rattle.loops.specs.Below.{every}
use Rattle.loops.specs.Tabulate.{tabulate}
use Rattle.sizes.specs.Sizes.{records, segments, password_bytes}
use Rattle.store.specs.Places.{Place, None, present_at}
use Rattle.store.specs.declared.Segment.{Segment}
use Rattle.store.specs.declared.Cluster.{Cluster}
use Rattle.store.specs.declared.Store.{Store}
use Rattle.store.specs.Records.{absent_segment, cluster_at, base_of, length_of}
use Rattle.image.specs.Parts.{part, slot, joined}

-- ---- sizes

abbrev pub word_bytes : ℕ
word_bytes = 2

abbrev pub place_bytes : ℕ
place_bytes = word_bytes + word_bytes

abbrev pub mark_at : ℕ
mark_at = place_bytes

abbrev pub segment_bytes : ℕ
segment_bytes = mark_at + 1

abbrev pub width_bytes : ℕ
width_bytes = 1

abbrev pub width_at : ℕ
width_at = 1

abbrev pub read_at : ℕ
read_at = width_at + width_bytes

abbrev pub write_at : ℕ
write_at = read_at + password_bytes

abbrev pub segments_at : ℕ
segments_at = write_at + password_bytes

abbrev pub record_bytes : ℕ
record_bytes = segments_at + segments * segment_bytes

abbrev pub image_bytes : ℕ
image_bytes = records * record_bytes

-- ---- what the bytes hold

abbrev pub flag_in : ℕ → Bool
flag_in x = eqb x 1

abbrev pub good_flag : ℕ → Bool
good_flag x = leb x 1

abbrev pub base_in : List ℕ → ℕ
base_in b = word (part b 0 word_bytes)

abbrev pub length_in : List ℕ → ℕ
length_in b = word (part b word_bytes place_bytes)

abbrev pub mark_in : List ℕ → ℕ
mark_in b = get_or b mark_at 0

abbrev pub place_with : Bool → ℕ → ℕ → Place
place_with true base length = None
place_with false base length = present_at base length

unfoldable pub place_in : List ℕ → Place
place_in b = place_with (eqb (length_in b) 0) (base_in b) (length_in b)

unfoldable pub good_place : List ℕ → Bool
good_place b = not (eqb (length_in b) 0) || eqb (base_in b) 0

abbrev pub segment_in : List ℕ → Segment
segment_in b = record { place = place_in b; frozen = flag_in (mark_in b) }

unfoldable pub good_segment : List ℕ → Bool
good_segment b = good_place b && good_flag (mark_in b)

abbrev pub segment_held : List ℕ → ℕ → Segment
segment_held b i = segment_in (slot segment_bytes b i)

unfoldable pub segments_in : List ℕ → List Segment
segments_in b = tabulate segments (segment_held b)

unfoldable pub good_segments : List ℕ → Bool
good_segments b = every segments (λ i. good_segment (slot segment_bytes b i))

unfoldable pub cluster_in : List ℕ → Cluster
cluster_in b =
    record {
      active = flag_in (get_or b 0 0);
      width = get_or b width_at 0;
      read = part b read_at write_at;
      write = part b write_at segments_at;
      segments = segments_in (part b segments_at record_bytes);
    }

unfoldable pub good_record : List ℕ → Bool
good_record b = good_flag (get_or b 0 0) && good_segments (part b segments_at record_bytes)

unfoldable pub store_in : List ℕ → Store
store_in b = record { clusters = tabulate records (λ n. cluster_in (slot record_bytes b n)) }

unfoldable pub good : List ℕ → Bool
good b = every records (λ n. good_record (slot record_bytes b n))

-- ---- the bytes of each

abbrev pub flag_out : Bool → ℕ
flag_out true = 1
flag_out false = 0

unfoldable pub place_out : Place → List ℕ
place_out p = bytes word_bytes (base_of p) ++ bytes word_bytes (length_of p)

unfoldable pub segment_out : Segment → List ℕ
segment_out g = place_out g.place ++ (flag_out g.frozen ∷ [])

unfoldable pub segments_out : List Segment → List ℕ
segments_out gs = joined segments (λ i. segment_out (get_or gs i absent_segment))

unfoldable pub record_out : Cluster → List ℕ
record_out c = flag_out c.active ∷ (bytes width_bytes c.width ++ (c.read ++ (c.write ++ segments_out c.segments)))

unfoldable pub image_of : Store → List ℕ
image_of s = joined records (λ n. record_out (cluster_at s n))

unfoldable pub with_record : List ℕ → ℕ → Cluster → List ℕ
with_record b n c = joined records (λ k. elim (eqb k n) [ true ↦ record_out c | false ↦ slot record_bytes b k ])
