-- Document 01, "The store", the sentence that begins "Sound:", in its own words and with its own numbers; `sound` is held
-- to it both ways. Records are numbered by node: the cluster of node v and local number l is record v * 8 + l. With
-- document 02, §3 and §8, at the end: a record has room for sixteen segments.
--     ByteOf k p               byte k of a node's memory is one of the place's, which is present: one of the length
--                              bytes from the base on
--     ZeroPassword p           each of the sixteen bytes is zero
--     SoundInWords s size      the records and a slice of that many bytes are sound:
--       slice                    the slice has 16,384 bytes
--       bases, lengths           bases run from 0 to 4,095, lengths from 1 to 4,096
--       ends                     base plus length is at most 4,096
--       apart                    present segments of one node share no byte, be they of one cluster or of two
--       no_read, no_write          an inactive cluster has zero passwords
--       no_segment                and only absent segments
--       no_mark                   an absent segment is never frozen
--       widths                   an active cluster has one of the three widths
--       no_width                  an inactive one has 0
--       none_above                no segment at or above the width is present
-- Assumes nothing.
use Rattle.std.specs.Prelude.{◌≡◌, ◌≢◌, ◌⊎◌, true, false, List, ℕ, ◌+◌, ◌*◌, ◌≤◌, ◌<◌, get_or}
use Rattle.store.specs.Places.{Place, None, Some, present_at}
use Rattle.store.specs.declared.Store.{Store}
use Rattle.store.specs.Records.{cluster_at, table_at, segment_of, place_at}

abbrev pub ByteOf : ℕ → Place → Type 0
ByteOf k None = ⊥
ByteOf k (Some span) = (span.base ≤ k) × (k < span.base + span.length)

abbrev pub ZeroPassword : List ℕ → Type 0
ZeroPassword p = (k : ℕ) → k < 16 → get_or p k 0 ≡ 0

pub record SoundInWords (s : Store) (size : ℕ) : Type 0 where
  pub slice : size ≡ 16384
  pub bases : (n i base length : ℕ) → n < 32 → i < 16 → place_at (table_at s) n i ≡ present_at base length → base ≤ 4095
  pub lengths : (n i base length : ℕ) → n < 32 → i < 16 → place_at (table_at s) n i ≡ present_at base length
      → (1 ≤ length) × (length ≤ 4096)
  pub ends : (n i base length : ℕ) → n < 32 → i < 16 → place_at (table_at s) n i ≡ present_at base length
      → base + length ≤ 4096
  pub apart : (v l i m j : ℕ) → v < 4 → l < 8 → i < 16 → m < 8 → j < 16 → (l ≢ m) ⊎ (i ≢ j)
      → (k : ℕ) → ByteOf k (place_at (table_at s) (v * 8 + l) i) → ByteOf k (place_at (table_at s) (v * 8 + m) j) → ⊥
  pub no_read : (n : ℕ) → n < 32 → (cluster_at s n).active ≡ false → ZeroPassword (cluster_at s n).read
  pub no_write : (n : ℕ) → n < 32 → (cluster_at s n).active ≡ false → ZeroPassword (cluster_at s n).write
  pub no_segment : (n i : ℕ) → n < 32 → i < 16 → (cluster_at s n).active ≡ false → place_at (table_at s) n i ≡ None
  pub no_mark : (n i : ℕ) → n < 32 → i < 16 → place_at (table_at s) n i ≡ None → (segment_of (table_at s n) i).frozen ≡ false
  pub widths : (n : ℕ) → n < 32 → (cluster_at s n).active ≡ true
      → ((cluster_at s n).width ≡ 4) ⊎ (((cluster_at s n).width ≡ 8) ⊎ ((cluster_at s n).width ≡ 16))
  pub no_width : (n : ℕ) → n < 32 → (cluster_at s n).active ≡ false → (cluster_at s n).width ≡ 0
  pub none_above : (n i : ℕ) → n < 32 → i < 16 → (cluster_at s n).width ≤ i → place_at (table_at s) n i ≡ None
