-- The image of a store, in words: which byte stands where, for every record, every byte of a password and every segment.
-- The places are numbers, with no definition between.
--     segment n i      segment i of record n
--     byte k           byte k of the image
--     ImageInWords s   of the image of the store s, where a record has 114 bytes and a segment five:
--       size                it has 3,648 bytes
--       active, inactive    the first byte of a record is 1 if its cluster is active, else 0
--       width               the second is its width
--       read, write         the read password follows it, and then the write password
--       base, length        a segment's base and its length, high byte first; zero where it is absent
--       frozen, not_frozen  and its mark: 1 if it is frozen, else 0
-- Assumes nothing.
use Rattle.std.specs.Prelude.{◌≡◌, ℕ, ◌+◌, ◌*◌, ◌/◌, ◌%◌, ◌<◌, true, false, length, get_or}
use Rattle.store.specs.declared.Segment.{Segment}
use Rattle.store.specs.declared.Store.{Store}
use Rattle.store.specs.Records.{table_of, cluster_at, segment_of, base_of, length_of}
use Rattle.image.specs.Images.{image_of}

module _ (s : Store) where
  abbrev segment : ℕ → ℕ → Segment
  segment n i = segment_of (table_of (cluster_at s n)) i

  abbrev byte : ℕ → ℕ
  byte k = get_or (image_of s) k 0

  pub record ImageInWords : Type 0 where
    pub size : length (image_of s) ≡ 3648
    pub active : (n : ℕ) → n < 32 → (cluster_at s n).active ≡ true → byte (n * 114) ≡ 1
    pub inactive : (n : ℕ) → n < 32 → (cluster_at s n).active ≡ false → byte (n * 114) ≡ 0
    pub width : (n : ℕ) → n < 32 → byte (n * 114 + 1) ≡ (cluster_at s n).width
    pub read : (n k : ℕ) → n < 32 → k < 16 → byte (n * 114 + 2 + k) ≡ get_or (cluster_at s n).read k 0
    pub write : (n k : ℕ) → n < 32 → k < 16 → byte (n * 114 + 18 + k) ≡ get_or (cluster_at s n).write k 0
    pub base : (n i : ℕ) → n < 32 → i < 16
        → (byte (n * 114 + 34 + i * 5) ≡ base_of (segment n i).place / 256)
        × (byte (n * 114 + 34 + i * 5 + 1) ≡ base_of (segment n i).place % 256)
    pub length : (n i : ℕ) → n < 32 → i < 16
        → (byte (n * 114 + 34 + i * 5 + 2) ≡ length_of (segment n i).place / 256)
        × (byte (n * 114 + 34 + i * 5 + 3) ≡ length_of (segment n i).place % 256)
    pub frozen : (n i : ℕ) → n < 32 → i < 16 → (segment n i).frozen ≡ true → byte (n * 114 + 34 + i * 5 + 4) ≡ 1
    pub not_frozen : (n i : ℕ) → n < 32 → i < 16 → (segment n i).frozen ≡ false → byte (n * 114 + 34 + i * 5 + 4) ≡ 0
