-- The image of one store, and images that are damaged, written out. Which byte stands where is said by numbers alone,
-- with no definition between.
--     empty           the record of an inactive cluster
--     small           that of an active cluster of four: its passwords are sixteen bytes 21 and sixteen bytes 22,
--                     hexadecimal; its segment 3 begins at 0a0b and has 0001 bytes
--     used v g        that of an active cluster of width v: the bytes of its passwords are 1 to 32; its segment 3 begins at
--                     0102 and has 0304 bytes, hexadecimal, and is not frozen; its segment 4 is g; its segment 5 begins at
--                     0506, has 0708 bytes, and is frozen
--     large           that of an active cluster of sixteen: its passwords are sixteen bytes 31 and sixteen bytes 32,
--                     hexadecimal; its segment 8 begins at 0c0d and has 000e bytes, its segment 15 begins at 0fff, has 0001
--                     bytes, and is frozen
--     sample v g      the store with three active clusters: record 3, of local number 3 of node 0, is the small one; record
--                     10, of local number 2 of node 1, is the used one; record 31, of local number 7 of node 3, is the large
--     small_bytes, used_bytes .., large_bytes    the 114 bytes of each of these: active, width, read password, write password,
--                     sixteen segments of five bytes; of the used one are given the active byte, the width, a byte of the
--                     base and the mark of segment 4, and the mark of segment 5
--     sample_bytes ..  the 3,648 bytes of the store
--     idle_bytes v     the image of the starting store, but for the width of its first record
--     ImageBytes      with a width of eight and segment 4 absent they are its image, which is good, and it is the store that
--                     they hold
--     DamagedBytes    an active byte of 2, an absent segment with a base, marks of 2 and of 255: none of these is good. A
--                     mark of 1 on the absent segment is, and the store that is held is not sound by it; it is without
--     DamagedWidths   any byte is good as a width. The store that is held has it, and is sound with eight and sixteen; with
--                     four its segment 5 is above the width, and 0, 5, 17 and 255 are no widths. An inactive cluster has 0
-- Assumes nothing.
use Rattle.std.specs.Prelude.{ℕ, ◌≡◌, true, false, List, [], ◌∷◌, ◌++◌, map, replicate}
use Rattle.store.specs.Places.{None, present_at}
use Rattle.store.specs.declared.Segment.{Segment}
use Rattle.store.specs.declared.Cluster.{Cluster}
use Rattle.store.specs.declared.Store.{Store}
use Rattle.store.specs.Sound.{sound}
use Rattle.image.specs.Images.{store_in, good, image_of}

-- ---- the store

abbrev absent : Segment
absent = record { place = None; frozen = false }

abbrev empty : Cluster
empty =
    record { active = false; width = 0; read = replicate 16 0; write = replicate 16 0; segments = replicate 16 absent }

abbrev small : Cluster
small =
    record {
      active = true;
      width = 4;
      read = replicate 16 0x21;
      write = replicate 16 0x22;
      segments =
          replicate 3 absent ++ (record { place = present_at 0x0a0b 0x0001; frozen = false } ∷ replicate 12 absent);
    }

abbrev used : ℕ → Segment → Cluster
used v g =
    record {
      active = true;
      width = v;
      read = 1 ∷ 2 ∷ 3 ∷ 4 ∷ 5 ∷ 6 ∷ 7 ∷ 8 ∷ 9 ∷ 10 ∷ 11 ∷ 12 ∷ 13 ∷ 14 ∷ 15 ∷ 16 ∷ [];
      write = 17 ∷ 18 ∷ 19 ∷ 20 ∷ 21 ∷ 22 ∷ 23 ∷ 24 ∷ 25 ∷ 26 ∷ 27 ∷ 28 ∷ 29 ∷ 30 ∷ 31 ∷ 32 ∷ [];
      segments =
          absent
          ∷ absent
          ∷ absent
          ∷ record { place = present_at 0x0102 0x0304; frozen = false }
          ∷ g
          ∷ record { place = present_at 0x0506 0x0708; frozen = true }
          ∷ replicate 10 absent;
    }

abbrev large : Cluster
large =
    record {
      active = true;
      width = 16;
      read = replicate 16 0x31;
      write = replicate 16 0x32;
      segments =
          replicate 8 absent
          ++ (record { place = present_at 0x0c0d 0x000e; frozen = false } ∷ replicate 6 absent)
          ++ (record { place = present_at 0x0fff 0x0001; frozen = true } ∷ []);
    }

abbrev pub sample : ℕ → Segment → Store
sample v g =
    record {
      clusters =
          replicate 3 empty ++ (small ∷ replicate 6 empty) ++ (used v g ∷ replicate 20 empty) ++ (large ∷ []);
    }

-- ---- its bytes

abbrev small_bytes : List ℕ
small_bytes =
    (1 ∷ 4 ∷ [])
    ++ replicate 16 0x21
    ++ replicate 16 0x22
    ++ replicate 15 0
    ++ (0x0a ∷ 0x0b ∷ 0 ∷ 1 ∷ 0 ∷ [])
    ++ replicate 60 0

abbrev used_bytes : ℕ → ℕ → ℕ → ℕ → ℕ → List ℕ
used_bytes active width base mark4 mark5 =
    (active ∷ width ∷ [])
    ++ (1 ∷ 2 ∷ 3 ∷ 4 ∷ 5 ∷ 6 ∷ 7 ∷ 8 ∷ 9 ∷ 10 ∷ 11 ∷ 12 ∷ 13 ∷ 14 ∷ 15 ∷ 16 ∷ [])
    ++ (17 ∷ 18 ∷ 19 ∷ 20 ∷ 21 ∷ 22 ∷ 23 ∷ 24 ∷ 25 ∷ 26 ∷ 27 ∷ 28 ∷ 29 ∷ 30 ∷ 31 ∷ 32 ∷ [])
    ++ replicate 15 0
    ++ (1 ∷ 2 ∷ 3 ∷ 4 ∷ 0 ∷ [])
    ++ (0 ∷ base ∷ 0 ∷ 0 ∷ mark4 ∷ [])
    ++ (5 ∷ 6 ∷ 7 ∷ 8 ∷ mark5 ∷ [])
    ++ replicate 50 0

abbrev large_bytes : List ℕ
large_bytes =
    (1 ∷ 16 ∷ [])
    ++ replicate 16 0x31
    ++ replicate 16 0x32
    ++ replicate 40 0
    ++ (0x0c ∷ 0x0d ∷ 0 ∷ 0x0e ∷ 0 ∷ [])
    ++ replicate 30 0
    ++ (0x0f ∷ 0xff ∷ 0 ∷ 1 ∷ 1 ∷ [])

abbrev pub sample_bytes : ℕ → ℕ → ℕ → ℕ → ℕ → List ℕ
sample_bytes active width base mark4 mark5 =
    replicate 342 0
    ++ small_bytes
    ++ replicate 684 0
    ++ used_bytes active width base mark4 mark5
    ++ replicate 2280 0
    ++ large_bytes

abbrev pub idle_bytes : ℕ → List ℕ
idle_bytes v = 0 ∷ v ∷ replicate 3646 0

-- ---- what is said of them

pub record ImageBytes : Type 0 where
  pub image : image_of (sample 8 absent) ≡ sample_bytes 1 8 0 0 1
  pub store : store_in (sample_bytes 1 8 0 0 1) ≡ sample 8 absent
  pub good : good (sample_bytes 1 8 0 0 1) ≡ true

pub record DamagedBytes : Type 0 where
  pub active : good (sample_bytes 2 8 0 0 1) ≡ false
  pub based : good (sample_bytes 1 8 9 0 1) ≡ false
  pub marked : good (sample_bytes 1 8 0 0 2) ≡ false
  pub full : good (sample_bytes 1 8 0 0 255) ≡ false
  pub absent_mark : good (sample_bytes 1 8 0 1 1) ≡ true
  pub held : store_in (sample_bytes 1 8 0 1 1) ≡ sample 8 (record { place = None; frozen = true })
  pub unsound : sound (sample 8 (record { place = None; frozen = true })) 16384 ≡ false
  pub sound : sound (sample 8 absent) 16384 ≡ true

pub record DamagedWidths : Type 0 where
  pub good : (v : ℕ) → good (sample_bytes 1 v 0 0 1) ≡ true
  pub held : (v : ℕ) → store_in (sample_bytes 1 v 0 0 1) ≡ sample v absent
  pub judged : map (λ (v : ℕ). sound (sample v absent) 16384) (0 ∷ 4 ∷ 5 ∷ 8 ∷ 16 ∷ 17 ∷ 255 ∷ [])
      ≡ false ∷ false ∷ false ∷ true ∷ true ∷ false ∷ false ∷ []
  pub idle : map (λ (v : ℕ). sound (store_in (idle_bytes v)) 16384) (0 ∷ 1 ∷ 8 ∷ []) ≡ true ∷ false ∷ false ∷ []
