-- Stores that an image can hold: as many records, segments and password bytes as the documents give, widths that fit in a
-- byte, bases and lengths that fit in two, and no present segment of length zero. Nothing is asked of the marks, nor which
-- widths they are: whether the store is sound is another question.
--     words, widths          how many values two bytes have, and how many one byte
--     WordsFit               a base and a length fit, and the length is not zero
--     PlaceFits              an absent place, or one whose base and length fit
--     ClusterFits, StoreFits    of a record, of a store
-- Assumes nothing.
use Rattle.std.specs.Prelude.{◌≡◌, ℕ, ◌^◌, ◌≤◌, ◌<◌, length}
use Rattle.sizes.specs.Sizes.{records, segments, password_bytes}
use Rattle.store.specs.Places.{Place, None, Some}
use Rattle.store.specs.declared.Cluster.{Cluster}
use Rattle.store.specs.declared.Store.{Store}
use Rattle.store.specs.Records.{cluster_at, table_of, place_of}
use Rattle.image.specs.Images.{word_bytes, width_bytes}

abbrev pub words : ℕ
words = 256 ^ word_bytes

abbrev pub widths : ℕ
widths = 256 ^ width_bytes

pub record WordsFit (base length : ℕ) : Type 0 where
  pub starts : base < words
  pub some : 1 ≤ length
  pub ends : length < words

unfoldable pub PlaceFits : Place → Type 0
PlaceFits None = Unit {0}
PlaceFits (Some span) = WordsFit span.base span.length

pub record ClusterFits (c : Cluster) : Type 0 where
  pub wide : c.width < widths
  pub read : length c.read ≡ password_bytes
  pub write : length c.write ≡ password_bytes
  pub room : length c.segments ≡ segments
  pub places : (i : ℕ) → i < segments → PlaceFits (place_of (table_of c) i)

pub record StoreFits (s : Store) : Type 0 where
  pub whole : length s.clusters ≡ records
  pub each : (n : ℕ) → n < records → ClusterFits (cluster_at s n)
