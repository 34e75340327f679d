-- What the passes over an image's bytes work out, and how a node's map is left.
--     zeros b                every byte of b is zero
--     places_in b             the places that sixteen times five bytes hold
--     record_sound b map      114 bytes are those of a record, whose cluster is settled and whose segments are claimable in
--                            their turns
--     SegmentClaimed, SegmentsClaimed    what is told of five bytes, and of so many times five, and the map that is left
--     ActiveClaimed          the bytes of an active record at or above its width are zeros, and so many segments are claimed
--     RecordClaimed          what is told of a record, and the map that is left; of one that is refused nothing is said
--     BaseOn                 the base that a map tells, where its node is the one asked about, or what was found before
-- Assumes nothing.
use Rattle.std.specs.Prelude.{◌≡◌, Bool, true, false, ◌&&◌, List, ℕ, ◌+◌, ◌*◌, eqb, length, get_or}
use Rattle.loops.specs.Below.{every}
use Rattle.sizes.specs.Sizes.{segments}
use Rattle.store.specs.Places.{Place, Found}
use Rattle.store.specs.Records.{table_of, segment_of, place_of}
use Rattle.store.specs.Sound.{settled}
use Rattle.store.specs.inner.Passes.{Map, claimable, stamped, stamped_by, claims, Based}
use Rattle.image.specs.Images.{place_in, segment_in, segment_held, cluster_in, good_segment, good_record}
use Rattle.image.specs.Images.{segment_bytes, record_bytes, segments_at}
use Rattle.image.specs.Parts.{part, slot}

unfoldable pub zeros : List ℕ → Bool
zeros b = every (length b) (λ i. eqb (get_or b i 0) 0)

abbrev pub places_in : List ℕ → ℕ → Place
places_in b i = (segment_held b i).place

abbrev pub record_sound : List ℕ → Map → Bool
record_sound b map = good_record b && (settled (cluster_in b) && claims segments (segment_of (table_of (cluster_in b))) map)

pub record SegmentClaimed (b : List ℕ) (before : Map) (r : Bool) (after : Map) : Type 0 where
  pub told : r ≡ good_segment b && claimable (segment_in b) before
  pub left : after ≡ stamped (place_in b) before

pub record SegmentsClaimed (b : List ℕ) (count : ℕ) (before : Map) (r : Bool) (after : Map) : Type 0 where
  pub told : r ≡ every count
      (λ i. good_segment (slot segment_bytes b i) && claimable (segment_held b i) (stamped_by i (places_in b) before))
  pub left : after ≡ stamped_by count (places_in b) before

pub record ActiveClaimed (b : List ℕ) (width : ℕ) (before : Map) (r : Bool) (after : Map) : Type 0 where
  pub zero : Bool
  pub claimed : Bool
  pub told : r ≡ zero && claimed
  pub above : zero ≡ zeros (part b (segments_at + width * segment_bytes) record_bytes)
  pub turns : SegmentsClaimed (part b segments_at record_bytes) width before claimed after

pub record RecordClaimed (b : List ℕ) (before : Map) (r : Bool) (after : Map) : Type 0 where
  pub told : r ≡ record_sound b before
  pub left : r ≡ true → after ≡ stamped_by segments (place_of (table_of (cluster_in b))) before

pub record BaseOn (map : Map) (here : Bool) (size : ℕ) (found r : Found) : Type 0 where
  pub told : here ≡ true → Based map size r
  pub kept : here ≡ false → r ≡ found
