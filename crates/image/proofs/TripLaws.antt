-- An image and its store, each read back from the other: level by level, sixteen segments, a record, the store.
-- A part of what was put together is what was put there, so each level rests on the one below.
-- Assumes nothing.
use mathlib.Core.Path.{◌≡◌, refl, sym, ap, ap₂, ◌∙◌}
use mathlib.Core.Bool.{Bool, true}
use mathlib.Core.List.{List, [], ◌∷◌, ◌++◌, append_assoc}
use Prim.Native.Nat.{ℕ, ◌+◌, ◌*◌, ◌%◌, ◌<◌}
use native.Mathlib.Omega.{arith}
use lib.ListN.{length, get_or, take, drop, length-append, length-drop, take-append-drop, replicate}
use lib.Seq.{take_at, drop_at, take_all, drop-drop}
use mir.Val.{Fits}
use mir.Syntax.{w8}
use Rattle.bits.specs.Bytes.{bytes, Bytes}
use Rattle.loops.proofs.BelowLaws.{and_left, and_right, and_both, every_at, every_in}
use Rattle.loops.proofs.TabulateLaws.{get_d_tabulate, tabulate_is}
use Rattle.sizes.specs.Sizes.{records, segments, password_bytes}
use Rattle.store.specs.declared.Segment.{Segment}
use Rattle.store.specs.declared.Cluster.{Cluster}
use Rattle.store.specs.declared.Store.{Store}
use Rattle.store.specs.Records.{absent_segment, starting_store, no_cluster, cluster_at}
use Rattle.image.specs.Parts.{part, slot, joined}
use Rattle.image.specs.Images.{segment_bytes, record_bytes, image_bytes, width_at, read_at, write_at, segments_at, good_flag}
use Rattle.image.specs.Images.{segment_in, good_segment, segment_held, segments_in, good_segments, cluster_in, good_record}
use Rattle.image.specs.Images.{store_in, good, flag_out, place_out, segment_out, segments_out, record_out, image_of}
use Rattle.image.specs.Ranges.{PlaceFits, ClusterFits, StoreFits}
use Rattle.image.proofs.PartLaws.{bytes_part, bytes_slot, joined_same, length_joined, slot_joined, joined_slots}
use Rattle.image.proofs.SegmentTripLaws.{flag_trip, flag_good, flag_back}
use Rattle.image.proofs.SegmentTripLaws.{length_segment, segment_trip, segment_good, segment_back}

-- ---- sixteen segments

module _ (gs : List Segment) where
  abbrev each : ℕ → List ℕ
  each i = segment_out (get_or gs i absent_segment)

  pub length_segments : length (segments_out gs) ≡ segments * segment_bytes
  unfolding segments_out
  length_segments = length_joined segment_bytes segments each (λ i h. length_segment (get_or gs i absent_segment))

  pub segment_at_lem : (i : ℕ) → i < segments → slot segment_bytes (segments_out gs) i ≡ each i
  unfolding segments_out
  segment_at_lem i h = slot_joined segment_bytes segments each (λ i h. length_segment (get_or gs i absent_segment)) i h

  module _ (fit : (i : ℕ) → i < segments → PlaceFits (get_or gs i absent_segment).place) where
    segments_trip : length gs ≡ segments → segments_in (segments_out gs) ≡ gs
    unfolding segments_in
    segments_trip e =
        sym (tabulate_is segments (segment_held (segments_out gs)) absent_segment gs e
        (λ i h. sym (ap segment_in (segment_at_lem i h) ∙ segment_trip (get_or gs i absent_segment) (fit i h))))

    segments_good : good_segments (segments_out gs) ≡ true
    unfolding good_segments
    segments_good =
        every_in segments (λ i. good_segment (slot segment_bytes (segments_out gs) i))
        (λ i h. ap good_segment (segment_at_lem i h) ∙ segment_good (get_or gs i absent_segment) (fit i h))

segments_back : (q : List ℕ) → Bytes (segments * segment_bytes) q → good_segments q ≡ true → segments_out (segments_in q) ≡ q
unfolding segments_out segments_in good_segments
segments_back q h g =
    joined_same segments _ (slot segment_bytes q)
    (λ i l. ap segment_out (get_d_tabulate segments (segment_held q) absent_segment i l)
    ∙ segment_back (slot segment_bytes q i) (bytes_slot segment_bytes segments q i h l)
    (every_at segments (λ k. good_segment (slot segment_bytes q k)) g i l))
    ∙ joined_slots segment_bytes segments q h.long

-- ---- a record

module _ (f v : ℕ) (r w s : List ℕ) (lr : length r ≡ password_bytes) (lw : length w ≡ password_bytes)
    (ls : length s ≡ segments * segment_bytes) where
  part_read : part (f ∷ v ∷ (r ++ (w ++ s))) read_at write_at ≡ r
  part_read = take_at r (w ++ s) password_bytes lr

  part_write : part (f ∷ v ∷ (r ++ (w ++ s))) write_at segments_at ≡ w
  part_write = ap (take password_bytes) (drop_at r (w ++ s) password_bytes lr) ∙ take_at w s password_bytes lw

  part_segments : part (f ∷ v ∷ (r ++ (w ++ s))) segments_at record_bytes ≡ s
  part_segments =
      ap (λ (z : List ℕ). take (segments * segment_bytes) (drop (password_bytes + password_bytes) z)) (sym (append_assoc r w s))
      ∙ ap (take (segments * segment_bytes))
      (drop_at (r ++ w) s (password_bytes + password_bytes) (length-append r w ∙ ap₂ (λ (a b : ℕ). a + b) lr lw))
      ∙ take_all (segments * segment_bytes) s (omega arith)

  length_all : length (f ∷ v ∷ (r ++ (w ++ s))) ≡ record_bytes
  length_all = simp (length-append, lr, lw, ls)

pub low_byte : (v : ℕ) → v < 256 → v % 256 ≡ v
low_byte v h = omega arith

module _ (c : Cluster) (fit : ClusterFits c) where
  ls : length (segments_out c.segments) ≡ segments * segment_bytes
  ls = length_segments c.segments

  pub length_record : length (record_out c) ≡ record_bytes
  unfolding record_out bytes
  length_record = length_all (flag_out c.active) (c.width % 256) c.read c.write (segments_out c.segments) fit.read fit.write ls

  pub read_in : part (record_out c) read_at write_at ≡ c.read
  unfolding record_out bytes
  read_in = part_read (flag_out c.active) (c.width % 256) c.read c.write (segments_out c.segments) fit.read fit.write ls

  pub write_in : part (record_out c) write_at segments_at ≡ c.write
  unfolding record_out bytes
  write_in = part_write (flag_out c.active) (c.width % 256) c.read c.write (segments_out c.segments) fit.read fit.write ls

  pub segments_in_lem : part (record_out c) segments_at record_bytes ≡ segments_out c.segments
  unfolding record_out bytes
  segments_in_lem = part_segments (flag_out c.active) (c.width % 256) c.read c.write (segments_out c.segments) fit.read fit.write ls

  record_trip : cluster_in (record_out c) ≡ c
  unfolding record_out bytes cluster_in
  record_trip =
      λ j. record {
        active = flag_trip c.active j;
        width = low_byte c.width fit.wide j;
        read = read_in j;
        write = write_in j;
        segments = (ap segments_in segments_in_lem ∙ segments_trip c.segments fit.places fit.room) j;
      }

  record_good : good_record (record_out c) ≡ true
  unfolding record_out bytes good_record
  record_good =
      and_both (good_flag (flag_out c.active)) (good_segments (part (record_out c) segments_at record_bytes))
      (flag_good c.active) (ap good_segments segments_in_lem ∙ segments_good c.segments fit.places)

pub record_back : (q : List ℕ) → Bytes record_bytes q → good_record q ≡ true → record_out (cluster_in q) ≡ q
unfolding record_out bytes cluster_in good_record
record_back [] h g = let e = h.long in absurd (omega arith)
record_back (x ∷ []) h g = let e = h.long in absurd (omega arith)
record_back (x ∷ y ∷ q) h g =
    λ j. flag_back x (and_left (good_flag x) (good_segments (part (x ∷ y ∷ q) segments_at record_bytes)) g) j ∷ low_byte y (h.below width_at) j ∷ rest j
  where
    last : segments_out (segments_in (part (x ∷ y ∷ q) segments_at record_bytes)) ≡ drop (password_bytes + password_bytes) q
    last =
        segments_back (part (x ∷ y ∷ q) segments_at record_bytes) (bytes_part record_bytes (x ∷ y ∷ q) segments_at record_bytes h (omega arith))
        (and_right (good_flag x) (good_segments (part (x ∷ y ∷ q) segments_at record_bytes)) g)
        ∙ take_all (segments * segment_bytes) (drop (password_bytes + password_bytes) q) (rw length-drop (let z = h.long in omega arith))

    rest : take password_bytes q ++ (take password_bytes (drop password_bytes q) ++ segments_out (segments_in (part (x ∷ y ∷ q) segments_at record_bytes))) ≡ q
    rest =
        ap (λ (z : List ℕ). take password_bytes q ++ (take password_bytes (drop password_bytes q) ++ z)) (last ∙ sym (drop-drop password_bytes password_bytes q))
        ∙ ap (λ (z : List ℕ). take password_bytes q ++ z) (take-append-drop password_bytes (drop password_bytes q))
        ∙ take-append-drop password_bytes q

-- ---- the store

module _ (s : Store) (fit : StoreFits s) where
  pub record_at_lem : (n : ℕ) → n < records → slot record_bytes (image_of s) n ≡ record_out (cluster_at s n)
  unfolding image_of
  record_at_lem n h =
      slot_joined record_bytes records (λ k. record_out (cluster_at s k)) (λ k l. length_record (cluster_at s k) (fit.each k l)) n h

  pub length_image : length (image_of s) ≡ image_bytes
  unfolding image_of
  length_image = length_joined record_bytes records (λ k. record_out (cluster_at s k)) (λ k l. length_record (cluster_at s k) (fit.each k l))

  -- the image of a store in range is good, and holds that store
  pub good_image : good (image_of s) ≡ true
  unfolding good
  good_image =
      every_in records (λ n. good_record (slot record_bytes (image_of s) n))
      (λ n h. ap good_record (record_at_lem n h) ∙ record_good (cluster_at s n) (fit.each n h))

  pub store_image : store_in (image_of s) ≡ s
  unfolding store_in
  store_image =
      λ j. record {
        clusters =
            sym (tabulate_is records (λ n. cluster_in (slot record_bytes (image_of s) n)) no_cluster s.clusters fit.whole
            (λ n h. sym (ap cluster_in (record_at_lem n h) ∙ record_trip (cluster_at s n) (fit.each n h)))) j;
      }

-- good bytes are the image of the store that they hold
pub image_store : (b : List ℕ) → Bytes image_bytes b → good b ≡ true → image_of (store_in b) ≡ b
unfolding image_of store_in good
image_store b h g =
    joined_same records _ (slot record_bytes b)
    (λ n l. ap record_out (get_d_tabulate records (λ k. cluster_in (slot record_bytes b k)) no_cluster n l)
    ∙ record_back (slot record_bytes b n) (bytes_slot record_bytes records b n h l)
    (every_at records (λ k. good_record (slot record_bytes b k)) g n l))
    ∙ joined_slots record_bytes records b h.long

-- the same, in the code's own terms
pub image_held : (b : List ℕ) → length b ≡ image_bytes → ((i : ℕ) → Fits w8 (get_or b i 0)) → (g : Bool) → g ≡ good b
    → (s : Store) → s ≡ store_in b → g ≡ true → image_of s ≡ b
image_held b l f g eg s es t =
    ap image_of es ∙ image_store b (record { long = l; below = λ i. (f i).fits }) (sym eg ∙ t)

-- the starting store's image is all zeros
pub image_starting : image_of starting_store ≡ replicate image_bytes 0
unfolding image_of joined record_out segments_out segment_out place_out bytes
image_starting = refl
