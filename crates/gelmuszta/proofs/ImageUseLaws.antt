-- The images of the uses: their stores are in range and their bytes below 256, which is computed for each width and each of the passwords;
-- the lists take in passwords of sixteen bytes, any number of rounds too. So condition 3 and §7 of images apply, and each fact is one
-- clause of a conclusion.
-- Assumes nothing.
use mathlib.Core.Path.{◌≡◌, refl, sym, ap, ◌∙◌, subst}
use mathlib.Core.Bool.{Bool, true, ◌&&◌}
use mathlib.Core.List.{List, [], ◌∷◌, ◌++◌}
use Prim.Native.Nat.{ℕ, zero, suc, ◌<◌}
use native.Mathlib.Omega.{arith}
use lib.Dec.{ltb}
use lib.ListN.{get_or, get_or-replicate}
use borrow.Author.Tests.{ltb-true}
use Rattle.loops.proofs.BelowLaws.{and_left, and_right}
use Rattle.bits.specs.Bytes.{Bytes, bytes}
use Rattle.sizes.specs.Sizes.{records}
use Rattle.handle.specs.Conversion.{product}
use Rattle.store.specs.Places.{present_at}
use Rattle.store.specs.declared.Cluster.{Cluster}
use Rattle.store.specs.declared.Store.{Store}
use Rattle.store.specs.Records.{inactive, starting_store, no_cluster, table_of, cluster_at, table_at, place_of}
use Rattle.calls.specs.Calls.{Copy, Call}
use Rattle.calls.specs.Steps.{Ran, run, aes_step}
use Rattle.calls.specs.Answers.{copy_of}
use Rattle.calls.specs.Literals.{sixteen}
use Rattle.isolation.specs.Copies.{SoundCopy, InPlace, Alike, Held, AllShut}
use Rattle.isolation.specs.Writers.{SameToWriters, NoReader}
use Rattle.isolation.specs.UseLists.{Wide, of_four, of_eight, of_sixteen, top, bits, beside, near, keeping, repeated, shut, writes}
use Rattle.isolation.proofs.UseCopyLaws.{sound_keeping, alike_keeping, same_keeping}
use Rattle.isolation.proofs.UseLaws.{shut_ended, all_shut, left_uses}
use Rattle.isolation.proofs.WriterUseLaws.{no_reader, writers_uses}
use Rattle.image.specs.Images.{image_bytes, good, image_of, record_out, segments_out, segment_out, place_out}
use Rattle.image.specs.Parts.{joined}
use Rattle.image.specs.Ranges.{PlaceFits, ClusterFits, StoreFits}
use Rattle.image.proofs.TripLaws.{good_image, store_image, length_image}
use Rattle.image.proofs.RangeLaws.{put_fits, place_fits, mark_fits, started_fits, inactive_fits}
use Rattle.gelmuszta.specs.Fits.{AllFit}
use Rattle.gelmuszta.specs.Runs.{held, left_on, ImagesAgree, ImagesUntold}
use Rattle.gelmuszta.specs.ImageUses.{Passwords, equal, others, another, reads, writing, store, image, memory}
use Rattle.gelmuszta.specs.ImageUses.{TwoImagesUses, WritersOnUses}
use Rattle.gelmuszta.proofs.FitLaws.{fits_out}
use Rattle.gelmuszta.proofs.RunLaws.{held_left, two_images, writers_on_images}

-- ---- the stores are in range

starting_fits : StoreFits starting_store
starting_fits =
    record {
      whole = refl;
      each = λ n h. subst ClusterFits (sym (get_or-replicate records n inactive no_cluster h)) inactive_fits;
    }

present_fits : (base size : ℕ) → base < 100 → 0 < size → size < 100 → PlaceFits (present_at base size)
unfolding PlaceFits
present_fits base size b z s = record { starts = omega arith; some = omega arith; ends = omega arith }

few_bits : (v : Wide) → bits v < 256
few_bits of_four = omega arith
few_bits of_eight = omega arith
few_bits of_sixteen = omega arith

pub store_fits : (v : Wide) (p : Passwords) → StoreFits (store v p)
store_fits v p =
    put_fits _ 31 _
    (put_fits _ 26 near
    (put_fits starting_store 3 beside starting_fits
    (place_fits _ 7 _ (started_fits 8 (sixteen 3) (sixteen 4) (omega arith) refl refl) (present_fits 0 2 (omega arith) (omega arith) (omega arith))))
    (mark_fits _ 15
    (place_fits _ 15 _ (started_fits 16 (sixteen 50) (sixteen 50) (omega arith) refl refl)
    (present_fits 7 2 (omega arith) (omega arith) (omega arith)))))
    (mark_fits _ (top v)
    (place_fits _ 0 _
    (place_fits _ (top v) _ (started_fits (bits v) (sixteen (reads p)) (sixteen (writing p)) (few_bits v) refl refl)
    (present_fits 0 4 (omega arith) (omega arith) (omega arith)))
    (present_fits 4 2 (omega arith) (omega arith) (omega arith))))

-- ---- their images are bytes

abbrev small : List ℕ → Bool
small [] = true
small (x ∷ xs) = ltb x 256 && small xs

small_below : (b : List ℕ) → small b ≡ true → (i : ℕ) → get_or b i 0 < 256
small_below [] e i = omega arith
small_below (x ∷ xs) e zero = ltb-true x 256 (and_left (ltb x 256) (small xs) e)
small_below (x ∷ xs) e (suc i) = small_below xs (and_right (ltb x 256) (small xs) e) i

small_image : (v : Wide) (p : Passwords) → small (image v p) ≡ true
unfolding image_of record_out segments_out segment_out place_out bytes joined
small_image of_four equal = refl
small_image of_four others = refl
small_image of_four another = refl
small_image of_eight equal = refl
small_image of_eight others = refl
small_image of_eight another = refl
small_image of_sixteen equal = refl
small_image of_sixteen others = refl
small_image of_sixteen another = refl

pub image_bytes_lem : (v : Wide) (p : Passwords) → Bytes image_bytes (image v p)
image_bytes_lem v p =
    record { long = length_image (store v p) (store_fits v p); below = small_below (image v p) (small_image v p) }

pub good_store : (v : Wide) (p : Passwords) → good (image v p) ≡ true
good_store v p = good_image (store v p) (store_fits v p)

-- what an image holds is the copy
pub held_copy : (v : Wide) (p : Passwords) (b c d y z : ℕ)
    → keeping v (sixteen (reads p)) (sixteen (writing p)) b c d y z ≡ held (image v p) (memory b c d y z)
held_copy v p b c d y z =
    ap (λ (s : Store). copy_of s (memory b c d y z)) (sym (store_image (store v p) (store_fits v p)))

-- ---- the lists are in range

append_fits : (xs ys : List Call) → AllFit xs → AllFit ys → AllFit (xs ++ ys)
append_fits [] ys a b = b
append_fits (x ∷ xs) ys a b = (a.0, append_fits xs ys a.1 b)

repeated_fits : (xs : List Call) → AllFit xs → (n : ℕ) → AllFit (repeated n xs)
repeated_fits xs a zero = tt
repeated_fits xs a (suc n) = append_fits xs (repeated n xs) a (repeated_fits xs a n)

writes_fit : (v : Wide) → AllFit (writes v)
writes_fit of_four = fits_out (writes of_four) refl
writes_fit of_eight = fits_out (writes of_eight) refl
writes_fit of_sixteen = fits_out (writes of_sixteen) refl

-- ---- condition 3

module _ (v : Wide) (n : ℕ) (b c d k l m y z : ℕ) where
  abbrev first : Copy
  first = keeping v (sixteen 34) (sixteen 34) b c d y z

  abbrev second : Copy
  second = keeping v (sixteen 1) (sixteen 2) k l m y z

  agree : ImagesAgree 3 7 (repeated n shut) (image v equal) (memory b c d y z) (image v others) (memory k l m y z)
  agree =
      let ef = held_copy v equal b c d y z in
      let es = held_copy v others k l m y z in
      two_images 3 7 (omega arith) (omega arith) (repeated n shut) (image v equal) (memory b c d y z) (image v others)
      (memory k l m y z) (repeated_fits shut (fits_out shut refl) n) (image_bytes_lem v equal) (good_store v equal)
      (image_bytes_lem v others) (good_store v others)
      (subst SoundCopy ef (sound_keeping v (sixteen 34) (sixteen 34) b c d y z))
      (subst SoundCopy es (sound_keeping v (sixteen 1) (sixteen 2) k l m y z))
      (ap (λ (a : Copy). (table_at a.store 31).active) (sym ef))
      (subst (λ (a : Copy). Alike 3 7 a (held (image v others) (memory k l m y z))) ef
      (subst (Alike 3 7 first) es (alike_keeping v (sixteen 34) (sixteen 34) (sixteen 1) (sixteen 2) b c d k l m y z)))
      (subst (AllShut 3 7 product (repeated n shut)) ef (all_shut product v (sixteen 34) (sixteen 34) b c d y z n))
      (subst (AllShut 3 7 product (repeated n shut)) es (all_shut product v (sixteen 1) (sixteen 2) k l m y z n))

  -- the first image left holds what the copy was
  still_first : left_on (repeated n shut) (image v equal) (memory b c d y z) ≡ first
  still_first =
      sym (held_left (repeated n shut) (repeated_fits shut (fits_out shut refl) n) (image v equal) (memory b c d y z)
      (image_bytes_lem v equal) (good_store v equal))
      ∙ ap (λ (a : Copy). (run product (repeated n shut) a).copy) (sym (held_copy v equal b c d y z))
      ∙ ap (λ (a : Ran). a.copy) (shut_ended product v (sixteen 34) (sixteen 34) b c d y z n)

  pub two_images_uses : TwoImagesUses v n b c d k l m y z
  two_images_uses =
      let a = agree in
      record {
        replies = a.replies;
        places = a.places;
        good_first = a.good_first;
        good_second = a.good_second;
        left =
            left_uses v (sixteen 34) (sixteen 1) (sixteen 2) b c d k l m y z _ _ still_first a.alike a.others
            (subst (λ (x : Copy). Held 3 7 x (left_on (repeated n shut) (image v equal) (memory b c d y z)))
            (sym (held_copy v equal b c d y z)) a.held_first)
            (subst (λ (x : Copy). Held 3 7 x (left_on (repeated n shut) (image v others) (memory k l m y z)))
            (sym (held_copy v others k l m y z)) a.held_second);
      }

-- ---- §7

module _ (v : Wide) (n : ℕ) (b c d y z k l m x t : ℕ) where
  abbrev list : List Call
  list = repeated n (writes v)

  list_fits : AllFit list
  list_fits = repeated_fits (writes v) (writes_fit v) n

  untold : ImagesUntold 3 7 list (image v equal) (memory b c d y z) (image v another) (memory k l m x t)
  untold =
      let eo = held_copy v equal b c d y z in
      let et = held_copy v another k l m x t in
      writers_on_images 3 7 (omega arith) (omega arith) list (image v equal) (memory b c d y z) (image v another)
      (memory k l m x t) list_fits (image_bytes_lem v equal) (good_store v equal) (image_bytes_lem v another) (good_store v another)
      (subst SoundCopy eo (sound_keeping v (sixteen 34) (sixteen 34) b c d y z))
      (subst SoundCopy et (sound_keeping v (sixteen 1) (sixteen 34) k l m x t))
      (subst (λ (a : Copy). SameToWriters 3 7 a (held (image v another) (memory k l m x t))) eo
      (subst (SameToWriters 3 7 (keeping v (sixteen 34) (sixteen 34) b c d y z)) et
      (same_keeping v (sixteen 34) (sixteen 1) (sixteen 34) b c d y z k l m x t)))
      (subst (NoReader 3 7 product aes_step list) eo (no_reader product v (sixteen 34) b c d y z n))
      (subst (NoReader 3 7 product aes_step list) et (no_reader product v (sixteen 1) k l m x t n))

  -- the other clusters' records are as they were, in what the first image left holds
  still : (k : ℕ) → cluster_at (run product list (keeping v (sixteen 34) (sixteen 34) b c d y z)).copy.store k
      ≡ cluster_at (left_on list (image v equal) (memory b c d y z)).store k
  still k =
      ap (λ (a : Copy). cluster_at (run product list a).copy.store k) (held_copy v equal b c d y z)
      ∙ ap (λ (a : Copy). cluster_at a.store k)
      (held_left list list_fits (image v equal) (memory b c d y z) (image_bytes_lem v equal) (good_store v equal))

  still_beside : beside ≡ cluster_at (left_on list (image v equal) (memory b c d y z)).store 3
  still_beside = sym (writers_uses product v n (sixteen 34) b c d y z b c d y z).other_record ∙ still 3

  still_near : near ≡ cluster_at (left_on list (image v equal) (memory b c d y z)).store 26
  still_near = sym (writers_uses product v n (sixteen 34) b c d y z b c d y z).near_record ∙ still 26

  pub writers_on_uses : WritersOnUses v n b c d y z k l m x t
  writers_on_uses =
      record {
        replies = untold.replies;
        places = untold.places;
        good_ours = untold.good_first;
        good_theirs = untold.good_second;
        records = untold.same.records;
        other_record = untold.same.others 3 (λ e. omega arith);
        table = untold.same.table;
        write = untold.same.write;
        size = untold.same.size;
        other_byte =
            untold.same.bytes 0 3 7 1 (omega arith) (omega arith) (omega arith) (λ e. omega arith)
            (subst (λ (a : Cluster). InPlace 0 (place_of (table_of a) 7) 1) still_beside (omega arith, omega arith));
        near_record = untold.same.others 26 (λ e. omega arith);
        near_byte =
            untold.same.bytes 3 2 15 12296 (omega arith) (omega arith) (omega arith) (λ e. omega arith)
            (subst (λ (a : Cluster). InPlace 3 (place_of (table_of a) 15) 12296) still_near (omega arith, omega arith));
      }
