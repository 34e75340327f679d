-- The stores of the copies about writers are in range, and their images are bytes, so that what is proved of writers on images applies to
-- them; the image of a store in range holds that store.
-- Assumes nothing.
use mathlib.Core.Path.{◌≡◌, refl, sym, ap, ◌∙◌, subst}
use mathlib.Core.Bool.{Bool, true, ◌&&◌}
use mathlib.Core.List.{List, [], ◌∷◌}
use Prim.Native.Nat.{ℕ, zero, suc, ◌<◌}
use native.Mathlib.Omega.{arith}
use borrow.Author.Tests.{ltb-true}
use lib.Dec.{ltb}
use lib.ListN.{get_or, get_or-replicate}
use Rattle.loops.proofs.BelowLaws.{and_left, and_right}
use Rattle.bits.specs.Bytes.{Bytes, bytes}
use Rattle.sizes.specs.Sizes.{records}
use Rattle.handle.specs.Conversion.{product}
use Rattle.store.specs.Places.{present_at}
use Rattle.store.specs.declared.Store.{Store}
use Rattle.store.specs.Records.{inactive, starting_store, no_cluster, table_at, place_on}
use Rattle.calls.specs.Calls.{Copy}
use Rattle.calls.specs.Steps.{aes_step, run}
use Rattle.calls.specs.Answers.{copy_of}
use Rattle.calls.specs.Literals.{sixteen}
use Rattle.isolation.specs.Copies.{SoundCopy, InPlace, places}
use Rattle.isolation.specs.Writers.{SameToWriters, NoReader}
use Rattle.isolation.specs.WriterLists.{tenth, second, kept, keeping, ours, theirs, told_places, answers}
use Rattle.isolation.proofs.WriterWitnessLaws.{writers_list, in_end}
use Rattle.image.specs.Images.{image_bytes, image_of, record_out, segments_out, segment_out, place_out}
use Rattle.image.specs.Parts.{joined}
use Rattle.image.specs.Ranges.{PlaceFits, ClusterFits, StoreFits}
use Rattle.image.proofs.TripLaws.{good_image, store_image, length_image}
use Rattle.image.proofs.RangeLaws.{put_fits, place_fits, started_fits, inactive_fits}
use Rattle.gelmuszta.specs.Runs.{RanOn, held, ImagesUntold}
use Rattle.gelmuszta.specs.WriterImages.{calls, ran_on, end_on, parts_on, WritersImages}
use Rattle.gelmuszta.specs.Fits.{AllFit}
use Rattle.gelmuszta.proofs.FitLaws.{fits_out}
use Rattle.gelmuszta.proofs.RunLaws.{lists_are_runs, places_are_runs, parts, held_left, writers_on_images}

-- ---- the stores are in range

starting_fits : StoreFits starting_store
starting_fits =
    record {
      whole = refl;
      each = λ n h. subst ClusterFits (sym (get_or-replicate records n inactive no_cluster h)) inactive_fits;
    }

present_fits : (base size : ℕ) → base < 100 → 0 < size → size < 100 → PlaceFits (present_at base size)
unfolding PlaceFits
present_fits base size b z s = record { starts = omega arith; some = omega arith; ends = omega arith }

kept_fits : (r : ℕ) → StoreFits (kept r)
kept_fits r =
    put_fits _ 2 (second r)
    (put_fits starting_store 10 tenth starting_fits
    (place_fits _ 0 _ (started_fits 8 (sixteen 50) (sixteen 51) (omega arith) refl refl) (present_fits 0 2 (omega arith) (omega arith) (omega arith))))
    (place_fits _ 3 _
    (place_fits _ 4 _
    (place_fits _ 5 _ (started_fits 8 (sixteen r) (sixteen 34) (omega arith) refl refl) (present_fits 0 4 (omega arith) (omega arith) (omega arith)))
    (present_fits 4 2 (omega arith) (omega arith) (omega arith)))
    (present_fits 10 1 (omega arith) (omega arith) (omega arith)))

-- ---- their images are bytes

abbrev small : List ℕ → Bool
small [] = true
small (x ∷ xs) = ltb x 256 && small xs

small_below : (b : List ℕ) → small b ≡ true → (i : ℕ) → get_or b i 0 < 256
small_below [] e i = omega arith
small_below (x ∷ xs) e zero = ltb-true x 256 (and_left (ltb x 256) (small xs) e)
small_below (x ∷ xs) e (suc i) = small_below xs (and_right (ltb x 256) (small xs) e) i

small_ours : small (image_of (kept 17)) ≡ true
unfolding image_of record_out segments_out segment_out place_out bytes joined
small_ours = refl

small_theirs : small (image_of (kept 1)) ≡ true
unfolding image_of record_out segments_out segment_out place_out bytes joined
small_theirs = refl

image_bytes_lem : (r : ℕ) → small (image_of (kept r)) ≡ true → Bytes image_bytes (image_of (kept r))
image_bytes_lem r e = record { long = length_image (kept r) (kept_fits r); below = small_below (image_of (kept r)) e }

-- ---- what holds of the copies holds of what the images hold

held_kept : (r b z : ℕ) → keeping r b z ≡ held (image_of (kept r)) (keeping r b z).memory
held_kept r b z = ap (λ (s : Store). copy_of s (keeping r b z).memory) (sym (store_image (kept r) (kept_fits r)))

all_fits : AllFit calls
all_fits = fits_out calls refl

abbrev first : List ℕ
first = image_of ours.store

abbrev second_image : List ℕ
second_image = image_of theirs.store

images_untold : ImagesUntold 0 2 calls first ours.memory second_image theirs.memory
images_untold =
    let m = (writers_list product).met in
    let eo = held_kept 17 7 5 in
    let et = held_kept 1 9 6 in
    writers_on_images 0 2 (omega arith) (omega arith) calls first ours.memory second_image theirs.memory all_fits
    (image_bytes_lem 17 small_ours) (good_image (kept 17) (kept_fits 17)) (image_bytes_lem 1 small_theirs)
    (good_image (kept 1) (kept_fits 1)) (subst SoundCopy eo m.sound_ours) (subst SoundCopy et m.sound_theirs)
    (subst (λ (c : Copy). SameToWriters 0 2 c (held second_image theirs.memory)) eo
    (subst (SameToWriters 0 2 ours) et m.same))
    (subst (NoReader 0 2 product aes_step calls) eo m.no_reader_ours)
    (subst (NoReader 0 2 product aes_step calls) et m.no_reader_theirs)

answered : (ran_on ours).replies ≡ answers product
answered =
    ap (λ (r : RanOn). r.replies)
    (lists_are_runs calls first ours.memory all_fits (image_bytes_lem 17 small_ours) (good_image (kept 17) (kept_fits 17)))
    ∙ ap (λ (c : Copy). (run product calls c).replies) (sym (held_kept 17 7 5))
    ∙ (writers_list product).replies

looked : parts_on ours ≡ parts told_places
looked =
    places_are_runs calls first ours.memory all_fits (image_bytes_lem 17 small_ours) (good_image (kept 17) (kept_fits 17))
    ∙ ap (λ (c : Copy). parts (places product calls c)) (sym (held_kept 17 7 5))
    ∙ ap parts (writers_list product).places

-- the copy that the run leaves is what the image left holds
ended : (run product calls ours).copy ≡ end_on ours
ended =
    ap (λ (c : Copy). (run product calls c).copy) (held_kept 17 7 5)
    ∙ held_left calls all_fits first ours.memory (image_bytes_lem 17 small_ours) (good_image (kept 17) (kept_fits 17))

pub writers_images : WritersImages
writers_images =
    let u = images_untold in
    record {
      replies_ours = answered;
      replies_theirs = sym u.replies ∙ answered;
      parts_ours = looked;
      parts_theirs = sym u.places ∙ looked;
      record_3 = u.same.others 3 (λ e. omega arith);
      record_10 = u.same.others 10 (λ e. omega arith);
      byte_4 =
          u.same.bytes 0 3 7 4 (omega arith) (omega arith) (omega arith) (λ e. omega arith)
          (subst (λ (c : Copy). InPlace 0 (place_on (table_at c.store) 0 3 7) 4) ended (in_end product).0);
      byte_4098 =
          u.same.bytes 1 2 1 4098 (omega arith) (omega arith) (omega arith) (λ e. omega arith)
          (subst (λ (c : Copy). InPlace 1 (place_on (table_at c.store) 1 2 1) 4098) ended (in_end product).1);
      table = u.same.table;
      write = u.same.write;
    }
