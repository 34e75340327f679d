-- The uses of §3 on images, and of looks: the stores are those of the other uses, whatever list of calls follows. A freeze is done on an
-- image where it is done on the copy that the image holds.
-- Assumes nothing.
use mathlib.Core.Path.{◌≡◌, refl, sym, ap, ◌∙◌, subst}
use mathlib.Core.Bool.{true, false}
use mathlib.Core.List.{List, [], ◌∷◌}
use Prim.Native.Nat.{ℕ}
use native.Mathlib.Omega.{arith}
use lib.ListN.{length}
use Rattle.loops.specs.Below.{every}
use Rattle.handle.specs.Handles.{no_width, decoded}
use Rattle.handle.specs.Conversion.{product}
use Rattle.store.specs.declared.Store.{Store}
use Rattle.calls.specs.Calls.{Copy, Call, freezing, looking}
use Rattle.calls.specs.Numbers.{tests, number}
use Rattle.calls.specs.Steps.{Reply, Outcome, effects, outcome, step}
use Rattle.calls.specs.Literals.{sixteen, handle, primary}
use Rattle.calls.proofs.Computing.{computing}
use Rattle.calls.proofs.StepLaws.{number_below_lem, step_refused}
use Rattle.isolation.specs.Copies.{SoundCopy, Done}
use Rattle.isolation.specs.Frozen.{place_at, frozen_at, Fixed}
use Rattle.isolation.specs.UseLists.{Wide, of_four, of_eight, of_sixteen, top, own, keeping}
use Rattle.isolation.proofs.UseCopyLaws.{sound_keeping, top_low, at_high, its_top, its_first}
use Rattle.isolation.proofs.HolderUseLaws.{its_mark, top_bytes, freeze_done, again_done}
use Rattle.image.specs.Images.{good_record, good}
use Rattle.image.proofs.TripLaws.{store_image}
use Rattle.gelmuszta.specs.Exported.{exported}
use Rattle.gelmuszta.specs.Fits.{AllFit}
use Rattle.gelmuszta.specs.Runs.{RanOn, left_on, FixedOn, FromThenOnImages}
use Rattle.gelmuszta.specs.ImageUses.{Passwords, equal, reads, writing, store, image, memory, broken}
use Rattle.gelmuszta.specs.ImageUses.{FrozenOnUses, FrozenFromUses, LookUses}
use Rattle.gelmuszta.proofs.FitLaws.{fits_out}
use Rattle.gelmuszta.proofs.LookLaws.{look_on_image}
use Rattle.gelmuszta.proofs.RunLaws.{lists_are_runs, frozen_on_images, frozen_from_then_on}
use Rattle.gelmuszta.proofs.ImageUseLaws.{store_fits, image_bytes_lem, good_store, held_copy}

-- ---- §3

module _ (v : Wide) (p : Passwords) (b c d y z : ℕ) (xs : List Call) (fit : AllFit xs) where
  abbrev copy : Copy
  copy = keeping v (sixteen (reads p)) (sixteen (writing p)) b c d y z

  fixed : FixedOn 3 7 (top v) 0 4 xs (image v p) (memory b c d y z)
  fixed =
      let e = store_image (store v p) (store_fits v p) in
      frozen_on_images 3 7 (top v) 0 4 (omega arith) (omega arith) (top_low v) xs (image v p) (memory b c d y z) fit
      (image_bytes_lem v p) (good_store v p)
      (subst SoundCopy (held_copy v p b c d y z) (sound_keeping v (sixteen (reads p)) (sixteen (writing p)) b c d y z))
      (ap (λ (s : Store). place_at s 3 7 (top v)) e ∙ its_top v (sixteen (reads p)) (sixteen (writing p)))
      (ap (λ (s : Store). frozen_at s 3 7 (top v)) e
      ∙ its_mark product v (sixteen (reads p)) (sixteen (writing p)) b c d y z xs)

  pub frozen_on_uses : FrozenOnUses v p b c d y z xs
  frozen_on_uses =
      record {
        good = fixed.good;
        active = fixed.fixed.active;
        place = fixed.fixed.place;
        frozen = fixed.fixed.frozen;
        bytes =
            top_bytes v (sixteen (reads p)) (sixteen (writing p)) b c d y z _
            (subst (λ (a : Copy). Fixed 3 7 (top v) 0 4 a (left_on xs (image v p) (memory b c d y z)))
            (sym (held_copy v p b c d y z)) fixed.fixed);
      }

-- the number of the first reply
abbrev head_number : List Reply → ℕ
head_number [] = 0
head_number (r ∷ rs) = r.number

freeze_told : (i : ℕ) (h : List ℕ) (c : Copy) → Done product (freezing 3 i h) c
    → (step product (freezing 3 i h) c).reply.number ≡ 0
unfolding step effects
freeze_told i h c e = ap (λ (n : ℕ). (outcome product n (freezing 3 i h) c).reply.number) e

module _ (b c d y z : ℕ) (xs : List Call) (fit : AllFit xs) where
  -- what a list of one call is told, on the image and on the copy that it holds
  told_on_lem : (v : Wide) (x : Call) → AllFit (x ∷ [])
      → (exported x (image v equal) (memory b c d y z)).reply.number
      ≡ (step product x (keeping v (sixteen 34) (sixteen 34) b c d y z)).reply.number
  told_on_lem v x fits =
      ap (λ (r : RanOn). head_number r.replies)
      (lists_are_runs (x ∷ []) (image v equal) (memory b c d y z) fits (image_bytes_lem v equal) (good_store v equal))
      ∙ ap (λ (a : Copy). (step product x a).reply.number) (sym (held_copy v equal b c d y z))

  exported_done : (v : Wide) → (exported (freezing 3 0 (own v 3 7 34)) (image v equal) (memory b c d y z)).reply.number ≡ 0
  exported_done v =
      told_on_lem v (freezing 3 0 (own v 3 7 34)) (fits_out (freezing 3 0 (own v 3 7 34) ∷ []) refl)
      ∙ freeze_told 0 (own v 3 7 34) _ (freeze_done product v (sixteen 34) b c d y z)

  exported_again : (v : Wide)
      → (exported (freezing 3 (top v) (own v 3 7 34)) (image v equal) (memory b c d y z)).reply.number ≡ 0
  exported_again v =
      told_on_lem v (freezing 3 (top v) (own v 3 7 34)) (fits_out (freezing 3 (top v) (own v 3 7 34) ∷ []) refl)
      ∙ freeze_told (top v) (own v 3 7 34) _ (again_done product v (sixteen 34) b c d y z)

  from_then_on : (v : Wide) → FromThenOnImages 3 7 0 (freezing 3 0 (own v 3 7 34) ∷ xs) (image v equal) (memory b c d y z)
  unfolding computing
  from_then_on of_four = frozen_from_then_on (freezing 3 0 (own of_four 3 7 34)).args xs _ _ fit (image_bytes_lem of_four equal) (exported_done of_four)
  from_then_on of_eight =
      frozen_from_then_on (freezing 3 0 (own of_eight 3 7 34)).args xs _ _ fit (image_bytes_lem of_eight equal) (exported_done of_eight)
  from_then_on of_sixteen =
      frozen_from_then_on (freezing 3 0 (own of_sixteen 3 7 34)).args xs _ _ fit (image_bytes_lem of_sixteen equal)
      (exported_done of_sixteen)

  again_from : (v : Wide)
      → FromThenOnImages 3 7 (top v) (freezing 3 (top v) (own v 3 7 34) ∷ xs) (image v equal) (memory b c d y z)
  unfolding computing
  again_from of_four =
      frozen_from_then_on (freezing 3 3 (own of_four 3 7 34)).args xs _ _ fit (image_bytes_lem of_four equal) (exported_again of_four)
  again_from of_eight =
      frozen_from_then_on (freezing 3 7 (own of_eight 3 7 34)).args xs _ _ fit (image_bytes_lem of_eight equal) (exported_again of_eight)
  again_from of_sixteen =
      frozen_from_then_on (freezing 3 15 (own of_sixteen 3 7 34)).args xs _ _ fit (image_bytes_lem of_sixteen equal)
      (exported_again of_sixteen)

  module _ (v : Wide) where
    from : FixedOn 3 7 0 4 2 (freezing 3 0 (own v 3 7 34) ∷ xs) (image v equal) (memory b c d y z)
    from =
        (from_then_on v).fixed 4 2
        (ap (λ (s : Store). place_at s 3 7 0) (store_image (store v equal) (store_fits v equal)) ∙ its_first v (sixteen 34) (sixteen 34))

    again : FixedOn 3 7 (top v) 0 4 (freezing 3 (top v) (own v 3 7 34) ∷ xs) (image v equal) (memory b c d y z)
    again =
        (again_from v).fixed 0 4
        (ap (λ (s : Store). place_at s 3 7 (top v)) (store_image (store v equal) (store_fits v equal)) ∙ its_top v (sixteen 34) (sixteen 34))

    pub frozen_from_uses : FrozenFromUses v b c d y z xs
    frozen_from_uses =
        record {
          present = (from_then_on v).present;
          good = from.good;
          active = from.fixed.active;
          place = from.fixed.place;
          frozen = from.fixed.frozen;
          bytes = (
            from.fixed.bytes 0 (omega arith) ∙ at_high v (sixteen 34) (sixteen 34) b c d y z 4,
            from.fixed.bytes 1 (omega arith) ∙ at_high v (sixteen 34) (sixteen 34) b c d y z 5,
          );
          again_present = (again_from v).present;
          again_good = again.good;
          again_active = again.fixed.active;
          again_place = again.fixed.place;
          again_frozen = again.fixed.frozen;
          again_bytes =
              top_bytes v (sixteen 34) (sixteen 34) b c d y z _
              (subst (λ (a : Copy). Fixed 3 7 (top v) 0 4 a (left_on (freezing 3 (top v) (own v 3 7 34) ∷ xs) (image v equal) (memory b c d y z)))
              (sym (held_copy v equal b c d y z)) again.fixed);
        }

-- ---- looks

broken_bad : good broken ≡ false
unfolding good good_record every
broken_bad = refl

own_width : (v : Wide) → no_width (decoded (own v 3 7 34)) ≡ false
unfolding computing
own_width of_four = refl
own_width of_eight = refl
own_width of_sixteen = refl

no_width_lem : (no_width (decoded []) ≡ true) × (no_width (decoded (handle 3 7 34 (255 ∷ 255 ∷ 255 ∷ []))) ≡ true)
unfolding computing
no_width_lem = (refl, refl)

-- a look from another node, on the copy that an image holds
looked_elsewhere : (v : Wide) (b c d y z : ℕ) → let a = keeping v (sixteen 34) (sixteen 34) b c d y z in
    number product (looking 0 0 (own v 3 7 34)) a.store (length a.memory) ≡ 5
unfolding tests computing
looked_elsewhere of_four b c d y z = number_below_lem product (looking 0 0 (own of_four 3 7 34)) _ _ (sound_keeping of_four _ _ b c d y z) ∙ refl
looked_elsewhere of_eight b c d y z = number_below_lem product (looking 0 0 (own of_eight 3 7 34)) _ _ (sound_keeping of_eight _ _ b c d y z) ∙ refl
looked_elsewhere of_sixteen b c d y z = number_below_lem product (looking 0 0 (own of_sixteen 3 7 34)) _ _ (sound_keeping of_sixteen _ _ b c d y z) ∙ refl

elsewhere_told : (v : Wide) (b c d y z : ℕ)
    → (exported (looking 0 0 (own v 3 7 34)) (image v equal) (memory b c d y z)).reply.number ≡ 5
elsewhere_told v b c d y z =
    told_on_lem b c d y z [] tt v (looking 0 0 (own v 3 7 34)) (fits_out (looking 0 0 (own v 3 7 34) ∷ []) refl)
    ∙ ap (λ (o : Outcome). o.reply.number)
    (step_refused product (looking 0 0 (own v 3 7 34)) (keeping v (sixteen 34) (sixteen 34) b c d y z) 5
    (looked_elsewhere v b c d y z) (λ q. omega arith))

pub look_uses : (v : Wide) (m : List ℕ) → LookUses v m
look_uses v m =
    let l = look_on_image 0 7 (primary 0 3 3) (image v equal) m in
    let empty = look_on_image 3 0 [] broken m in
    record {
      refused =
          empty.refused (λ e.
          let q = ap (λ (r : Reply). r.number) (empty.wrong_length broken_bad no_width_lem.0) in
          omega arith);
      refused_good = λ b c d y z.
          (look_on_image 0 0 (own v 3 7 34) (image v equal) (memory b c d y z)).refused (λ e.
          let q = elsewhere_told v b c d y z in
          omega arith);
      damaged = (look_on_image 3 0 (own v 3 7 34) broken m).damaged broken_bad (own_width v);
      wrong_length_lem =
          (look_on_image 3 0 (handle 3 7 34 (255 ∷ 255 ∷ 255 ∷ [])) broken m).wrong_length broken_bad no_width_lem.1;
      exact = l.exact;
      inside = l.inside;
    }
