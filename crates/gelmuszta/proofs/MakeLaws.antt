-- Call 3 on an image: its core comes in two, and the base between them was found when the image was judged.
-- Assumes nothing.
use mathlib.Core.Path.{◌≡◌, refl, sym, ap, ◌∙◌, subst}
use mathlib.Core.Bool.{Bool, true, cond}
use mathlib.Core.List.{List, []}
use Prim.Native.Nat.{ℕ}
use lib.ListN.{length}
use Rattle.std.specs.Prelude.{Result, Ok, Err, Option}
use Rattle.std.specs.Result.{IsErrAnd}
use Rattle.sizes.specs.Sizes.{memory}
use Rattle.numbers.specs.declared.Number.{Number}
use Rattle.numbers.specs.Codes.{told}
use Rattle.handle.specs.declared.Handle.{Handle}
use Rattle.handle.specs.Handles.{node_of, first_of, decoded}
use Rattle.store.specs.declared.Store.{Store}
use Rattle.store.specs.Records.{table_at}
use Rattle.store.specs.Placement.{placement, placed_by, no_room}
use Rattle.calls.specs.declared.Given.{Given}
use Rattle.calls.specs.declared.Changed.{Changed}
use Rattle.calls.specs.Calls.{Call, making_segment}
use Rattle.calls.specs.Steps.{aes_step}
use Rattle.calls.specs.Answers.{Answer, copy_of, replied, changed}
use Rattle.numbers.proofs.ToldLaws.{told_ok, told_err, exit_err}
use Rattle.refusals.specs.declared.Opened.{Opened}
use Rattle.refusals.specs.Given.{OpenedFrom, record_found, put}
use Rattle.cluster.specs.inner.Makes.{make_rows}
use Rattle.cluster.proofs.MakeLaws.{segment_refused}
use Rattle.image.specs.Images.{good, store_in, image_of}
use Rattle.image.specs.Verdicts.{placement_in}
use Rattle.gelmuszta.specs.inner.Found.{Looks}
use Rattle.gelmuszta.specs.Exported.{leaving, exported}
use Rattle.gelmuszta.proofs.FoundLaws.{exit_lent, held, opened_from, same_lent, kept_lent}

module _ (b m hb : List ℕ) (current segment size : ℕ) (em : length m ≡ memory) (h : Handle) (eh : h ≡ decoded hb) where
  abbrev x : Call
  x = making_segment current segment size hb

  of_bytes : (r : Result Opened Number) → Looks r b h → Looks r b (decoded hb)
  of_bytes r = subst (λ (k : Handle). Looks r b k) eh

  pub segment_unopened : (n : Number) → Looks (Err n) b h → (q : Answer) → IsErrAnd q (λ k. k ≡ n)
      → leaving (replied q []) b m ≡ exported x b m
  segment_unopened n w = exit_lent b hb n (of_bytes (Err n) w) x refl refl [] refl m em

  module _ (o : Opened) (w : Looks (Ok o) b h) (r : Result (Unit {0}) Number)
      (er : told r ≡ first_of (make_rows o.sound o.handle o.cluster current segment size)) where
    wb : Looks (Ok o) b (decoded hb)
    wb = of_bytes (Ok o) w

    pub segment_turned : (n : Number) → r ≡ Err n → (q : Answer) → IsErrAnd q (λ k. k ≡ n)
        → leaving (replied q []) b m ≡ exported x b m
    segment_turned n z q i =
        ap (λ (a : Answer). leaving (replied a []) b m) (exit_err r n z q i)
        ∙ same_lent b hb o wb m em x m (Err n) []
        (segment_refused (store_in b) m hb current segment size o.sound o.handle o.cluster (opened_from b hb o wb m em) n
        (sym (told_err r n z) ∙ er))

    -- the rest of the core, once none of those refusals applies
    module _ (u : Unit {0}) (z : r ≡ Ok u) (f : Option ℕ) (v : ℕ) (ev : v ≡ node_of h) (ef : placed_by f ≡ placement_in b v size)
        (after : List ℕ) (k : Result Changed Number)
        (core : (s : Store) (d : List ℕ) (i : ℕ) → OpenedFrom o s m d
        → first_of (make_rows o.sound o.handle o.cluster i segment size) ≡ 0
        → placed_by f ≡ placement (table_at s) (node_of o.handle) size
        → changed (record_found o.handle) s after k ≡ aes_step (making_segment i segment size d) (copy_of s m)) where
      base : placed_by f ≡ placement (table_at (store_in b)) (node_of o.handle) size
      base =
          ef ∙ ap (λ (j : ℕ). placement_in b j size) (ev ∙ sym (ap node_of w.opened.handle))
          ∙ ap (λ (t : Bool). cond t (placement (table_at (store_in b)) (node_of o.handle) size) no_room) (held b hb o wb)

      done : changed (record_found o.handle) (store_in b) after k ≡ aes_step x (copy_of (store_in b) m)
      done = core (store_in b) hb current (opened_from b hb o wb m em) (sym er ∙ told_ok r u z) base

      pub segment_failed : (n : Number) → k ≡ Err n → (q : Answer) → IsErrAnd q (λ j. j ≡ n)
          → leaving (replied q []) b after ≡ exported x b m
      segment_failed n e q i =
          ap (λ (a : Answer). leaving (replied a []) b after) (exit_err k n e q i)
          ∙ same_lent b hb o wb m em x after (Err n) []
          (ap (changed (record_found o.handle) (store_in b) after) (sym e) ∙ done)

      pub segment_made : (d : Changed) → k ≡ Ok d → (g : Given) → g ≡ d.given → (image : List ℕ)
          → (good b ≡ true → image ≡ image_of (put o.handle d.cluster (store_in b)))
          → leaving (replied (Ok g) []) image after ≡ exported x b m
      segment_made d e g eg image i =
          ap (λ (c : Given). leaving (replied (Ok c) []) image after) eg
          ∙ kept_lent b hb o wb m em x after (Ok d.given) (put o.handle d.cluster (store_in b))
          (ap (changed (record_found o.handle) (store_in b) after) (sym e) ∙ done) image i
