-- What was opened is what the core is to be given; the record that it leaves, put back, is what the step leaves.
-- Assumes nothing.
use mathlib.Core.Path.{◌≡◌, refl, sym, ap, ◌∙◌}
use mathlib.Core.List.{List, []}
use Prim.Native.Nat.{ℕ}
use lib.ListN.{length}
use Rattle.std.specs.Prelude.{Result, Ok, Err}
use Rattle.std.specs.Result.{IsErrAnd}
use Rattle.numbers.specs.declared.Number.{Number}
use Rattle.numbers.specs.Codes.{told}
use Rattle.handle.specs.Handles.{node_of, first_of}
use Rattle.store.specs.declared.Store.{Store}
use Rattle.store.specs.Places.{Found}
use Rattle.store.specs.Records.{table_at, put_record}
use Rattle.store.specs.Placement.{placement, placed_by, PlacedIn}
use Rattle.calls.specs.declared.Done.{Done}
use Rattle.calls.specs.declared.Changed.{Changed}
use Rattle.calls.specs.Calls.{making_segment}
use Rattle.calls.specs.Steps.{aes_step}
use Rattle.calls.specs.Answers.{copy_of, ended, finished, changed}
use Rattle.numbers.proofs.ToldLaws.{told_err, told_ok, exit_err}
use Rattle.refusals.specs.declared.Opened.{Opened}
use Rattle.refusals.specs.Given.{OpenedFrom, record_found}
use Rattle.cluster.specs.inner.Makes.{make_rows}
use Rattle.cluster.proofs.MakeLaws.{segment_refused, segment_sound}
use Rattle.guard.specs.inner.Opens.{Opens, put_back}

module _ (s : Store) (m : List ℕ) (i j : ℕ) (e : i ≡ j) (l : Changed) where
  pub put_back_is : (d : Done) → d ≡ put_back s i l → finished s m [] (Ok d) ≡ changed j s m (Ok l)
  put_back_is d ed =
      ap (λ (q : Done). finished s m [] (Ok q)) ed
      ∙ ap (λ (k : ℕ). ended (put_record s k l.cluster) m (Ok l.given) []) e

-- ---- call 3, whose core comes in two

module _ (s : Store) (m b : List ℕ) (current segment size : ℕ) (o : Opened) (w : Opens o s (length m) b) (X : Type 0)
    (t : Result X Number) (et : told t ≡ first_of (make_rows o.sound o.handle o.cluster current segment size)) where
  pub new_segment_refused : (n : Number) → t ≡ Err n → (q : Result Done Number) → IsErrAnd q (λ k. k ≡ n)
      → finished s m [] q ≡ aes_step (making_segment current segment size b) (copy_of s m)
  new_segment_refused n en q i =
      ap (finished s m []) (exit_err t n en q i)
      ∙ segment_refused s m b current segment size o.sound o.handle o.cluster (w.given m refl) n (sym (told_err t n en) ∙ et)

  -- what the core promises, asked of these records
  module _ (x : X) (z : t ≡ Ok x) (v : ℕ) (ev : v ≡ node_of o.handle) (f : Found) (ef : PlacedIn s v size f)
      (after : List ℕ) (r : Result Changed Number)
      (core : (t : Store) (d : List ℕ) (i : ℕ) → OpenedFrom o t m d
      → first_of (make_rows o.sound o.handle o.cluster i segment size) ≡ 0
      → placed_by f ≡ placement (table_at t) (node_of o.handle) size
      → changed (record_found o.handle) t after r ≡ aes_step (making_segment i segment size d) (copy_of t m)) where
    left : changed (record_found o.handle) s after r ≡ aes_step (making_segment current segment size b) (copy_of s m)
    left =
        let none = sym et ∙ told_ok t x z in
        core s b current (w.given m refl) none
        (ef.told (segment_sound s m b current segment size o.sound o.handle o.cluster (w.given m refl) none)
        ∙ ap (λ (u : ℕ). placement (table_at s) u size) ev)

    pub new_segment_failed : (n : Number) → r ≡ Err n → (q : Result Done Number) → IsErrAnd q (λ k. k ≡ n)
        → finished s after [] q ≡ aes_step (making_segment current segment size b) (copy_of s m)
    new_segment_failed n en q i =
        ap (finished s after []) (exit_err r n en q i)
        ∙ ap (changed (record_found o.handle) s after) (sym en) ∙ left

    pub new_segment_made : (l : Changed) → r ≡ Ok l → (at : ℕ) → at ≡ record_found o.handle → (d : Done) → d ≡ put_back s at l
        → finished s after [] (Ok d) ≡ aes_step (making_segment current segment size b) (copy_of s m)
    new_segment_made l el at ea d ed =
        put_back_is s after at (record_found o.handle) ea l d ed
        ∙ ap (changed (record_found o.handle) s after) (sym el) ∙ left
