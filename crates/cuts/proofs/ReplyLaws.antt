-- Calls with handles of the cluster of the uses, whatever the conversion and the passwords: a handle is read back from its bytes, and from there
-- on all is computed but the conversion, the soundness of the copy, and that a password is itself.
-- Assumes nothing.
use mathlib.Core.Path.{◌≡◌, refl, sym, ap, ◌∙◌}
use Prim.Native.Nat.{ℕ, ◌<◌}
use native.Mathlib.Omega.{arith}
use mathlib.Core.Bool.{Bool, true, not, ◌&&◌}
use mathlib.Core.List.{List, [], ◌∷◌}
use lib.Dec.{eqb}
use lib.ListN.{length}
use Rattle.bits.specs.Sets.{full}
use Rattle.sizes.specs.Sizes.{memory}
use Rattle.handle.specs.declared.Handle.{Handle}
use Rattle.handle.specs.Handles.{Weakened}
use Rattle.handle.specs.declared.Width.{Width}
use Rattle.handle.specs.declared.Width.TheVariants.{Four, Eight, Sixteen}
use Rattle.handle.specs.Widths.{bits_of}
use Rattle.handle.specs.Selectors.{Within}
use Rattle.handle.specs.Handles.{Name, name_of, width_of, no_width, no_such_place, encoded, decoded, written, Holdable, first_of, refusal}
use Rattle.handle.specs.Handles.{through, weakening, reduced}
use Rattle.handle.proofs.TripLaws.{decode_encode, encoded_none}
use Rattle.handle.proofs.PasswordLaws.{equal_validates}
use Rattle.store.specs.declared.Store.{Store}
use Rattle.store.specs.Records.{cluster_at, primary_of}
use Rattle.calls.specs.Calls.{Copy, weakening_by, reducing, validating, record_named}
use Rattle.calls.specs.Steps.{Outcome, handles, no_bytes, weaken_reply, left, given}
use Rattle.calls.specs.Literals.{none, told}
use Rattle.calls.proofs.StepLaws.{step_done}
use Rattle.calls.proofs.WeakenLaws.{step_weaken}
use Rattle.calls.proofs.JoinNumberLaws.{row, no_mode, gap, idle, other, one_rows, number_one, valid_one}
use Rattle.isolation.specs.UseLists.{Wide, of_four, of_eight, of_sixteen, records, keeping}
use Rattle.isolation.proofs.UseCopyLaws.{sound_keeping}
use Rattle.cuts.specs.Words.{on_copy}

abbrev pub kind : Wide → Width
kind of_four = Four
kind of_eight = Eight
kind of_sixteen = Sixteen

-- a handle of the cluster
abbrev pub of : Wide → List ℕ → List ℕ → Handle
of v q ss = record { node = 3; local = 7; password = q; width = kind v; selector = ss }

abbrev pub flat : Wide → ℕ
flat v = full (bits_of (kind v))

wide_kind : (v : Wide) → 0 < bits_of (kind v)
wide_kind of_four = omega arith
wide_kind of_eight = omega arith
wide_kind of_sixteen = omega arith

pub holds : (v : Wide) (q : List ℕ) (x y u t : ℕ) → length q ≡ 16 → Within (bits_of (kind v)) (x ∷ y ∷ u ∷ t ∷ [])
    → Holdable (of v q (x ∷ y ∷ u ∷ t ∷ []))
holds v q x y u t l i =
    record {
      wide = wide_kind v;
      node = omega arith;
      local = omega arith;
      password = l;
      selector = refl;
      within = i;
    }

module _ (f : Name → List ℕ → ℕ → List ℕ) (v : Wide) (r w : List ℕ) (b c d y z : ℕ) where
  abbrev s : Store
  s = records v r w

  abbrev copy : Copy
  copy = keeping v r w b c d y z

  module _ (k : Handle) where
    -- the rows of validation and of call 8, by whether the copy is sound and whether the handle validates
    abbrev pub by_tests : ℕ → Bool → Bool → ℕ
    by_tests m t u =
        first_of
        (row 25 (no_width k)
        ∷ row 1 (not t)
        ∷ row 2 (no_such_place k)
        ∷ row 3 (no_mode m)
        ∷ row 4 (gap f s memory m k)
        ∷ row 8 (idle f s memory m k)
        ∷ row 25 (other f s memory m k)
        ∷ row 9 (not (eqb (width_of k) (cluster_at s (record_named k)).width && u))
        ∷ [])

    abbrev pub from : ℕ → List ℕ
    from m = primary_of (cluster_at s (record_named k)) m

    -- what is computed of it: its password is what the chain ends with, and no row applies
    pub record Opened (m : ℕ) : Type 0 where
      pub ends : through (width_of k) (f (name_of k)) k.selector (from m) ≡ k.password
      pub none : by_tests m true true ≡ 0

    module _ (o : Holdable k) where
      weakens : (m : ℕ) (a : Weakened) → weakening (width_of k) (f (name_of k)) k m ≡ a
          → on_copy f copy (weakening_by m (encoded k)) ≡ weaken_reply a
      weakens m a e =
          ap (λ (x : Outcome). x.reply) (step_weaken f (weakening_by m (encoded k)).args copy)
          ∙ ap (λ (q : Handle). weaken_reply (weakening (width_of q) (f (name_of q)) q m)) (decode_encode k o)
          ∙ ap weaken_reply e

      module _ (m : ℕ) (e : Opened m) where
        clear : first_of (one_rows f s memory m (decoded (encoded k))) ≡ 0
        clear =
            ap (λ (q : Handle). first_of (one_rows f s memory m q)) (decode_encode k o)
            ∙ (λ j. by_tests m (sound_keeping v r w b c d y z j) (equal_validates (width_of k) (f (name_of k)) k (from m) e.ends j))
            ∙ e.none

        validated : on_copy f copy (validating m (encoded k)) ≡ told 0 none none 0 0 []
        unfolding left given
        validated =
            ap (λ (x : Outcome). x.reply)
            (step_done f (validating m (encoded k)) copy (valid_one f s memory m (encoded k) ∙ clear))

        reduces : (a : Handle) → reduced (width_of k) (f (name_of k)) k (from m) ≡ a
            → on_copy f copy (reducing m (encoded k)) ≡ told 0 (encoded a) none 0 0 []
        unfolding left given
        reduces a q =
            ap (λ (x : Outcome). x.reply)
            (step_done f (reducing m (encoded k)) copy (number_one f s memory m (encoded k) ∙ clear))
            ∙ ap
            (λ (q : Handle).
            handles (encoded (reduced (width_of q) (f (name_of q)) q (primary_of (cluster_at s (record_named q)) m))) no_bytes 0)
            (decode_encode k o)
            ∙ ap (λ (q : Handle). handles (encoded q) no_bytes 0) q

    -- bytes that hold a handle, and the reply that shows another
    module _ (o : Holdable k) (x : List ℕ) (ex : encoded k ≡ x) where
      pub weakening_told : (a : Handle) (u : List ℕ) (n mask : ℕ) → encoded a ≡ u
          → weakening (width_of k) (f (name_of k)) k mask ≡ record { number = 0; handle = a; count = n }
          → on_copy f copy (weakening_by mask x) ≡ told 0 u none n 0 []
      unfolding written
      weakening_told a u n mask eu e =
          ap (λ (x : List ℕ). on_copy f copy (weakening_by mask x)) (sym ex)
          ∙ weakens o mask (record { number = 0; handle = a; count = n }) e
          ∙ ap (λ (u : List ℕ). told 0 u none n 0 []) eu

      pub refusal_told : (n mask : ℕ) → weakening (width_of k) (f (name_of k)) k mask ≡ refusal n
          → on_copy f copy (weakening_by mask x) ≡ told n none none 0 0 []
      unfolding written
      refusal_told n mask e =
          ap (λ (x : List ℕ). on_copy f copy (weakening_by mask x)) (sym ex)
          ∙ weakens o mask (refusal n) e
          ∙ ap (λ (u : List ℕ). told n u none 0 0 []) encoded_none

      pub validation_told : (m : ℕ) → Opened m → on_copy f copy (validating m x) ≡ told 0 none none 0 0 []
      validation_told m e = ap (λ (x : List ℕ). on_copy f copy (validating m x)) (sym ex) ∙ validated o m e

      pub reduction_told : (m : ℕ) (a : Handle) (u : List ℕ) → encoded a ≡ u → Opened m
          → reduced (width_of k) (f (name_of k)) k (from m) ≡ a → on_copy f copy (reducing m x) ≡ told 0 u none 0 0 []
      reduction_told m a u eu e q =
          ap (λ (x : List ℕ). on_copy f copy (reducing m x)) (sym ex)
          ∙ reduces o m e a q
          ∙ ap (λ (u : List ℕ). told 0 u none 0 0 []) eu
