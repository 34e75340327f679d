-- A handle that validates in a mode on a copy opens its cluster from the mode's primary password. Handles of its name and width that open
-- it from that password, whatever they reference, meet the same rows of the table: validation and call 8 are done with them, and
-- call 8 gives the reduction.
-- Assumes nothing.
use mathlib.Core.Path.{◌≡◌, refl, sym, ap, ◌∙◌}
use mathlib.Core.Logic.{inl, inr}
use Prim.Native.Nat.{ℕ, ◌+◌, ◌*◌, ◌<◌}
use native.Mathlib.Omega.{arith}
use mathlib.Core.Bool.{Bool, true, false, not, ◌&&◌, ◌||◌, false≢true}
use mathlib.Core.List.{List, [], ◌∷◌}
use lib.Dec.{eqb, leb}
use lib.ListN.{length}
use borrow.Author.Tests.{eqb-true, eqb-false, not-false}
use Rattle.loops.proofs.BelowLaws.{and_right}
use Rattle.sizes.specs.Sizes.{nodes, clusters}
use Rattle.handle.specs.declared.Handle.{Handle}
use Rattle.handle.specs.Selectors.{references, gapped}
use Rattle.handle.specs.Handles.{Name, name_of, width_of, no_such_place, no_width, encoded, decoded, Holdable, Row, first_of, validates, reduced}
use Rattle.handle.specs.Conversion.{SixteenBytes}
use Rattle.handle.specs.Opens.{Opens}
use Rattle.handle.proofs.HeldLaws.{whole_decoded, holdable_decoded}
use Rattle.handle.proofs.PasswordLaws.{equal_validates, validates_equal}
use Rattle.store.specs.declared.Cluster.{Cluster}
use Rattle.store.specs.declared.Store.{Store}
use Rattle.store.specs.Records.{cluster_at, primary_of}
use Rattle.store.specs.Sound.{sound}
use Rattle.calls.specs.Calls.{Copy, reducing, validating, record_named}
use Rattle.calls.specs.Clear.{Clear}
use Rattle.calls.specs.JoinWords.{PrimaryFor}
use Rattle.calls.specs.Steps.{Outcome, handles, no_bytes, left, given}
use Rattle.calls.proofs.FirstLaws.{first_clear}
use Rattle.calls.proofs.StepLaws.{step_done, step_number}
use Rattle.calls.proofs.JoinNumberLaws.{row, no_mode, one_rows, one_numbered, valid_one, number_one}
use Rattle.cuts.specs.Cuts.{Valid}
use Rattle.cuts.specs.Words.{Start, on_copy}

-- the password of a mode that there is
primary_for : (m : ℕ) (k : Cluster) → no_mode m ≡ false → PrimaryFor m k (primary_of k m)
primary_for m k e = go (eqb m 1) (eqb m 2) refl refl e
  where
    go : (x y : Bool) → eqb m 1 ≡ x → eqb m 2 ≡ y → not (x || y) ≡ false
        → PrimaryFor m k (elim x [ true ↦ k.read | false ↦ k.write ])
    go true y a b e = inl (eqb-true m 1 a, refl)
    go false true a b e = inr (eqb-true m 2 b, refl)
    go false false a b e = absurd (false≢true (sym e))

module _ (f : Name → List ℕ → ℕ → List ℕ) (m : ℕ) (c : Copy) where
  abbrev s : Store
  s = c.store

  abbrev size : ℕ
  size = length c.memory

  -- the rows of validation and of call 8, by the name, the width, whether the handle is gapped and whether it validates
  abbrev rows_by : Name → ℕ → Bool → Bool → List Row
  rows_by n w g v =
      row 25 (eqb w 0)
      ∷ row 1 (not (sound s size))
      ∷ row 2 (leb nodes n.node || leb clusters n.local)
      ∷ row 3 (no_mode m)
      ∷ row 4 g
      ∷ row 8 (not (cluster_at s (n.node * 8 + n.local)).active)
      ∷ row 25 (not (eqb w (cluster_at s (n.node * 8 + n.local)).width))
      ∷ row 9 (not (eqb w (cluster_at s (n.node * 8 + n.local)).width && v))
      ∷ []

  abbrev primary_at : Name → List ℕ
  primary_at n = primary_of (cluster_at s (n.node * 8 + n.local)) m

  rows_opened : (w : ℕ) (name : Name) (r : ℕ → Bool) (k : Handle) → Opens w (f name) name (primary_at name) r k
      → one_rows f s size m k ≡ rows_by name w false true
  rows_opened w name r k o =
      (λ j.
      rows_by (o.named j) (o.wide j) (gapped (o.wide j) k.selector)
      (validates (o.wide j) (f (o.named j)) (primary_at (o.named j)) k))
      ∙ (λ j. rows_by name w (o.ungapped j) (equal_validates w (f name) k (primary_at name) o.valid j))

  module _ (sixteen : SixteenBytes f) (l : List ℕ) (start : Start f m l c) where
    abbrev pub h : Handle
    h = decoded l

    abbrev pub w : ℕ
    w = width_of h

    abbrev pub name : Name
    name = name_of h

    -- the primary password, and the conversion for the cluster's name
    abbrev pub p : List ℕ
    p = primary_at name

    abbrev pub g : List ℕ → ℕ → List ℕ
    g = f name

    numbered : first_of (one_rows f s size m h) ≡ 0
    numbered = sym (valid_one f s size m l) ∙ step_number f (validating m l) c start.valid

    clear : Clear (one_rows f s size m h)
    clear = first_clear (one_rows f s size m h) (one_numbered f s size m h) numbered

    has_width : no_width h ≡ false
    has_width = clear.0

    pub has_place : no_such_place h ≡ false
    has_place = clear.1.1.0

    pub known : 0 < w
    known = let z = eqb-false w 0 has_width in omega (arith, z)

    pub holds : Holdable h
    holds = holdable_decoded l start.bytes known

    pub valid : Valid w g p h
    valid =
        record {
          named = refl;
          wide = refl;
          whole = whole_decoded l start.bytes;
          ungapped = clear.1.1.1.1.0;
          valid =
              validates_equal w g h p (sixteen name)
              (start.sixteen p (primary_for m (cluster_at s (record_named h)) clear.1.1.1.0)) holds.password
              (and_right (eqb w (cluster_at s (record_named h)).width) (validates w g p h)
              (not-false (eqb w (cluster_at s (record_named h)).width && validates w g p h)
              clear.1.1.1.1.1.1.1.0));
          refers = λ i q. refl;
        }

    -- bytes that hold a handle which opens the cluster
    module _ (out : List ℕ) (k : Handle) (back : decoded out ≡ k) (r : ℕ → Bool) (o : Opens w g name p r k) where
      clear_out : first_of (one_rows f s size m (decoded out)) ≡ 0
      clear_out =
          ap (λ (q : Handle). first_of (one_rows f s size m q)) back
          ∙ ap first_of (rows_opened w name r k o)
          ∙ ap first_of (sym (rows_opened w name (references h.selector) h valid))
          ∙ numbered

      pub validated : (on_copy f c (validating m out)).number ≡ 0
      unfolding left given
      validated =
          ap (λ (o : Outcome). o.reply.number)
          (step_done f (validating m out) c (valid_one f s size m out ∙ clear_out))

      pub reduction : on_copy f c (reducing m out) ≡ handles (encoded (reduced w g k p)) no_bytes 0
      unfolding left given
      reduction =
          ap (λ (o : Outcome). o.reply) (step_done f (reducing m out) c (number_one f s size m out ∙ clear_out))
          ∙ (λ j.
          handles
          (encoded
          (reduced (width_of (back j)) (f (name_of (back j))) (back j) (primary_of (cluster_at s (record_named (back j))) m)))
          no_bytes 0)
          ∙ (λ j. handles (encoded (reduced (o.wide j) (f (o.named j)) k (primary_at (o.named j)))) no_bytes 0)
