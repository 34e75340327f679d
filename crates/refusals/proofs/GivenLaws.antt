-- A core is given what a store holds, so each law of one may be shown on the store's own: the equations of `Given` carry it
-- over (`by_given`). The record of the handle's cluster may be looked up before its place is judged: a bad place is
-- refused by row 2, whatever the record is (`either_record`).
-- Assumes nothing.
use mathlib.Core.Path.{◌≡◌, refl, sym, ap, subst, ◌∙◌}
use mathlib.Core.Bool.{Bool, true, false, not, ◌||◌, cond}
use mathlib.Core.List.{List}
use Prim.Native.Nat.{ℕ}
use native.Mathlib.Omega.{arith}
use lib.Dec.{leb}
use lib.ListN.{length}
use Rattle.sizes.specs.Sizes.{nodes}
use Rattle.handle.specs.declared.Handle.{Handle}
use Rattle.handle.specs.Handles.{first_of, no_width, no_such_place, decoded}
use Rattle.store.specs.declared.Cluster.{Cluster}
use Rattle.store.specs.declared.Store.{Store}
use Rattle.store.specs.Records.{cluster_at}
use Rattle.store.specs.Sound.{sound}
use Rattle.calls.specs.Calls.{record_named}
use Rattle.calls.specs.Clear.{Clear}
use Rattle.calls.proofs.FirstLaws.{Numbered, first_clear}
use Rattle.calls.proofs.CallLaws.{or_left}
use Rattle.refusals.specs.Rows.{shared_rows, owner_rows}
use Rattle.refusals.specs.Given.{Given, record_found}

module _ (s : Store) (m b : List ℕ) where
  abbrev pub judged : Bool
  judged = sound s (length m)

  abbrev pub shown : Handle
  shown = decoded b

  abbrev pub found : Cluster
  found = cluster_at s (record_found shown)

  abbrev pub named : Cluster
  named = cluster_at s (record_named shown)

  pub by_given : (P : Bool → Handle → Cluster → Type 0) (sd : Bool) (h : Handle) (c : Cluster) → Given sd h c s m b
      → P judged shown found → P sd h c
  by_given P sd h c g p =
      subst (λ (d : Cluster). P sd h d) (sym g.found)
      (subst (λ (k : Handle). P sd k (cluster_at s (record_found k))) (sym g.handle)
      (subst (λ (t : Bool). P t shown found) (sym g.sound) p))

  -- the record found is the one named, where there is such a place
  pub found_is : no_such_place shown ≡ false → record_found shown ≡ record_named shown
  found_is e = ap (λ (t : Bool). cond t 0 (record_named shown)) e

  -- rows below the second, on the one record or on the other
  pub either_record : (l t far : Bool) (rest : Cluster → ℕ)
      → cond l 25 (cond t 1 (cond (no_such_place shown || far) 2 (rest named)))
      ≡ cond l 25 (cond t 1 (cond (no_such_place shown || far) 2 (rest found)))
  either_record l t far rest = go (no_such_place shown) refl
    where
      upper : Bool → Cluster → ℕ
      upper q c = cond l 25 (cond t 1 (cond (q || far) 2 (rest c)))

      go : (p : Bool) → no_such_place shown ≡ p
          → upper (no_such_place shown) named ≡ upper (no_such_place shown) found
      go true e = ap (λ (q : Bool). upper q named) e ∙ sym (ap (λ (q : Bool). upper q found) e)
      go false e = ap (λ (i : ℕ). upper (no_such_place shown) (cluster_at s i)) (sym (found_is e))

-- ---- where none of the shared rows is told

-- the handle has a width, the store is sound and the place exists
pub record Passed (sd : Bool) (h : Handle) : Type 0 where
  pub known : no_width h ≡ false
  pub sound : not sd ≡ false
  pub place : no_such_place h ≡ false

pub shared_numbered : (sd : Bool) (h : Handle) (c : Cluster) (far field away : Bool) (mode : ℕ)
    → Numbered (shared_rows sd h c far field away mode)
shared_numbered sd h c far field away mode = omega arith

module _ (sd : Bool) (h : Handle) (c : Cluster) where
  module _ (far field away : Bool) (mode : ℕ) (z : first_of (shared_rows sd h c far field away mode) ≡ 0) where
    none_told : Clear (shared_rows sd h c far field away mode)
    none_told =
        first_clear (shared_rows sd h c far field away mode) (shared_numbered sd h c far field away mode) z

    pub shared_passed : Passed sd h
    shared_passed =
        record {
          known = none_told.0;
          sound = none_told.1.0;
          place = or_left (no_such_place h) far none_told.1.1.0;
        }

    pub shared_field : field ≡ false
    shared_field = none_told.1.1.1.0

  pub owner_numbered : (current : ℕ) (field : Bool) → Numbered (owner_rows sd h c current field)
  unfolding owner_rows
  owner_numbered current field = omega arith

  pub owner_passed : (current : ℕ) (field : Bool) → first_of (owner_rows sd h c current field) ≡ 0 → Passed sd h
  unfolding owner_rows
  owner_passed current field z =
      let clear : Clear (owner_rows sd h c current field) =
      first_clear (owner_rows sd h c current field) (owner_numbered current field) z in
      record {
        known = clear.0;
        sound = clear.1.0;
        place = or_left (no_such_place h) (leb nodes current) clear.1.1.0;
      }
