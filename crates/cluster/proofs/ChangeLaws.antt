-- Calls 2, 4 and 10, which only the owner of a cluster may make: refused by the rows that they begin with, refused with
-- 22, or done, where the record found is the one that the call is about. What they share is shown once, of any call whose
-- number is that of such rows and which leaves a record made from the old one (`turned`, `kept`, `done`).
-- Assumes nothing.
use mathlib.Core.Path.{◌≡◌, refl, sym, ap, ap₂, ◌∙◌}
use mathlib.Core.Bool.{Bool, true, false, not, cond}
use mathlib.Core.List.{List, [], ◌++◌}
use Prim.Native.Nat.{ℕ}
use native.Mathlib.Omega.{arith}
use lib.Dec.{leb}
use lib.ListN.{length}
use Rattle.std.specs.Prelude.{Result, Ok, Err}
use Rattle.std.specs.Result.{IsErrAnd}
use Rattle.numbers.specs.declared.Number.{Number}
use Rattle.numbers.specs.declared.Number.TheVariants.{Frozen}
use Rattle.numbers.specs.Codes.{told}
use Rattle.handle.specs.declared.Handle.{Handle}
use Rattle.handle.specs.Handles.{width_of, first_of}
use Rattle.handle.specs.Conversion.{product}
use Rattle.store.specs.Places.{Place, None}
use Rattle.store.specs.declared.Cluster.{Cluster}
use Rattle.store.specs.declared.Store.{Store}
use Rattle.store.specs.Records.{inactive, table_of, cluster_at, place_of, frozen_of, none_frozen, put_record, with_place, with_mark}
use Rattle.store.specs.Sound.{is_absent}
use Rattle.calls.specs.declared.Changed.{Changed}
use Rattle.calls.specs.declared.Given.TheVariants.{Nothing}
use Rattle.calls.specs.Calls.{Call, buffer, record_named, deleting_cluster, deleting_segment, freezing}
use Rattle.calls.specs.Numbers.{number}
use Rattle.calls.specs.Steps.{plain, aes_step, left, given, cluster_deleted, segment_deleted, segment_marked}
use Rattle.calls.specs.Answers.{copy_of, changed}
use Rattle.calls.proofs.StepLaws.{step_done}
use Rattle.refusals.specs.Rows.{owner_rows, after}
use Rattle.calls.proofs.FirstLaws.{Numbered}
use Rattle.numbers.proofs.ToldLaws.{told_ok, told_err, told_above, exit_err}
use Rattle.refusals.specs.Given.{Given, record_found}
use Rattle.refusals.proofs.AfterLaws.{after_told, after_none, after_zero, first_append}
use Rattle.refusals.proofs.GivenLaws.{judged, shown, found, by_given, found_is, owner_numbered, owner_passed}
use Rattle.cluster.specs.inner.Owns.{own_segment}
use Rattle.cluster.proofs.NumberLaws.{absent_row, number_delete_cluster, number_delete_segment, number_freeze}
use Rattle.cluster.proofs.CoreLaws.{refused_record, exit_record}

-- ---- the rows that calls 4 and 10 begin with, return by return

-- the test of the segment's number as the code has it
module _ {X : Type 0} (sd : Bool) (h : Handle) (c : Cluster) (current i : ℕ) (f : Bool) (ef : f ≡ leb (width_of h) i)
    (r : Result X Number) (er : told r ≡ first_of (owner_rows sd h c current f)) where
  en : told r ≡ first_of (owner_rows sd h c current (leb (width_of h) i))
  en = er ∙ ap (λ (t : Bool). first_of (owner_rows sd h c current t)) ef

  below : own_segment sd h c current i ≡ after (told r) (cond (is_absent (place_of (table_of c) i)) 14 0)
  unfolding own_segment
  below = ap (λ (k : ℕ). after k (cond (is_absent (place_of (table_of c) i)) 14 0)) (sym en)

  pub own_refused : (n : Number) → r ≡ Err n → {Y : Type 0} (q : Result Y Number) → IsErrAnd q (λ k. k ≡ n)
      → told q ≡ own_segment sd h c current i
  own_refused n e q w =
      ap told (exit_err r n e q w) ∙ sym (told_err r n e) ∙ sym (below ∙ after_told (told r) _ (told_above r n e))

  module _ (x : X) (z : r ≡ Ok x) (p : Place) (ep : p ≡ place_of (table_of c) i) (a : Bool) (ea : a ≡ is_absent p) where
    last : (t : Bool) → a ≡ t → own_segment sd h c current i ≡ cond t 14 0
    last t e =
        below ∙ ap₂ (λ (k : ℕ) (u : Bool). after k (cond u 14 0)) (told_ok r x z) (sym (ea ∙ ap is_absent ep) ∙ e)

    pub own_absent : a ≡ true → 14 ≡ own_segment sd h c current i
    own_absent e = sym (last true e)

    pub own_none : a ≡ false → 0 ≡ own_segment sd h c current i
    own_none e = sym (last false e)

-- ---- what the three share

module _ (s : Store) (m b : List ℕ) where
  abbrev at : {A : Type 0} → (Bool → Handle → Cluster → A) → A
  at g = g (judged s m b) (shown s m b) (found s m b)

  -- the record found is the one named, where the owner's rows are not told
  pub owner_there : (current : ℕ) (field : Bool) → at (λ sd h c. first_of (owner_rows sd h c current field)) ≡ 0
      → record_found (shown s m b) ≡ record_named (shown s m b)
  owner_there current field z =
      found_is s m b (owner_passed (judged s m b) (shown s m b) (found s m b) current field z).place

  -- a call by the rows that it begins with, whether row 22 applies below them, and what it makes of the record
  record Owned (x : Call) (upper : Bool → Handle → Cluster → ℕ) (icy : Cluster → Bool) (made : Cluster → Cluster) : Type 0 where
    told : number product x s (length m) ≡ after (at upper) (cond (icy (found s m b)) 22 0)
    there : at upper ≡ 0 → record_found (shown s m b) ≡ record_named (shown s m b)
    quiet : buffer x ≡ []
    leaves : number product x s (length m) ≡ 0
        → aes_step x (copy_of s m)
        ≡ record { copy = copy_of (put_record s (record_named (shown s m b)) (made (cluster_at s (record_named (shown s m b))))) m; reply = plain 0 [] }

  module _ (x : Call) (upper : Bool → Handle → Cluster → ℕ) (icy : Cluster → Bool) (made : Cluster → Cluster) {X : Type 0}
      (r : Result X Number) where
    abbrev Ends : Handle → Result Changed Number → Type 0
    Ends h d = changed (record_found h) s m d ≡ aes_step x (copy_of s m)

    abbrev Turned : Bool → Handle → Cluster → Type 0
    Turned sd h c =
        told r ≡ upper sd h c → (n : Number) → r ≡ Err n → (d : Result Changed Number) → IsErrAnd d (λ k. k ≡ n) → Ends h d

    abbrev Kept : Bool → Handle → Cluster → Type 0
    Kept sd h c = told r ≡ upper sd h c → (y : X) → r ≡ Ok y → icy c ≡ true → Ends h (Err Frozen)

    abbrev Done : Bool → Handle → Cluster → Type 0
    Done sd h c =
        told r ≡ upper sd h c → (y : X) → r ≡ Ok y → icy c ≡ false → (d : Cluster) → d ≡ made c
        → Ends h (Ok (record { cluster = d; given = Nothing }))

    module _ (o : Owned x upper icy made) where
      -- the number, where the rows above 22 are not told
      beneath : told r ≡ at upper → told r ≡ 0 → (t : Bool) → icy (found s m b) ≡ t → number product x s (length m) ≡ cond t 22 0
      beneath en z t e = o.told ∙ ap₂ (λ (k : ℕ) (u : Bool). after k (cond u 22 0)) (sym en ∙ z) e

      module _ (sd : Bool) (h : Handle) (c : Cluster) (g : Given sd h c s m b) where
        turned : Turned sd h c
        turned =
            by_given s m b Turned sd h c g
            (λ en n e d w.
            exit_record x s m r
            (o.told ∙ ap (λ (k : ℕ). after k (cond (icy (found s m b)) 22 0)) (sym en) ∙ after_told (told r) _ (told_above r n e))
            n e o.quiet (record_found (shown s m b)) d w)

        kept : Kept sd h c
        kept =
            by_given s m b Kept sd h c g
            (λ en y z t.
            refused_record x s m Frozen (beneath en (told_ok r y z) true t) o.quiet (record_found (shown s m b)))

        done : Done sd h c
        done =
            by_given s m b Done sd h c g
            (λ en y z t d ed.
            ap (λ (e : Cluster). changed (record_found (shown s m b)) s m (Ok (record { cluster = e; given = Nothing }))) ed
            ∙ ap (λ (i : ℕ). record { copy = copy_of (put_record s i (made (cluster_at s i))) m; reply = plain 0 [] })
            (o.there (sym en ∙ told_ok r y z))
            ∙ sym (o.leaves (beneath en (told_ok r y z) false t)))

  -- ---- call 2

  module _ (current : ℕ) where
    abbrev upper : Bool → Handle → Cluster → ℕ
    upper sd h c = first_of (owner_rows sd h c current false)

    abbrev icy : Cluster → Bool
    icy c = not (none_frozen (table_of c))

    owned : Owned (deleting_cluster current b) upper icy (λ c. inactive)
    unfolding left given cluster_deleted
    owned =
        record {
          told =
              number_delete_cluster s m b current
              ∙ first_append (at (λ sd h c. owner_rows sd h c current false)) _ (owner_numbered (judged s m b) (shown s m b) (found s m b) current false);
          there = owner_there current false;
          quiet = refl;
          leaves = step_done product (deleting_cluster current b) (copy_of s m);
        }

    module _ {X : Type 0} (r : Result X Number) (sd : Bool) (h : Handle) (c : Cluster) (g : Given sd h c s m b) where
      pub delete_cluster_refused : Turned (deleting_cluster current b) upper icy (λ c. inactive) r sd h c
      delete_cluster_refused = turned (deleting_cluster current b) upper icy (λ c. inactive) r owned sd h c g

      module _ (en : told r ≡ first_of (owner_rows sd h c current false)) (y : X) (z : r ≡ Ok y) (t : Bool)
          (et : t ≡ none_frozen (table_of c)) where
        pub delete_cluster_frozen : not t ≡ true
            → changed (record_found h) s m (Err Frozen) ≡ aes_step (deleting_cluster current b) (copy_of s m)
        delete_cluster_frozen u =
            kept (deleting_cluster current b) upper icy (λ c. inactive) r owned sd h c g en y z (ap not (sym et) ∙ u)

        pub delete_cluster_done : not t ≡ false → (d : Cluster) → d ≡ inactive
            → changed (record_found h) s m (Ok (record { cluster = d; given = Nothing }))
            ≡ aes_step (deleting_cluster current b) (copy_of s m)
        delete_cluster_done u =
            done (deleting_cluster current b) upper icy (λ c. inactive) r owned sd h c g en y z (ap not (sym et) ∙ u)

  -- ---- calls 4 and 10

  module _ (current segment : ℕ) where
    abbrev first : Bool → Handle → Cluster → ℕ
    first sd h c = own_segment sd h c current segment

    -- the rows that they begin with are these
    both : at (λ sd h c. first_of (owner_rows sd h c current (leb (width_of h) segment) ++ absent_row s m b segment c)) ≡ at first
    unfolding own_segment
    both =
        first_append (at (λ sd h c. owner_rows sd h c current (leb (width_of h) segment))) _
        (owner_numbered (judged s m b) (shown s m b) (found s m b) current (leb (width_of (shown s m b)) segment))

    there_first : at first ≡ 0 → record_found (shown s m b) ≡ record_named (shown s m b)
    unfolding own_segment
    there_first z = owner_there current (leb (width_of (shown s m b)) segment) (after_zero _ _ z).0

    numbered : Numbered (at (λ sd h c. owner_rows sd h c current (leb (width_of h) segment) ++ absent_row s m b segment c))
    unfolding owner_rows
    numbered = omega arith

    removing : Owned (deleting_segment current segment b) first (λ c. frozen_of (table_of c) segment) (λ c. with_place c segment None)
    unfolding left given segment_deleted
    removing =
        record {
          told =
              number_delete_segment s m b current segment
              ∙ first_append (at (λ sd h c. owner_rows sd h c current (leb (width_of h) segment) ++ absent_row s m b segment c)) _ numbered
              ∙ ap (λ (k : ℕ). after k (cond (frozen_of (table_of (found s m b)) segment) 22 0)) both;
          there = there_first;
          quiet = refl;
          leaves = step_done product (deleting_segment current segment b) (copy_of s m);
        }

    marking : Owned (freezing current segment b) first (λ c. false) (λ c. with_mark c segment)
    unfolding left given segment_marked
    marking =
        record {
          told = number_freeze s m b current segment ∙ both ∙ sym (after_none (at first));
          there = there_first;
          quiet = refl;
          leaves = step_done product (freezing current segment b) (copy_of s m);
        }

    module _ {X : Type 0} (r : Result X Number) (sd : Bool) (h : Handle) (c : Cluster) (g : Given sd h c s m b) where
      pub delete_segment_refused : Turned (deleting_segment current segment b) first (λ c. frozen_of (table_of c) segment)
          (λ c. with_place c segment None) r sd h c
      delete_segment_refused = turned _ _ _ _ r removing sd h c g

      pub freeze_refused : Turned (freezing current segment b) first (λ c. false) (λ c. with_mark c segment) r sd h c
      freeze_refused = turned _ _ _ _ r marking sd h c g

      module _ (en : told r ≡ own_segment sd h c current segment) (y : X) (z : r ≡ Ok y) where
        pub delete_segment_frozen : (t : Bool) → t ≡ frozen_of (table_of c) segment → t ≡ true
            → changed (record_found h) s m (Err Frozen) ≡ aes_step (deleting_segment current segment b) (copy_of s m)
        delete_segment_frozen t et u = kept _ _ _ _ r removing sd h c g en y z (sym et ∙ u)

        pub delete_segment_done : (t : Bool) → t ≡ frozen_of (table_of c) segment → t ≡ false → (d : Cluster)
            → d ≡ with_place c segment None
            → changed (record_found h) s m (Ok (record { cluster = d; given = Nothing }))
            ≡ aes_step (deleting_segment current segment b) (copy_of s m)
        delete_segment_done t et u = done _ _ _ _ r removing sd h c g en y z (sym et ∙ u)

        pub freeze_done : (d : Cluster) → d ≡ with_mark c segment
            → changed (record_found h) s m (Ok (record { cluster = d; given = Nothing }))
            ≡ aes_step (freezing current segment b) (copy_of s m)
        freeze_done = done _ _ _ _ r marking sd h c g en y z refl
