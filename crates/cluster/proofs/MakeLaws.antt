-- Making a segment: refused by the rows that a cluster's owner meets, with 13 or with 16, or done, where the base that
-- placement gives keeps the segment inside its node's memory and the record found is the one that the call is about.
-- Assumes nothing.
use mathlib.Core.Path.{◌≡◌, refl, sym, ap, ap₂, ◌∙◌}
use mathlib.Core.Bool.{Bool, true, false, not, ◌&&◌, cond, false≢true}
use mathlib.Core.List.{List, [], ◌∷◌}
use mathlib.Core.Option.{Option, none, some}
use Prim.Native.Nat.{ℕ, ◌+◌}
use native.Mathlib.Omega.{arith}
use lib.Dec.{eqb, leb, ltb}
use lib.ListN.{length, replicate}
use Rattle.std.specs.Prelude.{Result, Ok, Err}
use Rattle.std.specs.Result.{IsErrAnd}
use Rattle.numbers.specs.declared.Number.{Number}
use Rattle.numbers.specs.declared.Number.TheVariants.{Unsound, NoRoom}
use Rattle.numbers.specs.Codes.{code, told}
use borrow.Author.Tests.{not-true, not-false, leb-false, eq-eqb, eqb-true, lt-ltb, ltb-true, le-leb, leb-true}
use Rattle.loops.proofs.BelowLaws.{and_left, and_right}
use Rattle.std.specs.Option.{is_some}
use Rattle.sizes.specs.Sizes.{nodes, clusters, node_memory, memory}
use Rattle.numbers.specs.Numbers.{no_room_number}
use Rattle.handle.specs.declared.Handle.{Handle}
use Rattle.handle.specs.Handles.{Row, node_of, first_of}
use Rattle.handle.specs.Conversion.{product}
use Rattle.store.specs.Places.{Place, Found, None, Some, present_at}
use Rattle.store.specs.declared.Cluster.{Cluster}
use Rattle.store.specs.declared.Store.{Store}
use Rattle.store.specs.Records.{Tables, table_of, cluster_at, table_at, place_of, put_record, with_place, address}
use Rattle.store.specs.Sound.{is_absent, sound}
use Rattle.store.specs.Placement.{Placed, room_at, placed_at, new_base, placement, placed_by}
use Rattle.store.proofs.PlaceLaws.{Inside, inside_out, present_told}
use Rattle.store.proofs.PlacementLaws.{Fits, new_base_fits}
use Rattle.store.proofs.SoundLaws.{sound_out}
use Rattle.calls.specs.declared.Changed.{Changed}
use Rattle.calls.specs.declared.Given.TheVariants.{Nothing}
use Rattle.calls.specs.Calls.{Call, making_segment}
use Rattle.calls.specs.Numbers.{number}
use Rattle.calls.specs.Steps.{Outcome, plain, overwritten, aes_step, left, given, segment_made}
use Rattle.calls.specs.Answers.{copy_of, ended, changed}
use Rattle.numbers.proofs.ToldLaws.{code_above}
use Rattle.calls.proofs.StepLaws.{step_done}
use Rattle.calls.proofs.CallLaws.{or_left}
use Rattle.calls.proofs.FirstLaws.{Numbered}
use Rattle.refusals.specs.Rows.{row, owner_rows, after}
use Rattle.refusals.specs.Given.{Given, record_found}
use Rattle.refusals.proofs.AfterLaws.{after_told, after_zero, first_append, exit_first, passed_first}
use Rattle.refusals.proofs.GivenLaws.{judged, shown, found, by_given, Passed, owner_numbered, owner_passed}
use Rattle.cluster.specs.inner.Makes.{bad_fields, make_rows, can_make, CanMake, Made}
use Rattle.cluster.proofs.NumberLaws.{number_new_segment}
use Rattle.cluster.proofs.CoreLaws.{refused_alone, refused_record}
use Rattle.cluster.proofs.ChangeLaws.{owner_there}

-- ---- the refusals but 16, return by return

module _ (sd : Bool) (h : Handle) (c : Cluster) (current segment size : ℕ) where
  abbrev upper : List Row
  upper = owner_rows sd h c current (bad_fields h segment size)

  abbrev lower : List Row
  lower = row 13 (not (is_absent (place_of (table_of c) segment))) ∷ []

  numbered : Numbered upper
  numbered = owner_numbered sd h c current (bad_fields h segment size)

  -- the test of the fields as the code has it
  module _ (f : Bool) (ef : f ≡ bad_fields h segment size) {X : Type 0} (r : Result X Number)
      (er : told r ≡ first_of (owner_rows sd h c current f)) where
    known : told r ≡ first_of upper
    known = er ∙ ap (λ (t : Bool). first_of (owner_rows sd h c current t)) ef

    pub make_owner : (n : Number) → r ≡ Err n → {Y : Type 0} (q : Result Y Number) → IsErrAnd q (λ k. k ≡ n)
        → told q ≡ first_of (make_rows sd h c current segment size)
    make_owner n e q w = exit_first upper lower numbered r known n e q w

    module _ (x : X) (z : r ≡ Ok x) (p : Place) (ep : p ≡ place_of (table_of c) segment) (v : Bool) (ev : v ≡ is_some p) where
      last : (t : Bool) → v ≡ t → first_of (make_rows sd h c current segment size) ≡ cond t 13 0
      last t e =
          passed_first upper lower numbered r known x z
          ∙ ap (λ (u : Bool). cond u 13 0) (sym (present_told p v ev ∙ ap (λ (q : Place). not (is_absent q)) ep) ∙ e)

      pub make_present : v ≡ true → 13 ≡ first_of (make_rows sd h c current segment size)
      make_present t = sym (last true t)

      pub make_none : v ≡ false → 0 ≡ first_of (make_rows sd h c current segment size)
      make_none t = sym (last false t)

  -- where none of them applies, none of those that a cluster's owner meets does
  make_zero : first_of (make_rows sd h c current segment size) ≡ 0 → first_of upper ≡ 0
  make_zero z = (after_zero _ _ (sym (first_append upper lower numbered) ∙ z)).0

-- ---- the bounds, tested

module _ (all node base size : ℕ) where
  pub can_make_is : (v : Bool) → v ≡ can_make all node base size → not v ≡ false → CanMake all node base size
  unfolding can_make
  can_make_is v ev t =
      let e : (eqb all memory && ltb node nodes && leb (base + size) node_memory) ≡ true = sym ev ∙ not-false v t in
      let two = and_left (eqb all memory && ltb node nodes) (leb (base + size) node_memory) e in
      record {
        whole = eqb-true all memory (and_left (eqb all memory) (ltb node nodes) two);
        known = ltb-true node nodes (and_right (eqb all memory) (ltb node nodes) two);
        ends = leb-true (base + size) node_memory (and_right (eqb all memory && ltb node nodes) (leb (base + size) node_memory) e);
      }

  can_make_true : CanMake all node base size → can_make all node base size ≡ true
  unfolding can_make
  can_make_true k =
      simp (eq-eqb all memory k.whole, lt-ltb node nodes k.known, le-leb (base + size) node_memory k.ends)

-- ---- what placement gives lies inside the node's memory

placement_inside : (ts : Tables) (node size base : ℕ) → room_at base ≡ placement ts node size → Inside base size
unfolding placement
placement_inside ts node size base e = inside_out base size (go (new_base ts node size) refl e).within
  where
    sixteen : ◌≡◌ {A = ℕ} 16 0 → ⊥
    sixteen q = omega arith

    go : (o : Option ℕ) → new_base ts node size ≡ o → room_at base ≡ placed_at o → Fits ts node size base
    go none q e = absurd (sixteen (sym (ap (λ (a : Placed). a.number) e)))
    go (some k) q e = new_base_fits ts node size base (q ∙ ap some (sym (ap (λ (a : Placed). a.base) e)))

-- ---- the call

module _ (s : Store) (m b : List ℕ) (current segment size : ℕ) where
  abbrev x : Call
  x = making_segment current segment size b

  abbrev k : Handle
  k = shown s m b

  abbrev Rows : Bool → Handle → Cluster → ℕ
  Rows sd h c = first_of (make_rows sd h c current segment size)

  -- what is left is the number of placement
  abbrev room : Placed → ℕ
  room a = cond (eqb a.number no_room_number) 16 0

  told_is : number product x s (length m)
      ≡ after (Rows (judged s m b) k (found s m b)) (room (placement (table_at s) (node_of k) size))
  unfolding owner_rows
  told_is =
      number_new_segment s m b current segment size
      ∙ first_append (make_rows (judged s m b) k (found s m b) current segment size)
      (row 16 (eqb (placement (table_at s) (node_of k) size).number no_room_number) ∷ []) (omega arith)

  -- the store in which placement is asked for is sound
  pub segment_sound : (sd : Bool) (h : Handle) (c : Cluster) → Given sd h c s m b
      → first_of (make_rows sd h c current segment size) ≡ 0 → sound s memory ≡ true
  segment_sound sd h c g z =
      let p = owner_passed sd h c current (bad_fields h segment size) (make_zero sd h c current segment size z) in
      let e : sound s (length m) ≡ true = sym g.sound ∙ not-false sd p.sound in
      ap (sound s) (sym (sound_out s (length m) e).whole) ∙ e

  abbrev Refuses : Bool → Handle → Cluster → Type 0
  Refuses sd h c = (n : Number) → code n ≡ Rows sd h c → ended s m (Err n) [] ≡ aes_step x (copy_of s m)

  pub segment_refused : (sd : Bool) (h : Handle) (c : Cluster) → Given sd h c s m b → Refuses sd h c
  segment_refused sd h c g =
      by_given s m b Refuses sd h c g
      (λ n en.
      refused_alone x s m n
      (told_is ∙ ap (λ (i : ℕ). after i (room (placement (table_at s) (node_of k) size))) (sym en) ∙ after_told (code n) _ (code_above n)))

  module _ (z : Rows (judged s m b) k (found s m b) ≡ 0) where
    owner : first_of (owner_rows (judged s m b) k (found s m b) current (bad_fields k segment size)) ≡ 0
    owner = make_zero (judged s m b) k (found s m b) current segment size z

    passed : Passed (judged s m b) k
    passed = owner_passed (judged s m b) k (found s m b) current (bad_fields k segment size) owner

    only : (f : Found) → placed_by f ≡ placement (table_at s) (node_of k) size → (g : Found) → f ≡ g
        → number product x s (length m) ≡ room (placed_by g)
    only f ef g e =
        told_is ∙ ap₂ (λ (i : ℕ) (a : Placed). after i (room a)) z (sym ef ∙ ap placed_by e)

    can : (f : Found) → placed_by f ≡ placement (table_at s) (node_of k) size → (base : ℕ) → f ≡ Some base
        → CanMake (length m) (node_of k) base size
    can f ef base eb =
        record {
          whole = (sound_out s (length m) (not-false (judged s m b) passed.sound)).whole;
          known = leb-false nodes (node_of k) (or_left (leb nodes (node_of k)) (leb clusters k.local) passed.place);
          ends = (placement_inside (table_at s) (node_of k) size base (sym (ap placed_by eb) ∙ ef)).ends;
        }

  abbrev Finds : Handle → Found → Type 0
  Finds h f = placed_by f ≡ placement (table_at s) (node_of h) size

  abbrev Ends : Handle → Result Changed Number → List ℕ → Type 0
  Ends h r after = changed (record_found h) s after r ≡ aes_step x (copy_of s m)

  abbrev Full : Bool → Handle → Cluster → Type 0
  Full sd h c = Rows sd h c ≡ 0 → (f : Found) → Finds h f → f ≡ None → Ends h (Err NoRoom) m

  abbrev Beyond : Bool → Handle → Cluster → Type 0
  Beyond sd h c =
      Rows sd h c ≡ 0 → (f : Found) → Finds h f → (base : ℕ) → f ≡ Some base → (v : ℕ) → v ≡ node_of h
      → (t : Bool) → t ≡ can_make (length m) v base size → not t ≡ true → Ends h (Err Unsound) m

  abbrev Makes : Bool → Handle → Cluster → Type 0
  Makes sd h c =
      Rows sd h c ≡ 0 → (f : Found) → Finds h f → (base : ℕ) → f ≡ Some base → (v : ℕ) → v ≡ node_of h
      → (d : Cluster) (after : List ℕ) → Made v segment base size c d m after
      → Ends h (Ok (record { cluster = d; given = Nothing })) after

  -- the segment made, by the node, the record and the base
  abbrev made : ℕ → ℕ → ℕ → Outcome
  made v i base =
      record {
        copy =
            copy_of (put_record s i (with_place (cluster_at s i) segment (present_at base size)))
            (overwritten m (address v base) (replicate size 0));
        reply = plain 0 [];
      }

  module _ (sd : Bool) (h : Handle) (c : Cluster) (g : Given sd h c s m b) where
    pub new_segment_full : Full sd h c
    new_segment_full =
        by_given s m b Full sd h c g
        (λ z f ef e. refused_record x s m NoRoom (only z f ef None e) refl (record_found k))

    pub new_segment_beyond : Beyond sd h c
    new_segment_beyond =
        by_given s m b Beyond sd h c g
        (λ z f ef base eb v ev t et n.
        absurd (false≢true (sym (not-true t n) ∙ et ∙ ap (λ (u : ℕ). can_make (length m) u base size) ev
        ∙ can_make_true (length m) (node_of k) base size (can z f ef base eb))))

    pub new_segment_done : Makes sd h c
    unfolding left given segment_made
    new_segment_done =
        by_given s m b Makes sd h c g
        (λ z f ef base eb v ev d after w.
        ap₂ (λ (e : Cluster) (l : List ℕ). record { copy = copy_of (put_record s (record_found k) e) l; reply = plain 0 [] })
        w.placed w.cleared
        ∙ (λ j. made (ev j) (owner_there s m b current (bad_fields k segment size) (owner z) j)
        (ap (λ (a : Placed). a.base) (sym (ap placed_by eb) ∙ ef) j))
        ∙ sym (step_done product x (copy_of s m) (only z f ef (Some base) eb)))
