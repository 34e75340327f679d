-- The number of a call as that of its own rows on what a core is given: at a concrete kind the rows of other calls compute
-- away, and the record may be the one found (`either_record`).
-- Assumes nothing.
use mathlib.Core.Path.{◌≡◌, ◌∙◌}
use mathlib.Core.Bool.{Bool, false, not, or-false}
use mathlib.Core.List.{List, [], ◌∷◌, ◌++◌}
use Prim.Native.Nat.{ℕ}
use lib.Dec.{leb, eqb}
use lib.ListN.{length}
use Rattle.sizes.specs.Sizes.{nodes}
use Rattle.numbers.specs.Numbers.{no_room_number}
use Rattle.handle.specs.declared.Handle.{Handle}
use Rattle.handle.specs.Selectors.{all_flat}
use Rattle.handle.specs.Handles.{node_of, width_of, no_width, same_password, Row, first_of}
use Rattle.handle.specs.Conversion.{product}
use Rattle.store.specs.declared.Cluster.{Cluster}
use Rattle.store.specs.declared.Store.{Store}
use Rattle.store.specs.Records.{table_of, table_at, place_of, frozen_of, none_frozen, read_mode, write_mode, primary_of}
use Rattle.store.specs.Sound.{is_absent}
use Rattle.store.specs.Placement.{placement}
use Rattle.calls.specs.Calls.{deleting_cluster, making_segment, deleting_segment, reading, writing, reducing, renewing, freezing, looking}
use Rattle.calls.specs.Numbers.{number, tests}
use Rattle.refusals.specs.Rows.{bad_modes, row, open_rows, shared_rows, owner_rows}
use Rattle.refusals.proofs.GivenLaws.{judged, shown, found, named, either_record}
use Rattle.cluster.specs.inner.Access.{reach_rows, access_rows}
use Rattle.cluster.specs.inner.Makes.{bad_fields, make_rows}

module _ (s : Store) (m b : List ℕ) where
  abbrev sd : Bool
  sd = judged s m b

  abbrev h : Handle
  h = shown s m b

  abbrev c : Cluster
  c = found s m b

  abbrev d : Cluster
  d = named s m b

  -- the rows from the third on of the calls that open a cluster, and of calls 2, 3, 4 and 10
  abbrev opened : Bool → ℕ → (Cluster → List Row) → Cluster → ℕ
  opened field mode own e = first_of (open_rows h e field false mode ++ own e)

  abbrev owned : ℕ → Bool → (Cluster → List Row) → Cluster → ℕ
  owned current field own e =
      first_of
      ((open_rows h e field (not (eqb current (node_of h))) write_mode ++ (row 10 (not (all_flat (width_of h) h.selector)) ∷ []))
      ++ own e)

  -- ---- calls 2, 3, 4 and 10

  abbrev pub absent_row : ℕ → Cluster → List Row
  absent_row segment e = row 14 (is_absent (place_of (table_of e) segment)) ∷ []

  abbrev present_row : ℕ → Cluster → List Row
  present_row segment e = row 13 (not (is_absent (place_of (table_of e) segment))) ∷ []

  abbrev frozen_row : Cluster → List Row
  frozen_row e = row 22 (not (none_frozen (table_of e))) ∷ []

  abbrev kept_row : ℕ → Cluster → List Row
  kept_row segment e = row 22 (frozen_of (table_of e) segment) ∷ []

  on_delete_cluster : (current : ℕ) → number product (deleting_cluster current b) s (length m) ≡ first_of (owner_rows sd h d current false ++ frozen_row d)
  unfolding number tests owner_rows
  on_delete_cluster current = simp or-false

  pub number_delete_cluster : (current : ℕ) → number product (deleting_cluster current b) s (length m) ≡ first_of (owner_rows sd h c current false ++ frozen_row c)
  unfolding owner_rows
  number_delete_cluster current = on_delete_cluster current ∙ either_record s m b (no_width h) (not sd) (leb nodes current) (owned current false frozen_row)

  on_delete_segment : (current segment : ℕ) → number product (deleting_segment current segment b) s (length m) ≡ first_of ((owner_rows sd h d current (leb (width_of h) segment) ++ absent_row segment d) ++ kept_row segment d)
  unfolding number tests owner_rows
  on_delete_segment current segment = simp or-false

  pub number_delete_segment : (current segment : ℕ) → number product (deleting_segment current segment b) s (length m) ≡ first_of ((owner_rows sd h c current (leb (width_of h) segment) ++ absent_row segment c) ++ kept_row segment c)
  unfolding owner_rows
  number_delete_segment current segment = on_delete_segment current segment ∙ either_record s m b (no_width h) (not sd) (leb nodes current) (owned current (leb (width_of h) segment) (λ e. absent_row segment e ++ kept_row segment e))

  on_freeze : (current segment : ℕ) → number product (freezing current segment b) s (length m) ≡ first_of (owner_rows sd h d current (leb (width_of h) segment) ++ absent_row segment d)
  unfolding number tests owner_rows
  on_freeze current segment = simp or-false

  pub number_freeze : (current segment : ℕ) → number product (freezing current segment b) s (length m) ≡ first_of (owner_rows sd h c current (leb (width_of h) segment) ++ absent_row segment c)
  unfolding owner_rows
  number_freeze current segment = on_freeze current segment ∙ either_record s m b (no_width h) (not sd) (leb nodes current) (owned current (leb (width_of h) segment) (absent_row segment))

  abbrev room_row : ℕ → List Row
  room_row size = row 16 (eqb (placement (table_at s) (node_of h) size).number no_room_number) ∷ []

  on_new_segment : (current segment size : ℕ) → number product (making_segment current segment size b) s (length m) ≡ first_of (make_rows sd h d current segment size ++ room_row size)
  unfolding number tests owner_rows
  on_new_segment current segment size = simp or-false

  pub number_new_segment : (current segment size : ℕ) → number product (making_segment current segment size b) s (length m) ≡ first_of (make_rows sd h c current segment size ++ room_row size)
  unfolding owner_rows
  number_new_segment current segment size = on_new_segment current segment size ∙ either_record s m b (no_width h) (not sd) (leb nodes current) (owned current (bad_fields h segment size) (λ e. present_row segment e ++ room_row size))

  -- ---- the others

  on_reduce : (mode : ℕ) → number product (reducing mode b) s (length m) ≡ first_of (shared_rows sd h d false (bad_modes mode) false mode)
  unfolding number tests
  on_reduce mode = simp or-false

  pub number_reduce : (mode : ℕ) → number product (reducing mode b) s (length m) ≡ first_of (shared_rows sd h c false (bad_modes mode) false mode)
  number_reduce mode = on_reduce mode ∙ either_record s m b (no_width h) (not sd) (false) (opened (bad_modes mode) mode (λ e. []))

  abbrev new_rows : ℕ → List ℕ → Cluster → List Row
  new_rows mode p e = row 10 (not (all_flat (width_of h) h.selector)) ∷ row 12 (same_password p (primary_of e mode)) ∷ []

  on_new_password : (mode : ℕ) (p : List ℕ) → number product (renewing mode b p) s (length m) ≡ first_of (shared_rows sd h d false (bad_modes mode) false mode ++ new_rows mode p d)
  unfolding number tests
  on_new_password mode p = simp or-false

  pub number_new_password : (mode : ℕ) (p : List ℕ) → number product (renewing mode b p) s (length m) ≡ first_of (shared_rows sd h c false (bad_modes mode) false mode ++ new_rows mode p c)
  number_new_password mode p = on_new_password mode p ∙ either_record s m b (no_width h) (not sd) (false) (opened (bad_modes mode) mode (new_rows mode p))

  -- whether row 22 applies is told of the record
  abbrev moved : ℕ → (Cluster → Bool) → List ℕ → Cluster → List Row
  moved i icy bytes e = access_rows h (place_of (table_of e) i) i (icy e) (length bytes)

  abbrev icy : ℕ → Cluster → Bool
  icy i e = frozen_of (table_of e) i

  on_read : (i : ℕ) (buffer : List ℕ) → number product (reading i b buffer) s (length m) ≡ first_of (shared_rows sd h d false (leb (width_of h) i) false read_mode ++ moved i (λ e. false) buffer d)
  unfolding number tests
  on_read i buffer = simp or-false

  pub number_read : (i : ℕ) (buffer : List ℕ) → number product (reading i b buffer) s (length m) ≡ first_of (shared_rows sd h c false (leb (width_of h) i) false read_mode ++ moved i (λ e. false) buffer c)
  number_read i buffer = on_read i buffer ∙ either_record s m b (no_width h) (not sd) (false) (opened (leb (width_of h) i) read_mode (moved i (λ e. false) buffer))

  on_write : (i : ℕ) (written : List ℕ) → number product (writing i b written) s (length m) ≡ first_of (shared_rows sd h d false (leb (width_of h) i) false write_mode ++ moved i (icy i) written d)
  unfolding number tests
  on_write i written = simp or-false

  pub number_write : (i : ℕ) (written : List ℕ) → number product (writing i b written) s (length m) ≡ first_of (shared_rows sd h c false (leb (width_of h) i) false write_mode ++ moved i (icy i) written c)
  number_write i written = on_write i written ∙ either_record s m b (no_width h) (not sd) (false) (opened (leb (width_of h) i) write_mode (moved i (icy i) written))

  abbrev seen : ℕ → Cluster → List Row
  seen i e = reach_rows h (place_of (table_of e) i) i

  on_look : (current i : ℕ) → number product (looking current i b) s (length m) ≡ first_of (shared_rows sd h d (leb nodes current) (leb (width_of h) i) (not (eqb current (node_of h))) read_mode ++ seen i d)
  unfolding number tests
  on_look current i = simp or-false

  pub number_look : (current i : ℕ) → number product (looking current i b) s (length m) ≡ first_of (shared_rows sd h c (leb nodes current) (leb (width_of h) i) (not (eqb current (node_of h))) read_mode ++ seen i c)
  number_look current i = on_look current i ∙ either_record s m b (no_width h) (not sd) (leb nodes current) (λ e. first_of (open_rows h e (leb (width_of h) i) (not (eqb current (node_of h))) read_mode ++ seen i e))
