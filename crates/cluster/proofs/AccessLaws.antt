-- A read or a write: the rows of all calls that open a cluster, then 11 and 14, which a look has too, then 22 and 15. A
-- call that no row turns down moves a part that lies inside the slice, since the store is sound.
-- Assumes nothing.
use mathlib.Core.Path.{◌≡◌, refl, sym, ap, ◌∙◌}
use mathlib.Core.Bool.{Bool, true, false, not, cond}
use mathlib.Core.List.{List, [], ◌∷◌, ◌++◌}
use Prim.Native.Nat.{ℕ, ◌+◌, ◌*◌, ◌≤◌, ◌<◌}
use native.Mathlib.Nat.{lt_of_lt_of_le}
use native.Mathlib.Omega.{arith}
use lib.Dec.{leb, ltb}
use lib.ListN.{length}
use Rattle.std.specs.Prelude.{Result, Ok, Err}
use Rattle.std.specs.Result.{IsErrAnd}
use Rattle.numbers.specs.declared.Number.{Number}
use Rattle.numbers.specs.Codes.{told}
use borrow.Author.Tests.{not-false, leb-false, ltb-false, lt-ltb, le-ltb}
use Rattle.sizes.specs.Sizes.{nodes, clusters, records, node_memory, memory}
use Rattle.handle.specs.declared.Handle.{Handle}
use Rattle.handle.specs.Selectors.{references}
use Rattle.handle.specs.Handles.{node_of, width_of, first_of}
use Rattle.handle.proofs.WidthLaws.{bits_le}
use Rattle.store.specs.Places.{Place, None, Some}
use Rattle.store.specs.declared.Cluster.{Cluster}
use Rattle.store.specs.declared.Store.{Store}
use Rattle.store.specs.Records.{table_of, table_at, segment_of, place_of, base_of, length_of, address}
use Rattle.store.specs.Sound.{is_absent, inside}
use Rattle.store.proofs.PlaceLaws.{inside_out}
use Rattle.store.proofs.SoundLaws.{Sound, segment_inside, sound_out}
use Rattle.calls.specs.Calls.{record_named}
use Rattle.calls.proofs.CallLaws.{or_left, or_right}
use Rattle.refusals.specs.Rows.{row, shared_rows, after}
use Rattle.refusals.specs.Given.{record_found}
use Rattle.calls.proofs.FirstLaws.{Numbered}
use Rattle.numbers.proofs.ToldLaws.{told_ok, told_err, told_above, exit_err}
use Rattle.refusals.proofs.AfterLaws.{after_told, after_zero, after_after, first_append, exit_first, passed_first}
use Rattle.refusals.proofs.GivenLaws.{judged, shown, found, Passed, found_is, shared_numbered, shared_passed, shared_field}
use Rattle.cluster.specs.inner.Access.{reach_rows, reached, access_rows, accessed, Reaches}

-- ---- the rows of the code, return by return

-- the test of the segment's number as the code has it
module _ {X : Type 0} (sd : Bool) (h : Handle) (c : Cluster) (p : Place) (i : ℕ) (far away : Bool) (mode : ℕ) (f : Bool)
    (ef : f ≡ leb (width_of h) i) (r : Result X Number) (er : told r ≡ first_of (shared_rows sd h c far f away mode)) where
  known : told r ≡ first_of (shared_rows sd h c far (leb (width_of h) i) away mode)
  known = er ∙ ap (λ (t : Bool). first_of (shared_rows sd h c far t away mode)) ef

  numbered : Numbered (shared_rows sd h c far (leb (width_of h) i) away mode)
  numbered = shared_numbered sd h c far (leb (width_of h) i) away mode

  -- these rows and those below them
  both : first_of (shared_rows sd h c far (leb (width_of h) i) away mode ++ reach_rows h p i) ≡ reached sd h c p i far away mode
  unfolding reached
  both = first_append (shared_rows sd h c far (leb (width_of h) i) away mode) (reach_rows h p i) numbered

  pub reach_shared : (n : Number) → r ≡ Err n → {Y : Type 0} (q : Result Y Number) → IsErrAnd q (λ k. k ≡ n)
      → told q ≡ reached sd h c p i far away mode
  reach_shared n e q w =
      exit_first (shared_rows sd h c far (leb (width_of h) i) away mode) (reach_rows h p i) numbered r known n e q w ∙ both

  module _ (x : X) (z : r ≡ Ok x) (v : Bool) (ev : v ≡ references h.selector i) where
    rest : (t : Bool) → not v ≡ t → reached sd h c p i far away mode ≡ cond t 11 (cond (is_absent p) 14 0)
    rest t e =
        sym both
        ∙ passed_first (shared_rows sd h c far (leb (width_of h) i) away mode) (reach_rows h p i) numbered r known x z
        ∙ ap (λ (b : Bool). cond b 11 (cond (is_absent p) 14 0)) (ap not (sym ev) ∙ e)

    pub reach_not_referenced : not v ≡ true → 11 ≡ reached sd h c p i far away mode
    reach_not_referenced t = sym (rest true t)

    module _ (t : not v ≡ false) (o : Bool) (eo : o ≡ is_absent p) where
      last : (u : Bool) → o ≡ u → reached sd h c p i far away mode ≡ cond u 14 0
      last u e = rest false t ∙ ap (λ (b : Bool). cond b 14 0) (sym eo ∙ e)

      pub reach_absent : o ≡ true → 14 ≡ reached sd h c p i far away mode
      reach_absent e = sym (last true e)

      pub reach_none : o ≡ false → 0 ≡ reached sd h c p i far away mode
      reach_none e = sym (last false e)

module _ {X : Type 0} (sd : Bool) (h : Handle) (c : Cluster) (p : Place) (i : ℕ) (kept : Bool) (room mode : ℕ)
    (r : Result X Number) (er : told r ≡ reached sd h c p i false false mode) where
  -- rows 22 and 15 below those rows
  below : accessed sd h c p i kept room mode ≡ after (told r) (cond kept 22 (cond (ltb room (length_of p)) 15 0))
  unfolding accessed reached
  below =
      ap (after (first_of (shared_rows sd h c false (leb (width_of h) i) false mode)))
      (first_append (reach_rows h p i) (row 22 kept ∷ row 15 (ltb room (length_of p)) ∷ []) (omega arith))
      ∙ sym (after_after (first_of (shared_rows sd h c false (leb (width_of h) i) false mode)) (first_of (reach_rows h p i)) _)
      ∙ ap (λ (k : ℕ). after k (cond kept 22 (cond (ltb room (length_of p)) 15 0))) (sym er)

  pub access_reached : (n : Number) → r ≡ Err n → {Y : Type 0} (q : Result Y Number) → IsErrAnd q (λ k. k ≡ n)
      → told q ≡ accessed sd h c p i kept room mode
  access_reached n e q w =
      ap told (exit_err r n e q w) ∙ sym (told_err r n e) ∙ sym (below ∙ after_told (told r) _ (told_above r n e))

  module _ (x : X) (z : r ≡ Ok x) where
    pub access_frozen : kept ≡ true → 22 ≡ accessed sd h c p i kept room mode
    access_frozen t =
        sym (below ∙ (λ j. after (told_ok r x z j) (cond (t j) 22 (cond (ltb room (length_of p)) 15 0))))

    module _ (free : kept ≡ false) (size : ℕ) (el : size ≡ length_of p) where
      short : (t : Bool) → ltb room size ≡ t → accessed sd h c p i kept room mode ≡ cond t 15 0
      short t e =
          below
          ∙ (λ j. after (told_ok r x z j) (cond (free j) 22 (cond (ltb room (length_of p)) 15 0)))
          ∙ ap (λ (b : Bool). cond b 15 0) (ap (ltb room) (sym el) ∙ e)

      pub access_short : room < size → 15 ≡ accessed sd h c p i kept room mode
      access_short l = sym (short true (lt-ltb room size l))

      pub access_none : size ≤ room → 0 ≡ accessed sd h c p i kept room mode
      access_none l = sym (short false (le-ltb room size l))

-- ---- no row applies

own_enough : (a c k d : Bool) → ◌≡◌ {A = ℕ} (cond a 11 (cond c 14 (cond k 22 (cond d 15 0)))) 0 → d ≡ false
own_enough a c k false e = refl
own_enough true c k true e = absurd (omega arith)
own_enough false true k true e = absurd (omega arith)
own_enough false false true true e = absurd (omega arith)
own_enough false false false true e = absurd (omega arith)

place_ends : (p : Place) → inside p ≡ true → base_of p + length_of p ≤ node_memory
place_ends None e = omega arith
place_ends (Some span) e = (inside_out span.base span.length e).ends

module _ (sd : Bool) (h : Handle) (c : Cluster) (p : Place) (i : ℕ) (kept : Bool) (room mode n : ℕ)
    (en : n ≡ accessed sd h c p i kept room mode) (z : n ≡ 0) where
  split : (first_of (shared_rows sd h c false (leb (width_of h) i) false mode) ≡ 0) × (first_of (access_rows h p i kept room) ≡ 0)
  unfolding accessed
  split = after_zero _ _ (sym en ∙ z)

  -- the bounds that copying asks for: of the buffer by row 15, of the memory as it was tested
  reaches : (from size all : ℕ) → size ≡ length_of p → from + size ≤ all → Reaches from size all room
  reaches from size all el t =
      let l : length_of p ≤ room =
      ltb-false room (length_of p) (own_enough (not (references h.selector i)) (is_absent p) kept (ltb room (length_of p)) split.1) in
      record { ends = t; enough = omega arith }

pub access_reaches : {X : Type 0} (sd : Bool) (h : Handle) (c : Cluster) (p : Place) (i : ℕ) (kept : Bool) (room mode : ℕ)
    (r : Result X Number) → told r ≡ accessed sd h c p i kept room mode → (x : X) → r ≡ Ok x
    → (from size all : ℕ) → size ≡ length_of p → from + size ≤ all → Reaches from size all room
access_reaches sd h c p i kept room mode r er x z = reaches sd h c p i kept room mode (told r) er (told_ok r x z)

-- on what a store holds, that test never fails
module _ (s : Store) (m b : List ℕ) (i : ℕ) (kept : Bool) (room mode n : ℕ) where
  abbrev k : Handle
  k = shown s m b

  abbrev e : Cluster
  e = found s m b

  module _ (en : n ≡ accessed (judged s m b) k e (place_of (table_of e) i) i kept room mode) (z : n ≡ 0) where
    opened : first_of (shared_rows (judged s m b) k e false (leb (width_of k) i) false mode) ≡ 0
    opened = (split (judged s m b) k e (place_of (table_of e) i) i kept room mode n en z).0

    passed : Passed (judged s m b) k
    passed = shared_passed (judged s m b) k e false (leb (width_of k) i) false mode opened

    pub access_there : record_found k ≡ record_named k
    access_there = found_is s m b passed.place

    settled : Sound s (length m)
    settled = sound_out s (length m) (not-false (judged s m b) passed.sound)

    node_low : node_of k < nodes
    node_low = leb-false nodes (node_of k) (or_left (leb nodes (node_of k)) (leb clusters k.local) passed.place)

    local_low : k.local < clusters
    local_low = leb-false clusters k.local (or_right (leb nodes (node_of k)) (leb clusters k.local) passed.place)

    ends : base_of (place_of (table_of e) i) + length_of (place_of (table_of e) i) ≤ node_memory
    ends =
        place_ends (place_of (table_of e) i)
        (ap (λ (j : ℕ). inside (place_of (table_at s j) i)) access_there
        ∙ segment_inside (segment_of (table_at s (record_named k)) i)
        (settled.ranged (record_named k) i (low (node_of k) k.local node_low local_low)
        (lt_of_lt_of_le (leb-false (width_of k) i (shared_field (judged s m b) k e false (leb (width_of k) i) false mode opened))
        (bits_le k.width))))
      where
        low : (node local : ℕ) → node < nodes → local < clusters → node * clusters + local < records
        low node local a b = omega arith

    pub access_inside : address (node_of k) (base_of (place_of (table_of e) i)) + length_of (place_of (table_of e) i) ≤ length m
    access_inside =
        let w : length m ≡ memory = settled.whole in
        let v : node_of k < nodes = node_low in
        let q : base_of (place_of (table_of e) i) + length_of (place_of (table_of e) i) ≤ node_memory = ends in
        omega arith
