-- The numbers of a join. Its rows are an `or` of what each handle is asked, so they are the same either way round; where
-- the two names are one, so is the record that is looked at. A join done has shown of each handle what a reduction shows.
-- Assumes nothing.
use mathlib.Core.Path.{◌≡◌, refl, sym, ap, ◌∙◌}
use Prim.Native.Nat.{ℕ, ◌+◌, ◌*◌}
use native.Mathlib.Decide.{ℕ_discrete}
use native.Mathlib.Omega.{arith}
use mathlib.Core.Bool.{Bool, true, false, not, ◌&&◌, ◌||◌, or-false, false≢true}
use mathlib.Core.List.{List, [], ◌∷◌, ◌++◌}
use lib.Dec.{eqb}
use borrow.Author.Tests.{eqb-true, eq-eqb, not-false}
use Rattle.loops.proofs.BelowLaws.{and_left, and_right, and_both, test_off}
use Rattle.handle.specs.declared.Handle.{Handle}
use Rattle.handle.specs.Selectors.{gapped, whole_union, flat}
use Rattle.handle.specs.Handles.{Name, name_of, node_of, same_name, width_of, no_width, no_such_place, decoded, Row, first_of}
use Rattle.handle.specs.Handles.{validates}
use Rattle.handle.proofs.JoinLaws.{or_swapped, joins}
use Rattle.store.specs.declared.Store.{Store}
use Rattle.store.specs.Records.{cluster_at, primary_of, read_mode, write_mode}
use Rattle.store.specs.Sound.{sound}
use Rattle.calls.specs.Calls.{joining, reducing, validating, record_named}
use Rattle.calls.specs.Numbers.{number, tests}
use Rattle.calls.specs.Clear.{Clear}
use Rattle.calls.proofs.FirstLaws.{Numbered, first_clear, first_above}
use Rattle.calls.proofs.StepLaws.{number_validate}
use Rattle.calls.proofs.CallLaws.{or_left, or_right}

-- ---- names

pub name_same : (h k : Handle) → same_name h k ≡ true → name_of h ≡ name_of k
name_same h k e =
    λ j. record {
      node = eqb-true (node_of h) (node_of k) (and_left (eqb (node_of h) (node_of k)) (eqb h.local k.local) e) j;
      local = eqb-true h.local k.local (and_right (eqb (node_of h) (node_of k)) (eqb h.local k.local) e) j;
    }

pub same_name_lem : (h k : Handle) → node_of h ≡ node_of k → h.local ≡ k.local → same_name h k ≡ true
same_name_lem h k n l =
    and_both (eqb (node_of h) (node_of k)) (eqb h.local k.local) (eq-eqb (node_of h) (node_of k) n)
    (eq-eqb h.local k.local l)

-- where the names are one, so is the record
pub record_same : (h k : Handle) → same_name h k ≡ true → record_named h ≡ record_named k
record_same h k e = ap (λ (n : Name). n.node * 8 + n.local) (name_same h k e)

-- ---- the rows of a join, and of a reduction or a validation, on the records of the handles

abbrev pub row : ℕ → Bool → Row
row n t = record { number = n; applies = t }

abbrev pub no_mode : ℕ → Bool
no_mode m = not (eqb m read_mode || eqb m write_mode)

module _ (f : Name → List ℕ → ℕ → List ℕ) (s : Store) (size m : ℕ) where
  -- what a handle is asked
  abbrev pub idle : Handle → Bool
  idle h = not (cluster_at s (record_named h)).active

  abbrev pub other : Handle → Bool
  other h = not (eqb (width_of h) (cluster_at s (record_named h)).width)

  abbrev pub shut : Handle → Bool
  shut h =
      not
      (eqb (width_of h) (cluster_at s (record_named h)).width
      && validates (width_of h) (f (name_of h)) (primary_of (cluster_at s (record_named h)) m) h)

  abbrev pub gap : Handle → Bool
  gap h = gapped (width_of h) h.selector

  -- the rows above the last
  abbrev upper_rows : Handle → Handle → List Row
  upper_rows h k =
      row 25 (no_width h || no_width k)
      ∷ row 1 (not (sound s size))
      ∷ row 2 (no_such_place h || no_such_place k)
      ∷ row 3 (no_mode m)
      ∷ row 4 (gap h || gap k)
      ∷ row 24 (not (same_name h k))
      ∷ row 8 (idle h || idle k)
      ∷ row 25 (other h || other k)
      ∷ row 9 (shut h || shut k)
      ∷ []

  abbrev pub each_rows : Handle → Handle → List Row
  each_rows h k = upper_rows h k ++ (row 23 (whole_union (width_of h) h.selector k.selector) ∷ [])

  abbrev pub one_rows : Handle → List Row
  one_rows h =
      row 25 (no_width h)
      ∷ row 1 (not (sound s size))
      ∷ row 2 (no_such_place h)
      ∷ row 3 (no_mode m)
      ∷ row 4 (gap h)
      ∷ row 8 (idle h)
      ∷ row 25 (other h)
      ∷ row 9 (shut h)
      ∷ []

  pub each_numbered : (h k : Handle) → Numbered (each_rows h k)
  each_numbered h k = omega arith

  pub one_numbered : (h : Handle) → Numbered (one_rows h)
  one_numbered h = omega arith

  pub number_each : (a b : List ℕ) → number f (joining m a b) s size ≡ first_of (each_rows (decoded a) (decoded b))
  unfolding number tests
  number_each a b = simp or-false

  pub number_one : (a : List ℕ) → number f (reducing m a) s size ≡ first_of (one_rows (decoded a))
  unfolding number tests
  number_one a = simp or-false

  pub valid_one : (a : List ℕ) → number f (validating m a) s size ≡ first_of (one_rows (decoded a))
  valid_one a = number_validate f (reducing m a).args s size ∙ number_one a

  -- the rows are the same either way round: where the last one differs, the widths do, and a row above it applies
  module _ (h k : Handle) where
    eq_swapped : (n k : ℕ) → eqb n k ≡ eqb k n
    eq_swapped n k = go (eqb n k) refl
      where
        go : (t : Bool) → eqb n k ≡ t → eqb n k ≡ eqb k n
        go true e = e ∙ sym (eq-eqb k n (sym (eqb-true n k e)))
        go false e = e ∙ sym (test_off (eqb k n) (λ q. false≢true (sym e ∙ eq-eqb n k (sym (eqb-true k n q)))))

    upper_turned : upper_rows h k ≡ upper_rows k h
    upper_turned =
        λ j.
        row 25 (or_swapped (no_width h) (no_width k) j)
        ∷ row 1 (not (sound s size))
        ∷ row 2 (or_swapped (no_such_place h) (no_such_place k) j)
        ∷ row 3 (no_mode m)
        ∷ row 4 (or_swapped (gap h) (gap k) j)
        ∷ row 24 (not (eq_swapped (node_of h) (node_of k) j && eq_swapped h.local k.local j))
        ∷ row 8 (or_swapped (idle h) (idle k) j)
        ∷ row 25 (or_swapped (other h) (other k) j)
        ∷ row 9 (or_swapped (shut h) (shut k) j)
        ∷ []

    -- two handles of one cluster that both have its width
    pub widths_same : same_name h k ≡ true → other h || other k ≡ false → width_of h ≡ width_of k
    widths_same n e =
        eqb-true (width_of h) (cluster_at s (record_named h)).width
        (not-false (eqb (width_of h) (cluster_at s (record_named h)).width) (or_left (other h) (other k) e))
        ∙ ap (λ (i : ℕ). (cluster_at s i).width) (record_same h k n)
        ∙ sym
        (eqb-true (width_of k) (cluster_at s (record_named k)).width
        (not-false (eqb (width_of k) (cluster_at s (record_named k)).width) (or_right (other h) (other k) e)))

    upper_numbered : Numbered (upper_rows h k)
    upper_numbered = omega arith

    turned : Dec (width_of h ≡ width_of k) → first_of (each_rows h k) ≡ first_of (each_rows k h)
    turned (yes e) =
        λ j. first_of (upper_turned j ++ (row 23 (flat (e j) ((joins (e j) (f (name_of h)) [] h k).union j)) ∷ []))
    turned (no n) =
        first_above (upper_rows h k) (row 23 (whole_union (width_of h) h.selector k.selector) ∷ []) some
        ∙ ap first_of upper_turned
        ∙ sym
        (first_above (upper_rows k h) (row 23 (whole_union (width_of k) k.selector h.selector) ∷ [])
        (λ e. some (ap first_of upper_turned ∙ e)))
      where
        some : first_of (upper_rows h k) ≡ 0 → ⊥
        some e =
            let c = first_clear (upper_rows h k) upper_numbered e in
            n (widths_same (not-false (same_name h k) c.1.1.1.1.1.0) c.1.1.1.1.1.1.1.0)

  pub number_swapped : (a b : List ℕ) → number f (joining m a b) s size ≡ number f (joining m b a) s size
  number_swapped a b =
      number_each a b
      ∙ turned (decoded a) (decoded b) (ℕ_discrete (width_of (decoded a)) (width_of (decoded b)))
      ∙ sym (number_each b a)

  -- what a join done has shown
  pub record Cleared (h k : Handle) : Type 0 where
    pub known : no_width h || no_width k ≡ false
    pub sound : not (sound s size) ≡ false
    pub place : no_such_place h || no_such_place k ≡ false
    pub mode : no_mode m ≡ false
    pub even : gap h || gap k ≡ false
    pub together : same_name h k ≡ true
    pub active : idle h || idle k ≡ false
    pub wide : other h || other k ≡ false
    pub valid : shut h || shut k ≡ false
    pub some : whole_union (width_of h) h.selector k.selector ≡ false

  pub cleared : (h k : Handle) → first_of (each_rows h k) ≡ 0 → Cleared h k
  cleared h k e = from (first_clear (each_rows h k) (each_numbered h k) e)
    where
      from : Clear (each_rows h k) → Cleared h k
      from r =
          record {
            known = r.0;
            sound = r.1.0;
            place = r.1.1.0;
            mode = r.1.1.1.0;
            even = r.1.1.1.1.0;
            together = not-false (same_name h k) r.1.1.1.1.1.0;
            active = r.1.1.1.1.1.1.0;
            wide = r.1.1.1.1.1.1.1.0;
            valid = r.1.1.1.1.1.1.1.1.0;
            some = r.1.1.1.1.1.1.1.1.1.0;
          }

  -- so its first handle, and its second, could be reduced
  pub cleared_first : (h k : Handle) → Cleared h k → first_of (one_rows h) ≡ 0
  cleared_first h k c =
      simp (
        or_left (no_width h) (no_width k) c.known,
        c.sound,
        or_left (no_such_place h) (no_such_place k) c.place,
        c.mode,
        or_left (gap h) (gap k) c.even,
        or_left (idle h) (idle k) c.active,
        or_left (other h) (other k) c.wide,
        or_left (shut h) (shut k) c.valid,
      )

  pub cleared_second : (h k : Handle) → Cleared h k → first_of (one_rows k) ≡ 0
  cleared_second h k c =
      simp (
        or_right (no_width h) (no_width k) c.known,
        c.sound,
        or_right (no_such_place h) (no_such_place k) c.place,
        c.mode,
        or_right (gap h) (gap k) c.even,
        or_right (idle h) (idle k) c.active,
        or_right (other h) (other k) c.wide,
        or_right (shut h) (shut k) c.valid,
      )
