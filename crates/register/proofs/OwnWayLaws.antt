-- What becomes of an entry depends on the entries on its way alone: the two ways are at the same places as long as they are on
-- entries, so they stop alike, and their masks are the same.
-- Assumes nothing.
use Prim.Native.Nat.{ℕ, zero, suc, ◌≤◌, ◌<◌}
use native.Mathlib.Omega.{arith}
use native.Mathlib.Decide.{dec_lt}
use mathlib.Core.Path.{◌≡◌, refl, sym, ap, ap₂, ◌∙◌, subst}
use mathlib.Core.Option.{Option, none, some}
use mathlib.Core.List.{List, ◌∷◌}
use Rattle.numbers.specs.Numbers.{link_number, loop_number}
use Rattle.chain.specs.Way.{reached, records, met, done, refusal}
use Rattle.chain.specs.Means.{IsRecord, OnRecords}
use Rattle.chain.proofs.WayLaws.{reached_none, way_zero, way_beyond, way_again, met_none, met_on, met_off}
use Rattle.chain.proofs.MeansLaws.{few}
use Rattle.chain.proofs.RecordLaws.{reached_next}
use Rattle.handle.specs.Handles.{Name}
use Rattle.register.specs.Registers.{entries, parent_of, mask_of, way_of, masks_of, steps, ended, made}
use Rattle.register.specs.Words.{OwnWay}
use Rattle.register.proofs.MadeLaws.{by_way}

-- entry j is the same in both
abbrev SameEntry : List ℕ → List ℕ → ℕ → Type 0
SameEntry e e' j = (parent_of e j ≡ parent_of e' j) × (mask_of e j ≡ mask_of e' j)

masks_same : (e e' : List ℕ) (m k : ℕ) → ((i : ℕ) → i < m → SameEntry e e' (reached (parent_of e) k i))
    → masks_of e k m ≡ masks_of e' k m
unfolding records
masks_same e e' zero k h = refl
masks_same e e' (suc m) k h =
    ap₂ (λ (x : ℕ) (l : List ℕ). x ∷ l) first.1
    (masks_same e e' m (parent_of e k) (λ i l. subst (SameEntry e e') (sym (reached_next (parent_of e) k i)) (h (suc i) (omega arith)))
    ∙ ap (λ (j : ℕ). masks_of e' j m) first.0)
  where
    first : SameEntry e e' k
    first = subst (SameEntry e e') (reached_none (parent_of e) k) (h 0 (omega arith))

module _ (e e' : List ℕ) (k : ℕ) (n : entries e ≡ entries e')
    (same : (i : ℕ) → OnRecords (entries e) (parent_of e) k (suc i) → SameEntry e e' (reached (parent_of e) k i)) where
  reached_same : (m : ℕ) → OnRecords (entries e) (parent_of e) k m → reached (parent_of e) k m ≡ reached (parent_of e') k m
  unfolding reached
  reached_same zero on = refl
  reached_same (suc m) on =
      (same m on).0 ∙ ap (parent_of e') (reached_same m (λ i l. on i (omega arith)))

  on_same : (m : ℕ) → OnRecords (entries e) (parent_of e) k m → OnRecords (entries e') (parent_of e') k m
  on_same m on i l =
      let r = on i l in
      let q = reached_same i (λ j b. on j (omega arith)) in
      omega arith

  -- what holds of a whole way of m, of one that leaves and of one that comes round, in both
  own_way : (P : Type 0)
      → ((m : ℕ) → OnRecords (entries e) (parent_of e) k m → way_of e k ≡ done m → way_of e' k ≡ done m → P)
      → ((x : ℕ) → way_of e k ≡ refusal x → way_of e' k ≡ refusal x → P) → P
  own_way P whole refused = go (met (entries e) (parent_of e) k) refl
    where
      go : (o : Option ℕ) → met (entries e) (parent_of e) k ≡ o → P
      go none q =
          refused loop_number
          (way_again (entries e) (parent_of e) k (suc (entries e)) on (omega arith))
          (way_again (entries e') (parent_of e') k (suc (entries e)) (on_same (suc (entries e)) on) (omega arith))
        where
          on : OnRecords (entries e) (parent_of e) k (suc (entries e))
          on = met_none (entries e) (parent_of e) k q
      go (some m) q = at (reached (parent_of e) k m) refl (dec_lt (entries e) (reached (parent_of e) k m))
        where
          on : OnRecords (entries e) (parent_of e) k m
          on = met_on (entries e) (parent_of e) k m q

          off : IsRecord (entries e) (reached (parent_of e) k m) → ⊥
          off = met_off (entries e) (parent_of e) k m q

          low : m ≤ entries e
          low = few (entries e) (parent_of e) k m on off

          at : (p : ℕ) → reached (parent_of e) k m ≡ p → Dec (entries e < reached (parent_of e) k m) → P
          at zero z d =
              whole m on (way_zero (entries e) (parent_of e) k m on low z)
              (way_zero (entries e') (parent_of e') k m (on_same m on) (let l = low in omega arith)
              (sym (reached_same m on) ∙ z))
          at (suc p) z (yes b) =
              refused link_number (way_beyond (entries e) (parent_of e) k m on low b)
              (way_beyond (entries e') (parent_of e') k m (on_same m on) (let l = low in omega arith)
              (let r = reached_same m on in omega arith))
          at (suc p) z (no b) = absurd (off (omega arith))

pub own_way_alone : (f : Name → List ℕ → ℕ → List ℕ) → OwnWay f
own_way_alone f h e e' k n same =
    own_way e e' k n same (made f h e k ≡ made f h e' k)
    (λ m on q q'.
    by_way f h e k (done m) q
    ∙ ap (steps f h) (masks_same e e' m k (λ i l. same i (λ j b. on j (omega arith))))
    ∙ sym (by_way f h e' k (done m) q'))
    (λ x q q'. by_way f h e k (refusal x) q ∙ refused x ∙ sym (by_way f h e' k (refusal x) q'))
  where
    refused : (x : ℕ) → ended f h e k x 0 ≡ ended f h e' k x 0
    refused zero = ap (steps f h) (masks_same e e' 0 k (λ i l. absurd (omega arith)))
    refused (suc x) = refl
