-- What becomes of an entry, step by step: an entry made from one whose way ends has a way that ends, one entry longer, and
-- its steps are those of the other and then its own; so a handle gives a handle, and a refusal is handed on.
-- Assumes nothing.
use mathlib.Core.Path.{◌≡◌, refl, sym, ap, ◌∙◌, subst}
use mathlib.Core.Bool.{false, not}
use mathlib.Core.List.{List}
use Prim.Native.Nat.{ℕ, zero, suc, ◌+◌, ◌≤◌, ◌<◌}
use native.Mathlib.Omega.{arith}
use borrow.Author.Tests.{eq-eqb, ne_eqb}
use Rattle.loops.proofs.SearchLaws.{least_none, least_is}
use Rattle.chain.specs.Way.{reached, records, done, refusal}
use Rattle.chain.specs.Means.{IsRecord, OnRecords}
use Rattle.chain.specs.Way.{Walked}
use Rattle.chain.proofs.WayLaws.{reached_none, way_zero}
use Rattle.chain.proofs.MeansLaws.{few}
use Rattle.chain.proofs.RecordLaws.{reached_next}
use Rattle.handle.specs.declared.Handle.{Handle}
use Rattle.handle.specs.Handles.{Weakened}
use Rattle.handle.specs.Handles.{Name, name_of, width_of, weakening}
use Rattle.register.specs.Registers.{entries, parent_of, mask_of, way_of, masks_of}
use Rattle.register.specs.Registers.{Made, given, failed, settled, stepped, steps, ended, made, fails, tells, lowest}

-- the way from k is on m entries, and then at zero
pub record Ends (e : List ℕ) (k m : ℕ) : Type 0 where
  pub on : OnRecords (entries e) (parent_of e) k m
  pub zero_after : reached (parent_of e) k m ≡ 0

pub ends_none : (e : List ℕ) → Ends e 0 0
ends_none e = record { on = λ i h. absurd (omega arith); zero_after = reached_none (parent_of e) 0 }

pub ends_more : (e : List ℕ) (k m : ℕ) → IsRecord (entries e) k → Ends e (parent_of e k) m → Ends e k (suc m)
ends_more e k m r w = record { on = on; zero_after = sym (reached_next (parent_of e) k m) ∙ w.zero_after }
  where
    on : OnRecords (entries e) (parent_of e) k (suc m)
    on zero h = subst (IsRecord (entries e)) (sym (reached_none (parent_of e) k)) r
    on (suc i) h = subst (IsRecord (entries e)) (reached_next (parent_of e) k i) (w.on i (omega arith))

pub ends_known : (e : List ℕ) (k m : ℕ) → Ends e k m → k ≤ entries e
ends_known e k zero w = let z = w.zero_after in let q = reached_none (parent_of e) k in omega arith
ends_known e k (suc m) w = let r = w.on 0 (omega arith) in let q = reached_none (parent_of e) k in omega arith

pub ends_way : (e : List ℕ) (k m : ℕ) → Ends e k m → way_of e k ≡ done m
ends_way e k m w =
    way_zero (entries e) (parent_of e) k m w.on
    (few (entries e) (parent_of e) k m w.on (λ r. let z = w.zero_after in omega arith)) w.zero_after

module _ (f : Name → List ℕ → ℕ → List ℕ) (h : Handle) (e : List ℕ) where
  -- entry k has the handle g
  pub record Good (k : ℕ) (g : Handle) : Type 0 where
    pub m : ℕ
    pub ends : Ends e k m
    pub told : steps f h (masks_of e k m) ≡ given g

  -- entry k fails with x, at a step
  pub record Bad (k x : ℕ) : Type 0 where
    pub m : ℕ
    pub ends : Ends e k m
    pub some : x ≡ 0 → ⊥
    pub told : steps f h (masks_of e k m) ≡ failed x

  pub by_way : (k : ℕ) (w : Walked) → way_of e k ≡ w → made f h e k ≡ ended f h e k w.number w.records
  unfolding made
  by_way k w q = ap (λ (w : Walked). ended f h e k w.number w.records) q

  pub good_made : (k : ℕ) (g : Handle) → Good k g → made f h e k ≡ given g
  good_made k g r = by_way k (done r.m) (ends_way e k r.m r.ends) ∙ r.told

  pub bad_made : (k x : ℕ) → Bad k x → made f h e k ≡ failed x
  bad_made k x r = by_way k (done r.m) (ends_way e k r.m r.ends) ∙ r.told

  refused_ended : (k x m : ℕ) → (x ≡ 0 → ⊥) → ended f h e k x m ≡ failed x
  refused_ended k zero m z = absurd (z refl)
  refused_ended k (suc x) m z = refl

  pub way_made : (k x : ℕ) → (x ≡ 0 → ⊥) → way_of e k ≡ refusal x → made f h e k ≡ failed x
  way_made k x z q = by_way k (refusal x) q ∙ refused_ended k x 0 z

  -- ---- one step

  pub steps_more : (k m : ℕ) (r : Made) → steps f h (masks_of e (parent_of e k) m) ≡ r
      → steps f h (masks_of e k (suc m)) ≡ stepped f r (mask_of e k)
  unfolding steps records
  steps_more k m r q = ap (λ (r : Made). stepped f r (mask_of e k)) q

  pub good_none : Good 0 h
  unfolding steps records
  good_none = record { m = 0; ends = ends_none e; told = refl }

  settled_done : (n : ℕ) (g : Handle) → n ≡ 0 → settled n g ≡ given g
  settled_done zero g q = refl
  settled_done (suc n) g q = absurd (omega arith)

  settled_refused : (n : ℕ) (g : Handle) → (n ≡ 0 → ⊥) → settled n g ≡ failed n
  settled_refused zero g z = absurd (z refl)
  settled_refused (suc n) g z = refl

  module _ (k : ℕ) (r : IsRecord (entries e) k) where
    module _ (g : Handle) (s : Good (parent_of e k) g) (w : Weakened)
        (q : w ≡ weakening (width_of g) (f (name_of g)) g (mask_of e k)) where
      settles : steps f h (masks_of e k (suc s.m)) ≡ settled w.number w.handle
      settles =
          steps_more k s.m (given g) s.told
          ∙ ap (λ (w : Weakened). settled w.number w.handle) (sym q)

      pub good_more : w.number ≡ 0 → Good k w.handle
      good_more z =
          record {
            m = suc s.m;
            ends = ends_more e k s.m r s.ends;
            told = settles ∙ settled_done w.number w.handle z;
          }

      pub bad_more : (w.number ≡ 0 → ⊥) → Bad k w.number
      bad_more z =
          record {
            m = suc s.m;
            ends = ends_more e k s.m r s.ends;
            some = z;
            told = settles ∙ settled_refused w.number w.handle z;
          }

    handed_on : (x : ℕ) → (x ≡ 0 → ⊥) → stepped f (failed x) (mask_of e k) ≡ failed x
    handed_on zero z = absurd (z refl)
    handed_on (suc x) z = refl

    pub bad_up : (x : ℕ) → Bad (parent_of e k) x → Bad k x
    bad_up x b =
        record {
          m = suc b.m;
          ends = ends_more e k b.m r b.ends;
          some = b.some;
          told = steps_more k b.m (failed x) b.told ∙ handed_on x b.some;
        }

  -- an entry that fails fails each entry whose way meets it
  pub bad_reached : (k i x : ℕ) → OnRecords (entries e) (parent_of e) k i → Bad (reached (parent_of e) k i) x → Bad k x
  unfolding reached
  bad_reached k zero x on b = b
  bad_reached k (suc i) x on b =
      bad_reached k i x (λ j l. on j (omega arith)) (bad_up (reached (parent_of e) k i) (on i (omega arith)) x b)

  -- ---- the lowest entry that fails

  fine : (i : ℕ) → (made f h e (suc i)).number ≡ 0 → fails f h e i ≡ false
  fine i q = ap not (eq-eqb (made f h e (suc i)).number 0 q)

  pub lowest_none : ((j : ℕ) → 1 ≤ j → j < entries e + 1 → (made f h e j).number ≡ 0)
      → lowest f h e ≡ record { number = 0; entry = 0 }
  unfolding lowest
  lowest_none all = ap (tells f h e) (least_none (fails f h e) (entries e) (λ i l. fine i (all (suc i) (omega arith) (omega arith))))

  pub lowest_is : (k x : ℕ) → 1 ≤ k → k ≤ entries e → ((j : ℕ) → 1 ≤ j → j < k → (made f h e j).number ≡ 0)
      → (x ≡ 0 → ⊥) → made f h e k ≡ failed x → lowest f h e ≡ record { number = x; entry = k }
  unfolding lowest
  lowest_is zero x a b all z q = absurd (omega arith)
  lowest_is (suc i) x a b all z q =
      ap (tells f h e)
      (least_is (fails f h e) (entries e) i b
      (ap not (ne_eqb (made f h e (suc i)).number 0 (λ w. z (sym number ∙ w))))
      (λ j l. fine j (all (suc j) (omega arith) (omega arith))))
      ∙ ap (λ (n : ℕ). record { number = n; entry = suc i }) number
    where
      number : (made f h e (suc i)).number ≡ x
      number = ap (λ (m : Made). m.number) q
