-- The copies of the uses: of every width, with any passwords and bytes, they are sound; any two with the same bytes of no segment are
-- alike, and any two with the same write password are the same to writers. Which bytes are a segment's is told by tests over all
-- segments, computed for each width.
-- Assumes nothing.
use mathlib.Core.Path.{◌≡◌, refl, sym, ap, ◌∙◌, subst}
use mathlib.Core.Logic.{◌≢◌, ◌⊎◌, inl, inr}
use Prim.Native.Nat.{ℕ, zero, suc, ◌+◌, ◌-◌, ◌*◌, ◌≤◌, ◌<◌}
use native.Mathlib.Omega.{arith}
use mathlib.Core.Bool.{Bool, true, false, ◌&&◌}
use mathlib.Core.List.{List, ◌++◌}
use native.Mathlib.Decide.{ℕ_discrete}
use lib.Dec.{eqb, leb, ltb}
use lib.ListN.{length, get_or, length-replicate, get_or-append}
use lib.Seq.{get_or-append-add}
use borrow.Author.Tests.{leb-true, eqb-true, ltb-true, ltb-false}
use Rattle.loops.specs.Below.{every}
use Rattle.loops.proofs.BelowLaws.{and_left, and_right, every_at, every_pair_at}
use Rattle.sizes.specs.Sizes.{nodes, clusters, segments}
use Rattle.store.specs.Places.{Place, None, Some, present_at}
use Rattle.store.specs.Records.{record_of, table_at, place_at, place_on}
use Rattle.store.proofs.QuickLaws.{quick, quickly, sound_quick}
use Rattle.store.proofs.ChangeLaws.{put_other}
use Rattle.isolation.specs.Copies.{SoundCopy, InPlace, Outside, Alike}
use Rattle.isolation.specs.Writers.{SameToWriters}
use Rattle.isolation.specs.UseLists.{Wide, of_four, of_eight, of_sixteen, top, rest, apart, records, low, high, keeping}

-- ---- soundness

quick_keeping : (v : Wide) (r w : List ℕ) (b c d y z : ℕ)
    → quick (records v r w) (length (keeping v r w b c d y z).memory) ≡ true
unfolding quickly
quick_keeping of_four r w b c d y z = refl
quick_keeping of_eight r w b c d y z = refl
quick_keeping of_sixteen r w b c d y z = refl

pub sound_keeping : (v : Wide) (r w : List ℕ) (b c d y z : ℕ) → SoundCopy (keeping v r w b c d y z)
sound_keeping v r w b c d y z =
    sound_quick (records v r w) (length (keeping v r w b c d y z).memory) ∙ quick_keeping v r w b c d y z

pub top_low : (v : Wide) → top v < 16
top_low of_four = omega arith
top_low of_eight = omega arith
top_low of_sixteen = omega arith

-- ---- where the segments are

-- a place that is absent, or begins at lo or after and ends at hi or before
abbrev between : ℕ → ℕ → Place → Bool
between lo hi None = true
between lo hi (Some span) = leb lo span.base && leb (span.base + span.length) hi

in_between : (node lo hi : ℕ) (q : Place) (p : ℕ) → between lo hi q ≡ true → InPlace node q p
    → (node * 4096 + lo ≤ p) × (p < node * 4096 + hi)
in_between node lo hi None p e u = absurd u
in_between node lo hi (Some span) p e (l, h) =
    let from = leb-true lo span.base (and_left (leb lo span.base) (leb (span.base + span.length) hi) e) in
    let to = leb-true (span.base + span.length) hi (and_right (leb lo span.base) (leb (span.base + span.length) hi) e) in
    (omega arith, omega arith)

module _ (v : Wide) (r w : List ℕ) where
  its_ends : every segments (λ i. between 0 6 (place_at (table_at (records v r w)) 31 i)) ≡ true
  unfolding every
  its_ends =
      elim v as (λ (u : Wide). every segments (λ i. between 0 6 (place_at (table_at (records u r w)) 31 i)) ≡ true)
      [ of_four ↦ refl | of_eight ↦ refl | of_sixteen ↦ refl ]

  pub its_bytes : (i p : ℕ) → i < segments → InPlace 3 (place_at (table_at (records v r w)) 31 i) p → (12288 ≤ p) × (p < 12294)
  its_bytes i p hi u =
      in_between 3 0 6 (place_at (table_at (records v r w)) 31 i) p
      (every_at segments (λ j. between 0 6 (place_at (table_at (records v r w)) 31 j)) its_ends i hi) u

  pub its_top : place_at (table_at (records v r w)) 31 (top v) ≡ present_at 0 4
  its_top = elim v as (λ (u : Wide). place_at (table_at (records u r w)) 31 (top u) ≡ present_at 0 4) [ of_four ↦ refl | of_eight ↦ refl | of_sixteen ↦ refl ]

  pub its_first : place_at (table_at (records v r w)) 31 0 ≡ present_at 4 2
  its_first = elim v as (λ (u : Wide). place_at (table_at (records u r w)) 31 0 ≡ present_at 4 2) [ of_four ↦ refl | of_eight ↦ refl | of_sixteen ↦ refl ]

  pub in_top : (q : ℕ) → q < 4 → InPlace 3 (place_at (table_at (records v r w)) 31 (top v)) (12288 + q)
  in_top q l = subst (λ (p : Place). InPlace 3 p (12288 + q)) (sym its_top) (omega arith, omega arith)

  pub in_first_lem : (q : ℕ) → q < 2 → InPlace 3 (place_at (table_at (records v r w)) 31 0) (12292 + q)
  in_first_lem q l = subst (λ (p : Place). InPlace 3 p (12292 + q)) (sym its_first) (omega arith, omega arith)

  -- the only segments of other clusters have the first two bytes, and the two after the cluster's
  abbrev from : ℕ → ℕ
  from n = elim (eqb n 26) [ true ↦ 7 | false ↦ 0 ]

  abbrev to : ℕ → ℕ
  to n = elim (eqb n 3) [ true ↦ 2 | false ↦ elim (eqb n 26) [ true ↦ 9 | false ↦ 0 ] ]

  other_ends : every 31 (λ n. every segments (λ i. between (from n) (to n) (place_at (table_at (records v r w)) n i))) ≡ true
  unfolding every
  other_ends = refl

  abbrev Theirs : ℕ → Type 0
  Theirs p = (p < 2) ⊎ ((12295 ≤ p) × (p < 12297))

  limited : (node local p : ℕ) → local < clusters → (t u : Bool) → eqb (record_of node local) 3 ≡ t
      → eqb (record_of node local) 26 ≡ u → node * 4096 + elim u [ true ↦ 7 | false ↦ 0 ] ≤ p
      → p < node * 4096 + elim t [ true ↦ 2 | false ↦ elim u [ true ↦ 9 | false ↦ 0 ] ] → Theirs p
  limited node local p hl true u e n lo hi = inl (omega (arith, eqb-true (record_of node local) 3 e))
  limited node local p hl false true e n lo hi =
      let at : record_of node local ≡ 26 = eqb-true (record_of node local) 26 n in
      inr (omega arith, omega arith)
  limited node local p hl false false e n lo hi = absurd (omega arith)

  pub other_bytes : (node local i p : ℕ) → node < nodes → local < clusters → i < segments → record_of node local ≢ 31
      → InPlace node (place_on (table_at (records v r w)) node local i) p → Theirs p
  other_bytes node local i p hv hl hi ne u =
      let b =
      in_between node (from (record_of node local)) (to (record_of node local))
      (place_on (table_at (records v r w)) node local i) p
      (every_pair_at 31 segments (λ n j. between (from n) (to n) (place_at (table_at (records v r w)) n j)) other_ends
      (record_of node local) i (under (ℕ_discrete (record_of node local) 31)) hi) u in
      limited node local p hl (eqb (record_of node local) 3) (eqb (record_of node local) 26) refl refl b.0 b.1
    where
      under : Dec (record_of node local ≡ 31) → record_of node local < 31
      under (yes e) = absurd (ne e)
      under (no e) = omega arith

-- ---- the bytes

long_low : (z : ℕ) → length (low z) ≡ 12288
long_low z = ap (λ (n : ℕ). 5 + n) (length-replicate {A = ℕ} 12283 0)

-- a byte of the last node's memory
pub at_high : (v : Wide) (r w : List ℕ) (b c d y z q : ℕ)
    → get_or (keeping v r w b c d y z).memory (12288 + q) 0 ≡ get_or (high b c d y) q 0
at_high v r w b c d y z q =
    ap (λ (n : ℕ). get_or (low z ++ high b c d y) (n + q) 0) (sym (long_low z))
    ∙ get_or-append-add (low z) (high b c d y) q 0

pub at_top : (v : Wide) (r w : List ℕ) (b c d y z q : ℕ) → q < 4
    → get_or (keeping v r w b c d y z).memory (12288 + q) 0 ≡ b
at_top v r w b c d y z q l = at_high v r w b c d y z q ∙ go q l
  where
    go : (q : ℕ) → q < 4 → get_or (high b c d y) q 0 ≡ b
    go zero l = refl
    go (suc zero) l = refl
    go (suc (suc zero)) l = refl
    go (suc (suc (suc zero))) l = refl
    go (suc (suc (suc (suc q)))) l = absurd (omega arith)

-- ---- two copies

module _ (v : Wide) (r w s u : List ℕ) (b c d k l m : ℕ) where
  pub alike_keeping : (y z : ℕ) → Alike 3 7 (keeping v r w b c d y z) (keeping v s u k l m y z)
  alike_keeping y z =
      record {
        records = refl;
        others = λ n ne.
            put_other rest 31 (apart v r w) n ne
            ∙ sym (put_other rest 31 (apart v s u) n ne);
        table = refl;
        size = refl;
        bytes = λ p out. go p out (ltb p 12288) refl;
      }
    where
      under : (p : ℕ) → p < 12288
          → get_or (keeping v r w b c d y z).memory p 0 ≡ get_or (keeping v s u k l m y z).memory p 0
      under p e =
          get_or-append (low z) (high b c d y) 0 p (rw (long_low z) e)
          ∙ sym (get_or-append (low z) (high k l m y) 0 p (rw (long_low z) e))

      over : (q : ℕ) → Outside 3 7 (table_at (records v r w)) (12288 + q) → get_or (high b c d y) q 0 ≡ get_or (high k l m y) q 0
      over zero out = absurd (out (top v) (top_low v) (in_top v r w 0 (omega arith)))
      over (suc zero) out = absurd (out (top v) (top_low v) (in_top v r w 1 (omega arith)))
      over (suc (suc zero)) out = absurd (out (top v) (top_low v) (in_top v r w 2 (omega arith)))
      over (suc (suc (suc zero))) out = absurd (out (top v) (top_low v) (in_top v r w 3 (omega arith)))
      over (suc (suc (suc (suc zero)))) out = absurd (out 0 (omega arith) (in_first_lem v r w 0 (omega arith)))
      over (suc (suc (suc (suc (suc zero))))) out = absurd (out 0 (omega arith) (in_first_lem v r w 1 (omega arith)))
      over (suc (suc (suc (suc (suc (suc q)))))) out = refl

      go : (p : ℕ) → Outside 3 7 (table_at (records v r w)) p → (t : Bool) → ltb p 12288 ≡ t
          → get_or (keeping v r w b c d y z).memory p 0 ≡ get_or (keeping v s u k l m y z).memory p 0
      go p out true e = under p (ltb-true p 12288 e)
      go p out false e =
          let q : ℕ = p - 12288 in
          let n = ltb-false p 12288 e in
          let same : 12288 + q ≡ p = omega arith in
          ap (λ (a : ℕ). get_or (keeping v r w b c d y z).memory a 0) (sym same)
          ∙ at_high v r w b c d y z q
          ∙ over q (subst (Outside 3 7 (table_at (records v r w))) (sym same) out)
          ∙ sym (at_high v s u k l m y z q)
          ∙ ap (λ (a : ℕ). get_or (keeping v s u k l m y z).memory a 0) same

-- the bytes of no segment may differ, and the read password
pub same_keeping : (v : Wide) (r s w : List ℕ) (b c d y z k l m x t : ℕ)
    → SameToWriters 3 7 (keeping v r w b c d y z) (keeping v s w k l m x t)
same_keeping v r s w b c d y z k l m x t =
    record {
      records = refl;
      others = λ n ne.
          put_other rest 31 (apart v r w) n ne
          ∙ sym (put_other rest 31 (apart v s w) n ne);
      table = refl;
      write = refl;
      size = refl;
      bytes = λ node local i p hv hl hi ne u. theirs p (other_bytes v r w node local i p hv hl hi ne u);
    }
  where
    two : (p : ℕ) → p < 2 → get_or (keeping v r w b c d y z).memory p 0 ≡ get_or (keeping v s w k l m x t).memory p 0
    two zero h = refl
    two (suc zero) h = refl
    two (suc (suc p)) h = absurd (omega arith)

    last : (q : ℕ) → q < 2 → get_or (high b c d y) (7 + q) 0 ≡ get_or (high k l m x) (7 + q) 0
    last zero h = refl
    last (suc zero) h = refl
    last (suc (suc q)) h = absurd (omega arith)

    theirs : (p : ℕ) → (p < 2) ⊎ ((12295 ≤ p) × (p < 12297))
        → get_or (keeping v r w b c d y z).memory p 0 ≡ get_or (keeping v s w k l m x t).memory p 0
    theirs p (inl h) = two p h
    theirs p (inr (lo, hi)) =
        let q : ℕ = p - 12295 in
        let same : 12288 + (7 + q) ≡ p = omega arith in
        ap (λ (a : ℕ). get_or (keeping v r w b c d y z).memory a 0) (sym same)
        ∙ at_high v r w b c d y z (7 + q)
        ∙ last q (omega arith)
        ∙ sym (at_high v s w k l m x t (7 + q))
        ∙ ap (λ (a : ℕ). get_or (keeping v s w k l m x t).memory a 0) same
