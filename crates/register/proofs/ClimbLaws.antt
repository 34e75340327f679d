-- Laws of the climb: before each turn it is on the way (`Walking` of crate chain), and what it met is kept in order.
-- Assumes nothing.
use mathlib.Core.Path.{◌≡◌, refl, sym, ap, ap₂, ◌∙◌, subst}
use mathlib.Core.Logic.{◌⊎◌, inl, inr}
use mathlib.Core.List.{List, [], ◌∷◌}
use Rattle.std.specs.Simd.{first_chunks}
use Rattle.std.specs.Prelude.{Option, Some, None}
use Prim.Native.Nat.{ℕ, zero, suc, ◌+◌, ◌-◌, ◌*◌, ◌/◌, ◌≤◌, ◌<◌}
use native.Mathlib.Nat.{eq-or-lt_of_le}
use native.Mathlib.Omega.{arith}
use lib.ListN.{length, get_or, set, length-set}
use lib.Seq.{get_or-set_same, get_or-set_other}
use mir.Val.{Fits}
use mir.Syntax.{w8}
use Rattle.numbers.specs.Numbers.{link_number, loop_number}
use Rattle.chain.specs.Way.{reached, refusal}
use Rattle.chain.specs.Means.{OnRecords}
use Rattle.chain.proofs.WalkLaws.{Walking, walking_none, walking_more, walking_inside, walked_beyond, walked_again}
use Rattle.register.specs.Registers.{entries, parent_of, mask_of, way_of}
use Rattle.register.specs.declared.Seen.{Seen}
use Rattle.register.specs.inner.Work.{IsEntry, Has, Small, ClimbedTo}

-- an entry's two bytes, among the pairs of all
pairs_at : (c i : ℕ) (e : List ℕ) → i < c → c * 2 ≤ length e
    → get_or (first_chunks 2 c e) i [] ≡ get_or e (i * 2) 0 ∷ get_or e (i * 2 + 1) 0 ∷ []
pairs_at zero i e l r = absurd (omega arith)
pairs_at (suc c) i [] l r = absurd (omega arith)
pairs_at (suc c) i (x ∷ []) l r = absurd (omega arith)
pairs_at (suc c) zero (x ∷ y ∷ e) l r = refl
pairs_at (suc c) (suc i) (x ∷ y ∷ e) l r =
    pairs_at c i e (omega arith) (omega arith)
    ∙ ap₂ (λ (a b : ℕ). get_or (x ∷ y ∷ e) a 0 ∷ get_or (x ∷ y ∷ e) b 0 ∷ []) first second
  where
    first : suc (suc (i * 2)) ≡ suc i * 2
    first = omega arith

    second : suc (suc (i * 2 + 1)) ≡ suc i * 2 + 1
    second = omega arith

pub pair_of : (e : List ℕ) (k : ℕ) → IsEntry e k
    → get_or (first_chunks 2 (length e / 2) e) (k - 1) [] ≡ parent_of e k ∷ mask_of e k ∷ []
pair_of e k r = let a = r.first in let b = r.last in pairs_at (length e / 2) (k - 1) e (omega arith) (omega arith)

pub record Climbing (e : List ℕ) (known : List (Option Seen)) (start path : List ℕ) (from n met at : ℕ) : Type 0 where
  pub walking : Walking e 2 from n met at
  pub few : n ≤ 255
  pub full : length known ≡ 256
  pub supplied : Has known 0
  pub size : length path ≡ 256
  pub same : length path ≡ length start
  pub byte : at < 256
  pub kept : (i : ℕ) → i < met → get_or path i 0 ≡ reached (parent_of e) from i

pub climbing_none : (e : List ℕ) (known : List (Option Seen)) (path : List ℕ) (from n : ℕ) → n ≡ length e / 2
    → Small e known path from → Climbing e known path path from n 0 from
climbing_none e known path from n q s =
    record {
      walking = walking_none e 2 from n q;
      few = let f = s.few in omega arith;
      full = s.size;
      supplied = s.supplied;
      size = s.room;
      same = refl;
      byte = let b = s.byte in omega arith;
      kept = λ i h. absurd (omega arith);
    }

module _ (e : List ℕ) (known : List (Option Seen)) (start path : List ℕ) (from n met at : ℕ) (c : Climbing e known start path from n met at) where
  pub climbing_few : n < 256
  climbing_few = let f = c.few in omega arith

  pub climbing_met : met < 256
  climbing_met = let q = c.walking.low in let f = climbing_few in omega arith

  pub climbing_flag : at < length known
  climbing_flag = let f = c.full in let b = c.byte in omega arith

  pub climbing_room : met < length path
  climbing_room = let f = c.size in let b = climbing_met in omega arith

  module _ (off : get_or known at None ≡ None) where
    pub climbing_some : at ≡ 0 → ⊥
    climbing_some q = let s = c.supplied.is in let p = ap (λ (i : ℕ). get_or known i None) q in cc

    pub climbing_first : 1 ≤ at
    climbing_first = omega (arith, climbing_some)

    pub climbs_link : n < at → way_of e from ≡ refusal link_number
    climbs_link h = sym (walked_beyond e 2 from n met at c.walking h)

    module _ (in-it : at ≤ n) where
      pub climbs_loop : met ≡ n → way_of e from ≡ refusal loop_number
      climbs_loop h = sym (walked_again e 2 from n met at c.walking climbing_some in-it h)

      pub climbing_entry : IsEntry e at
      climbing_entry =
          let l = walking_inside e 2 from n met at c.walking climbing_some in-it in
          let a = c.walking.all in
          let b = climbing_first in
          let f = c.few in
          record { first = b; last = omega arith; few = omega arith }

      pub climbing_more : (met ≡ n → ⊥) → Fits w8 (parent_of e at) → (p : List ℕ) → p ≡ parent_of e at ∷ mask_of e at ∷ []
          → (x : ℕ) → x ≡ get_or p 0 0 → Climbing e known start (set path met at) from n (met + 1) x
      climbing_more h b p q x v =
          subst (Climbing e known start (set path met at) from n (met + 1)) (sym (v ∙ ap (λ (p : List ℕ). get_or p 0 0) q))
          (record {
            walking = walking_more e 2 from n met at c.walking climbing_some in-it h;
            few = c.few;
            full = c.full;
            supplied = c.supplied;
            size = length-set path met at ∙ c.size;
            same = length-set path met at ∙ c.same;
            byte = b.fits;
            kept = λ i l. go i (eq-or-lt_of_le (let m : i ≤ met = omega arith in m));
          })
        where
          go : (i : ℕ) → (i ≡ met) ⊎ (i < met) → get_or (set path met at) i 0 ≡ reached (parent_of e) from i
          go i (inl q) =
              ap (λ (j : ℕ). get_or (set path met at) j 0) q
              ∙ get_or-set_same path met at 0 (let s = c.size in let m = climbing_met in omega arith)
              ∙ c.walking.here
              ∙ ap (reached (parent_of e) from) (sym q)
          go i (inr l) = get_or-set_other path met i at 0 (omega arith) ∙ c.kept i l

  pub climbs_known : (seen : Seen) → get_or known at None ≡ Some seen
      → ClimbedTo e known path from (record { met = met; above = at; seen = seen })
  climbs_known seen k =
      record {
        low = let l = c.walking.low in let a = c.walking.all in omega arith;
        on = on_all c.walking.all;
        kept = c.kept;
        above = c.walking.here;
        end = k;
      }
    where
      on_all : n ≡ entries e → OnRecords (entries e) (parent_of e) from met
      on_all q i h = let o = c.walking.on i h in omega arith
