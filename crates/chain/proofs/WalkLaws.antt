-- Laws of the loop that follows a way. Before each turn it is where the way is after `met` steps, and each place before
-- that is a record; so each of its ends gives the answer of the way.
-- Assumes nothing.
use mathlib.Core.Path.{◌≡◌, sym, ap, ◌∙◌, subst}
use mathlib.Core.List.{List}
use Prim.Native.Nat.{ℕ, zero, suc, ◌+◌, ◌-◌, ◌*◌, ◌/◌, ◌≤◌, ◌<◌}
use native.Mathlib.Nat.{mul-le-mul_right, suc-mul, div-zero, div-mul-le_self}
use native.Mathlib.Omega.{arith}
use borrow.Author.Count.{below_more}
use lib.ListN.{length}
use Rattle.chain.specs.Way.{Walked}
use Rattle.numbers.specs.Numbers.{link_number, loop_number}
use Rattle.chain.specs.Way.{reached, done, refusal, way}
use Rattle.chain.specs.Means.{IsRecord, OnRecords}
use Rattle.chain.specs.Bytes.{count, next_in, way_in}
use Rattle.chain.proofs.WayLaws.{reached_none, reached_more, way_zero, way_beyond, way_again}

-- record a + 1 begins inside the bytes
begins_inside : (size width a : ℕ) → a < size / width → a * width < size
begins_inside size zero a h = absurd (omega (arith, div-zero size))
begins_inside size (suc w) a h =
    omega (arith, mul-le-mul_right (suc w) h, suc-mul a (suc w), div-mul-le_self size (suc w))

-- the way from the record `from`, through n records, is at `at` after `met` of them
pub record Walking (bytes : List ℕ) (width from n met at : ℕ) : Type 0 where
  pub all : n ≡ count bytes width
  pub low : met ≤ n
  pub here : at ≡ reached (next_in bytes width) from met
  pub on : OnRecords n (next_in bytes width) from met

pub walking_none : (bytes : List ℕ) (width from n : ℕ) → n ≡ length bytes / width → Walking bytes width from n 0 from
walking_none bytes width from n e =
    record {
      all = e;
      low = omega arith;
      here = sym (reached_none (next_in bytes width) from);
      on = λ i h. absurd (omega arith);
    }

module _ (bytes : List ℕ) (width from n met at : ℕ) (w : Walking bytes width from n met at) where
  abbrev next : ℕ → ℕ
  next = next_in bytes width

  answer : (r : Walked) → way n next from ≡ r → r ≡ way_in bytes width from
  answer r e = sym e ∙ ap (λ (n : ℕ). way n next from) w.all

  pub walked_zero : at ≡ 0 → done met ≡ way_in bytes width from
  walked_zero e = answer (done met) (way_zero n next from met w.on w.low (sym w.here ∙ e))

  pub walked_beyond : n < at → refusal link_number ≡ way_in bytes width from
  walked_beyond h =
      let e = w.here in answer (refusal link_number) (way_beyond n next from met w.on w.low (omega arith))

  module _ (some : at ≡ 0 → ⊥) (known : at ≤ n) where
    on_more : OnRecords n next from (met + 1)
    on_more = below_more (λ i. IsRecord n (reached next from i)) met w.on (let e = w.here in omega arith)

    pub walked_again : met ≡ n → refusal loop_number ≡ way_in bytes width from
    walked_again e = answer (refusal loop_number) (way_again n next from (met + 1) on_more (omega arith))

    pub walking_more : (met ≡ n → ⊥) → Walking bytes width from n (met + 1) (next_in bytes width at)
    walking_more h =
        record {
          all = w.all;
          low = let l = w.low in omega arith;
          here = ap next w.here ∙ sym (reached_more next from met);
          on = on_more;
        }

    pub walked_last : n ≤ met → refusal loop_number ≡ way_in bytes width from
    walked_last h = walked_again (let l = w.low in omega arith)

    pub walking_to : met < n → (to : ℕ) → to ≡ next_in bytes width at → Walking bytes width from n (met + 1) to
    walking_to h to e = subst (Walking bytes width from n (met + 1)) (sym e) (walking_more (λ q. omega arith))

    pub walking_inside : (at - 1) * width < length bytes
    walking_inside = begins_inside (length bytes) width (at - 1) (let e = w.all in omega arith)
