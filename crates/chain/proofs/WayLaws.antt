-- Laws of ways. A way that is on m records and then at no record has met m, and is answered by where it is then; one
-- that is on records at its first n + 1 places is answered as a loop. What was met tells the same of the places.
-- Assumes nothing.
use mathlib.Core.Path.{◌≡◌, refl, sym, ap, ◌∙◌}
use mathlib.Core.Bool.{Bool, true, false, not, true≢false}
use mathlib.Core.Option.{none, some}
use Prim.Native.Nat.{ℕ, zero, suc, ◌+◌, ◌≤◌, ◌<◌}
use native.Mathlib.Numerals.{add-one}
use native.Mathlib.Omega.{arith}
use lib.Dec.{leb}
use borrow.Author.Tests.{leb-true, le-leb, not-false}
use Rattle.loops.proofs.BelowLaws.{and_left, and_right, and_both, test_off}
use Rattle.loops.proofs.SearchLaws.{least_none, least_is, least_holds, least_below, least_missing}
use Rattle.numbers.specs.Numbers.{link_number, loop_number}
use Rattle.chain.specs.Way.{reached, numbered, met, done, refusal, stopped, answered, way}
use Rattle.chain.specs.Means.{IsRecord, OnRecords}

pub reached_none : (next : ℕ → ℕ) (k : ℕ) → reached next k 0 ≡ k
unfolding reached
reached_none next k = refl

pub reached_more : (next : ℕ → ℕ) (k i : ℕ) → reached next k (i + 1) ≡ next (reached next k i)
unfolding reached
reached_more next k i = rw (add-one, reached)

numbered_in : (n k : ℕ) → IsRecord n k → numbered n k ≡ true
unfolding numbered
numbered_in n k r = and_both (leb 1 k) (leb k n) (le-leb 1 k r.0) (le-leb k n r.1)

numbered_out : (n k : ℕ) → numbered n k ≡ true → IsRecord n k
unfolding numbered
numbered_out n k e =
    (leb-true 1 k (and_left (leb 1 k) (leb k n) e), leb-true k n (and_right (leb 1 k) (leb k n) e))

stopped_beyond : (n m k : ℕ) → n < k → stopped m k ≡ refusal link_number
stopped_beyond n m zero h = absurd (omega arith)
stopped_beyond n m (suc k) h = refl

module _ (n : ℕ) (next : ℕ → ℕ) (k : ℕ) where
  abbrev stops : ℕ → Bool
  stops i = not (numbered n (reached next k i))

  goes_on : (i : ℕ) → IsRecord n (reached next k i) → stops i ≡ false
  goes_on i r = ap not (numbered_in n (reached next k i) r)

  record_at_lem : (i : ℕ) → stops i ≡ false → IsRecord n (reached next k i)
  record_at_lem i e = numbered_out n (reached next k i) (not-false (numbered n (reached next k i)) e)

  -- ---- from the places to the answer

  module _ (m : ℕ) (on : OnRecords n next k m) where
    way_stops : m ≤ n → (IsRecord n (reached next k m) → ⊥) → way n next k ≡ stopped m (reached next k m)
    unfolding way met
    way_stops l off =
        ap (answered next k)
        (least_is stops (suc n) m (omega arith)
        (ap not (test_off (numbered n (reached next k m)) (λ e. off (numbered_out n (reached next k m) e))))
        (λ i h. goes_on i (on i h)))

    pub way_zero : m ≤ n → reached next k m ≡ 0 → way n next k ≡ done m
    way_zero l e = way_stops l (λ r. omega arith) ∙ ap (stopped m) e

    pub way_beyond : m ≤ n → n < reached next k m → way n next k ≡ refusal link_number
    way_beyond l h = way_stops l (λ r. omega arith) ∙ stopped_beyond n m (reached next k m) h

    pub way_again : n < m → way n next k ≡ refusal loop_number
    unfolding way met
    way_again l = ap (answered next k) (least_none stops (suc n) (λ i h. goes_on i (on i (omega arith))))

  -- ---- and back

  pub met_none : met n next k ≡ none → OnRecords n next k (suc n)
  unfolding met
  met_none e i h = record_at_lem i (least_missing stops (suc n) e i h)

  module _ (m : ℕ) (e : met n next k ≡ some m) where
    pub met_on : OnRecords n next k m
    unfolding met
    met_on i h = record_at_lem i (least_below stops (suc n) m e i h)

    pub met_off : IsRecord n (reached next k m) → ⊥
    unfolding met
    met_off r = true≢false (sym (least_holds stops (suc n) m e) ∙ goes_on m r)
