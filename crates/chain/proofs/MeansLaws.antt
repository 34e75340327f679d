-- The answer of a way says which of the three it is, and each of the three gives its answer. A way that comes to a
-- record again stays on those that it has met, so it never stops; and by the pigeonhole one that is on records at its
-- first n + 1 places comes to one of them again. So a way that stops has met no record twice, and at most n.
-- Assumes nothing.
use mathlib.Core.Path.{◌≡◌, refl, sym, ap, ◌∙◌, subst}
use mathlib.Core.Logic.{◌⊎◌, inl, inr}
use mathlib.Core.Option.{Option, none, some}
use Prim.Native.Nat.{ℕ, zero, suc, ◌-◌, ◌≤◌, ◌<◌}
use native.Mathlib.Nat.{eq-or-lt_of_le}
use native.Mathlib.Decide.{dec_lt}
use native.Mathlib.Omega.{arith}
use Rattle.chain.specs.Way.{Walked}
use Rattle.numbers.specs.Numbers.{link_number, loop_number}
use Rattle.chain.specs.Way.{reached, met, done, refusal, stopped, answered, way}
use Rattle.chain.specs.Means.{IsRecord, OnRecords, Whole, Leaves, Again, Means}
use Rattle.chain.proofs.WayLaws.{way_zero, way_beyond, way_again, met_none, met_on, met_off}
use Rattle.chain.proofs.PigeonholeLaws.{pigeonhole}

module _ (n : ℕ) (next : ℕ → ℕ) (k : ℕ) where
  -- ---- a way that comes to a record again

  module _ (r : Again n next k) where
    -- place t is one of those up to the record that is met again
    record Seen (t : ℕ) : Type 0 where
      place : ℕ
      low : place ≤ r.again
      same : reached next k t ≡ reached next k place

    seen : (t : ℕ) → Seen t
    unfolding reached
    seen zero = record { place = 0; low = omega arith; same = refl }
    seen (suc t) = more (seen t)
      where
        more : Seen t → Seen (suc t)
        more s = go (eq-or-lt_of_le s.low)
          where
            go : (s.place ≡ r.again) ⊎ (s.place < r.again) → Seen (suc t)
            go (inl e) =
                record {
                  place = suc r.before;
                  low = r.later;
                  same = ap next (s.same ∙ ap (reached next k) e ∙ sym r.same);
                }
            go (inr l) = record { place = suc s.place; low = l; same = ap next s.same }

    again_on : (t : ℕ) → IsRecord n (reached next k t)
    again_on t =
        let s = seen t in
        let e = s.same in
        let on = r.on s.place (let l = s.low in omega arith) in
        omega arith

  repeats : OnRecords n next k (suc n) → Again n next k
  repeats on =
      let t = pigeonhole n (λ i. reached next k i - 1) (λ i l. let r = on i l in omega arith) in
      record {
        before = t.before;
        again = t.again;
        later = t.later;
        on = λ i l. on i (omega arith);
        same = omega (arith, on t.before (omega arith), on t.again (omega arith), t.same);
      }

  -- a way that stops after m records has met at most n, and none of them twice
  module _ (m : ℕ) (on : OnRecords n next k m) (off : IsRecord n (reached next k m) → ⊥) where
    pub few : m ≤ n
    few = go (dec_lt n m)
      where
        go : Dec (n < m) → m ≤ n
        go (yes h) = absurd (off (again_on (repeats (λ i l. on i (omega arith))) m))
        go (no h) = omega arith

    once : (i j : ℕ) → i < j → j < m → reached next k i ≡ reached next k j → ⊥
    once i j a b e =
        off (again_on (record { before = i; again = j; later = a; on = λ t l. on t (omega arith); same = e }) m)

  -- ---- from each of the three to its answer

  pub whole_few : (m : ℕ) → Whole n next k m → m ≤ n
  whole_few m w = few m w.on (λ r. let e = w.zero_after in omega arith)

  whole_way : (m : ℕ) → Whole n next k m → way n next k ≡ done m
  whole_way m w = way_zero n next k m w.on (whole_few m w) w.zero_after

  pub leaves_way : Leaves n next k → way n next k ≡ refusal link_number
  leaves_way w =
      way_beyond n next k w.after w.on
      (few w.after w.on (λ r. let b = w.beyond in omega arith)) w.beyond

  pub again_way : Again n next k → way n next k ≡ refusal loop_number
  again_way r = way_again n next k (suc n) (λ i h. again_on r i) (omega arith)

  -- ---- and back

  -- what holds of the answer of each of the three holds of every answer
  pub ending : (P : Walked → Type 0) → ((m : ℕ) → Whole n next k m → P (done m))
      → (Leaves n next k → P (refusal link_number)) → (Again n next k → P (refusal loop_number))
      → (w : Walked) → w ≡ way n next k → P w
  unfolding way
  ending P whole leaves again w told = subst P (sym told) (go (met n next k) refl)
    where
      go : (o : Option ℕ) → met n next k ≡ o → P (answered next k o)
      go none e = again (repeats (met_none n next k e))
      go (some m) e = at (reached next k m) refl (dec_lt n (reached next k m))
        where
          on : OnRecords n next k m
          on = met_on n next k m e

          at : (p : ℕ) → reached next k m ≡ p → Dec (n < reached next k m) → P (stopped m p)
          at zero q d = whole m (record { on = on; zero_after = q; distinct = once m on (met_off n next k m e) })
          at (suc p) q (yes h) = leaves (record { after = m; on = on; beyond = h })
          at (suc p) q (no h) = absurd (met_off n next k m e (omega arith))

  -- ---- an answer w

  module _ (w : Walked) (e : w ≡ way n next k) where
    pub number_whole : w.number ≡ 0 → Whole n next k w.records
    number_whole =
        ending (λ w. w.number ≡ 0 → Whole n next k w.records)
        (λ m r z. r) (λ r z. absurd (omega arith)) (λ r z. absurd (omega arith)) w e

    pub number_leaves : w.number ≡ link_number → Leaves n next k
    number_leaves =
        ending (λ w. w.number ≡ link_number → Leaves n next k)
        (λ m r z. absurd (omega arith)) (λ r z. r) (λ r z. absurd (omega arith)) w e

    pub number_again : w.number ≡ loop_number → Again n next k
    number_again =
        ending (λ w. w.number ≡ loop_number → Again n next k)
        (λ m r z. absurd (omega arith)) (λ r z. absurd (omega arith)) (λ r z. r) w e

  pub means : Means n next k
  means =
      record {
        whole = λ m. (λ e. number_whole (done m) (sym e) refl, whole_way m);
        leaves = (number_leaves (way n next k) refl, λ r. ap (λ (w : Walked). w.number) (leaves_way r));
        again = (number_again (way n next k) refl, λ r. ap (λ (w : Walked). w.number) (again_way r));
      }
