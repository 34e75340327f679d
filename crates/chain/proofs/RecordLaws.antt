-- The records of a way, as a list: m of them, the one at i being where the way is after i steps.
-- Assumes nothing.
use mathlib.Core.Path.{◌≡◌, refl, ap, ◌∙◌}
use Prim.Native.Nat.{ℕ, zero, suc, ◌<◌}
use native.Mathlib.Nat.{not-suc-le-zero, le_of_suc-le-suc}
use lib.ListN.{length, get_or}
use Rattle.chain.specs.Way.{reached, records}

pub reached_next : (next : ℕ → ℕ) (k i : ℕ) → reached next (next k) i ≡ reached next k (suc i)
unfolding reached
reached_next next k zero = refl
reached_next next k (suc i) = ap next (reached_next next k i)

pub length_records : (next : ℕ → ℕ) (k m : ℕ) → length (records next k m) ≡ m
unfolding records
length_records next k zero = refl
length_records next k (suc m) = ap suc (length_records next (next k) m)

pub get_d_records : (next : ℕ → ℕ) (k m d i : ℕ) → i < m → get_or (records next k m) i d ≡ reached next k i
unfolding records reached
get_d_records next k zero d i h = absurd (not-suc-le-zero h)
get_d_records next k (suc m) d zero h = refl
get_d_records next k (suc m) d (suc i) h =
    get_d_records next (next k) m d i (le_of_suc-le-suc h) ∙ reached_next next k i
