-- Laws of the base of a new segment: what `fits` says, as facts; that placement gives the least base that fits, or none; that
-- nothing fits on a node above 3, nor a size of 0 or above 4,096.
-- Assumes nothing.
use mathlib.Core.Path.{◌≡◌, sym, ap}
use mathlib.Core.Bool.{true, false, ◌&&◌}
use mathlib.Core.Option.{none, some}
use Prim.Native.Nat.{ℕ, ◌≤◌, ◌<◌}
use native.Mathlib.Omega.{arith}
use lib.Dec.{ltb}
use borrow.Author.Tests.{ltb-true, lt-ltb}
use Rattle.loops.proofs.BelowLaws.{and_left, and_right, and_both, test_off, every_pair_at, every_pair_in}
use Rattle.loops.proofs.SearchLaws.{least_none, least_is, least_holds, least_below, least_missing}
use Rattle.store.specs.Places.{present_at}
use Rattle.sizes.specs.Sizes.{nodes, clusters, segments, node_memory}
use Rattle.store.specs.Records.{Tables, place_on}
use Rattle.store.specs.Sound.{inside, apart}
use Rattle.store.specs.Placement.{clear, fits, new_base, room_at, no_room, placed_at, placement}
use Rattle.store.proofs.PlaceLaws.{Inside, inside_out}

module _ (ts : Tables) (node size : ℕ) where
  -- what `fits` says
  pub record Fits (base : ℕ) : Type 0 where
    pub known : node < nodes
    pub within : inside (present_at base size) ≡ true
    pub free : (l i : ℕ) → l < clusters → i < segments → apart (present_at base size) (place_on ts node l i) ≡ true

  pub fits_out : (base : ℕ) → fits ts node size base ≡ true → Fits base
  unfolding fits clear
  fits_out base e =
      let front = ltb node nodes && inside (present_at base size) in
      let f = and_left front (clear ts node (present_at base size)) e in
      record {
        known = ltb-true node nodes (and_left (ltb node nodes) (inside (present_at base size)) f);
        within = and_right (ltb node nodes) (inside (present_at base size)) f;
        free =
            every_pair_at clusters segments (λ l i. apart (present_at base size) (place_on ts node l i))
            (and_right front (clear ts node (present_at base size)) e);
      }

  fits_in : (base : ℕ) → Fits base → fits ts node size base ≡ true
  unfolding fits clear
  fits_in base f =
      and_both (ltb node nodes && inside (present_at base size)) (clear ts node (present_at base size))
      (and_both (ltb node nodes) (inside (present_at base size)) (lt-ltb node nodes f.known) f.within)
      (every_pair_in clusters segments (λ l i. apart (present_at base size) (place_on ts node l i)) f.free)

  -- what placement gives fits
  pub new_base_fits : (base : ℕ) → new_base ts node size ≡ some base → Fits base
  unfolding new_base
  new_base_fits base e = fits_out base (least_holds (fits ts node size) node_memory base e)

  -- and no smaller base does
  pub new_base_least : (base : ℕ) → new_base ts node size ≡ some base → (k : ℕ) → k < base → fits ts node size k ≡ false
  unfolding new_base
  new_base_least base e = least_below (fits ts node size) node_memory base e

  -- where it gives none, none fits
  pub new_base_none : new_base ts node size ≡ none → (k : ℕ) → k < node_memory → fits ts node size k ≡ false
  unfolding new_base
  new_base_none e = least_missing (fits ts node size) node_memory e

  off : (k : ℕ) → (Fits k → ⊥) → fits ts node size k ≡ false
  off k f = test_off (fits ts node size k) (λ e. f (fits_out k e))

  -- the least base that fits, and none
  pub base_is : (base : ℕ) → base < node_memory → Fits base → ((k : ℕ) → k < base → Fits k → ⊥)
      → room_at base ≡ placement ts node size
  unfolding placement new_base
  base_is base h f n =
      ap placed_at (sym (least_is (fits ts node size) node_memory base h (fits_in base f) (λ k l. off k (n k l))))

  pub base_none : ((k : ℕ) → k < node_memory → Fits k → ⊥) → no_room ≡ placement ts node size
  unfolding placement new_base
  base_none f = ap placed_at (sym (least_none (fits ts node size) node_memory (λ k h. off k (f k h))))

  pub base_no_node : nodes ≤ node → no_room ≡ placement ts node size
  base_no_node h = base_none (λ k l (r : Fits k). omega arith)

  pub bounds : (k : ℕ) → Fits k → Inside k size
  bounds k r = inside_out k size r.within

  pub base_no_size : size < 1 → no_room ≡ placement ts node size
  base_no_size h = base_none (λ k l r. let b = bounds k r in omega arith)

  pub base_too_long : node_memory < size → no_room ≡ placement ts node size
  base_too_long h = base_none (λ k l r. let b = bounds k r in omega arith)
