-- Addresses of the slice. A place that lies inside a node's memory ends inside that node's part of the slice, so two
-- places of different nodes share no address, and two of one node that are apart share none. Hence in a sound store the
-- segments of every other cluster, and room for a new one, lie outside the segments of the cluster set apart.
-- Assumes nothing.
use mathlib.Core.Path.{◌≡◌, sym, ap, ◌∙◌}
use mathlib.Core.Logic.{◌≢◌, inl}
use mathlib.Core.Bool.{true, true≢false}
use mathlib.Core.Option.{some}
use Prim.Native.Nat.{ℕ, ◌+◌, ◌≤◌, ◌<◌}
use native.Mathlib.Omega.{arith}
use Rattle.sizes.specs.Sizes.{nodes, clusters, records, segments, memory}
use Rattle.store.specs.Places.{Place, None, Some, present_at}
use Rattle.store.specs.declared.Store.{Store}
use Rattle.store.specs.Records.{record_of, table_at, segment_of, place_at, place_on, base_of, length_of, address}
use Rattle.store.specs.Sound.{inside, apart}
use Rattle.store.specs.Placement.{new_base}
use Rattle.store.proofs.PlaceLaws.{inside_out, apart_off}
use Rattle.store.proofs.PlacementLaws.{new_base_fits}
use Rattle.store.proofs.SoundLaws.{Sound, segment_inside}
use Rattle.isolation.specs.Copies.{InPlace, set_apart, Outside}

pub in_place : (v : ℕ) (p : Place) (a : ℕ) → address v (base_of p) ≤ a → a < address v (base_of p) + length_of p
    → InPlace v p a
in_place v None a lo hi = absurd (omega arith)
in_place v (Some span) a lo hi = (lo, hi)

pub place_fits : (v : ℕ) (p : Place) → v < nodes → inside p ≡ true → address v (base_of p) + length_of p ≤ memory
place_fits v None h s = omega arith
place_fits v (Some span) h s = let i = inside_out span.base span.length s in omega arith

pub disjoint : (v w : ℕ) (p q : Place) → inside p ≡ true → inside q ≡ true → (v ≡ w → apart p q ≡ true) → (a : ℕ)
    → InPlace v p a → InPlace w q a → ⊥
disjoint v w None q s t h a u z = u
disjoint v w (Some span) None s t h a u z = z
disjoint v w (Some span) (Some span') s t h a u z =
    let i = inside_out span.base span.length s in
    let j = inside_out span'.base span'.length t in
    let u0 = u.0 in
    let u1 = u.1 in
    let z0 = z.0 in
    let z1 = z.1 in
    let e : v ≡ w = omega arith in
    true≢false (sym (h e) ∙ apart_off span.base span.length span'.base span'.length (omega arith) (omega arith))

module _ (s : Store) (size : ℕ) (r : Sound s size) where
  pub place_inside : (n i : ℕ) → n < records → i < segments → inside (place_at (table_at s) n i) ≡ true
  place_inside n i hn hi = segment_inside (segment_of (table_at s n) i) (r.ranged n i hn hi)

  module _ (node local : ℕ) (high : node < nodes) (low : local < clusters) where
    pub place_outside : (v l i : ℕ) → v < nodes → l < clusters → i < segments → record_of v l ≢ set_apart node local
        → (a : ℕ) → InPlace v (place_on (table_at s) v l i) a → Outside node local (table_at s) a
    place_outside v l i hv hl hi ne a u j hj z =
        disjoint v node (place_on (table_at s) v l i) (place_on (table_at s) node local j)
        (place_inside (record_of v l) i (omega arith) hi) (place_inside (set_apart node local) j (omega arith) hj)
        (λ e.
        ap (λ (k : ℕ). apart (place_on (table_at s) v l i) (place_on (table_at s) k local j)) (sym e)
        ∙ r.apartness v l i local j hv hl hi low hj (inl (λ q. ne (omega arith))))
        a u z

    pub room_outside : (v base length : ℕ) → new_base (table_at s) v length ≡ some base → (a : ℕ)
        → InPlace v (present_at base length) a → Outside node local (table_at s) a
    room_outside v base length q a u j hj z =
        let f = new_base_fits (table_at s) v length base q in
        disjoint v node (present_at base length) (place_on (table_at s) node local j) f.within
        (place_inside (set_apart node local) j (omega arith) hj)
        (λ e.
        ap (λ (k : ℕ). apart (present_at base length) (place_on (table_at s) k local j)) (sym e)
        ∙ f.free local j low hj)
        a u z
