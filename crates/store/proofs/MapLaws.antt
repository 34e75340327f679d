-- Laws of the map. A place's turn marks its own bytes and no other, so before a turn a byte is unmarked exactly if no
-- earlier place holds it. Since places that are not apart share a byte, a place that is free in the map is apart from
-- every earlier one, and the other way round.
-- Assumes nothing.
use mathlib.Core.Path.{◌≡◌, refl, sym, ap, ◌∙◌, subst}
use mathlib.Core.Bool.{Bool, true, false, not, ◌&&◌, ◌||◌, true≢false, and_assoc, and-true}
use Prim.Native.Nat.{ℕ, zero, suc, ◌+◌, ◌-◌, ◌<◌}
use native.Mathlib.Omega.{arith}
use borrow.Author.Tests.{not-true}
use Rattle.loops.specs.Below.{every}
use Rattle.loops.specs.Turns.{turns}
use Rattle.loops.proofs.BelowLaws.{and_left, and_right, and_both, and_off, test_off}
use Rattle.loops.proofs.BelowLaws.{every_in, every_at, every_pair_in, every_pair_at}
use Rattle.store.specs.Places.{Place, None, Some}
use Rattle.sizes.specs.Sizes.{segments}
use Rattle.store.specs.Records.{Tables, place_on}
use Rattle.store.specs.Sound.{inside, apart}
use Rattle.store.specs.inner.Passes.{Map, holds, free, stamped, stamped_by, blank, node_map}
use Rattle.store.proofs.PlaceLaws.{holds_in, holds_out, Shared, apart_shares_none, not_apart_shares}

-- byte x of the map is unmarked
abbrev pub unmarked : ℕ → Map → Bool
unmarked x map = not (map x)

-- the turn of the place leaves byte x as it was
abbrev pub leaves : ℕ → Place → Bool
leaves x p = not (inside p && holds x p)

-- ---- the turn of one place, and of any number

-- f marks the bytes of which t is false, and no other
abbrev Stamps : (ℕ → Bool) → (Map → Map) → Type 0
Stamps t f = (map : Map) (x : ℕ) → unmarked x (f map) ≡ t x && unmarked x map

stamps_place : (p : Place) → Stamps (λ x. leaves x p) (stamped p)
unfolding stamped
stamps_place p map x = neither (inside p && holds x p) (map x)
  where
    neither : (a b : Bool) → not (a || b) ≡ not a && not b
    neither true b = refl
    neither false b = refl

stamps_turns : (n : ℕ) (t : ℕ → ℕ → Bool) (f : ℕ → Map → Map) → ((i : ℕ) → Stamps (t i) (f i))
    → Stamps (λ x. every n (λ i. t i x)) (turns n f)
unfolding every turns
stamps_turns zero t f s map x = refl
stamps_turns (suc n) t f s map x =
    s n (turns n f map) x
    ∙ ap (λ (b : Bool). t n x && b) (stamps_turns n t f s map x)
    ∙ sym (and_assoc (t n x) (every n (λ i. t i x)) (unmarked x map))

-- ---- a node

-- segment j of cluster m had its turn before segment i of cluster l
pub data Before (l i m j : ℕ) : Type 0 where
  beside : m ≡ l → j < i → Before l i m j
  above : m < l → j < segments → Before l i m j

module _ (ts : Tables) (node : ℕ) where
  abbrev place : ℕ → ℕ → Place
  place l i = place_on ts node l i

  stamps_cluster : (l n : ℕ) → Stamps (λ x. every n (λ i. leaves x (place l i))) (stamped_by n (place_on ts node l))
  unfolding stamped_by
  stamps_cluster l n =
      stamps_turns n (λ i x. leaves x (place l i)) (λ i. stamped (place l i)) (λ i. stamps_place (place l i))

  -- the map before the turn of segment i of cluster l
  unfoldable pub map_at : ℕ → ℕ → Map
  map_at l i = stamped_by i (place_on ts node l) (node_map ts node l)

  earlier : ℕ → ℕ → Bool
  earlier l x = every l (λ m. every segments (λ j. leaves x (place m j)))

  stamps_node : (l : ℕ) → Stamps (earlier l) (turns l (λ m. stamped_by segments (place_on ts node m)))
  unfolding earlier
  stamps_node l =
      stamps_turns l
      (λ m x. every segments (λ j. leaves x (place m j)))
      (λ m. stamped_by segments (place_on ts node m))
      (λ m. stamps_cluster m segments)

  byte_at : (l i x : ℕ) → unmarked x (map_at l i) ≡ every i (λ j. leaves x (place l j)) && earlier l x
  unfolding map_at node_map
  byte_at l i x =
      stamps_cluster l i (node_map ts node l) x
      ∙ ap (λ (b : Bool). every i (λ j. leaves x (place l j)) && b) (stamps_node l blank x ∙ and-true (earlier l x))

  pub unmarked_out : (l i m j x : ℕ) → unmarked x (map_at l i) ≡ true → Before l i m j
      → leaves x (place_on ts node m j) ≡ true
  unfolding earlier
  unmarked_out l i m j x e b = go b
    where
      both : (every i (λ j. leaves x (place l j)) && earlier l x) ≡ true
      both = sym (byte_at l i x) ∙ e

      go : Before l i m j → leaves x (place m j) ≡ true
      go (beside q k) =
          ap (λ (n : ℕ). leaves x (place n j)) q
          ∙ every_at i (λ j. leaves x (place l j))
          (and_left (every i (λ j. leaves x (place l j))) (earlier l x) both) j k
      go (above k t) =
          every_pair_at l segments (λ m j. leaves x (place m j))
          (and_right (every i (λ j. leaves x (place l j))) (earlier l x) both) m j k t

  pub unmarked_in : (l i x : ℕ)
      → ((m j : ℕ) → Before l i m j → leaves x (place_on ts node m j) ≡ true) → unmarked x (map_at l i) ≡ true
  unfolding earlier
  unmarked_in l i x f =
      byte_at l i x
      ∙ and_both (every i (λ j. leaves x (place l j))) (earlier l x)
      (every_in i (λ j. leaves x (place l j)) (λ j k. f l j (beside refl k)))
      (every_pair_in l segments (λ m j. leaves x (place m j)) (λ m j k t. f m j (above k t)))

-- ---- free, and apart

pub free_out : (p : Place) (map : Map) (x : ℕ) → free p map ≡ true → holds x p ≡ true → unmarked x map ≡ true
unfolding free
free_out None map x f h = absurd (true≢false (sym h))
free_out (Some span) map x f h =
    let o = holds_out x span.base span.length h in
    let back : span.base + (x - span.base) ≡ x = omega arith in
    subst (λ (y : ℕ). unmarked y map ≡ true) back
    (every_at span.length (λ i. unmarked (span.base + i) map) f (x - span.base) (omega arith))

pub free_in : (p : Place) (map : Map) → ((x : ℕ) → holds x p ≡ true → unmarked x map ≡ true) → free p map ≡ true
unfolding free
free_in None map f = refl
free_in (Some span) map f =
    every_in span.length (λ i. unmarked (span.base + i) map)
    (λ i h. f (span.base + i) (holds_in (span.base + i) span.base span.length (omega arith) (omega arith)))

-- a place that is free in a map whose unmarked bytes q's turn has left
pub free_apart : (p q : Place) (map : Map) → inside p ≡ true → inside q ≡ true → free p map ≡ true
    → ((x : ℕ) → unmarked x map ≡ true → leaves x q ≡ true) → apart p q ≡ true
free_apart p q map s t f g = go (apart p q) refl
  where
    none : Shared p q → ⊥
    none h =
        let x = h.at in
        let left : leaves x q ≡ true = g x (free_out p map x f h.one) in
        true≢false (sym (and_both (inside q) (holds x q) t h.two) ∙ not-true (inside q && holds x q) left)

    go : (t : Bool) → apart p q ≡ t → t ≡ true
    go true e = refl
    go false e = absurd (none (not_apart_shares p q s t e))

pub apart_leaves : (p q : Place) (x : ℕ) → apart p q ≡ true → holds x p ≡ true → leaves x q ≡ true
apart_leaves p q x a h =
    ap not (and_off (inside q) (holds x q)
    (test_off (holds x q) (λ k. apart_shares_none p q a (record { at = x; one = h; two = k }))))
