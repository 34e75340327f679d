-- Laws of places. What `inside` tests are two plain bounds, one law out of it and one into it. Two places are apart
-- exactly if no byte is of both: of two inside a node's memory that are not apart, the larger base is a byte of both.
-- Assumes nothing.
use mathlib.Core.Path.{◌≡◌, refl, sym, ap, ◌∙◌}
use mathlib.Core.Bool.{Bool, true, false, not, ◌&&◌, ◌||◌, true≢false, or_comm, or-true, not-not}
use Prim.Native.Nat.{ℕ, ◌+◌, ◌≤◌, ◌<◌}
use native.Mathlib.Omega.{arith}
use lib.Dec.{leb, ltb}
use borrow.Author.Tests.{leb-true, leb-false, ltb-true, le-leb, lt-leb, lt-ltb}
use Rattle.loops.proofs.BelowLaws.{and_left, and_right, and_both, test_off}
use Rattle.store.specs.Places.{Place, None, Some, present_at}
use Rattle.std.specs.Option.{is_some}
use Rattle.sizes.specs.Sizes.{node_memory}
use Rattle.store.specs.Sound.{in_ranges, ends_inside, inside, apart, is_absent}
use Rattle.store.specs.inner.Passes.{holds}

-- a present place lies inside its node's memory
pub record Inside (base length : ℕ) : Type 0 where
  pub some : 1 ≤ length
  pub ends : base + length ≤ node_memory

module _ (base length : ℕ) where
  pub inside_out : inside (present_at base length) ≡ true → Inside base length
  unfolding inside in_ranges ends_inside
  inside_out e =
      let ranges = ltb base node_memory && leb 1 length && leb length node_memory in
      let r = and_left ranges (leb (base + length) node_memory) e in
      let low = and_left (ltb base node_memory && leb 1 length) (leb length node_memory) r in
      record {
        some = leb-true 1 length (and_right (ltb base node_memory) (leb 1 length) low);
        ends = leb-true (base + length) node_memory (and_right ranges (leb (base + length) node_memory) e);
      }

  pub inside_in : Inside base length → inside (present_at base length) ≡ true
  unfolding inside in_ranges ends_inside
  inside_in r =
      simp (
        lt-ltb base node_memory (omega arith),
        le-leb 1 length (omega arith),
        le-leb length node_memory (omega arith),
        le-leb (base + length) node_memory (omega arith),
      )

  pub inside_off : (Inside base length → ⊥) → inside (present_at base length) ≡ false
  inside_off f = test_off (inside (present_at base length)) (λ e. f (inside_out e))

-- ---- apart

pub apart_sym : (p q : Place) → apart p q ≡ apart q p
unfolding apart
apart_sym None None = refl
apart_sym None (Some span) = refl
apart_sym (Some span) None = refl
apart_sym (Some span) (Some span') = or_comm (leb (span.base + span.length) span'.base) (leb (span'.base + span'.length) span.base)

module _ (b l b' l' : ℕ) where
  pub apart_low : b + l ≤ b' → apart (present_at b l) (present_at b' l') ≡ true
  unfolding apart
  apart_low h = rw (le-leb (b + l) b' h)

  pub apart_high : b' + l' ≤ b → apart (present_at b l) (present_at b' l') ≡ true
  unfolding apart
  apart_high h = simp (le-leb (b' + l') b h, or-true)

  pub apart_off : b' < b + l → b < b' + l' → apart (present_at b l) (present_at b' l') ≡ false
  unfolding apart
  apart_off h k = rw (lt-leb (b + l) b' h, lt-leb (b' + l') b k)

  -- two places that are not apart
  pub record Meet : Type 0 where
    pub low : b' < b + l
    pub high : b < b' + l'

  pub apart_meet : apart (present_at b l) (present_at b' l') ≡ false → Meet
  unfolding apart
  apart_meet e = go (leb (b + l) b') refl (leb (b' + l') b) refl e
    where
      go : (t : Bool) → leb (b + l) b' ≡ t → (u : Bool) → leb (b' + l') b ≡ u → (t || u) ≡ false → Meet
      go true p u q f = absurd (true≢false f)
      go false p true q f = absurd (true≢false f)
      go false p false q f = record { low = leb-false (b + l) b' p; high = leb-false (b' + l') b q }

-- ---- bytes

pub holds_in : (x base length : ℕ) → base ≤ x → x < base + length → holds x (present_at base length) ≡ true
holds_in x base length a b =
    and_both (leb base x) (ltb x (base + length)) (le-leb base x a) (lt-ltb x (base + length) b)

pub record Holds (x base length : ℕ) : Type 0 where
  pub from : base ≤ x
  pub below : x < base + length

pub holds_out : (x base length : ℕ) → holds x (present_at base length) ≡ true → Holds x base length
holds_out x base length e =
    record {
      from = leb-true base x (and_left (leb base x) (ltb x (base + length)) e);
      below = ltb-true x (base + length) (and_right (leb base x) (ltb x (base + length)) e);
    }

-- a byte of both places
pub record Shared (p q : Place) : Type 0 where
  pub at : ℕ
  pub one : holds at p ≡ true
  pub two : holds at q ≡ true

pub apart_shares_none : (p q : Place) → apart p q ≡ true → Shared p q → ⊥
apart_shares_none None q a h = true≢false (sym h.one)
apart_shares_none (Some span) None a h = true≢false (sym h.two)
apart_shares_none (Some span) (Some span') a h =
    let u = holds_out h.at span.base span.length h.one in
    let v = holds_out h.at span'.base span'.length h.two in
    true≢false (sym a ∙ apart_off span.base span.length span'.base span'.length (omega arith) (omega arith))

pub not_apart_shares : (p q : Place) → inside p ≡ true → inside q ≡ true → apart p q ≡ false → Shared p q
unfolding apart
not_apart_shares None q s t e = absurd (true≢false e)
not_apart_shares (Some span) None s t e = absurd (true≢false e)
not_apart_shares (Some span) (Some span') s t e =
    go (leb span.base span'.base) refl (inside_out span.base span.length s) (inside_out span'.base span'.length t) (apart_meet span.base span.length span'.base span'.length e)
  where
    go : (o : Bool) → leb span.base span'.base ≡ o → Inside span.base span.length → Inside span'.base span'.length → Meet span.base span.length span'.base span'.length → Shared (present_at span.base span.length) (present_at span'.base span'.length)
    go true o u v m =
        let h = leb-true span.base span'.base o in
        record {
          at = span'.base;
          one = holds_in span'.base span.base span.length (omega arith) (omega arith);
          two = holds_in span'.base span'.base span'.length (omega arith) (omega arith);
        }
    go false o u v m =
        let h = leb-false span.base span'.base o in
        record {
          at = span.base;
          one = holds_in span.base span.base span.length (omega arith) (omega arith);
          two = holds_in span.base span'.base span'.length (omega arith) (omega arith);
        }

-- ---- the code's test of a place

pub absent_told : (p : Place) (t : Bool) → is_some p ≡ not t → t ≡ is_absent p
absent_told p true e = ap not (sym e)
absent_told p false e = ap not (sym e)

pub present_told : (p : Place) (t : Bool) → t ≡ is_some p → t ≡ not (is_absent p)
present_told p t e = e ∙ sym (not-not (is_some p))
