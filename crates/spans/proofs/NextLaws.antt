-- Looking for a bit. The zeros below a word's lowest bit are counted by halving, and so is where that bit stands; a search
-- keeps that no bit sought lies before the word it is at, and which bits of that word are left (`Seeking`). A run of clear
-- bits begins at a clear bit and ends before the next that is set: no start before that one's end has room (`Tried`).
-- Assumes nothing.
use mathlib.Core.Path.{◌≡◌, refl, sym, ap, ◌∙◌, subst}
use mathlib.Core.Bool.{Bool, true, false, not, ◌&&◌, and-true, true≢false, false≢true}
use mathlib.Core.List.{List}
use Prim.Native.Nat.{ℕ, zero, suc, ◌+◌, ◌-◌, ◌*◌, ◌/◌, ◌%◌, ◌^◌, ◌≤◌, ◌<◌}
use native.Mathlib.Omega.{arith}
use lib.Dec.{eqb, ltb}
use lib.Bits.{bit_and, and_le_l}
use lib.Count.{count_trailing_zeros, under, trailing_le}
use lib.ListN.{length, get_or}
use borrow.Author.Tests.{ltb-true, ltb-false, eqb-true, eqb-false}
use Rattle.bits.specs.Sets.{has, full}
use Rattle.bits.proofs.SetLaws.{has_zero, has_suc, same_bits}
use Rattle.bits.proofs.OperationLaws.{has_and, has_not, has_none, has_full, full_lt}
use Rattle.loops.proofs.BelowLaws.{and_off}
use Rattle.std.specs.Bool.{then_some}
use Rattle.std.specs.Prelude.{Option, IfSome, IfNone, nat_lt}
use Rattle.spans.specs.declared.Sought.{Sought}
use Rattle.spans.specs.declared.Sought.TheVariants.{Set, Clear}
use Rattle.spans.specs.Spans.{word_bits, all, marks, picks, sought, Picked, Without, First, Room}
use Rattle.spans.proofs.WordLaws.{above_on, above_off}

-- ---- the lowest bit of a word

-- the bits below the lowest are clear
pub below_lowest : (k n i : ℕ) → i < count_trailing_zeros k n → has i n ≡ false
unfolding count_trailing_zeros
below_lowest zero n i h = absurd (omega arith)
below_lowest (suc k) n i h = go (below_lowest k (n / 2)) (n % 2) refl i h
  where
    go : ((j : ℕ) → j < count_trailing_zeros k (n / 2) → has j (n / 2) ≡ false) → (d : ℕ) → n % 2 ≡ d → (i : ℕ)
        → i < under d (count_trailing_zeros k (n / 2)) → has i n ≡ false
    go ih zero e zero h = has_zero n ∙ ap (λ (x : ℕ). eqb x 1) e
    go ih zero e (suc i) h = has_suc i n ∙ ih i (omega arith)
    go ih (suc d) e i h = absurd (omega arith)

-- and the lowest is set
pub lowest_on : (k n : ℕ) → count_trailing_zeros k n < k → has (count_trailing_zeros k n) n ≡ true
unfolding count_trailing_zeros
lowest_on zero n h = absurd (omega arith)
lowest_on (suc k) n h = go (lowest_on k (n / 2)) (n % 2) refl h
  where
    go : (count_trailing_zeros k (n / 2) < k → has (count_trailing_zeros k (n / 2)) (n / 2) ≡ true) → (d : ℕ) → n % 2 ≡ d
        → under d (count_trailing_zeros k (n / 2)) < suc k → has (under d (count_trailing_zeros k (n / 2))) n ≡ true
    go ih zero e h = has_suc (count_trailing_zeros k (n / 2)) n ∙ ih (omega arith)
    go ih (suc zero) e h = has_zero n ∙ ap (λ (x : ℕ). eqb x 1) e
    go ih (suc (suc d)) e h = absurd (omega arith)

-- a word that is not zero has one
pub lowest_in : (k n : ℕ) → n < 2 ^ k → (n ≡ 0 → ⊥) → count_trailing_zeros k n < k
lowest_in k n h nz = go (ltb (count_trailing_zeros k n) k) refl
  where
    go : (t : Bool) → ltb (count_trailing_zeros k n) k ≡ t → count_trailing_zeros k n < k
    go true e = ltb-true (count_trailing_zeros k n) k e
    go false e =
        let g = ltb-false (count_trailing_zeros k n) k e in
        absurd (nz (same_bits k n 0 h (omega (arith, h)) (λ i l. below_lowest k n i (omega arith) ∙ sym (has_none i))))

-- where it stands fits
pub lowest_fits : (n : ℕ) → count_trailing_zeros 64 n < 2 ^ 64
lowest_fits n = let t = trailing_le 64 n in omega (arith, t)

-- ---- the bits sought of a word

pub picked_set : (w : ℕ) → w < 2 ^ word_bits → Picked Set w w
picked_set w f = record { small = f; bits = λ i h. refl }

pub picked_clear : (w : ℕ) → w < 2 ^ word_bits → Picked Clear w (all - w)
picked_clear w f =
    record {
      small = let a = full_lt word_bits in omega (arith, a);
      bits = λ i h. has_not word_bits i w h f;
    }

-- ---- the search

-- no bit sought lies from `from` on before word `at`; the mask has those of the word that lie from `from` on
pub record Seeking (s : Sought) (ws : List ℕ) (from at mask : ℕ) : Type 0 where
  pub reached : from < at * word_bits + word_bits
  pub small : mask < 2 ^ word_bits
  pub past : Without s ws from (at * word_bits)
  pub on : (i : ℕ) → i < word_bits → from ≤ at * word_bits + i → has i mask ≡ true
  pub off : (i : ℕ) → i < word_bits → at * word_bits + i < from → has i mask ≡ false

module _ (s : Sought) (ws : List ℕ) (from : ℕ) where
  pub seeking_first : (mask : ℕ) → mask ≡ all - full (from % word_bits) → Seeking s ws from (from / word_bits) mask
  seeking_first mask e =
      record {
        reached = omega arith;
        small = let a = full_lt word_bits in omega (arith, a);
        past = record { passed = λ x a b. absurd (omega arith) };
        on = λ i b a. ap (has i) e ∙ above_on (from % word_bits) i (omega arith) b (omega arith);
        off = λ i b a. ap (has i) e ∙ above_off (from % word_bits) i (omega arith) (omega arith);
      }

  without_to : (to far : ℕ) → to ≤ far → Without s ws from far → Without s ws from to
  without_to to far h w = record { passed = λ x a b. w.passed x a (omega arith) }

  module _ (at mask r : ℕ) (k : Seeking s ws from at mask) (p : Picked s (get_or ws at 0) r) where
    bit_of : (i : ℕ) → i < word_bits → sought s ws (at * word_bits + i) ≡ has i r
    unfolding marks
    bit_of i h =
        (λ j. picks s (has (bit j) (get_or ws (word j) 0))) ∙ sym (p.bits i h)
      where
        bit : (at * word_bits + i) % word_bits ≡ i
        bit = omega arith

        word : (at * word_bits + i) / word_bits ≡ at
        word = omega arith

    -- of the bits from `from` on the mask takes none away
    kept : (i : ℕ) → i < word_bits → from ≤ at * word_bits + i → has i (bit_and r mask) ≡ sought s ws (at * word_bits + i)
    kept i h a =
        has_and i r mask ∙ ap (λ (t : Bool). has i r && t) (k.on i h a) ∙ and-true (has i r) ∙ sym (bit_of i h)

    -- no bit is sought up to bit n of the word, where those below it are clear
    without : (n : ℕ) → n ≤ word_bits → ((i : ℕ) → i < n → has i (bit_and r mask) ≡ false) → Without s ws from (at * word_bits + n)
    without n l f = record { passed = λ x a b. go x a b (ltb x (at * word_bits)) refl }
      where
        go : (x : ℕ) → from ≤ x → x < at * word_bits + n → (t : Bool) → ltb x (at * word_bits) ≡ t → sought s ws x ≡ false
        go x a b true e = k.past.passed x a (ltb-true x (at * word_bits) e)
        go x a b false e =
            let g = ltb-false x (at * word_bits) e in
            let q : at * word_bits + (x - at * word_bits) ≡ x = omega arith in
            subst (λ (y : ℕ). sought s ws y ≡ false) q
            (sym (kept (x - at * word_bits) (omega arith) (omega arith)) ∙ f (x - at * word_bits) (omega arith))

    -- a word with none of them
    pub seeking_more : bit_and r mask ≡ 0 → Seeking s ws from (at + 1) all
    seeking_more z =
        let p = k.reached in
        let q : at * word_bits + word_bits ≡ (at + 1) * word_bits = omega arith in
        record {
          reached = omega arith;
          small = full_lt word_bits;
          past = subst (λ (n : ℕ). Without s ws from n) q (without word_bits (omega arith) (λ i h. ap (has i) z ∙ has_none i));
          on = λ i b a. has_full word_bits i b;
          off = λ i b a. absurd (omega arith);
        }

    module _ (nz : bit_and r mask ≡ 0 → ⊥) (t : ℕ) (e : t ≡ count_trailing_zeros 64 (bit_and r mask)) where
      in_word : t < word_bits
      in_word =
          let l = and_le_l r mask in
          let m = p.small in
          subst (λ (n : ℕ). n < word_bits) (sym e) (lowest_in word_bits (bit_and r mask) (omega (arith, l, m)) nz)

      t_on : has t (bit_and r mask) ≡ true
      t_on =
          ap (λ (n : ℕ). has n (bit_and r mask)) e
          ∙ lowest_on word_bits (bit_and r mask) (subst (λ (n : ℕ). n < word_bits) e in_word)

      at_least : from ≤ at * word_bits + t
      at_least = go (ltb (at * word_bits + t) from) refl
        where
          go : (b : Bool) → ltb (at * word_bits + t) from ≡ b → from ≤ at * word_bits + t
          go true q =
              absurd (false≢true (sym (has_and t r mask
              ∙ and_off (has t r) (has t mask) (k.off t in_word (ltb-true (at * word_bits + t) from q))) ∙ t_on))
          go false q = ltb-false (at * word_bits + t) from q

      none_before : Without s ws from (at * word_bits + t)
      none_before =
          without t (omega (arith, in_word))
          (λ i h. below_lowest word_bits (bit_and r mask) i (subst (λ (n : ℕ). i < n) e h))

      pub seeking_found : (to : ℕ) → at * word_bits + t < to → First s ws from to (at * word_bits + t)
      seeking_found to h =
          record {
            low = at_least;
            high = h;
            here = sym (kept t in_word at_least) ∙ t_on;
            before = none_before;
          }

      pub seeking_past : (to : ℕ) → to ≤ at * word_bits + t → Without s ws from to
      seeking_past to h = without_to to (at * word_bits + t) h none_before

      module _ (to : ℕ) (o : Option ℕ) (told : o ≡ then_some (nat_lt (at * word_bits + t) to) (at * word_bits + t)) where
        pub told_found : IfSome o (First s ws from to)
        told_found = subst (λ (x : Option ℕ). IfSome x (First s ws from to)) (sym told) (go (nat_lt (at * word_bits + t) to) refl)
          where
            go : (b : Bool) → nat_lt (at * word_bits + t) to ≡ b → IfSome (then_some b (at * word_bits + t)) (First s ws from to)
            go true q = seeking_found to (ltb-true (at * word_bits + t) to q)
            go false q = tt

        pub told_none : IfNone o (Without s ws from to)
        told_none = subst (λ (x : Option ℕ). IfNone x (Without s ws from to)) (sym told) (go (nat_lt (at * word_bits + t) to) refl)
          where
            go : (b : Bool) → nat_lt (at * word_bits + t) to ≡ b → IfNone (then_some b (at * word_bits + t)) (Without s ws from to)
            go true q = tt
            go false q = seeking_past to (ltb-false (at * word_bits + t) to q)

  pub seeking_end : (at mask to : ℕ) → Seeking s ws from at mask → to ≤ at * word_bits → Without s ws from to
  seeking_end at mask to k h = without_to to (at * word_bits) h k.past

-- ---- room for so many clear bits

module _ (size : ℕ) (ws : List ℕ) where
  -- no start below this one has room
  pub record Tried (base : ℕ) : Type 0 where
    pub below : (b : ℕ) → b < base → b + size ≤ length ws * word_bits
        → ((x : ℕ) → b ≤ x → x < b + size → marks ws x ≡ false) → ⊥

  pub tried_none : Tried 0
  tried_none = record { below = λ b h. absurd (omega arith) }

  module _ (base : ℕ) (w : Tried base) (some : (1 ≤ size) × (size ≤ length ws * word_bits)) where
    -- no start from `base` on is clear
    to_clear : (start : ℕ) → Without Clear ws base start → Tried start
    to_clear start n = record { below = λ b h e f. go b h e f (ltb b base) refl }
      where
        go : (b : ℕ) → b < start → b + size ≤ length ws * word_bits
            → ((x : ℕ) → b ≤ x → x < b + size → marks ws x ≡ false) → (t : Bool) → ltb b base ≡ t → ⊥
        go b h e f true q = w.below b (ltb-true b base q) e f
        go b h e f false q =
            true≢false (ap not (sym (f b (omega arith) (omega arith))) ∙ n.passed b (ltb-false b base q) h)

    pub room_none : Without Clear ws base (length ws * word_bits - size + 1) → Room size ws (length ws * word_bits)
    room_none n =
        let v = to_clear (length ws * word_bits - size + 1) n in
        record {
          bound = omega arith;
          ends = λ b. absurd (omega arith);
          clear = λ b. absurd (omega arith);
          least = λ b l e. v.below b (omega arith) e;
        }

    module _ (start : ℕ) (n : First Clear ws base (length ws * word_bits - size + 1) start) where
      pub room_inside : start < length ws * word_bits
      room_inside = let h = n.high in omega arith

      pub room_fits : start + size ≤ length ws * word_bits
      room_fits = let h = n.high in omega arith

      pub room_found : Without Set ws start (start + size) → Room size ws start
      room_found m =
          let h = n.high in
          record {
            bound = omega arith;
            ends = λ b. omega arith;
            clear = λ b x a l. m.passed x a l;
            least = (to_clear start n.before).below;
          }

      module _ (end : ℕ) (m : First Set ws start (start + size) end) where
        -- a set bit in the way of every start up to it
        pub tried_more : Tried end
        tried_more = record { below = λ b l e f. go b l e f (ltb b start) refl }
          where
            low : start ≤ end
            low = m.low

            high : end < start + size
            high = m.high

            go : (b : ℕ) → b < end → b + size ≤ length ws * word_bits
                → ((x : ℕ) → b ≤ x → x < b + size → marks ws x ≡ false) → (t : Bool) → ltb b start ≡ t → ⊥
            go b l e f true q = (to_clear start n.before).below b (ltb-true b start q) e f
            go b l e f false q =
                let u = ltb-false b start q in
                true≢false (sym m.here ∙ f end (omega arith) (omega (arith, low, high)))

        pub room_rises : length ws * word_bits - end < length ws * word_bits - base
        room_rises = less (eqb start end) refl
          where
            less : (t : Bool) → eqb start end ≡ t → length ws * word_bits - end < length ws * word_bits - base
            less true q =
                absurd (false≢true (sym (ap not (ap (marks ws) (eqb-true start end q) ∙ m.here)) ∙ n.here))
            less false q =
                let z = eqb-false start end q in
                let low = m.low in
                let from = n.low in
                let l = room_inside in
                let high = m.high in
                let fits = room_fits in
                omega arith
