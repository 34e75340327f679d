-- The code's ways through a span. One that is empty or ends past the map is refused. Within one word two masks cover it;
-- else the span is that of the first word, then of whole words, one more at each turn (`Marking`), then of the last.
-- Assumes nothing.
use mathlib.Core.Path.{◌≡◌, refl, sym, ap, ◌∙◌, subst}
use mathlib.Core.Logic.{◌⊎◌, inl, inr}
use mathlib.Core.Bool.{Bool, true, false, ◌&&◌, true≢false}
use mathlib.Core.List.{List, ◌++◌}
use Prim.Native.Nat.{ℕ, suc, ◌+◌, ◌-◌, ◌*◌, ◌/◌, ◌%◌, ◌≤◌, ◌<◌}
use native.Mathlib.Omega.{arith}
use lib.Dec.{eqb, leb, ltb}
use lib.Bits.{bit_and, bit_or, and_le_r}
use lib.ListN.{length, length-drop, get_or, get_or-append, set, take, drop}
use lib.Seq.{length-take-le}
use borrow.Rule.Slice.PartMut.{post_of, put_mid, same_len_mid}
use borrow.Author.Tests.{lt-ltb, le-ltb, le-leb, lt-leb}
use Rattle.bits.specs.Sets.{has, full}
use Rattle.bits.proofs.SetLaws.{has_beyond}
use Rattle.bits.proofs.OperationLaws.{has_and, has_full, full_lt}
use Rattle.loops.proofs.BelowLaws.{and_both, and_off}
use Rattle.std.proofs.Math.Bool.{and_comm}
use Rattle.std.proofs.lemmas.List.{get_or-take, get_or-drop, get_or-append_right}
use Rattle.spans.specs.Spans.{word_bits, all, marks, within, Stamped, Marked}
use Rattle.spans.proofs.WordLaws.{full_below, above_on, above_off}
use Rattle.spans.proofs.SpanLaws.{Covers, stamped_next, stamped_touch}

-- ---- within the map, or not

module _ (from to : ℕ) (map : List ℕ) where
  refused : within from to (length map) ≡ false → Marked from to map false map
  refused off = record { inside = λ e. absurd (true≢false (sym e ∙ off)); outside = λ e. (refl, refl) }

  pub mark_empty : to ≤ from → Marked from to map false map
  unfolding within
  mark_empty h = refused (ap (λ (t : Bool). t && leb to (length map * word_bits)) (le-ltb from to h))

  pub mark_long : from < to → length map ≤ (to - 1) / word_bits → Marked from to map false map
  unfolding within
  mark_long h k = refused (and_off (ltb from to) _ (lt-leb to (length map * word_bits) (omega arith)))

  taken : from < to → (to - 1) / word_bits < length map → (r : Bool) (after : List ℕ) → Stamped from to map r after
      → Marked from to map r after
  unfolding within
  taken h k r after s =
      let on = and_both (ltb from to) (leb to (length map * word_bits)) (lt-ltb from to h) (le-leb to (length map * word_bits) (omega arith)) in
      record { inside = λ e. s; outside = λ e. absurd (true≢false (sym on ∙ e)) }

-- ---- the masks

covers_low : (from : ℕ) → Covers (from / word_bits) from ((from / word_bits + 1) * word_bits) (all - full (from % word_bits))
covers_low from =
    record {
      low = omega arith;
      high = omega arith;
      small = let a = full_lt word_bits in omega (arith, a);
      on = λ i h g k. above_on (from % word_bits) i (omega arith) h (omega arith);
      off = off;
    }
  where
    off : (i : ℕ) → i < word_bits
        → (from / word_bits * word_bits + i < from) ⊎ ((from / word_bits + 1) * word_bits ≤ from / word_bits * word_bits + i)
        → has i (all - full (from % word_bits)) ≡ false
    off i h (inl g) = above_off (from % word_bits) i (omega arith) (omega arith)
    off i h (inr g) = absurd (omega arith)

covers_all : (w : ℕ) → Covers w (w * word_bits) ((w + 1) * word_bits) all
covers_all w =
    record {
      low = omega arith;
      high = omega arith;
      small = full_lt word_bits;
      on = λ i h g k. has_full word_bits i h;
      off = off;
    }
  where
    off : (i : ℕ) → i < word_bits → (w * word_bits + i < w * word_bits) ⊎ ((w + 1) * word_bits ≤ w * word_bits + i)
        → has i all ≡ false
    off i h (inl g) = absurd (omega arith)
    off i h (inr g) = absurd (omega arith)

covers_high : (end to : ℕ) → suc end ≡ to
    → Covers (end / word_bits) (end / word_bits * word_bits) to (full (suc (end % word_bits)))
covers_high end to e =
    record {
      low = omega arith;
      high = omega arith;
      small = full_below (suc (end % word_bits)) word_bits (omega arith);
      on = λ i h g k. has_full (suc (end % word_bits)) i (omega arith);
      off = off;
    }
  where
    off : (i : ℕ) → i < word_bits
        → (end / word_bits * word_bits + i < end / word_bits * word_bits) ⊎ (to ≤ end / word_bits * word_bits + i)
        → has i (full (suc (end % word_bits))) ≡ false
    off i h (inl g) = absurd (omega arith)
    off i h (inr g) = has_beyond i (full (suc (end % word_bits))) (full_below (suc (end % word_bits)) i (omega arith))

-- two masks of one word cover what is of both spans
covers_both : (w a b c d m n : ℕ) → Covers w a b m → Covers w c d n → c ≤ a → d ≤ b → Covers w a d (bit_and m n)
covers_both w a b c d m n p q starts ends =
    record {
      low = p.low;
      high = q.high;
      small = let k = and_le_r m n in let l = q.small in omega (arith, k, l);
      on = λ i h g k.
          has_and i m n ∙ and_both (has i m) (has i n) (p.on i h g (omega arith)) (q.on i h (omega arith) k);
      off = off;
    }
  where
    off : (i : ℕ) → i < word_bits → (w * word_bits + i < a) ⊎ (d ≤ w * word_bits + i) → has i (bit_and m n) ≡ false
    off i h (inl g) = has_and i m n ∙ ap (λ (t : Bool). t && has i n) (p.off i h (inl g))
    off i h (inr g) = has_and i m n ∙ and_off (has i m) (has i n) (q.off i h (inr g))

-- ---- whole words

stamped_none : (a : ℕ) (map : List ℕ) → Stamped a a map true map
stamped_none a map =
    record {
      size = refl;
      told = λ e x h k. absurd (omega arith);
      tells = λ f. refl;
      set = λ x h k. absurd (omega arith);
      kept = λ x h. refl;
    }

-- the first i words are marked
pub record Filling (before : List ℕ) (i : ℕ) (fresh : Bool) (words : List ℕ) : Type 0 where
  pub high : i ≤ length before
  pub done : Stamped 0 (i * word_bits) before fresh words

pub filling_none : (words : List ℕ) → Filling words 0 true words
filling_none words = record { high = omega arith; done = stamped_none 0 words }

pub filling_more : (before : List ℕ) (i : ℕ) (fresh : Bool) (words : List ℕ) → Filling before i fresh words
    → (r : Bool) (now : ℕ) → i < length before
    → (r ≡ eqb (bit_and (get_or words i 0) all) 0) × (now ≡ bit_or (get_or words i 0) all)
    → Filling before (i + 1) (fresh && r) (set words i now)
filling_more before i fresh words w r now h e =
    let size = w.done.size in
    record {
      high = omega arith;
      done =
          subst (λ (b : Bool). Stamped 0 ((i + 1) * word_bits) before b (set words i now)) (and_comm r fresh)
          (stamped_next 0 (i * word_bits) ((i + 1) * word_bits) before words (set words i now) fresh r (omega arith) (omega arith)
          w.done (stamped_touch i (i * word_bits) ((i + 1) * word_bits) all words (covers_all i) (omega arith) r (set words i now)
          (e.0, ap (set words i) e.1)));
    }

-- words of a map stamped apart and put back
module _ (map words : List ℕ) (a e : ℕ) (order : a ≤ e) (fits : e ≤ length map) (fresh : Bool)
    (i : ℕ) (f : Filling (take (e - a) (drop a map)) i fresh words) (ended : length (take (e - a) (drop a map)) ≤ i) where
  abbrev part : List ℕ
  part = take (e - a) (drop a map)

  abbrev back : List ℕ
  back = put_mid a (e - a) map words

  part_long : length part ≡ e - a
  part_long = length-take-le (e - a) (drop a map) (rw length-drop (omega arith))

  whole : Stamped 0 ((e - a) * word_bits) part fresh words
  whole =
      let high = f.high in
      let q : i ≡ e - a = omega (arith, part_long) in
      subst (λ (k : ℕ). Stamped 0 (k * word_bits) part fresh words) q f.done

  long : length words ≡ e - a
  long = whole.size ∙ part_long

  front : length (take a map) ≡ a
  front = length-take-le a map (omega arith)

  in_part : (x : ℕ) → a * word_bits ≤ x → x < e * word_bits → marks part (x - a * word_bits) ≡ marks map x
  unfolding marks
  in_part x h k =
      let bit : (x - a * word_bits) % word_bits ≡ x % word_bits = omega arith in
      let word : a + (x - a * word_bits) / word_bits ≡ x / word_bits = omega arith in
      (λ j. has (bit j) (get_or part ((x - a * word_bits) / word_bits) 0))
      ∙ ap (has (x % word_bits))
      (get_or-take (e - a) (drop a map) ((x - a * word_bits) / word_bits) 0 (omega arith)
      ∙ get_or-drop a map ((x - a * word_bits) / word_bits) 0
      ∙ ap (λ (k : ℕ). get_or map k 0) word)

  in_words : (x : ℕ) → a * word_bits ≤ x → x < e * word_bits → marks back x ≡ marks words (x - a * word_bits)
  unfolding marks
  in_words x h k =
      let bit : x % word_bits ≡ (x - a * word_bits) % word_bits = omega arith in
      let word : x / word_bits - a ≡ (x - a * word_bits) / word_bits = omega arith in
      (λ j. has (bit j) (get_or back (x / word_bits) 0))
      ∙ ap (has ((x - a * word_bits) % word_bits))
      (get_or-append_right (take a map) (words ++ post_of a (e - a) map) a (x / word_bits) 0 front (omega arith)
      ∙ get_or-append words (post_of a (e - a) map) 0 (x / word_bits - a) (omega (arith, long))
      ∙ ap (λ (k : ℕ). get_or words k 0) word)

  outside : (x : ℕ) → (x < a * word_bits) ⊎ (e * word_bits ≤ x) → marks back x ≡ marks map x
  unfolding marks
  outside x (inl h) =
      ap (has (x % word_bits))
      (get_or-append (take a map) (words ++ post_of a (e - a) map) 0 (x / word_bits) (omega (arith, front))
      ∙ get_or-take a map (x / word_bits) 0 (omega arith))
  outside x (inr h) =
      let word : a + ((e - a) + (x / word_bits - a - (e - a))) ≡ x / word_bits = omega arith in
      ap (has (x % word_bits))
      (get_or-append_right (take a map) (words ++ post_of a (e - a) map) a (x / word_bits) 0 front (omega arith)
      ∙ get_or-append_right words (post_of a (e - a) map) (e - a) (x / word_bits - a) 0 long (omega arith)
      ∙ get_or-drop (e - a) (drop a map) (x / word_bits - a - (e - a)) 0
      ∙ get_or-drop a map ((e - a) + (x / word_bits - a - (e - a))) 0
      ∙ ap (λ (k : ℕ). get_or map k 0) word)

  pub filling_all : Stamped (a * word_bits) (e * word_bits) map fresh back
  filling_all =
      record {
        size = same_len_mid a (e - a) map words whole.size;
        told = λ t x h k. sym (in_part x h k) ∙ whole.told t (x - a * word_bits) (omega arith) (omega arith);
        tells = λ g. whole.tells (λ x h k. clear g x k);
        set = λ x h k. in_words x h k ∙ whole.set (x - a * word_bits) (omega arith) (omega arith);
        kept = outside;
      }
    where
      clear : ((x : ℕ) → a * word_bits ≤ x → x < e * word_bits → marks map x ≡ false) → (x : ℕ) → x < (e - a) * word_bits
          → marks part x ≡ false
      clear g x k =
          let q : x + a * word_bits - a * word_bits ≡ x = omega arith in
          ap (marks part) (sym q)
          ∙ in_part (x + a * word_bits) (omega arith) (omega arith) ∙ g (x + a * word_bits) (omega arith) (omega arith)

-- ---- one word, or more

module _ (from to : ℕ) (before : List ℕ) (some : from < to) (ends : (to - 1) / word_bits < length before)
    (low high : ℕ) (el : low ≡ all - full (from % word_bits)) (eh : high ≡ full (suc ((to - 1) % word_bits))) where
  abbrev first : ℕ
  first = from / word_bits

  abbrev last : ℕ
  last = (to - 1) / word_bits

  first_covers : Covers first from ((first + 1) * word_bits) low
  first_covers = subst (λ (n : ℕ). Covers first from ((first + 1) * word_bits) n) (sym el) (covers_low from)

  last_covers : Covers last (last * word_bits) to high
  last_covers =
      subst (λ (n : ℕ). Covers last (last * word_bits) to n) (sym eh) (covers_high (to - 1) to (omega (arith, some)))

  pub mark_one : (r : Bool) (after : List ℕ) → from / word_bits ≡ (to - 1) / word_bits
      → (r ≡ eqb (bit_and (get_or before (from / word_bits) 0) (bit_and low high)) 0)
      × (after ≡ set before (from / word_bits) (bit_or (get_or before (from / word_bits) 0) (bit_and low high)))
      → Marked from to before r after
  mark_one r after same e =
      taken from to before some ends r after
      (stamped_touch first from to (bit_and low high) before
      (covers_both first from ((first + 1) * word_bits) (first * word_bits) to low high first_covers
      (subst (λ (k : ℕ). Covers k (k * word_bits) to high) (sym same) last_covers)
      (omega arith) (omega (arith, same, some)))
      (omega (arith, same, ends)) r after e)

  pub mark_three : (a inner z : Bool) (one two three : List ℕ) → (from / word_bits ≡ (to - 1) / word_bits → ⊥)
      → (a ≡ eqb (bit_and (get_or before (from / word_bits) 0) low) 0)
      × (one ≡ set before (from / word_bits) (bit_or (get_or before (from / word_bits) 0) low))
      → Stamped ((from / word_bits + 1) * word_bits) ((to - 1) / word_bits * word_bits) one inner two
      → (z ≡ eqb (bit_and (get_or two ((to - 1) / word_bits) 0) high) 0)
      × (three ≡ set two ((to - 1) / word_bits) (bit_or (get_or two ((to - 1) / word_bits) 0) high))
      → Marked from to before (z && (inner && a)) three
  mark_three a inner z one two three differ ea middle ez =
      taken from to before some ends (z && (inner && a)) three
      (stamped_next from (last * word_bits) to before two three (inner && a) z (omega (arith, order)) (omega (arith, some)) front
      (stamped_touch last (last * word_bits) to high two last_covers (omega (arith, ends, long)) z three ez))
    where
      order : first + 1 ≤ last
      order = less first last (omega (arith, some)) differ
        where
          less : (x y : ℕ) → x ≤ y → (x ≡ y → ⊥) → x + 1 ≤ y
          less x y h n = omega (arith, h, n)

      front : Stamped from (last * word_bits) before (inner && a) two
      front =
          stamped_next from ((first + 1) * word_bits) (last * word_bits) before one two a inner (omega arith) (omega (arith, order))
          (stamped_touch first from ((first + 1) * word_bits) low before first_covers (omega (arith, some, ends)) a one ea) middle

      long : length two ≡ length before
      long = front.size
