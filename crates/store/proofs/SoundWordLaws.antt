-- Soundness is what document 01's sentence says, both ways. Each clause of the sentence is read off the fact of its test:
-- bounds by arithmetic; two places inside a memory are apart just where no byte is of both; a password's test looks at
-- each of its bytes.
-- Assumes nothing.
use mathlib.Core.Path.{◌≡◌, refl, sym, ap, ◌∙◌}
use mathlib.Core.Logic.{◌↔◌, ◌⊎◌, inl, inr}
use mathlib.Core.Bool.{Bool, true, false, not, ◌&&◌, ◌||◌, false≢true}
use mathlib.Core.List.{List}
use Prim.Native.Nat.{ℕ, ◌+◌, ◌*◌, ◌≤◌, ◌<◌}
use native.Mathlib.Omega.{arith}
use lib.Dec.{eqb, ltb}
use lib.ListN.{get_or}
use borrow.Author.Tests.{eqb-true, eq-eqb, not-true, ltb-false, le-ltb}
use Rattle.loops.specs.Below.{every}
use Rattle.loops.proofs.BelowLaws.{and_left, and_right, and_both, every_in, every_at}
use Rattle.store.specs.Places.{Place, None, Some, present_at}
use Rattle.store.specs.declared.Segment.{Segment}
use Rattle.store.specs.declared.Cluster.{Cluster}
use Rattle.store.specs.declared.Store.{Store}
use Rattle.sizes.specs.Sizes.{segments, password_bytes}
use Rattle.store.specs.Records.{table_of, cluster_at, table_at, segment_of, place_of, place_at, place_on}
use Rattle.store.specs.Sound.{in_ranges, ends_inside, inside, sound_mark, sound_segment, apart, is_absent, zero_bytes, idle, settled}
use Rattle.store.specs.Sound.{is_width, sound_width, allowed, below, sized, sound}
use Rattle.store.specs.SoundWords.{ByteOf, ZeroPassword, SoundInWords}
use Rattle.store.proofs.PlaceLaws.{Inside, inside_out, inside_in, holds_in, holds_out, Shared}
use Rattle.store.specs.inner.Passes.{holds}
use Rattle.store.proofs.PlaceLaws.{apart_shares_none, not_apart_shares}
use Rattle.store.proofs.SoundLaws.{Sound, segment_inside, segment_mark, sound_out, sound_in_lem}
use Rattle.store.proofs.SoundLaws.{settled_idle, settled_width, sized_settled, sized_at}

-- ---- places

byte_holds : (k : ℕ) (p : Place) → ByteOf k p → holds k p ≡ true
byte_holds k None h = absurd h
byte_holds k (Some span) h = holds_in k span.base span.length h.0 h.1

holds_byte : (k : ℕ) (p : Place) → holds k p ≡ true → ByteOf k p
holds_byte k None e = absurd (false≢true e)
holds_byte k (Some span) e = let h = holds_out k span.base span.length e in (h.from, h.below)

pub apart_words : (p q : Place) → apart p q ≡ true → (k : ℕ) → ByteOf k p → ByteOf k q → ⊥
apart_words p q e k a b =
    apart_shares_none p q e (record { at = k; one = byte_holds k p a; two = byte_holds k q b })

pub words_apart : (p q : Place) → inside p ≡ true → inside q ≡ true → ((k : ℕ) → ByteOf k p → ByteOf k q → ⊥)
    → apart p q ≡ true
words_apart p q s t h = go (apart p q) refl
  where
    go : (b : Bool) → apart p q ≡ b → b ≡ true
    go true e = refl
    go false e =
        let m : Shared p q = not_apart_shares p q s t e in
        absurd (h m.at (holds_byte m.at p m.one) (holds_byte m.at q m.two))

words_inside : (p : Place) → ((base length : ℕ) → p ≡ present_at base length → (1 ≤ length) × (base + length ≤ 4096))
    → inside p ≡ true
unfolding inside in_ranges ends_inside
words_inside None h = refl
words_inside (Some span) h =
    let r = h span.base span.length refl in inside_in span.base span.length (record { some = r.0; ends = r.1 })

absent_words : (p : Place) → is_absent p ≡ true → p ≡ None
absent_words None e = refl
absent_words (Some span) e = absurd (false≢true e)

mark_words : (g : Segment) → sound_mark g ≡ true → g.place ≡ None → g.frozen ≡ false
unfolding sound_mark
mark_words g e q = not-true g.frozen (ap (λ (p : Place). not (is_absent p && g.frozen)) (sym q) ∙ e)

words_mark : (g : Segment) → (g.place ≡ None → g.frozen ≡ false) → sound_mark g ≡ true
unfolding sound_mark
words_mark g h = go g.place refl
  where
    go : (p : Place) → g.place ≡ p → not (is_absent p && g.frozen) ≡ true
    go None q = ap not (h q)
    go (Some span) q = refl

-- ---- the width

abbrev OneOfThree : ℕ → Type 0
OneOfThree w = (w ≡ 4) ⊎ ((w ≡ 8) ⊎ (w ≡ 16))

either : (a b : Bool) → (a || b) ≡ true → (a ≡ true) ⊎ (b ≡ true)
either true b e = inl refl
either false b e = inr e

width_words : (w : ℕ) → is_width w ≡ true → OneOfThree w
width_words w e = go (either (eqb w 4) (eqb w 8 || eqb w 16) e)
  where
    upper : (eqb w 8 ≡ true) ⊎ (eqb w 16 ≡ true) → (w ≡ 8) ⊎ (w ≡ 16)
    upper (inl q) = inl (eqb-true w 8 q)
    upper (inr q) = inr (eqb-true w 16 q)

    go : (eqb w 4 ≡ true) ⊎ ((eqb w 8 || eqb w 16) ≡ true) → OneOfThree w
    go (inl q) = inl (eqb-true w 4 q)
    go (inr q) = inr (upper (either (eqb w 8) (eqb w 16) q))

words_width : (w : ℕ) → OneOfThree w → is_width w ≡ true
words_width w (inl e) = ap is_width e
words_width w (inr (inl e)) = ap is_width e
words_width w (inr (inr e)) = ap is_width e

module _ (p : Place) (i w : ℕ) where
  allowed_words : allowed p i w ≡ true → w ≤ i → p ≡ None
  allowed_words e h = absent_words p (ap (λ (t : Bool). t || is_absent p) (sym (le-ltb i w h)) ∙ e)

  words_allowed : (w ≤ i → p ≡ None) → allowed p i w ≡ true
  words_allowed h = go (ltb i w) refl
    where
      go : (b : Bool) → ltb i w ≡ b → (b || is_absent p) ≡ true
      go true q = refl
      go false q = ap is_absent (h (ltb-false i w q))

-- ---- the parts of a cluster that is settled

zero_words : (p : List ℕ) → zero_bytes p ≡ true → ZeroPassword p
unfolding zero_bytes
zero_words p e k h = eqb-true (get_or p k 0) 0 (every_at password_bytes (λ i. eqb (get_or p i 0) 0) e k h)

words_zero : (p : List ℕ) → ZeroPassword p → zero_bytes p ≡ true
unfolding zero_bytes
words_zero p h = every_in password_bytes (λ i. eqb (get_or p i 0) 0) (λ k l. eq-eqb (get_or p k 0) 0 (h k l))

module _ (c : Cluster) where
  vacant : Bool
  vacant = every segments (λ i. is_absent (place_of (table_of c) i))

  module _ (e : settled c ≡ true) (q : c.active ≡ false) where
    passwords : (zero_bytes c.read && zero_bytes c.write) ≡ true
    unfolding idle vacant
    passwords = and_left (zero_bytes c.read && zero_bytes c.write) vacant (settled_idle c e q)

    read_words : ZeroPassword c.read
    read_words = zero_words c.read (and_left (zero_bytes c.read) (zero_bytes c.write) passwords)

    write_words : ZeroPassword c.write
    write_words = zero_words c.write (and_right (zero_bytes c.read) (zero_bytes c.write) passwords)

    segment_words : (i : ℕ) → i < 16 → place_of (table_of c) i ≡ None
    unfolding idle vacant
    segment_words i h =
        absent_words (place_of (table_of c) i)
        (every_at segments (λ i. is_absent (place_of (table_of c) i))
        (and_right (zero_bytes c.read && zero_bytes c.write) vacant (settled_idle c e q)) i h)

  above_words : settled c ≡ true → (i : ℕ) → i < 16 → c.width ≤ i → place_of (table_of c) i ≡ None
  above_words e i h = allowed_words (place_of (table_of c) i) i c.width (sized_at c (sized_settled c e) i h)

  words_sized : (c.active ≡ true → OneOfThree c.width) → (c.active ≡ false → c.width ≡ 0)
      → ((i : ℕ) → i < 16 → c.width ≤ i → place_of (table_of c) i ≡ None) → sized c ≡ true
  unfolding sized below
  words_sized t z a =
      and_both (sound_width c.active c.width) (below c) (go c.active refl)
      (every_in segments (λ i. allowed (place_of (table_of c) i) i c.width)
      (λ i h. words_allowed (place_of (table_of c) i) i c.width (a i h)))
    where
      go : (b : Bool) → c.active ≡ b → sound_width b c.width ≡ true
      go true q = words_width c.width (t q)
      go false q = eq-eqb c.width 0 (z q)

  words_settled : (c.active ≡ false → ZeroPassword c.read) → (c.active ≡ false → ZeroPassword c.write)
      → ((i : ℕ) → i < 16 → c.active ≡ false → place_of (table_of c) i ≡ None) → sized c ≡ true → settled c ≡ true
  unfolding settled idle vacant
  words_settled r w a z = and_both (c.active || idle c) (sized c) (go c.active refl) z
    where
      go : (b : Bool) → c.active ≡ b → (b || idle c) ≡ true
      go true q = refl
      go false q =
          and_both (zero_bytes c.read && zero_bytes c.write) vacant
          (and_both (zero_bytes c.read) (zero_bytes c.write) (words_zero c.read (r q)) (words_zero c.write (w q)))
          (every_in segments (λ i. is_absent (place_of (table_of c) i)) (λ i h. ap is_absent (a i h q)))

-- ---- the sentence

module _ (s : Store) (size : ℕ) where
  words_of : Sound s size → SoundInWords s size
  words_of r =
      record {
        slice = r.whole;
        bases = λ n i base length hn hi e. let b = bounds n i base length hn hi e in omega arith;
        lengths = λ n i base length hn hi e. let b = bounds n i base length hn hi e in (b.some, omega arith);
        ends = λ n i base length hn hi e. (bounds n i base length hn hi e).ends;
        apart = λ v l i m j hv hl hi hm hj d.
            apart_words (place_on (table_at s) v l i) (place_on (table_at s) v m j) (r.apartness v l i m j hv hl hi hm hj d);
        no_read = λ n h q. read_words (cluster_at s n) (r.settling n h) q;
        no_write = λ n h q. write_words (cluster_at s n) (r.settling n h) q;
        no_segment = λ n i h hi q. segment_words (cluster_at s n) (r.settling n h) q i hi;
        no_mark = λ n i hn hi e.
            mark_words (segment_of (table_at s n) i) (segment_mark (segment_of (table_at s n) i) (r.ranged n i hn hi)) e;
        widths = λ n h q. width_words (cluster_at s n).width (settled_width (cluster_at s n) (r.settling n h) true q);
        no_width = λ n h q. eqb-true (cluster_at s n).width 0 (settled_width (cluster_at s n) (r.settling n h) false q);
        none_above = λ n i h hi q. above_words (cluster_at s n) (r.settling n h) i hi q;
      }
    where
      bounds : (n i base length : ℕ) → n < 32 → i < 16 → place_at (table_at s) n i ≡ present_at base length
          → Inside base length
      bounds n i base length hn hi e =
          inside_out base length (ap inside (sym e) ∙ segment_inside (segment_of (table_at s n) i) (r.ranged n i hn hi))

  pub inside_words : SoundInWords s size → (n i : ℕ) → n < 32 → i < 16 → inside (place_at (table_at s) n i) ≡ true
  inside_words w n i hn hi =
      words_inside (place_at (table_at s) n i)
      (λ base length e. ((w.lengths n i base length hn hi e).0, w.ends n i base length hn hi e))

  of_words : SoundInWords s size → Sound s size
  unfolding sound_segment
  of_words w =
      record {
        whole = w.slice;
        ranged = λ n i hn hi.
            and_both (inside (place_at (table_at s) n i)) (sound_mark (segment_of (table_at s n) i)) (inside_words w n i hn hi)
            (words_mark (segment_of (table_at s n) i) (w.no_mark n i hn hi));
        apartness = λ v l i m j hv hl hi hm hj d.
            words_apart (place_on (table_at s) v l i) (place_on (table_at s) v m j)
            (inside_words w (v * 8 + l) i (omega arith) hi) (inside_words w (v * 8 + m) j (omega arith) hj)
            (w.apart v l i m j hv hl hi hm hj d);
        settling = λ n h.
            words_settled (cluster_at s n) (w.no_read n h) (w.no_write n h) (λ i hi q. w.no_segment n i h hi q)
            (words_sized (cluster_at s n) (w.widths n h) (w.no_width n h) (λ i hi q. w.none_above n i h hi q));
      }

  pub sound_in_words : (sound s size ≡ true) ↔ SoundInWords s size
  sound_in_words = (λ e. words_of (sound_out s size e), λ w. sound_in_lem s size (of_words w))
