-- A map of bits in words of 64, and what marking a span of it does.
--     word_bits, all            the bits of a word, and the word that has all of them
--     marks ws x               bit x of the map is set: bit x % 64 of word x / 64
--     within from to size      the span from `from` up to `to` has a bit, and lies inside a map of that many words
--     Stamped from to ws r vs  of a span within the map ws: r tells whether no bit of it was set; in the map vs that is left
--                              all of them are, and every other bit is as it was
--     Marked from to ws r vs   of any span: the same, or where it does not lie within, false was told and the map left alone
--     picks s b                a bit that is set or not, b, is sought
--     sought s ws x            bit x of the map is sought
--     Picked s w r             the bits of the word r are those of the word w that are sought
--     Without s ws from to     no bit from `from` on and before `to` is sought
--     First s ws from to r     r is the first of them that is
--     Room size ws r           r is the least start of that many clear bits in a row, or the end of the map where there is none
--     or_end ws o              the start that was found, or the end of the map
-- Assumes nothing.
use Rattle.std.specs.Prelude.{◌≡◌, ◌⊎◌, Bool, true, false, not, ◌&&◌, List, ℕ, ◌+◌, ◌*◌, ◌/◌, ◌%◌, ◌^◌, ◌≤◌, ◌<◌, leb, ltb, length, get_or, Option, Some, None}
use Rattle.bits.specs.Sets.{has, full}
use Rattle.spans.specs.declared.Sought.{Sought}
use Rattle.spans.specs.declared.Sought.TheVariants.{Set, Clear}

abbrev pub word_bits : ℕ
word_bits = 64

abbrev pub all : ℕ
all = full word_bits

unfoldable pub marks : List ℕ → ℕ → Bool
marks ws x = has (x % word_bits) (get_or ws (x / word_bits) 0)

unfoldable pub within : ℕ → ℕ → ℕ → Bool
within from to size = ltb from to && leb to (size * word_bits)

pub record Stamped (from to : ℕ) (before : List ℕ) (r : Bool) (after : List ℕ) : Type 0 where
  pub size : length after ≡ length before
  pub told : r ≡ true → (x : ℕ) → from ≤ x → x < to → marks before x ≡ false
  pub tells : ((x : ℕ) → from ≤ x → x < to → marks before x ≡ false) → r ≡ true
  pub set : (x : ℕ) → from ≤ x → x < to → marks after x ≡ true
  pub kept : (x : ℕ) → (x < from) ⊎ (to ≤ x) → marks after x ≡ marks before x

pub record Marked (from to : ℕ) (before : List ℕ) (r : Bool) (after : List ℕ) : Type 0 where
  pub inside : within from to (length before) ≡ true → Stamped from to before r after
  pub outside : within from to (length before) ≡ false → (r ≡ false) × (after ≡ before)

abbrev pub picks : Sought → Bool → Bool
picks Set b = b
picks Clear b = not b

abbrev pub sought : Sought → List ℕ → ℕ → Bool
sought s ws x = picks s (marks ws x)

pub record Picked (s : Sought) (w r : ℕ) : Type 0 where
  pub small : r < 2 ^ word_bits
  pub bits : (i : ℕ) → i < word_bits → has i r ≡ picks s (has i w)

pub record Without (s : Sought) (ws : List ℕ) (from to : ℕ) : Type 0 where
  pub passed : (x : ℕ) → from ≤ x → x < to → sought s ws x ≡ false

pub record First (s : Sought) (ws : List ℕ) (from to r : ℕ) : Type 0 where
  pub low : from ≤ r
  pub high : r < to
  pub here : sought s ws r ≡ true
  pub before : Without s ws from r

pub record Room (size : ℕ) (ws : List ℕ) (r : ℕ) : Type 0 where
  pub bound : r ≤ length ws * word_bits
  pub ends : r < length ws * word_bits → r + size ≤ length ws * word_bits
  pub clear : r < length ws * word_bits → (x : ℕ) → r ≤ x → x < r + size → marks ws x ≡ false
  pub least : (b : ℕ) → b < r → b + size ≤ length ws * word_bits → ((x : ℕ) → b ≤ x → x < b + size → marks ws x ≡ false) → ⊥

abbrev pub or_end : List ℕ → Option ℕ → ℕ
or_end ws None = length ws * word_bits
or_end ws (Some r) = r
