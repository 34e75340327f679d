-- Many handles of one width, in words: which handle each number belongs to, byte by byte.
--     Wide w n              handles of the width w have n bytes: 21, 23 or 27
--     BatchInWords ..       of the numbers ns before and after, handles of n bytes in hs, an image b and a memory m:
--       judged                place i, where hs has a whole handle i, gets the number which validation by itself gives to the
--                             handle whose byte k is byte i * n + k of hs, so in the handles' order, from the first on
--       behind                place i, where it has none, stays as it was
--       long                  there are as many places as before
--       told                  the count that is told is that of the places judged
--     NoneJudged            where w is none of the three, the numbers stay as they were, and 0 is told
-- Assumes nothing.
use Rattle.std.specs.Prelude.{◌≡◌, ◌⊎◌, ◌↔◌, ℕ, ◌+◌, ◌*◌, ◌≤◌, ◌<◌, List, length, get_or}
use Rattle.calls.specs.Calls.{validating}
use Rattle.gelmuszta.specs.Exported.{exported}
use Rattle.gelmuszta.specs.Validation.{each, as_many, numbers_of}

abbrev pub Wide : ℕ → ℕ → Type 0
Wide w n = ((w ≡ 4) × (n ≡ 21)) ⊎ ((w ≡ 8) × (n ≡ 23)) ⊎ ((w ≡ 16) × (n ≡ 27))

module _ (b m : List ℕ) (mode w : ℕ) (hs ns : List ℕ) where
  abbrev after : List ℕ
  after = numbers_of b m mode (each w) hs ns

  pub record BatchInWords (n : ℕ) : Type 0 where
    pub judged : (i : ℕ) → i < length ns → i * n + n ≤ length hs → (h : List ℕ) → length h ≡ n
        → ((k : ℕ) → k < n → get_or h k 0 ≡ get_or hs (i * n + k) 0)
        → get_or after i 0 ≡ (exported (validating mode h) b m).reply.number
    pub behind : (i : ℕ) → length hs < i * n + n → get_or after i 0 ≡ get_or ns i 0
    pub long : length after ≡ length ns
    pub told : (i : ℕ) → (i < as_many (each w) hs ns) ↔ ((i < length ns) × (i * n + n ≤ length hs))

  pub record NoneJudged : Type 0 where
    pub stays : after ≡ ns
    pub told : as_many (each w) hs ns ≡ 0
