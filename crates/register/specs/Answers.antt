-- Document 02, §9, in words: the answers to the two questions and the buffer afterwards, for every conversion f; b are the
-- bytes of the handle supplied, e those of the register, m the buffer before.
--     NoPlace b              the node is above 3 or the local number above 7
--     Clear b n r x          nothing applies to the call as a whole: 23 bytes name an ungapped handle of a place that there is, the
--                            n bytes of the register are whole entries and no more than 255, and r bytes have room for x an entry
--     WholeInWords           the numbers for the call as a whole in their order, 25, 2, 3, 4, 18, 15: each where it applies, once none
--                            before it does; 3 applies where t holds, the segment's test
--     NoneFails              no entry fails
--     HandlesDone, OpenersDone    the first question is done just where nothing applies to the call as a whole and no entry fails; the
--                            second too, for a segment up to 7
--     Answers w t            where nothing applies to the call as a whole, t tells the lowest entry that fails; else it tells the
--                            number w for the whole, and entry 0
--     ReadBack               the bytes of an entry's handle hold that handle again, where 23 bytes are supplied and passwords have
--                            sixteen
--     HandlesInWords         refused: the buffer stays as it was; long: it stays as long
--                            laid: byte j of entry k's handle stands at 23 * (k - 1) + j; behind: what stands behind all entries stays
--     HandlesBuffer          so it is for every conversion that gives passwords of sixteen bytes
--     Listed l n k           k stands among the first n numbers of l
--     OpenersInWords         refused: the buffer stays as it was and none is told; long: it stays as long
--                            rising, exactly: the first numbers, as many as are told, rise, and are those of the entries whose
--                            handle references the segment, all of them and no other; behind: the bytes behind these stay
-- Assumes nothing.
use Rattle.std.specs.Prelude.{ℕ, ◌+◌, ◌-◌, ◌*◌, ◌/◌, ◌%◌, ◌≤◌, ◌<◌, ◌≡◌, ◌≢◌, ◌⊎◌, ◌↔◌, Bool, true, false, List, ltb, length, get_or}
use Rattle.bits.specs.Bytes.{Bytes}
use Rattle.chain.specs.Means.{IsRecord}
use Rattle.handle.specs.declared.Handle.{Handle}
use Rattle.handle.specs.Selectors.{references, gapped}
use Rattle.handle.specs.Handles.{Name, node_of, decoded, encoded}
use Rattle.handle.specs.Conversion.{SixteenBytes}
use Rattle.register.specs.Registers.{Told}
use Rattle.register.specs.Registers.{entries, given, made, told, whole_number, handles_told, handles_left, openers_told, openers_left}
use Rattle.register.specs.Words.{LowestFails}

pub record Clear (b : List ℕ) (size room each : ℕ) : Type 0 where
  pub bytes : length b ≡ 23
  pub node : node_of (decoded b) ≤ 3
  pub local : (decoded b).local ≤ 7
  pub ungapped : gapped 8 (decoded b).selector ≡ false
  pub whole : size % 2 ≡ 0
  pub few : size / 2 ≤ 255
  pub long : size / 2 * each ≤ room

abbrev pub NoPlace : List ℕ → Type 0
NoPlace b = (3 < node_of (decoded b)) ⊎ (7 < (decoded b).local)

module _ (b : List ℕ) (t : Bool) (size room each : ℕ) where
  abbrev number : ℕ
  number = whole_number b t size room each

  pub record WholeInWords : Type 0 where
    pub bytes : (number ≡ 25) ↔ (length b ≢ 23)
    pub place : length b ≡ 23 → (number ≡ 2) ↔ NoPlace b
    pub segment : length b ≡ 23 → ¬ NoPlace b → (number ≡ 3) ↔ (t ≡ true)
    pub gap : length b ≡ 23 → ¬ NoPlace b → t ≡ false → (number ≡ 4) ↔ (gapped 8 (decoded b).selector ≡ true)
    pub entries : length b ≡ 23 → ¬ NoPlace b → t ≡ false → gapped 8 (decoded b).selector ≡ false
        → (number ≡ 18) ↔ ((size % 2 ≢ 0) ⊎ (255 < size / 2))
    pub buffer : length b ≡ 23 → ¬ NoPlace b → t ≡ false → gapped 8 (decoded b).selector ≡ false → size % 2 ≡ 0
        → size / 2 ≤ 255 → (number ≡ 15) ↔ (room < size / 2 * each)

pub record Listed (l : List ℕ) (n k : ℕ) : Type 0 where
  pub place : ℕ
  pub low : place < n
  pub is : get_or l place 0 ≡ k

module _ (f : Name → List ℕ → ℕ → List ℕ) where
  abbrev pub NoneFails : Handle → List ℕ → Type 0
  NoneFails h e = (k : ℕ) → IsRecord (entries e) k → (made f h e k).number ≡ 0

  pub record Answers (b e : List ℕ) (clear : Type 0) (w : ℕ) (t : Told) : Type 0 where
    pub whole : ¬ clear → t ≡ told w 0
    pub entry : clear → LowestFails f (decoded b) e t

  abbrev pub ReadBack : Type 0
  ReadBack =
      SixteenBytes f → (b e : List ℕ) (k : ℕ) (g : Handle) → Bytes 23 b → made f (decoded b) e k ≡ given g → decoded (encoded g) ≡ g

  module _ (b e : List ℕ) where
    abbrev pub HandlesDone : ℕ → Type 0
    HandlesDone room = ((handles_told f b e room).number ≡ 0) ↔ (Clear b (length e) room 23 × NoneFails (decoded b) e)

    abbrev pub HandlesAnswer : ℕ → Type 0
    HandlesAnswer room =
        Answers b e (Clear b (length e) room 23) (whole_number b false (length e) room 23) (handles_told f b e room)

    pub record HandlesInWords (m : List ℕ) : Type 0 where
      pub refused : (handles_told f b e (length m)).number ≢ 0 → handles_left f b e m ≡ m
      pub long : length (handles_left f b e m) ≡ length m
      pub laid : (handles_told f b e (length m)).number ≡ 0 → (k j : ℕ) → IsRecord (entries e) k → j < 23
          → get_or (handles_left f b e m) (23 * (k - 1) + j) 0 ≡ get_or (encoded (made f (decoded b) e k).handle) j 0
      pub behind : (handles_told f b e (length m)).number ≡ 0 → (i : ℕ) → 23 * entries e ≤ i
          → get_or (handles_left f b e m) i 0 ≡ get_or m i 0

    module _ (s : ℕ) where
      abbrev pub OpenersDone : ℕ → Type 0
      OpenersDone room =
          ((openers_told f b s e room).number ≡ 0) ↔ ((Clear b (length e) room 1 × (s ≤ 7)) × NoneFails (decoded b) e)

      abbrev pub OpenersAnswer : ℕ → Type 0
      OpenersAnswer room =
          Answers b e (Clear b (length e) room 1 × (s ≤ 7)) (whole_number b (ltb 7 s) (length e) room 1)
          (told (openers_told f b s e room).number (openers_told f b s e room).entry)

      abbrev count : List ℕ → ℕ
      count m = (openers_told f b s e (length m)).count

      abbrev after : List ℕ → List ℕ
      after m = openers_left f b s e m

      pub record OpenersInWords (m : List ℕ) : Type 0 where
        pub refused : (openers_told f b s e (length m)).number ≢ 0 → (after m ≡ m) × (count m ≡ 0)
        pub long : length (after m) ≡ length m
        pub rising : (i j : ℕ) → i < j → j < count m → get_or (after m) i 0 < get_or (after m) j 0
        pub exactly : (openers_told f b s e (length m)).number ≡ 0 → (k : ℕ)
            → Listed (after m) (count m) k ↔ (IsRecord (entries e) k × (references (made f (decoded b) e k).handle.selector s ≡ true))
        pub behind : (i : ℕ) → count m ≤ i → get_or (after m) i 0 ≡ get_or m i 0

  abbrev pub HandlesBuffer : Type 0
  HandlesBuffer = SixteenBytes f → (b e m : List ℕ) → HandlesInWords b e m
