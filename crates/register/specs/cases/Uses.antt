-- What each clause of the statements about a register is needed for, with the conversion f, the handle h that is supplied and
-- all other bytes left open. Where the number of entries matters it is the most that there may be; parents stand above and
-- below; handles have any width where the statement asks for none.
--     Full e             the register has 255 entries
--     EntryUses          of `MadeInWords`: zero; a parent above, below, and one that fails; a missing entry, a ring, and what their
--                        numbers tell. Of `StepNumbers`: any other number is ruled out. Of `OwnWay`: an entry made from the handle
--                        supplied goes by its own two bytes alone
--     FreeUses           of `FreeOfPasswords`: each clause
--     HandleUses         of `EntrysHandle`, for the last entry: each clause; of `OpensAsSupplied`. BackUses: of `ReadBack`
--     LowestUses         of `LowestFails`, of the first question: each clause; of the second, those that tell of an entry
--     WholeUses          of `WholeInWords` and `Answers`: each number for the call as a whole, with whatever comes after it
--     HandlesUses, OpenersUses    of `HandlesDone`, `HandlesInWords`, `OpenersDone` and `OpenersInWords`: each clause, at the last byte
--                        or entry and behind it. Conversions give sixteen bytes in HandlesUses and BackUses
-- Assumes nothing.
use Rattle.std.specs.Prelude.{ℕ, ◌/◌, ◌%◌, ◌≤◌, ◌<◌, ◌≡◌, ◌≢◌, true, false, List, length, get_or}
use Rattle.bits.specs.Sets.{has}
use Rattle.bits.specs.Bytes.{Bytes}
use Rattle.chain.specs.Means.{IsRecord, Leaves, Again}
use Rattle.handle.specs.declared.Handle.{Handle}
use Rattle.handle.specs.Selectors.{references, gapped}
use Rattle.handle.specs.Handles.{Name, node_of, name_of, width_of, no_width, no_such_place, decoded, encoded, through}
use Rattle.handle.specs.Opens.{Opens}
use Rattle.register.specs.Registers.{entries, parent_of, mask_of, given, failed, stepped, made, lowest, openers_up_to}
use Rattle.register.specs.Registers.{Told}
use Rattle.register.specs.Registers.{told, handles_told, handles_left, openers_told, openers_left}
use Rattle.register.specs.Words.{SameButPassword}
use Rattle.register.specs.Answers.{NoPlace, Clear, Listed, NoneFails}

abbrev pub Full : List ℕ → Type 0
Full e = entries e ≡ 255

module _ (f : Name → List ℕ → ℕ → List ℕ) where
  pub record EntryUses : Type 0 where
    pub supplied : (h : Handle) (e : List ℕ) → made f h e 0 ≡ given h
    pub parent_below : (h : Handle) (e : List ℕ) → Full e → parent_of e 1 ≡ 255
        → made f h e 1 ≡ stepped f (made f h e 255) (mask_of e 1)
    pub parent_above : (h : Handle) (e : List ℕ) → Full e → parent_of e 255 ≡ 1
        → made f h e 255 ≡ stepped f (made f h e 1) (mask_of e 255)
    pub handed_on : (h : Handle) (e : List ℕ) → Full e → parent_of e 7 ≡ 200 → made f h e 200 ≡ failed 21
        → made f h e 7 ≡ failed 21
    pub missing : (h : Handle) (e : List ℕ) → entries e ≡ 254 → parent_of e 254 ≡ 255 → (made f h e 254).number ≡ 19
    pub missed : (h : Handle) (e : List ℕ) → (made f h e 9).number ≡ 19 → Leaves (entries e) (parent_of e) 9
    pub ring : (h : Handle) (e : List ℕ) → Full e → parent_of e 255 ≡ 3 → parent_of e 3 ≡ 255 → (made f h e 255).number ≡ 20
    pub round : (h : Handle) (e : List ℕ) → (made f h e 9).number ≡ 20 → Again (entries e) (parent_of e) 9
    pub no_other : (h : Handle) (e : List ℕ) → Full e → no_width h ≡ false → no_such_place h ≡ false
        → gapped (width_of h) h.selector ≡ false → (made f h e 255).number ≢ 4
    pub own_bytes : (h : Handle) (e e' : List ℕ) → Full e → Full e' → parent_of e 255 ≡ 0 → parent_of e' 255 ≡ 0
        → mask_of e 255 ≡ mask_of e' 255 → made f h e 255 ≡ made f h e' 255

  pub record FreeUses (g : Name → List ℕ → ℕ → List ℕ) : Type 0 where
    pub number : (h h' : Handle) (e : List ℕ) → SameButPassword h h' → (made f h e 255).number ≡ (made g h' e 255).number
    pub selector : (h h' : Handle) (e : List ℕ) → SameButPassword h h'
        → (made f h e 255).handle.selector ≡ (made g h' e 255).handle.selector
    pub told : (h h' : Handle) (e : List ℕ) → SameButPassword h h' → lowest f h e ≡ lowest g h' e
    pub openers : (h h' : Handle) (e : List ℕ) → SameButPassword h h' → openers_up_to f h e 7 255 ≡ openers_up_to g h' e 7 255

  pub record HandleUses : Type 0 where
    pub named : (h : Handle) (e : List ℕ) (g : Handle) → Full e → made f h e 255 ≡ given g → name_of g ≡ name_of h
    pub width : (h : Handle) (e : List ℕ) (g : Handle) → Full e → made f h e 255 ≡ given g → g.width ≡ h.width
    pub ungapped : (h : Handle) (e : List ℕ) (g : Handle) → Full e → made f h e 255 ≡ given g
        → gapped (width_of h) g.selector ≡ false
    pub of_supplied : (h : Handle) (e : List ℕ) (g : Handle) → Full e → made f h e 255 ≡ given g → 3 < width_of h
        → references g.selector 3 ≡ true → references h.selector 3 ≡ true
    pub of_own_mask : (h : Handle) (e : List ℕ) (g : Handle) → Full e → made f h e 255 ≡ given g → 3 < width_of h
        → references g.selector 3 ≡ true → has 3 (mask_of e 255) ≡ true
    pub of_parents_mask : (h : Handle) (e : List ℕ) (g : Handle) → Full e → parent_of e 255 ≡ 1 → made f h e 255 ≡ given g
        → 3 < width_of h → references g.selector 3 ≡ true → has 3 (mask_of e 1) ≡ true
    pub by_all : (h : Handle) (e : List ℕ) (g : Handle) → Full e → made f h e 255 ≡ given g → 3 < width_of h
        → references h.selector 3 ≡ true → ((k : ℕ) → IsRecord 255 k → has 3 (mask_of e k) ≡ true) → references g.selector 3 ≡ true
    pub some : (h : Handle) (e : List ℕ) (g : Handle) → Full e → made f h e 255 ≡ given g
        → ¬ ((i : ℕ) → i < width_of h → references g.selector i ≡ false)
    pub valid : (w : ℕ) (n : Name) (p : List ℕ) (h : Handle) (e : List ℕ) (g : Handle)
        → Opens w (f n) n p (references h.selector) h → made f h e 255 ≡ given g
        → through w (f n) g.selector p ≡ g.password

  pub record BackUses : Type 0 where
    pub back : (b e : List ℕ) (g : Handle) → Bytes 23 b → made f (decoded b) e 255 ≡ given g → decoded (encoded g) ≡ g

  -- number and entry of the second question
  abbrev told₂ : List ℕ → ℕ → List ℕ → ℕ → Told
  told₂ b s e room = told (openers_told f b s e room).number (openers_told f b s e room).entry

  pub record LowestUses : Type 0 where
    pub handles_its : (b e : List ℕ) (room : ℕ) → Clear b (length e) room 23 → (handles_told f b e room).number ≢ 0
        → (made f (decoded b) e (handles_told f b e room).entry).number ≡ (handles_told f b e room).number
    pub handles_below : (b e : List ℕ) (room : ℕ) → Clear b (length e) room 23 → 1 < (handles_told f b e room).entry
        → (made f (decoded b) e 1).number ≡ 0
    pub handles_inside : (b e : List ℕ) (room : ℕ) → Clear b (length e) room 23 → (handles_told f b e room).number ≢ 0
        → (handles_told f b e room).entry ≤ entries e
    pub openers_its : (b e : List ℕ) (s room : ℕ) → Clear b (length e) room 1 → s ≤ 7 → (openers_told f b s e room).number ≢ 0
        → (made f (decoded b) e (openers_told f b s e room).entry).number ≡ (openers_told f b s e room).number
    pub openers_below : (b e : List ℕ) (s room : ℕ) → Clear b (length e) room 1 → s ≤ 7 → 1 < (openers_told f b s e room).entry
        → (made f (decoded b) e 1).number ≡ 0
    pub openers_inside : (b e : List ℕ) (s room : ℕ) → Clear b (length e) room 1 → s ≤ 7 → (openers_told f b s e room).number ≢ 0
        → (openers_told f b s e room).entry ≤ entries e
    pub handles_none : (b e : List ℕ) (room : ℕ) → Clear b (length e) room 23 → (handles_told f b e room).number ≡ 0
        → (handles_told f b e room).entry ≡ 0
    pub handles_done : (b e : List ℕ) (room : ℕ) → Full e → Clear b (length e) room 23 → (handles_told f b e room).number ≡ 0
        → (made f (decoded b) e 255).number ≡ 0

  pub record WholeUses : Type 0 where
    pub bytes : (b e : List ℕ) (room : ℕ) → length b ≡ 27 → handles_told f b e room ≡ told 25 0
    pub bytes_second : (b e : List ℕ) (s room : ℕ) → length b ≡ 21 → told₂ b s e room ≡ told 25 0
    pub node : (b e : List ℕ) (room : ℕ) → length b ≡ 23 → 3 < node_of (decoded b) → handles_told f b e room ≡ told 2 0
    pub local : (b e : List ℕ) (s room : ℕ) → length b ≡ 23 → 7 < (decoded b).local → told₂ b s e room ≡ told 2 0
    pub segment : (b e : List ℕ) (s room : ℕ) → length b ≡ 23 → ¬ NoPlace b → 7 < s → told₂ b s e room ≡ told 3 0
    pub gap : (b e : List ℕ) (s room : ℕ) → length b ≡ 23 → ¬ NoPlace b → s ≤ 7 → gapped 8 (decoded b).selector ≡ true
        → told₂ b s e room ≡ told 4 0
    pub odd : (b e : List ℕ) (room : ℕ) → length b ≡ 23 → ¬ NoPlace b → gapped 8 (decoded b).selector ≡ false
        → length e % 2 ≢ 0 → handles_told f b e room ≡ told 18 0
    pub many : (b e : List ℕ) (s room : ℕ) → length b ≡ 23 → ¬ NoPlace b → s ≤ 7 → gapped 8 (decoded b).selector ≡ false
        → 255 < length e / 2 → told₂ b s e room ≡ told 18 0
    pub short : (b e : List ℕ) → length b ≡ 23 → ¬ NoPlace b → gapped 8 (decoded b).selector ≡ false → length e ≡ 510
        → handles_told f b e 5864 ≡ told 15 0
    pub short_second : (b e : List ℕ) (s : ℕ) → length b ≡ 23 → ¬ NoPlace b → s ≤ 7 → gapped 8 (decoded b).selector ≡ false
        → length e ≡ 510 → told₂ b s e 254 ≡ told 15 0

  pub record HandlesUses (b e m : List ℕ) : Type 0 where
    pub done : Clear b (length e) (length m) 23 → NoneFails f (decoded b) e → (handles_told f b e (length m)).number ≡ 0
    pub only_clear : (handles_told f b e (length m)).number ≡ 0 → length b ≡ 23
    pub none_fails : Full e → (handles_told f b e (length m)).number ≡ 0 → (made f (decoded b) e 255).number ≡ 0
    pub refused : (handles_told f b e (length m)).number ≢ 0 → handles_left f b e m ≡ m
    pub long : length (handles_left f b e m) ≡ length m
    pub last_byte : Full e → (handles_told f b e (length m)).number ≡ 0
        → get_or (handles_left f b e m) 5864 0 ≡ get_or (encoded (made f (decoded b) e 255).handle) 22 0
    pub behind : Full e → (handles_told f b e (length m)).number ≡ 0 → get_or (handles_left f b e m) 5865 0 ≡ get_or m 5865 0

  pub record OpenersUses (b e : List ℕ) (s : ℕ) (m : List ℕ) : Type 0 where
    pub done : Clear b (length e) (length m) 1 → s ≤ 7 → NoneFails f (decoded b) e
        → (openers_told f b s e (length m)).number ≡ 0
    pub none_fails : Full e → (openers_told f b s e (length m)).number ≡ 0 → (made f (decoded b) e 255).number ≡ 0
    pub segments : (openers_told f b s e (length m)).number ≡ 0 → s ≤ 7
    pub refused : (openers_told f b s e (length m)).number ≢ 0 → openers_left f b s e m ≡ m
    pub none_told : (openers_told f b s e (length m)).number ≢ 0 → (openers_told f b s e (length m)).count ≡ 0
    pub long : length (openers_left f b s e m) ≡ length m
    pub rises : 254 < (openers_told f b s e (length m)).count → get_or (openers_left f b s e m) 253 0 < get_or (openers_left f b s e m) 254 0
    pub opens : (openers_told f b s e (length m)).number ≡ 0 → 0 < (openers_told f b s e (length m)).count
        → references (made f (decoded b) e (get_or (openers_left f b s e m) 0 0)).handle.selector s ≡ true
    pub listed : Full e → (openers_told f b s e (length m)).number ≡ 0
        → references (made f (decoded b) e 255).handle.selector s ≡ true
        → Listed (openers_left f b s e m) (openers_told f b s e (length m)).count 255
    pub behind : get_or (openers_left f b s e m) (openers_told f b s e (length m)).count 0
        ≡ get_or m (openers_told f b s e (length m)).count 0
