-- Document 02, §9, written out: a register of five entries, its handles, their bytes and who opens what; each number, and each
-- order between neighbours.
--     p                  a password of sixteen different bytes
--     five               entry 1 was weakened from 3, which stands below it, 4 from 1, 5 from 3 by a mask that excludes nothing
--     five_handles f      their handles, for any conversion f
--     turning            a conversion of sixteen bytes: the parameter, and then the password's first fifteen
--     five_bytes          the bytes of the five handles by it, one after the other
--     FiveMade           these are the handles of the five, and the openers of each segment, with bytes behind that stay; a refusal
--                        leaves all. FiveWritten: these are the bytes of the handles, with bytes behind that stay
--     Asks, questions    the second question: handle, segment, register, room; and its answer. Answered: these are the answers
--     Wants, wanted      the first question: handle, register, room; and its answer. Given: these are the answers
--     Placed             which bytes belong to entries 128, 129 and 255, and how many entries there are
--     Wholes             how many bytes a register may have, and a buffer must
-- Assumes nothing.
use Rattle.std.specs.Prelude.{ℕ, ◌≡◌, false, List, [], ◌∷◌, ◌++◌, map, take, replicate}
use Rattle.handle.specs.declared.Handle.{Handle}
use Rattle.handle.specs.declared.Width.TheVariants.{Eight}
use Rattle.handle.specs.Handles.{Name}
use Rattle.register.specs.Registers.{Told}
use Rattle.register.specs.Registers.{Opened}
use Rattle.register.specs.Registers.{entries, parent_of, mask_of, Made, given, made, told, opened, whole_number, handles_told, handles_left, openers_told, openers_left}

abbrev pub p : List ℕ
p = 16 ∷ 17 ∷ 18 ∷ 19 ∷ 20 ∷ 21 ∷ 22 ∷ 23 ∷ 24 ∷ 25 ∷ 26 ∷ 27 ∷ 28 ∷ 29 ∷ 30 ∷ 31 ∷ []

abbrev pub five : List ℕ
five = 3 ∷ 0x0f ∷ 0 ∷ 0x7f ∷ 0 ∷ 0x3f ∷ 1 ∷ 0xfd ∷ 3 ∷ 0xff ∷ []

-- ---- handles that are supplied

-- the bytes of a handle of node n, local number l, that password, and the selector
abbrev bytes_of : ℕ → ℕ → List ℕ → List ℕ
bytes_of n l ss = 0 ∷ n ∷ l ∷ (p ++ ss)

abbrev pub primary : List ℕ
primary = bytes_of 1 2 (0xff ∷ 0xff ∷ 0xff ∷ 0xff ∷ [])

abbrev cut_four : List ℕ
cut_four = bytes_of 1 2 (0xfe ∷ 0xfd ∷ 0xfb ∷ 0xf7 ∷ [])

abbrev gap : List ℕ
gap = bytes_of 3 7 (0xff ∷ 0xfe ∷ 0xff ∷ 0xff ∷ [])

abbrev elsewhere : List ℕ
elsewhere = bytes_of 4 7 (0xff ∷ 0xfe ∷ 0xff ∷ 0xff ∷ [])

abbrev beyond : List ℕ
beyond = bytes_of 3 8 (0xff ∷ 0xff ∷ 0xff ∷ 0xff ∷ [])

-- node 257
abbrev far : List ℕ
far = 1 ∷ 1 ∷ 2 ∷ (p ++ (0xff ∷ 0xff ∷ 0xff ∷ 0xff ∷ []))

abbrev long : List ℕ
long = replicate 513 0

abbrev nothing : List ℕ
nothing = bytes_of 1 2 (0x0f ∷ 0xf0 ∷ 0xff ∷ 0xff ∷ [])

-- ---- the five

abbrev pub handle_of : List ℕ → List ℕ → Handle
handle_of p ss = record { node = 1; local = 2; password = p; width = Eight; selector = ss }

abbrev pub supplied : Handle
supplied = handle_of p (0xff ∷ 0xff ∷ 0xff ∷ 0xff ∷ [])

abbrev pub five_handles : (Name → List ℕ → ℕ → List ℕ) → List Made
five_handles f =
    given (handle_of (f n (f n p 0x3f) 0xcf) (0x3f ∷ 0xcf ∷ 0xff ∷ 0xff ∷ []))
    ∷ given (handle_of (f n p 0x7f) (0x7f ∷ 0xff ∷ 0xff ∷ 0xff ∷ []))
    ∷ given (handle_of (f n p 0x3f) (0x3f ∷ 0xff ∷ 0xff ∷ 0xff ∷ []))
    ∷ given (handle_of (f n (f n (f n p 0x3f) 0xcf) 0xfd) (0x3f ∷ 0xcf ∷ 0xfd ∷ 0xff ∷ []))
    ∷ given (handle_of (f n p 0x3f) (0x3f ∷ 0xff ∷ 0xff ∷ 0xff ∷ []))
    ∷ []
  where
    n : Name
    n = record { node = 1; local = 2 }

abbrev pub turning : Name → List ℕ → ℕ → List ℕ
turning n p c = c ∷ take 15 p

abbrev pub five_bytes : List ℕ
five_bytes =
    0 ∷ 1 ∷ 2 ∷ 0xcf ∷ 0x3f ∷ 16 ∷ 17 ∷ 18 ∷ 19 ∷ 20 ∷ 21 ∷ 22 ∷ 23 ∷ 24 ∷ 25 ∷ 26 ∷ 27 ∷ 28 ∷ 29 ∷ 0x3f ∷ 0xcf ∷ 0xff ∷ 0xff
    ∷ 0 ∷ 1 ∷ 2 ∷ 0x7f ∷ 16 ∷ 17 ∷ 18 ∷ 19 ∷ 20 ∷ 21 ∷ 22 ∷ 23 ∷ 24 ∷ 25 ∷ 26 ∷ 27 ∷ 28 ∷ 29 ∷ 30 ∷ 0x7f ∷ 0xff ∷ 0xff ∷ 0xff
    ∷ 0 ∷ 1 ∷ 2 ∷ 0x3f ∷ 16 ∷ 17 ∷ 18 ∷ 19 ∷ 20 ∷ 21 ∷ 22 ∷ 23 ∷ 24 ∷ 25 ∷ 26 ∷ 27 ∷ 28 ∷ 29 ∷ 30 ∷ 0x3f ∷ 0xff ∷ 0xff ∷ 0xff
    ∷ 0 ∷ 1 ∷ 2 ∷ 0xfd ∷ 0xcf ∷ 0x3f ∷ 16 ∷ 17 ∷ 18 ∷ 19 ∷ 20 ∷ 21 ∷ 22 ∷ 23 ∷ 24 ∷ 25 ∷ 26 ∷ 27 ∷ 28 ∷ 0x3f ∷ 0xcf ∷ 0xfd ∷ 0xff
    ∷ 0 ∷ 1 ∷ 2 ∷ 0x3f ∷ 16 ∷ 17 ∷ 18 ∷ 19 ∷ 20 ∷ 21 ∷ 22 ∷ 23 ∷ 24 ∷ 25 ∷ 26 ∷ 27 ∷ 28 ∷ 29 ∷ 30 ∷ 0x3f ∷ 0xff ∷ 0xff ∷ 0xff
    ∷ []

abbrev before : List ℕ
before = 90 ∷ 91 ∷ 92 ∷ 93 ∷ 94 ∷ 95 ∷ []

pub record FiveMade (f : Name → List ℕ → ℕ → List ℕ) : Type 0 where
  pub handles : map (made f supplied five) (1 ∷ 2 ∷ 3 ∷ 4 ∷ 5 ∷ []) ≡ five_handles f
  pub openers :
      map (λ (s : ℕ). openers_left f primary s five before) (0 ∷ 1 ∷ 2 ∷ 3 ∷ 4 ∷ 5 ∷ 6 ∷ 7 ∷ [])
      ≡ (1 ∷ 2 ∷ 3 ∷ 4 ∷ 5 ∷ 95 ∷ [])
      ∷ (1 ∷ 2 ∷ 3 ∷ 5 ∷ 94 ∷ 95 ∷ [])
      ∷ (1 ∷ 2 ∷ 3 ∷ 4 ∷ 5 ∷ 95 ∷ [])
      ∷ (1 ∷ 2 ∷ 3 ∷ 4 ∷ 5 ∷ 95 ∷ [])
      ∷ (2 ∷ 3 ∷ 5 ∷ 93 ∷ 94 ∷ 95 ∷ [])
      ∷ (2 ∷ 3 ∷ 5 ∷ 93 ∷ 94 ∷ 95 ∷ [])
      ∷ (2 ∷ 91 ∷ 92 ∷ 93 ∷ 94 ∷ 95 ∷ [])
      ∷ before
      ∷ []
  pub untouched : openers_left f primary 1 (0 ∷ 0xff ∷ 9 ∷ 0 ∷ []) before ≡ before
  pub unwritten : handles_left f primary (0 ∷ 0xff ∷ 9 ∷ 0 ∷ []) (replicate 46 8) ≡ replicate 46 8

abbrev pub FiveWritten : Type 0
FiveWritten = handles_left turning primary five (replicate 115 8 ++ (201 ∷ 202 ∷ [])) ≡ five_bytes ++ (201 ∷ 202 ∷ [])

-- ---- the second question

pub record Asks : Type 0 where
  pub handle : List ℕ
  pub segment : ℕ
  pub register : List ℕ
  pub room : ℕ
  pub answer : Opened

abbrev asks : List ℕ → ℕ → List ℕ → ℕ → ℕ → ℕ → ℕ → Asks
asks b s e r n k c = record { handle = b; segment = s; register = e; room = r; answer = opened n k c }

abbrev pub questions : List Asks
questions =
    -- done; no entries; a byte for each entry is needed, whatever the answer
    asks primary 1 five 5 0 0 4
    ∷ asks primary 6 five 5 0 0 1
    ∷ asks primary 7 five 5 0 0 0
    ∷ asks primary 7 five 4 15 0 0
    ∷ asks primary 0 [] 0 0 0 0
    -- 25 before 2, 2 before 3, 3 before 4, 4 before 18, 18 before 15, 15 before any entry: of a register that is too long, odd and
    -- has no room
    ∷ asks (take 21 elsewhere) 8 long 0 25 0 0
    ∷ asks elsewhere 8 long 0 2 0 0
    ∷ asks gap 8 long 0 3 0 0
    ∷ asks gap 7 long 0 4 0 0
    ∷ asks primary 7 long 0 18 0 0
    ∷ asks primary 7 (0 ∷ 0 ∷ 0 ∷ []) 0 18 0 0
    ∷ asks (0 ∷ elsewhere) 8 (0 ∷ []) 0 25 0 0
    ∷ asks (take 21 primary) 8 five 5 25 0 0
    ∷ asks (primary ++ (0 ∷ 0 ∷ 0 ∷ 0 ∷ [])) 1 five 5 25 0 0
    ∷ asks [] 1 five 5 25 0 0
    ∷ asks elsewhere 8 (0 ∷ []) 0 2 0 0
    ∷ asks beyond 8 five 5 2 0 0
    ∷ asks far 8 five 5 2 0 0
    ∷ asks gap 8 (0 ∷ []) 0 3 0 0
    ∷ asks primary 263 five 5 3 0 0
    ∷ asks gap 7 (0 ∷ []) 0 4 0 0
    ∷ asks primary 7 (0 ∷ []) 0 18 0 0
    ∷ asks primary 7 (replicate 512 0) 0 18 0 0
    ∷ asks primary 7 (9 ∷ 0 ∷ []) 0 15 0 0
    -- 19 and 20 before 21 and 17
    ∷ asks primary 7 (9 ∷ 0 ∷ []) 1 19 1 0
    ∷ asks cut_four 7 (9 ∷ 0xef ∷ []) 1 19 1 0
    ∷ asks primary 7 (1 ∷ 0 ∷ []) 1 20 1 0
    ∷ asks cut_four 7 (2 ∷ 0xef ∷ 1 ∷ 0xef ∷ []) 2 20 1 0
    -- 21 before 17; 17; a mask that excludes nothing; a handle that references nothing
    ∷ asks cut_four 7 (0 ∷ 0x0f ∷ []) 1 21 1 0
    ∷ asks cut_four 7 (0 ∷ 0xef ∷ []) 1 17 1 0
    ∷ asks cut_four 7 (0 ∷ 0xf0 ∷ []) 1 0 0 1
    ∷ asks nothing 7 (0 ∷ 0xff ∷ []) 1 21 1 0
    -- the lower entry before the smaller number; the first step that is refused; handed on
    ∷ asks primary 7 (0 ∷ 0xff ∷ 0 ∷ 0 ∷ 9 ∷ 0 ∷ []) 3 21 2 0
    ∷ asks primary 7 (9 ∷ 0xff ∷ 0 ∷ 0 ∷ []) 2 19 1 0
    ∷ asks cut_four 7 (2 ∷ 0x00 ∷ 0 ∷ 0xef ∷ []) 2 17 1 0
    ∷ asks primary 7 (2 ∷ 0xff ∷ 0 ∷ 0 ∷ []) 2 21 1 0
    ∷ asks primary 7 (0 ∷ 0xff ∷ 3 ∷ 0xff ∷ 0 ∷ 0 ∷ []) 3 21 2 0
    -- a way that comes round without the entry itself; one that leaves later
    ∷ asks primary 7 (2 ∷ 0xff ∷ 2 ∷ 0xff ∷ []) 2 20 1 0
    ∷ asks primary 7 (2 ∷ 0xff ∷ 3 ∷ 0xff ∷ []) 2 19 1 0
    ∷ []

abbrev pub Answered : (Name → List ℕ → ℕ → List ℕ) → Type 0
Answered f =
    map (λ (q : Asks). openers_told f q.handle q.segment q.register q.room) questions
    ≡ map (λ (q : Asks). q.answer) questions

-- ---- the first question

pub record Wants : Type 0 where
  pub handle : List ℕ
  pub register : List ℕ
  pub room : ℕ
  pub answer : Told

abbrev wants : List ℕ → List ℕ → ℕ → ℕ → ℕ → Wants
wants b e r n k = record { handle = b; register = e; room = r; answer = told n k }

abbrev pub wanted : List Wants
wanted =
    wants primary five 115 0 0
    ∷ wants primary [] 0 0 0
    -- 25 before 2, 2 before 4, 4 before 18, 18 before 15, 15 before any entry
    ∷ wants (take 21 elsewhere) long 0 25 0
    ∷ wants (primary ++ (0 ∷ 0 ∷ 0 ∷ 0 ∷ [])) five 115 25 0
    ∷ wants elsewhere long 0 2 0
    ∷ wants gap long 0 4 0
    ∷ wants primary long 0 18 0
    ∷ wants primary (0 ∷ 0 ∷ 0 ∷ []) 0 18 0
    ∷ wants (0 ∷ elsewhere) (0 ∷ []) 0 25 0
    ∷ wants elsewhere (0 ∷ []) 0 2 0
    ∷ wants gap (0 ∷ []) 0 4 0
    ∷ wants primary (0 ∷ []) 0 18 0
    ∷ wants primary (replicate 512 0) 0 18 0
    ∷ wants primary five 114 15 0
    ∷ wants primary (9 ∷ 0 ∷ []) 22 15 0
    -- an entry
    ∷ wants primary (9 ∷ 0 ∷ []) 23 19 1
    ∷ wants primary (0 ∷ 0xff ∷ 2 ∷ 0 ∷ []) 46 20 2
    ∷ wants cut_four (0 ∷ 0x0f ∷ []) 23 21 1
    ∷ wants cut_four (0 ∷ 0xef ∷ []) 23 17 1
    ∷ wants primary (2 ∷ 0xff ∷ 0 ∷ 0 ∷ []) 46 21 1
    ∷ []

abbrev pub Given : (Name → List ℕ → ℕ → List ℕ) → Type 0
Given f =
    map (λ (q : Wants). handles_told f q.handle q.register q.room) wanted
    ≡ map (λ (q : Wants). q.answer) wanted

-- ---- how long

abbrev most : List ℕ
most = replicate 254 0 ++ (3 ∷ 4 ∷ 5 ∷ 6 ∷ (replicate 250 0 ++ (7 ∷ 9 ∷ [])))

abbrev pub Placed : Type 0
Placed =
    entries most ∷ map (parent_of most) (128 ∷ 129 ∷ 255 ∷ []) ++ map (mask_of most) (128 ∷ 129 ∷ 255 ∷ [])
    ≡ 255 ∷ 3 ∷ 5 ∷ 7 ∷ 4 ∷ 6 ∷ 9 ∷ []

abbrev pub Wholes : Type 0
Wholes =
    whole_number primary false 510 255 1
    ∷ whole_number primary false 510 254 1
    ∷ whole_number primary false 511 255 1
    ∷ whole_number primary false 512 256 1
    ∷ whole_number primary false 510 5865 23
    ∷ whole_number primary false 510 5864 23
    ∷ []
    ≡ 0 ∷ 15 ∷ 18 ∷ 18 ∷ 0 ∷ 15 ∷ []
