-- The answers in words: what is told for the call as a whole comes first, and then the lowest entry that fails. Of the
-- buffer: handles of 23 bytes one after the other, and numbers that rise; what is behind them is what was there.
-- Assumes nothing.
use Prim.Native.Nat.{ℕ, zero, suc, ◌+◌, ◌-◌, ◌*◌, ◌≤◌, ◌<◌}
use native.Mathlib.Omega.{arith}
use native.Mathlib.Decide.{ℕ_discrete, dec_lt}
use mathlib.Core.Path.{◌≡◌, refl, sym, ap, ◌∙◌, subst}
use mathlib.Core.Logic.{◌≢◌, ◌↔◌}
use mathlib.Core.Bool.{Bool, true, false, true≢false}
use mathlib.Core.List.{List, [], ◌∷◌, ◌++◌, append-nil}
use lib.Dec.{ltb}
use lib.ListN.{length, get_or, drop, length-append, length-drop, get_or-append}
use lib.Seq.{get_or-append-add, get_or-drop}
use borrow.Author.Tests.{le-ltb, ltb-false}
use Rattle.chain.specs.Means.{IsRecord}
use Rattle.handle.specs.declared.Handle.{Handle}
use Rattle.handle.specs.Handles.{Name, name_of, decoded, encoded, Holdable}
use Rattle.handle.specs.Conversion.{SixteenBytes}
use Rattle.handle.proofs.HeldLaws.{holdable_decoded, holdable_weakened}
use Rattle.handle.proofs.TripLaws.{decode_encode}
use Rattle.register.specs.Registers.{Told}
use Rattle.register.specs.Registers.{entries, way_of, masks_of, given, made, lowest, told, whole_number, told_first, one_if}
use Rattle.register.specs.Registers.{opened_as, handles_told, bytes_up_to, handles_left, opens, openers_up_to}
use Rattle.register.specs.Registers.{openers_entry, openers_told, openers_left}
use Rattle.register.specs.Words.{LowestFails}
use Rattle.register.specs.Answers.{Clear, Listed, NoneFails, Answers, ReadBack, HandlesDone, HandlesAnswer, HandlesInWords, HandlesBuffer}
use Rattle.register.specs.Answers.{OpenersDone, OpenersAnswer, OpenersInWords}
use Rattle.register.proofs.WholeLaws.{clear_in, going, wide}
use Rattle.register.proofs.OpenerLaws.{told_refused, told_goes, leaves_all, leaves_rest}
use Rattle.register.proofs.KeptLaws.{laid_decoded, laid_length, steps_keep, made_steps}
use Rattle.register.proofs.HandlesLaws.{made_laid}
use Rattle.register.proofs.WordLaws.{lowest_told}

-- ---- what is written at the start of a buffer

module _ (w m : List ℕ) (room : length w ≤ length m) where
  written_long : length (w ++ drop (length w) m) ≡ length m
  written_long = let a = length-append w (drop (length w) m) in let b = length-drop (length w) m in omega arith

written_at : (w r : List ℕ) (i : ℕ) → i < length w → get_or (w ++ r) i 0 ≡ get_or w i 0
written_at w r i l = get_or-append w r 0 i l

written_behind : (w m : List ℕ) (i : ℕ) → length w ≤ i → get_or (w ++ drop (length w) m) i 0 ≡ get_or m i 0
written_behind w m i l =
    ap (λ (k : ℕ). get_or (w ++ drop (length w) m) k 0) (sym to)
    ∙ get_or-append-add w (drop (length w) m) (i - length w) 0
    ∙ get_or-drop (length w) m (i - length w) 0
    ∙ ap (λ (k : ℕ). get_or m k 0) to
  where
    to : length w + (i - length w) ≡ i
    to = omega arith

-- ---- numbers in a list

numbers_more : (l : List ℕ) (k i : ℕ) → i < length (l ++ (k ∷ [])) → (P : ℕ → Type 0)
    → (i < length l → P (get_or l i 0)) → (i ≡ length l → P k) → P (get_or (l ++ (k ∷ [])) i 0)
numbers_more l k i b P below at = go (dec_lt i (length l))
  where
    go : Dec (i < length l) → P (get_or (l ++ (k ∷ [])) i 0)
    go (yes h) = subst P (sym (written_at l (k ∷ []) i h)) (below h)
    go (no h) =
        subst P
        (sym (ap (λ (j : ℕ). get_or (l ++ (k ∷ [])) j 0) (let a = length-append l (k ∷ []) in let q : i ≡ length l + 0 = omega arith in q)
        ∙ get_or-append-add l (k ∷ []) 0 0))
        (at (let a = length-append l (k ∷ []) in omega arith))

-- the numbers rise, are among 1 to n, and are those that p holds of
record Rises (p : ℕ → Bool) (n : ℕ) (l : List ℕ) : Type 0 where
  short : length l ≤ n
  among : (i : ℕ) → i < length l → IsRecord n (get_or l i 0) × (p (get_or l i 0) ≡ true)
  rising : (i j : ℕ) → i < j → j < length l → get_or l i 0 < get_or l j 0
  all : (k : ℕ) → IsRecord n k → p k ≡ true → Listed l (length l) k

rises_none : (p : ℕ → Bool) → Rises p 0 []
rises_none p =
    record {
      short = omega arith;
      among = λ i l. absurd (omega arith);
      rising = λ i j l h. absurd (omega arith);
      all = λ k r q. absurd (let a = r.0 in let b = r.1 in omega arith);
    }

module _ (p : ℕ → Bool) (n : ℕ) (l : List ℕ) (r : Rises p n l) where
  rises_not : p (suc n) ≡ false → Rises p (suc n) l
  rises_not q =
      record {
        short = let s = r.short in omega arith;
        among = λ i h. let a = r.among i h in ((a.0.0, let b = a.0.1 in omega arith), a.1);
        rising = r.rising;
        all = λ k a t. go k a t (ℕ_discrete k (suc n));
      }
    where
      go : (k : ℕ) → IsRecord (suc n) k → p k ≡ true → Dec (k ≡ suc n) → Listed l (length l) k
      go k a t (yes e) = absurd (true≢false (sym t ∙ ap p e ∙ q))
      go k a t (no e) = r.all k (a.0, let b = a.1 in omega arith) t

  abbrev longer : List ℕ
  longer = l ++ (suc n ∷ [])

  one_more : length longer ≡ suc (length l)
  one_more = let a = length-append l (suc n ∷ []) in omega arith

  rises_more : p (suc n) ≡ true → Rises p (suc n) longer
  rises_more q =
      record {
        short = let a = one_more in let s = r.short in omega arith;
        among = λ i h.
            numbers_more l (suc n) i h (λ k. IsRecord (suc n) k × (p k ≡ true))
            (λ b. let a = r.among i b in ((a.0.0, let b = a.0.1 in omega arith), a.1))
            (λ e. ((omega arith, omega arith), q));
        rising = λ i j b h.
            numbers_more l (suc n) j h (λ k. get_or longer i 0 < k)
            (λ c. subst (λ (k : ℕ). k < get_or l j 0) (sym (written_at l (suc n ∷ []) i (omega arith))) (r.rising i j b c))
            (λ e. subst (λ (k : ℕ). k < suc n) (sym (written_at l (suc n ∷ []) i (omega arith)))
            (let a = (r.among i (omega arith)).0.1 in omega arith));
        all = λ k a t. go k a t (ℕ_discrete k (suc n));
      }
    where
      go : (k : ℕ) → IsRecord (suc n) k → p k ≡ true → Dec (k ≡ suc n) → Listed longer (length longer) k
      go k a t (yes e) =
          record {
            place = length l;
            low = let a = one_more in omega arith;
            is =
                ap (λ (j : ℕ). get_or longer j 0) (let z : length l ≡ length l + 0 = omega arith in z)
                ∙ get_or-append-add l (suc n ∷ []) 0 0 ∙ sym e;
          }
      go k a t (no e) = at (r.all k (a.0, let b = a.1 in omega arith) t)
        where
          at : Listed l (length l) k → Listed longer (length longer) k
          at s =
              record {
                place = s.place;
                low = let a = one_more in let b = s.low in omega arith;
                is = written_at l (suc n ∷ []) s.place s.low ∙ s.is;
              }

module _ (f : Name → List ℕ → ℕ → List ℕ) where
  -- ---- what is told

  none_told : (h : Handle) (e : List ℕ) → NoneFails f h e → (lowest f h e).number ≡ 0
  none_told h e none = go (lowest f h e).number refl
    where
      go : (n : ℕ) → (lowest f h e).number ≡ n → (lowest f h e).number ≡ 0
      go zero q = q
      go (suc n) q =
          sym ((lowest_told f h e).its some) ∙ none (lowest f h e).entry ((lowest_told f h e).entry some)
        where
          some : (lowest f h e).number ≢ 0
          some z = omega arith

  -- an answer by the number for the whole, of which a number 0 says that the call is clear
  module _ (b e : List ℕ) (clear : Type 0) (n : ℕ) (out : n ≡ 0 → clear) (inside : clear → n ≡ 0) where
    abbrev answer : Told
    answer = told_first n (lowest f (decoded b) e)

    done_out : answer.number ≡ 0 → clear × NoneFails f (decoded b) e
    done_out = go n refl
      where
        go : (k : ℕ) → n ≡ k → (told_first k (lowest f (decoded b) e)).number ≡ 0 → clear × NoneFails f (decoded b) e
        go zero q z = (out q, (lowest_told f (decoded b) e).done z)
        go (suc k) q z = absurd (omega arith)

    done_in : clear × NoneFails f (decoded b) e → answer.number ≡ 0
    done_in (c, none) =
        ap (λ (t : Told). t.number) (told_goes n (lowest f (decoded b) e) (inside c)) ∙ none_told (decoded b) e none

    answers : Answers f b e clear n answer
    answers =
        record {
          whole = refused;
          entry = λ c.
              subst (LowestFails f (decoded b) e) (sym (told_goes n (lowest f (decoded b) e) (inside c)))
              (lowest_told f (decoded b) e);
        }
      where
        some : ¬ clear → n ≢ 0
        some c z = c (out z)

        refused : ¬ clear → answer ≡ told n 0
        refused c = told_refused n (lowest f (decoded b) e) (some c)

  -- the same told with how many
  opened_number : (t : Told) (c : ℕ) → (opened_as t.number t.entry c).number ≡ t.number
  opened_number t c = go t.number
    where
      go : (n : ℕ) → (opened_as n t.entry c).number ≡ n
      go zero = refl
      go (suc n) = refl

  lowest_opened : (h : Handle) (e : List ℕ) (t : Told) (c : ℕ) → LowestFails f h e t
      → LowestFails f h e (told (opened_as t.number t.entry c).number (opened_as t.number t.entry c).entry)
  lowest_opened h e t c l = go t.number refl
    where
      go : (n : ℕ) → t.number ≡ n
          → LowestFails f h e (told (opened_as n t.entry c).number (opened_as n t.entry c).entry)
      go zero q =
          record {
            done = λ z. l.done q;
            entry = λ z. absurd (z refl);
            its = λ z. absurd (z refl);
            below = λ k a b. absurd (omega arith);
            none = λ z. refl;
          }
      go (suc n) q = subst (λ (n : ℕ). LowestFails f h e (told n t.entry)) q l

  whole_opened : (t : Told) (n c : ℕ) → n ≢ 0 → t ≡ told n 0
      → told (opened_as t.number t.entry c).number (opened_as t.number t.entry c).entry ≡ told n 0
  whole_opened t n c z q =
      ap (λ (t : Told). told (opened_as t.number t.entry c).number (opened_as t.number t.entry c).entry) q ∙ go n z
    where
      go : (n : ℕ) → n ≢ 0 → told (opened_as n 0 c).number (opened_as n 0 c).entry ≡ told n 0
      go zero z = absurd (z refl)
      go (suc n) z = refl

  -- ---- the first question

  module _ (b e : List ℕ) (room : ℕ) where
    whole_clear : whole_number b false (length e) room 23 ≡ 0 → Clear b (length e) room 23
    whole_clear z = (going b false (length e) room 23 (sym z)).0

    pub handles_done : HandlesDone f b e room
    unfolding handles_told
    handles_done = (
      done_out b e (Clear b (length e) room 23) (whole_number b false (length e) room 23) whole_clear
          (λ c. clear_in b false (length e) room 23 c refl),
      done_in b e (Clear b (length e) room 23) (whole_number b false (length e) room 23) whole_clear
          (λ c. clear_in b false (length e) room 23 c refl),
    )

    pub handles_answer : HandlesAnswer f b e room
    unfolding handles_told
    handles_answer =
        answers b e (Clear b (length e) room 23) (whole_number b false (length e) room 23) whole_clear
        (λ c. clear_in b false (length e) room 23 c refl)

  -- where every entry's handle has 23 bytes, they stand one after the other
  module _ (h : Handle) (e : List ℕ) where
    abbrev Each : ℕ → Type 0
    Each n = (k : ℕ) → IsRecord n k → length (encoded (made f h e k).handle) ≡ 23

    each_less : (n : ℕ) → Each (suc n) → Each n
    each_less n each k r = each k (r.0, let b = r.1 in omega arith)

    bytes_long : (n : ℕ) → Each n → length (bytes_up_to f h e n) ≡ 23 * n
    unfolding bytes_up_to
    bytes_long zero each = refl
    bytes_long (suc n) each =
        let a = length-append (bytes_up_to f h e n) (encoded (made f h e (suc n)).handle) in
        let b = bytes_long n (each_less n each) in
        let c = each (suc n) (omega arith, omega arith) in
        omega arith

    bytes_at : (n : ℕ) → Each n → (k j : ℕ) → IsRecord n k → j < 23
        → get_or (bytes_up_to f h e n) (23 * (k - 1) + j) 0 ≡ get_or (encoded (made f h e k).handle) j 0
    unfolding bytes_up_to
    bytes_at zero each k j r l = absurd (let a = r.0 in let b = r.1 in omega arith)
    bytes_at (suc n) each k j r l =
        go (ℕ_discrete k (suc n)) (λ q. bytes_at n (each_less n each) k j q l)
      where
        long : length (bytes_up_to f h e n) ≡ 23 * n
        long = bytes_long n (each_less n each)

        go : Dec (k ≡ suc n)
            → (IsRecord n k → get_or (bytes_up_to f h e n) (23 * (k - 1) + j) 0 ≡ get_or (encoded (made f h e k).handle) j 0)
            → get_or (bytes_up_to f h e n ++ encoded (made f h e (suc n)).handle) (23 * (k - 1) + j) 0
            ≡ get_or (encoded (made f h e k).handle) j 0
        go (yes q) before =
            ap (λ (i : ℕ). get_or (bytes_up_to f h e n ++ encoded (made f h e (suc n)).handle) i 0)
            (let a = long in let z : 23 * (k - 1) + j ≡ length (bytes_up_to f h e n) + j = omega arith in z)
            ∙ get_or-append-add (bytes_up_to f h e n) (encoded (made f h e (suc n)).handle) j 0
            ∙ ap (λ (k : ℕ). get_or (encoded (made f h e k).handle) j 0) (sym q)
        go (no q) before =
            written_at (bytes_up_to f h e n) (encoded (made f h e (suc n)).handle) (23 * (k - 1) + j)
            (let a = long in let x = r.0 in let y = r.1 in omega arith)
            ∙ before (r.0, let y = r.1 in omega arith)

  made_given : (h : Handle) (e : List ℕ) (k : ℕ) → (made f h e k).number ≡ 0 → made f h e k ≡ given (made f h e k).handle
  made_given h e k z j = record { number = z j; handle = (made f h e k).handle }

  pub read_back : ReadBack f
  read_back sixteen b e k g o q =
      decode_encode g
      (steps_keep f Holdable (decoded b) (holdable_decoded b o.below (let w = wide b o.long in omega arith))
      (λ h mask p. holdable_weakened (f (name_of h)) (sixteen (name_of h)) h p mask)
      (masks_of e k (way_of e k).records) g (made_steps f (decoded b) e k g q))

  module _ (sixteen : SixteenBytes f) (b e m : List ℕ) where
    abbrev all : List ℕ
    all = bytes_up_to f (decoded b) e (entries e)

    module _ (z : (handles_told f b e (length m)).number ≡ 0) where
      clear : Clear b (length e) (length m) 23
      clear = ((handles_done b e (length m)).0 z).0

      each : Each (decoded b) e (entries e)
      each k r =
          laid_length (made f (decoded b) e k).handle
          (made_laid f sixteen (decoded b) e k (made f (decoded b) e k).handle (laid_decoded b clear.bytes)
          (made_given (decoded b) e k (((handles_done b e (length m)).0 z).1 k r)))

      is : handles_left f b e m ≡ all ++ drop (length all) m
      unfolding handles_left
      is = leaves_rest (handles_told f b e (length m)).number all m z

      fits : length all ≤ length m
      fits = let a = bytes_long (decoded b) e (entries e) each in let c = clear.long in omega arith

    stays : (handles_told f b e (length m)).number ≢ 0 → handles_left f b e m ≡ m
    unfolding handles_left
    stays z = leaves_all (handles_told f b e (length m)).number all m z

    in_words : HandlesInWords f b e m
    in_words =
        record {
          refused = stays;
          long = long (ℕ_discrete (handles_told f b e (length m)).number 0);
          laid = λ z k j r l.
              ap (λ (x : List ℕ). get_or x (23 * (k - 1) + j) 0) (is z)
              ∙ written_at all (drop (length all) m) (23 * (k - 1) + j)
              (let a = bytes_long (decoded b) e (entries e) (each z) in let x = r.0 in let y = r.1 in omega arith)
              ∙ bytes_at (decoded b) e (entries e) (each z) k j r l;
          behind = λ z i l.
              ap (λ (x : List ℕ). get_or x i 0) (is z)
              ∙ written_behind all m i (let a = bytes_long (decoded b) e (entries e) (each z) in omega arith);
        }
      where
        long : Dec ((handles_told f b e (length m)).number ≡ 0) → length (handles_left f b e m) ≡ length m
        long (yes z) = ap length (is z) ∙ written_long all m (fits z)
        long (no z) = ap length (stays z)

  pub handles_in_words : HandlesBuffer f
  handles_in_words sixteen b e m = in_words sixteen b e m

  -- ---- the second question

  openers_rise : (h : Handle) (e : List ℕ) (s n : ℕ) → Rises (opens f h e s) n (openers_up_to f h e s n)
  unfolding openers_up_to
  openers_rise h e s zero = rises_none (opens f h e s)
  openers_rise h e s (suc n) = go (opens f h e s (suc n)) refl (openers_rise h e s n)
    where
      go : (t : Bool) → opens f h e s (suc n) ≡ t → Rises (opens f h e s) n (openers_up_to f h e s n)
          → Rises (opens f h e s) (suc n) (openers_up_to f h e s n ++ one_if t (suc n))
      go true q r = rises_more (opens f h e s) n (openers_up_to f h e s n) r q
      go false q r =
          subst (Rises (opens f h e s) (suc n)) (sym (append-nil (openers_up_to f h e s n)))
          (rises_not (opens f h e s) n (openers_up_to f h e s n) r q)

  module _ (b e : List ℕ) (s room : ℕ) where
    abbrev told_first_lem : Told
    told_first_lem = openers_entry f b s e room

    number_is : (openers_told f b s e room).number ≡ (openers_entry f b s e room).number
    unfolding openers_told
    number_is = opened_number (openers_entry f b s e room) (length (openers_up_to f (decoded b) e s (entries e)))

    abbrev here : Type 0
    here = Clear b (length e) room 1 × (s ≤ 7)

    here_out : whole_number b (ltb 7 s) (length e) room 1 ≡ 0 → here
    here_out z = let c = going b (ltb 7 s) (length e) room 1 (sym z) in (c.0, ltb-false 7 s c.1)

    here_in : here → whole_number b (ltb 7 s) (length e) room 1 ≡ 0
    here_in (c, l) = clear_in b (ltb 7 s) (length e) room 1 c (le-ltb 7 s l)

    pub openers_done : OpenersDone f b e s room
    unfolding openers_entry
    openers_done = (
      λ z. done_out b e here (whole_number b (ltb 7 s) (length e) room 1) here_out here_in (sym number_is ∙ z),
      λ c. number_is ∙ done_in b e here (whole_number b (ltb 7 s) (length e) room 1) here_out here_in c,
    )

    pub openers_answer : OpenersAnswer f b e s room
    unfolding openers_told openers_entry
    openers_answer =
        let a = answers b e here (whole_number b (ltb 7 s) (length e) room 1) here_out here_in in
        record {
          whole = λ c. whole_opened (openers_entry f b s e room) (whole_number b (ltb 7 s) (length e) room 1)
              (length (openers_up_to f (decoded b) e s (entries e))) (λ z. c (here_out z)) (a.whole c);
          entry = λ c.
              lowest_opened (decoded b) e (openers_entry f b s e room) (length (openers_up_to f (decoded b) e s (entries e))) (a.entry c);
        }

  module _ (b e : List ℕ) (s : ℕ) (m : List ℕ) where
    abbrev those : List ℕ
    those = openers_up_to f (decoded b) e s (entries e)

    rise : Rises (opens f (decoded b) e s) (entries e) those
    rise = openers_rise (decoded b) e s (entries e)

    abbrev number : ℕ
    number = (openers_entry f b s e (length m)).number

    count_done : number ≡ 0 → (openers_told f b s e (length m)).count ≡ length those
    unfolding openers_told
    count_done = go number
      where
        go : (n : ℕ) → n ≡ 0 → (opened_as n (openers_entry f b s e (length m)).entry (length those)).count ≡ length those
        go zero z = refl
        go (suc n) z = absurd (omega arith)

    count_refused : number ≢ 0 → (openers_told f b s e (length m)).count ≡ 0
    unfolding openers_told
    count_refused = go number
      where
        go : (n : ℕ) → n ≢ 0 → (opened_as n (openers_entry f b s e (length m)).entry (length those)).count ≡ 0
        go zero z = absurd (z refl)
        go (suc n) z = refl

    left_done : number ≡ 0 → openers_left f b s e m ≡ those ++ drop (length those) m
    unfolding openers_left
    left_done z = leaves_rest number those m z

    left_refused : number ≢ 0 → openers_left f b s e m ≡ m
    unfolding openers_left
    left_refused z = leaves_all number those m z

    fits_those : number ≡ 0 → length those ≤ length m
    fits_those z =
        let r = rise.short in
        let c = ((openers_done b e s (length m)).0 (number_is b e s (length m) ∙ z)).0.0.long in
        omega arith

    abbrev told_count : ℕ
    told_count = (openers_told f b s e (length m)).count

    abbrev after : List ℕ
    after = openers_left f b s e m

    after_at : number ≡ 0 → (i : ℕ) → i < length those → get_or after i 0 ≡ get_or those i 0
    after_at z i l = ap (λ (x : List ℕ). get_or x i 0) (left_done z) ∙ written_at those (drop (length those) m) i l

    pub openers_in_words : OpenersInWords f b e s m
    openers_in_words =
        record {
          refused = λ z. let n : number ≢ 0 = λ y. z (number_is b e s (length m) ∙ y) in (left_refused n, count_refused n);
          long = long decided;
          rising = rising decided;
          exactly = λ z. exactly (sym (number_is b e s (length m)) ∙ z);
          behind = behind decided;
        }
      where
        decided : Dec (number ≡ 0)
        decided = ℕ_discrete number 0

        long : Dec (number ≡ 0) → length after ≡ length m
        long (yes z) = ap length (left_done z) ∙ written_long those m (fits_those z)
        long (no z) = ap length (left_refused z)

        rising : Dec (number ≡ 0) → (i j : ℕ) → i < j → j < told_count → get_or after i 0 < get_or after j 0
        rising (yes z) i j l h =
            let c = count_done z in
            subst (λ (x : ℕ). x < get_or after j 0) (sym (after_at z i (omega arith)))
            (subst (λ (x : ℕ). get_or those i 0 < x) (sym (after_at z j (omega arith))) (rise.rising i j l (omega arith)))
        rising (no z) i j l h = absurd (let c = count_refused z in omega arith)

        exactly : number ≡ 0 → (k : ℕ) → Listed after told_count k ↔ (IsRecord (entries e) k × (opens f (decoded b) e s k ≡ true))
        exactly z k = (
          λ l.
              subst (λ (k : ℕ). IsRecord (entries e) k × (opens f (decoded b) e s k ≡ true))
              (sym (after_at z l.place (let c = count_done z in let b = l.low in omega arith)) ∙ l.is)
              (rise.among l.place (let c = count_done z in let b = l.low in omega arith)),
          λ r. listed (rise.all k r.0 r.1),
        )
          where
            listed : Listed those (length those) k → Listed after told_count k
            listed l =
                record {
                  place = l.place;
                  low = let c = count_done z in let b = l.low in omega arith;
                  is = after_at z l.place l.low ∙ l.is;
                }

        behind : Dec (number ≡ 0) → (i : ℕ) → told_count ≤ i → get_or after i 0 ≡ get_or m i 0
        behind (yes z) i l =
            ap (λ (x : List ℕ). get_or x i 0) (left_done z)
            ∙ written_behind those m i (let c = count_done z in omega arith)
        behind (no z) i l = ap (λ (x : List ℕ). get_or x i 0) (left_refused z)
