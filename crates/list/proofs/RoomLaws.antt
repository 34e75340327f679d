-- The room for a text. Where a list is not quiet there is a longest line for each record; where it is, each line is
-- brief, and a longest one fits after them all.
-- Assumes nothing.
use mathlib.Core.Path.{◌≡◌, refl, sym, ap, ◌∙◌}
use Prim.Native.Nat.{ℕ, zero, suc, ◌+◌, ◌-◌, ◌*◌, ◌≤◌, ◌<◌}
use native.Mathlib.Omega.{arith}
use mathlib.Core.Bool.{Bool, true, false, not, ◌&&◌, cond, false≢true}
use mathlib.Core.List.{List}
use borrow.Author.Tests.{eq-eqb}
use lib.Dec.{eqb}
use lib.ListN.{take, drop}
use lib.Seq.{drop-drop}
use Rattle.loops.specs.Below.{every}
use Rattle.loops.proofs.BelowLaws.{and_left, and_right, and_both, every_at, every_in, every_same, tests_equal}
use Rattle.std.specs.List.{list_all}
use Rattle.std.specs.Simd.{first_chunks}
use Rattle.chain.specs.Bytes.{count}
use Rattle.lines.specs.Lines.{end_word}
use Rattle.lines.specs.Buffers.{longest, brief, longest_with}
use Rattle.list.specs.Records.{record_bytes, record_in, code_of}
use Rattle.list.specs.Texts.{most_text, brief_text, is_read, quiet, room_for}
use Rattle.list.specs.inner.Loops.{Ends}

-- ---- the records of a list, one after the other

first_and : (n : ℕ) (q : ℕ → Bool) → q 0 && every n (λ i. q (suc i)) ≡ every (suc n) q
first_and n q =
    tests_equal (q 0 && every n (λ i. q (suc i))) (every (suc n) q)
    (λ e. every_in (suc n) q (λ k h. at k h (and_left (q 0) _ e) (every_at n (λ i. q (suc i)) (and_right (q 0) _ e))))
    (λ e.
    and_both (q 0) (every n (λ i. q (suc i))) (every_at (suc n) q e 0 (omega arith))
    (every_in n (λ i. q (suc i)) (λ k h. every_at (suc n) q e (suc k) (omega arith))))
  where
    at : (k : ℕ) → k < suc n → q 0 ≡ true → ((i : ℕ) → i < n → q (suc i) ≡ true) → q k ≡ true
    at zero h a f = a
    at (suc k) h a f = f k (omega arith)

chunks_every : (p : List ℕ → Bool) (n : ℕ) (xs : List ℕ)
    → list_all p (first_chunks record_bytes n xs) ≡ every n (λ i. p (take record_bytes (drop (i * record_bytes) xs)))
unfolding every
chunks_every p zero xs = refl
chunks_every p (suc n) xs =
    ap (λ (t : Bool). p (take record_bytes xs) && t)
    (chunks_every p n (drop record_bytes xs)
    ∙ every_same n _ _ (λ i h. ap (λ (l : List ℕ). p (take record_bytes l))
    (drop-drop (i * record_bytes) record_bytes xs ∙ ap (λ (j : ℕ). drop j xs) (later i))))
    ∙ first_and n (λ i. p (take record_bytes (drop (i * record_bytes) xs)))
  where
    later : (i : ℕ) → record_bytes + i * record_bytes ≡ suc i * record_bytes
    later i = omega arith

module _ (list : List ℕ) where
  -- ---- a quiet list

  pub chunks_quiet : (t : Bool)
      → t ≡ list_all (λ (r : List ℕ). not (eqb (code_of r) 5)) (first_chunks record_bytes (count list record_bytes) list)
      → t ≡ quiet list
  unfolding quiet
  chunks_quiet t e =
      e ∙ chunks_every (λ (r : List ℕ). not (eqb (code_of r) 5)) (count list record_bytes) list
      ∙ every_same (count list record_bytes) _ _ (λ i h. ap (λ (j : ℕ). not (eqb (code_of (take record_bytes (drop (j * record_bytes) list))) 5)) (back i))
    where
      back : (i : ℕ) → i ≡ suc i - 1
      back i = omega arith

  pub quiet_at : quiet list ≡ true → (k : ℕ) → 1 ≤ k → k ≤ count list record_bytes → code_of (record_in list k) ≡ 5 → ⊥
  unfolding quiet
  quiet_at q zero a b e = absurd (omega arith)
  quiet_at q (suc i) a b e =
      false≢true
      (sym (ap not (eq-eqb (code_of (record_in list (suc i))) 5 e))
      ∙ every_at (count list record_bytes) (λ j. not (is_read list (suc j))) q i (omega arith))

  -- ---- the room of a list

  module _ (t : Bool) (told : t ≡ quiet list) where
    pub room_quiet : t ≡ true → brief_text ≡ room_for list
    unfolding room_for
    room_quiet e = ap (λ (u : Bool). cond u brief_text most_text) (sym e ∙ told)

    pub room_loud : t ≡ false → most_text ≡ room_for list
    unfolding room_for
    room_loud e = ap (λ (u : Bool). cond u brief_text most_text) (sym e ∙ told)

  pub room_most : room_for list ≤ most_text
  unfolding room_for
  room_most = go (quiet list)
    where
      go : (t : Bool) → cond t brief_text most_text ≤ most_text
      go true = omega arith
      go false = omega arith

  -- ---- the lines of some records

  pub ends_none : Ends list 0 0
  ends_none = record { long = omega arith; short = λ q. omega arith }

  pub ends_more : (i end w : ℕ) → Ends list i end → w ≤ longest → (quiet list ≡ true → w ≤ brief)
      → Ends list (i + 1) (end + w)
  ends_more i end w e l b =
      record {
        long = let h : end ≤ i * longest = e.long in omega arith;
        short = λ q. let h : end ≤ i * brief = e.short q in let g : w ≤ brief = b q in omega arith;
      }

  module _ (n i end : ℕ) (enough : room_for list ≤ n) (ends : Ends list i end) where
    by_room : (P : Type 0) → (most_text ≤ n → end ≤ i * longest → P) → (brief_text ≤ n → end ≤ i * brief → P) → P
    unfolding room_for
    by_room P f g = go (quiet list) refl enough
      where
        go : (t : Bool) → quiet list ≡ t → cond t brief_text most_text ≤ n → P
        go true q h = g h (ends.short q)
        go false q h = f h ends.long

    -- one more record's line, and the last line
    pub room_line : i < 255 → end + longest ≤ n
    room_line l = by_room (end + longest ≤ n) (λ h e. omega arith) (λ h e. omega arith)

    pub room_last : i ≤ 255 → end + longest_with end_word ≤ n
    room_last l = by_room (end + longest_with end_word ≤ n) (λ h e. omega arith) (λ h e. omega arith)
