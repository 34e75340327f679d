-- Laws of lines. Words are put one after another, a space before each; what a call done gives goes by its code; a
-- line is its first word, the words after it and the line feed. A buffer with room takes the line whole; that of a refused call
-- stops at its number, whatever that is.
-- Assumes nothing.
use Prim.Native.Nat.{ℕ, ◌+◌, ◌≤◌, ◌<◌}
use native.Mathlib.Omega.{arith}
use mathlib.Core.Path.{◌≡◌, refl, sym, ap, ◌∙◌, subst}
use mathlib.Core.Bool.{and-true}
use mathlib.Core.List.{List, [], ◌∷◌, ◌++◌, append_assoc, append-nil}
use lib.ListN.{length, take, drop}
use borrow.Author.Tests.{ne_eqb, le-leb}
use Rattle.sizes.specs.Sizes.{node_memory}
use Rattle.handle.specs.Handles.{bytes_in}
use Rattle.std.specs.Prelude.{Ok, Err}
use Rattle.numbers.specs.declared.Number.{Number}
use Rattle.numbers.specs.Codes as numbers
use Rattle.numbers.proofs.ToldLaws.{code_above}
use Rattle.handle.specs.declared.HandleBytes.{HandleBytes}
use Rattle.calls.specs.declared.Given.{Given}
use Rattle.calls.specs.declared.Code.{Code}
use Rattle.calls.specs.declared.Code.TheVariants.{NewCluster, Read, Weaken, Reduce, NewPassword, Join}
use Rattle.calls.specs.Codes.{code}
use Rattle.calls.specs.Answers as calls
use Rattle.calls.specs.Answers.{first, second, count}
use Rattle.lines.specs.declared.Line.{Line}
use Rattle.lines.specs.Text.{space, line_feed, decimal, hexadecimal}
use Rattle.lines.specs.Lines.{Answer, plain, spaced, line, gives, told, call_line, word_line}
use Rattle.lines.specs.Buffers.{byte_digits, longest_head, longest, longest_with, call_line_within, stopped_within, StopsWithin, word_line_within, Begins, Adds}
use Rattle.lines.proofs.PutLaws.{adds_none, adds_then}

-- ---- words

spaced_append : (ws vs : List (List ℕ)) → spaced (ws ++ vs) ≡ spaced ws ++ spaced vs
unfolding spaced
spaced_append [] vs = refl
spaced_append (w ∷ ws) vs =
    ap (λ (l : List ℕ). (space ∷ w) ++ l) (spaced_append ws vs) ∙ sym (append_assoc (space ∷ w) (spaced ws) (spaced vs))

module _ (l m n : Line) where
  pub adds_spaced : (w : List ℕ) → Adds l m (space ∷ []) → Adds m n w → Adds l n (spaced (w ∷ []))
  unfolding spaced
  adds_spaced w p q = rw (append-nil (space ∷ w)) (adds_then l m n (space ∷ []) w p q)

  pub adds_words : (ws vs : List (List ℕ)) → Adds l m (spaced ws) → Adds m n (spaced vs) → Adds l n (spaced (ws ++ vs))
  adds_words ws vs p q = rw (spaced_append ws vs) (adds_then l m n (spaced ws) (spaced vs) p q)

pub adds_head : (l m n o : Line) (w v u : List ℕ) → Adds l m w → Adds m n (spaced (v ∷ [])) → Adds n o (spaced (u ∷ []))
    → Adds l o (w ++ spaced (v ∷ u ∷ []))
adds_head l m n o w v u x y z = adds_then l m o w (spaced (v ∷ u ∷ [])) x (adds_words m n o (v ∷ []) (u ∷ []) y z)

-- ---- what a call done gives

module _ (g : Given) (byte : ℕ) (s : List ℕ) where
  module _ (l m n : Line) (c : Code) (ec : code c ≡ byte) (a : HandleBytes) (ea : a ≡ first g)
      (x : Adds l m (spaced (hexadecimal (bytes_in a) ∷ []))) where
    handle_told : Adds l m (spaced (hexadecimal (bytes_in (first g)) ∷ []))
    handle_told = subst (λ (h : HandleBytes). Adds l m (spaced (hexadecimal (bytes_in h) ∷ []))) ea x

    pub told_handles : c ≡ NewCluster → (b : HandleBytes) → b ≡ second g
        → Adds m n (spaced (hexadecimal (bytes_in b) ∷ [])) → Adds l n (spaced (gives byte (plain (Ok g)) s))
    unfolding gives
    told_handles q b eb y =
        subst (λ (k : ℕ). Adds l n (spaced (gives k (plain (Ok g)) s))) (ap code (sym q) ∙ ec)
        (adds_words l m n _ _ handle_told
        (subst (λ (h : HandleBytes). Adds m n (spaced (hexadecimal (bytes_in h) ∷ []))) eb y))

    pub told_count : c ≡ Weaken → (k : ℕ) → k ≡ count g → Adds m n (spaced (decimal k ∷ []))
        → Adds l n (spaced (gives byte (plain (Ok g)) s))
    unfolding gives
    told_count q k ek y =
        subst (λ (k : ℕ). Adds l n (spaced (gives k (plain (Ok g)) s))) (ap code (sym q) ∙ ec)
        (adds_words l m n _ _ handle_told (subst (λ (d : ℕ). Adds m n (spaced (decimal d ∷ []))) ek y))

  pub told_unknown : (l : Line) → ((c : Code) → code c ≡ byte → ⊥) → Adds l l (spaced (gives byte (plain (Ok g)) s))
  unfolding gives spaced
  told_unknown l f =
      rw (
        ne_eqb byte 1 (λ q. f NewCluster (sym q)),
        ne_eqb byte 8 (λ q. f Reduce (sym q)),
        ne_eqb byte 9 (λ q. f NewPassword (sym q)),
        ne_eqb byte 11 (λ q. f Join (sym q)),
        ne_eqb byte 5 (λ q. f Read (sym q)),
        ne_eqb byte 7 (λ q. f Weaken (sym q)),
      )
      (adds_none l)

-- ---- whole lines

pub call_line_fits : (room k c : ℕ) (a : Answer) (s : List ℕ) → longest ≤ room → length s ≤ node_memory
    → call_line_within room k c a s ≡ call_line k c a s
unfolding call_line_within
call_line_fits room k c a s wide short = rw (le-leb longest room wide, le-leb (length s) node_memory short)

-- where nothing is told, the line stops at the number
stopped_untold : (room k c : ℕ) (a : Answer) (s : List ℕ) → told c a s ≡ [] → length s ≤ node_memory
    → call_line_within room k c a s ≡ stopped_within room k c a.number
unfolding call_line_within stopped_within call_line
stopped_untold room k c a s e short = rw (le-leb (length s) node_memory short, and-true, e) refl

pub stops_within : StopsWithin
unfolding told
stops_within room k c a s n short = stopped_untold room k c a s (rw (ne_eqb a.number 0 n) refl) short

-- of a refused call nothing is told
refused_untold : (c : ℕ) (n : Number) (s : List ℕ) → told c (plain (Err n)) s ≡ []
unfolding told
refused_untold c n s = rw (ne_eqb (numbers.code n) 0 (code_above n)) refl

-- the line that stops at the number is that of the refused call
pub refused_begins : (before after : List ℕ) (r k c : ℕ) (a : calls.Answer) (s : List ℕ) (n : Number) → a ≡ Err n
    → length s ≤ node_memory → (v : ℕ) → v ≡ numbers.code n
    → Begins before after r (stopped_within (length before) k c v)
    → Begins before after r (call_line_within (length before) k c (plain a) s)
refused_begins before after r k c a s n e short v ev b =
    subst (Begins before after r)
    (ap (stopped_within (length before) k c) ev
    ∙ sym (stopped_untold (length before) k c (plain (Err n)) s (refused_untold c n s) short)
    ∙ ap (λ (w : calls.Answer). call_line_within (length before) k c (plain w) s) (sym e))
    b

pub word_line_fits : (room : ℕ) (w : List ℕ) (n : ℕ) → longest_with w ≤ room → word_line_within room w n ≡ word_line w n
unfolding word_line_within
word_line_fits room w n wide = rw (le-leb (longest_with w) room wide)

module _ (before after : List ℕ) (l m n o : Line) (r : ℕ) (held : l.out.now ≡ before) (ends : o.at ≡ r)
    (same : l.out.ghost_name ≡ o.out.ghost_name → after ≡ o.out.now) (begun : l.at ≡ 0) where
  -- what the buffer holds when the line is put down is what the line holds, since it is the same buffer
  begins_adds : (text : List ℕ) → Adds l o text → r ≤ length before → Begins before after r text
  begins_adds text a h =
      record {
        size = omega (arith, a.ends);
        room = h;
        start =
            ap (take r) (same (sym a.same_buffer)) ∙ ap (λ (k : ℕ). take k o.out.now) (sym ends)
            ∙ a.start ∙ ap (λ (k : ℕ). take k l.out.now ++ text) begun;
        rest =
            ap (drop r) (same (sym a.same_buffer)) ∙ ap (λ (k : ℕ). drop k o.out.now) (sym ends)
            ∙ a.rest ∙ ap (λ (k : ℕ). drop k l.out.now) ends ∙ ap (drop r) held;
      }

  module _ (k c : ℕ) (wide : longest ≤ length before) where
    pub call_whole : (a : calls.Answer) (g : Given) (s : List ℕ) → a ≡ Ok g → length s ≤ node_memory → n.at < longest
        → Adds l m (decimal k ++ spaced (decimal c ∷ decimal 0 ∷ []))
        → Adds m n (spaced (gives c (plain (Ok g)) s)) → Adds n o (line_feed ∷ [])
        → Begins before after r (call_line_within (length before) k c (plain a) s)
    unfolding call_line told line
    call_whole a g s e short b x y z =
        rw (e, call_line_fits (length before) k c (plain (Ok g)) s wide short)
        (begins_adds _ (adds_then l n o _ _ words z) (let f = z.ends in omega arith))
      where
        words : Adds l n (decimal k ++ spaced (decimal c ∷ decimal 0 ∷ gives c (plain (Ok g)) s))
        words =
            rw (spaced_append (decimal c ∷ decimal 0 ∷ []) (gives c (plain (Ok g)) s), ← append_assoc)
            (adds_then l m n _ _ x y)

    pub stopped_whole : (v : ℕ) → m.at ≤ l.at + longest_head
        → Adds l m (decimal k ++ spaced (decimal c ∷ decimal v ∷ [])) → Adds m o (line_feed ∷ [])
        → Begins before after r (stopped_within (length before) k c v)
    unfolding stopped_within line
    stopped_whole v b x z =
        rw (le-leb longest (length before) wide)
        (begins_adds _ (adds_then l m o _ _ x z) (let f = z.ends in omega arith))

  module _ (w : List ℕ) (k : ℕ) where
    pub word_whole : longest_with w ≤ length before → n.at ≤ m.at + (1 + byte_digits)
        → Adds l m w → Adds m n (spaced (decimal k ∷ [])) → Adds n o (line_feed ∷ [])
        → Begins before after r (word_line_within (length before) w k)
    unfolding word_line line
    word_whole wide b x y z =
        rw (word_line_fits (length before) w k wide)
        (begins_adds _ (adds_then l n o _ _ (adds_then l m n w _ x y) z)
        (let f = z.ends in let g = x.ends in omega arith))
