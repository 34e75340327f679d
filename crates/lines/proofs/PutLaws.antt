-- Laws of text that is put into a line: one text after another, bytes, a number. The loop puts bytes in hexadecimal: after i
-- turns the text of the first i bytes is put.
-- Assumes nothing.
use Prim.Native.Nat.{ℕ, ◌+◌, ◌-◌, ◌/◌, ◌%◌, ◌≤◌, ◌<◌}
use native.Mathlib.Omega.{arith}
use mathlib.Core.Path.{◌≡◌, refl, sym, ap, ◌∙◌}
use mathlib.Core.List.{List, [], ◌∷◌, ◌++◌, append_assoc, append-nil}
use lib.ListN.{length, take, drop, get_or, length-append, length-take, length-drop}
use lib.Seq.{take_all, drop-drop}
use borrow.Rule.Slice.Mut.{set_vals}
use borrow.Rule.Slice.PartMut.{put_mid, same_len_mid}
use Rattle.std.proofs.lemmas.Slice.{take-put_mid, drop-put_mid}
use Rattle.lines.specs.declared.Line.{Line}
use Rattle.lines.specs.Text.{digit, decimal, hexadecimal}
use Rattle.lines.specs.Buffers.{Room, Adds}
use Rattle.lines.proofs.TextLaws.{decimal_ones, decimal_tens, decimal_hundreds, hexadecimal_more}

pub adds_none : (l : Line) → Adds l l []
adds_none l =
    record {
      same_buffer = refl;
      kept = refl;
      ends = omega arith;
      start = sym (append-nil (take l.at l.out.now));
      rest = refl;
    }

pub adds_then : (l m n : Line) (xs ys : List ℕ) → Adds l m xs → Adds m n ys → Adds l n (xs ++ ys)
adds_then l m n xs ys p q =
    record {
      same_buffer = q.same_buffer ∙ p.same_buffer;
      kept = q.kept ∙ p.kept;
      ends = simp length-append (omega (arith, p.ends, q.ends));
      start = q.start ∙ ap (λ (b : List ℕ). b ++ ys) p.start ∙ append_assoc (take l.at l.out.now) xs ys;
      rest =
          q.rest
          ∙ rw (q.ends, ← drop-drop (length ys) m.at m.out.now, ← drop-drop (length ys) m.at l.out.now)
          (ap (drop (length ys)) p.rest);
    }

-- ---- bytes

module _ (l : Line) (text part : List ℕ) (room : Room l (length text)) (e : part ≡ text) where
  abbrev end : ℕ
  end = l.at + length text

  pub adds_part : Adds l (record { out = set_vals (put_mid l.at (end - l.at) l.out.now part) l.out; at = end }) text
  adds_part =
      record {
        same_buffer = refl;
        kept = same_len_mid l.at (end - l.at) l.out.now part (simp (length-take, length-drop) (omega (arith, ap length e)));
        ends = refl;
        start = take-put_mid l.at (end - l.at) l.out.now part end (omega (arith, ap length e)) (omega arith) ∙ ap (λ (b : List ℕ). take l.at l.out.now ++ b) e;
        rest = drop-put_mid l.at (end - l.at) l.out.now part end (omega arith) (omega arith) (omega (arith, ap length e));
      }

-- ---- a number

module _ (l m : Line) (n : ℕ) where
  pub adds_ones : n < 10 → Adds l m ((48 + n) ∷ []) → Adds l m (decimal n)
  adds_ones h a = rw (decimal_ones n h) a

  pub adds_tens : 10 ≤ n → n < 100 → Adds l m ((48 + n / 10) ∷ (48 + n % 10) ∷ []) → Adds l m (decimal n)
  adds_tens g h a = rw (decimal_tens n g h) a

  pub adds_hundreds : 100 ≤ n → n < 256 → Adds l m ((48 + n / 100) ∷ (48 + n / 10 % 10) ∷ (48 + n % 10) ∷ [])
      → Adds l m (decimal n)
  adds_hundreds g h a = rw (decimal_hundreds n g (omega arith)) a

-- ---- bytes in hexadecimal

pub hexadecimal_none : (l : Line) (bs : List ℕ) → Adds l l (hexadecimal (take 0 bs))
unfolding hexadecimal
hexadecimal_none l bs = adds_none l

module _ (l m : Line) (bs : List ℕ) (i : ℕ) (so_far : Adds l m (hexadecimal (take i bs))) where
  pub hexadecimal_next : (n : Line) (x y : ℕ) → Adds m n (x ∷ y ∷ [])
      → i < length bs → x ≡ digit (get_or bs i 0 / 16) → y ≡ digit (get_or bs i 0 % 16)
      → Adds l n (hexadecimal (take (i + 1) bs))
  hexadecimal_next n x y a h e f = rw (hexadecimal_more bs i h, ← e, ← f) (adds_then l m n _ _ so_far a)

  pub hexadecimal_all : length bs ≤ i → Adds l m (hexadecimal bs)
  hexadecimal_all h = rw (take_all i bs h) at so_far
