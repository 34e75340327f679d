-- Parts written one after the other: before turn i the first i parts are those of the rule, the rest is as it was.
-- Assumes nothing.
use mathlib.Core.Path.{◌≡◌, refl, sym, ap, ◌∙◌, subst}
use mathlib.Core.List.{List, ◌++◌, append_assoc, append-nil}
use Prim.Native.Nat.{ℕ, ◌+◌, ◌*◌, ◌-◌, ◌≤◌, ◌<◌}
use native.Mathlib.Nat.{suc-mul, zero-mul, mul-le-mul_right}
use native.Mathlib.Numerals.{add-one}
use native.Mathlib.Omega.{arith}
use borrow.Rule.Slice.PartMut.{put_mid, mid_of, post_of, same_len_mid, mid_len}
use lib.ListN.{length, get_or, take, drop, length-append, drop_of_length-le}
use lib.Seq.{take_at, drop_at, drop-drop}
use Rattle.loops.proofs.TabulateLaws.{Filled, filled_all, tabulate_is}
use Rattle.image.specs.Parts.{joined}
use Rattle.image.proofs.PartLaws.{width}

-- a loop that copies n bytes
pub filled_copy : (n i : ℕ) (l b : List ℕ) → Filled n (λ k. get_or b k 0) 0 i l → n ≤ i → length b ≡ n → l ≡ b
filled_copy n i l b w h e =
    filled_all n (λ k. get_or b k 0) 0 i l w h ∙ sym (tabulate_is n (λ k. get_or b k 0) 0 b e (λ k q. refl))

joined_more : (n : ℕ) (f : ℕ → List ℕ) → joined n f ++ f n ≡ joined (n + 1) f
unfolding joined
joined_more n f = rw add-one

-- the front p of d has been written, and the part x after it
pub put_next : (p d out x : List ℕ) (a w : ℕ) → length p ≡ a → out ≡ p ++ drop a d → length x ≡ w
    → put_mid a (a + w - a) out x ≡ (p ++ x) ++ drop (a + w) d
put_next p d out x a w l e n =
    ap (λ (o : List ℕ). take a o ++ (x ++ post_of a (a + w - a) o)) e
    ∙ ap (λ (z : List ℕ). z ++ (x ++ post_of a (a + w - a) (p ++ drop a d))) (take_at p (drop a d) a l)
    ∙ ap (λ (z : List ℕ). p ++ (x ++ z))
    (ap (drop (a + w - a)) (drop_at p (drop a d) a l)
    ∙ drop-drop (a + w - a) a d
    ∙ ap (λ (k : ℕ). drop k d) (whole a w))
    ∙ sym (append_assoc p x (drop (a + w) d))
  where
    whole : (a w : ℕ) → a + (a + w - a) ≡ a + w
    whole a w = omega arith

-- i of the n parts, of w bytes each, have been written over d
pub record Written (w n : ℕ) (f : ℕ → List ℕ) (i : ℕ) (d out : List ℕ) : Type 0 where
  pub low : i ≤ n
  pub size : length out ≡ n * w
  pub head : length (joined i f) ≡ i * w
  pub list : out ≡ joined i f ++ drop (i * w) d

pub written_none : (w n : ℕ) (f : ℕ → List ℕ) (d : List ℕ) → length d ≡ n * w → Written w n f 0 d d
unfolding joined
written_none w n f d e =
    record {
      low = omega arith;
      size = e;
      head = sym (zero-mul w);
      list = ap (λ (k : ℕ). drop k d) (sym (zero-mul w));
    }

module _ (w n : ℕ) (f : ℕ → List ℕ) (i : ℕ) (d out : List ℕ) (g : Written w n f i d out) where
  times : (i + 1) * w ≡ i * w + w
  times = ap (λ (k : ℕ). k * w) (add-one i) ∙ suc-mul i w

  pub written_more : i < n → (x : List ℕ) → x ≡ f i → length x ≡ length (mid_of (i * w) (i * w + w - i * w) out)
      → Written w n f (i + 1) d (put_mid (i * w) (i * w + w - i * w) out x)
  written_more h x e same =
      record {
        low = omega arith;
        size = same_len_mid (i * w) (i * w + w - i * w) out x same ∙ g.size;
        head =
            ap length (sym (joined_more i f))
            ∙ length-append (joined i f) (f i)
            ∙ ap (λ (k : ℕ). k + length (f i)) g.head
            ∙ ap (λ (k : ℕ). i * w + k) (ap length (sym e) ∙ l)
            ∙ sym times;
        list =
            put_next (joined i f) d out x (i * w) w g.head g.list l
            ∙ ap (λ (z : List ℕ). (joined i f ++ z) ++ drop (i * w + w) d) e
            ∙ ap (λ (z : List ℕ). z ++ drop (i * w + w) d) (joined_more i f)
            ∙ ap (λ (k : ℕ). joined (i + 1) f ++ drop k d) (sym times);
      }
    where
      fits : i * w + w ≤ n * w
      fits = subst (λ (k : ℕ). k ≤ n * w) (suc-mul i w) (mul-le-mul_right w h)

      l : length x ≡ w
      l =
          same
          ∙ mid_len (i * w) (i * w + w) out (subst (λ (k : ℕ). i * w + w ≤ k) (sym g.size) fits)
          ∙ width (i * w) w

  pub written_all : n ≤ i → length d ≡ n * w → out ≡ joined n f
  written_all h e =
      let q : i ≡ n = omega arith in
      g.list
      ∙ ap (λ (k : ℕ). joined k f ++ drop (k * w) d) q
      ∙ ap (λ (z : List ℕ). joined n f ++ z)
      (drop_of_length-le d (subst (λ (k : ℕ). length d ≤ k) e (self (length d))))
      ∙ append-nil (joined n f)
    where
      self : (k : ℕ) → k ≤ k
      self k = omega arith
