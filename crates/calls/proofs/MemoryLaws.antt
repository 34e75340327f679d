-- Bytes overwritten, byte by byte: those in the part are the new ones, those out of it are as they were. So where one
-- part is put into two lists, they agree in it, and elsewhere where they agreed; and parts of two lists that agree byte by
-- byte are equal.
-- Assumes nothing.
use mathlib.Core.Path.{◌≡◌, sym, ap, ◌∙◌}
use Prim.Native.Nat.{ℕ, ◌+◌, ◌-◌, ◌≤◌, ◌<◌}
use native.Mathlib.Omega.{arith}
use native.Mathlib.Decide.{dec_lt}
use mathlib.Core.List.{List, ◌++◌}
use lib.ListN.{length, get_or, take, drop, length-append, length-drop, get_or-append}
use lib.Seq.{length-take-le, get_or-take, get_or-drop, get_or-append-add, ext_get_or, take-append_seam, drop-append_seam}
use Rattle.calls.specs.Steps.{overwritten}

module _ (m : List ℕ) (a : ℕ) (bs : List ℕ) (fit : a + length bs ≤ length m) where
  abbrev rest : List ℕ
  rest = drop (a + length bs) m

  length_head : length (take a m) ≡ a
  length_head = let h : a ≤ length m = omega arith in length-take-le a m h

  pub length_overwritten : length (overwritten m a bs) ≡ length m
  length_overwritten = simp (length-append (take a m) (bs ++ rest), length_head, length-append bs rest, length-drop)
      (omega arith)

  pub overwritten_before : (p : ℕ) → p < a → get_or (overwritten m a bs) p 0 ≡ get_or m p 0
  overwritten_before p h =
      get_or-append (take a m) (bs ++ rest) 0 p (rw length_head h) ∙ get_or-take a m p 0 h

  from : (q : ℕ) → get_or (overwritten m a bs) (a + q) 0 ≡ get_or (bs ++ rest) q 0
  from q =
      ap (λ (k : ℕ). get_or (overwritten m a bs) (k + q) 0) (sym length_head)
      ∙ get_or-append-add (take a m) (bs ++ rest) q 0

  pub overwritten_inside : (q : ℕ) → q < length bs → get_or (overwritten m a bs) (a + q) 0 ≡ get_or bs q 0
  overwritten_inside q h = from q ∙ get_or-append bs rest 0 q h

  after : (q : ℕ) → get_or (overwritten m a bs) (a + (length bs + q)) 0 ≡ get_or m (a + length bs + q) 0
  after q = from (length bs + q) ∙ get_or-append-add bs rest q 0 ∙ get_or-drop (a + length bs) m q 0

  pub overwritten_out : (p : ℕ) → (a ≤ p → p < a + length bs → ⊥) → get_or (overwritten m a bs) p 0 ≡ get_or m p 0
  overwritten_out p out = go (dec_lt p a) (dec_lt p (a + length bs))
    where
      go : Dec (p < a) → Dec (p < a + length bs) → get_or (overwritten m a bs) p 0 ≡ get_or m p 0
      go (yes h) d = overwritten_before p h
      go (no h) (yes k) = absurd (out (omega arith) k)
      go (no h) (no k) =
          let q : ℕ = p - (a + length bs) in
          let e : p ≡ a + (length bs + q) = omega arith in
          let e' : a + length bs + q ≡ p = omega arith in
          ap (λ (k : ℕ). get_or (overwritten m a bs) k 0) e ∙ after q ∙ ap (λ (k : ℕ). get_or m k 0) e'

pub overwritten_both : (m n : List ℕ) (a : ℕ) (bs : List ℕ) → a + length bs ≤ length m → a + length bs ≤ length n
    → (p : ℕ) → ((a ≤ p → p < a + length bs → ⊥) → get_or m p 0 ≡ get_or n p 0)
    → get_or (overwritten m a bs) p 0 ≡ get_or (overwritten n a bs) p 0
overwritten_both m n a bs fm fn p h = go (dec_lt p a) (dec_lt p (a + length bs))
  where
    go : Dec (p < a) → Dec (p < a + length bs) → get_or (overwritten m a bs) p 0 ≡ get_or (overwritten n a bs) p 0
    go (yes l) d =
        overwritten_before m a bs fm p l ∙ h (λ u v. omega arith) ∙ sym (overwritten_before n a bs fn p l)
    go (no l) (yes k) =
        let e : p ≡ a + (p - a) = omega arith in
        let u : p - a < length bs = omega arith in
        ap (λ (q : ℕ). get_or (overwritten m a bs) q 0) e
        ∙ overwritten_inside m a bs fm (p - a) u
        ∙ sym (overwritten_inside n a bs fn (p - a) u)
        ∙ ap (λ (q : ℕ). get_or (overwritten n a bs) q 0) (sym e)
    go (no l) (no k) =
        let out : a ≤ p → p < a + length bs → ⊥ = λ u v. omega arith in
        overwritten_out m a bs fm p out ∙ h out ∙ sym (overwritten_out n a bs fn p out)

pub part_same : (m n : List ℕ) (a k : ℕ) → a + k ≤ length m → length m ≡ length n
    → ((p : ℕ) → a ≤ p → p < a + k → get_or m p 0 ≡ get_or n p 0) → take k (drop a m) ≡ take k (drop a n)
part_same m n a k fit e h =
    ext_get_or 0 (take k (drop a m)) (take k (drop a n)) (len m fit ∙ sym (len n (omega arith)))
    (λ i l. go i (rw (len m fit) at l))
  where
    len : (z : List ℕ) → a + k ≤ length z → length (take k (drop a z)) ≡ k
    len z f = length-take-le k (drop a z) (simp length-drop (omega arith))

    go : (i : ℕ) → i < k → get_or (take k (drop a m)) i 0 ≡ get_or (take k (drop a n)) i 0
    go i l =
        get_or-take k (drop a m) i 0 l
        ∙ get_or-drop a m i 0
        ∙ h (a + i) (omega arith) (omega arith)
        ∙ sym (get_or-take k (drop a n) i 0 l ∙ get_or-drop a n i 0)

-- the part overwritten is what was put
pub part_overwritten : (m : List ℕ) (a : ℕ) (bs : List ℕ) → a + length bs ≤ length m
    → take (length bs) (drop a (overwritten m a bs)) ≡ bs
part_overwritten m a bs fit =
    ap (λ (k : ℕ). take (length bs) (drop k (overwritten m a bs))) (sym (length_head m a bs fit))
    ∙ ap (take (length bs)) (drop-append_seam (take a m) (bs ++ drop (a + length bs) m))
    ∙ take-append_seam bs (drop (a + length bs) m)
