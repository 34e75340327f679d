-- What the code reads from a handle's bytes and writes to them, at every width. A list of known length is the list of its
-- elements, so that taking parts of it, and bytes written out one by one, compute; the node and the subselectors alone are
-- arithmetic.
-- Assumes nothing.
use Prim.Native.Nat.{ℕ, ◌+◌, ◌/◌, ◌%◌, ◌≤◌}
use native.Mathlib.Omega.{arith}
use mathlib.Core.Path.{◌≡◌, refl, sym, ap, ap₂, ◌∙◌}
use mathlib.Core.Bool.{Bool, true, false}
use mathlib.Core.List.{List, [], ◌∷◌, ◌++◌}
use lib.Dec.{eqb}
use lib.ListN.{length, get_or, set, take, drop, replicate, length-drop}
use lib.Seq.{get_or-take, get_or-drop, length-take-le}
use borrow.Author.Tests.{eqb-true}
use borrow.Rule.Slice.PartMut.{put_mid}
use Rattle.bits.specs.Bytes.{bytes, word_from, word}
use Rattle.loops.specs.Tabulate.{tabulate}
use Rattle.loops.proofs.TabulateLaws.{tabulate_is}
use Rattle.handle.specs.declared.Handle.{Handle}
use Rattle.handle.specs.declared.HandleBytes.{HandleBytes}
use Rattle.handle.specs.declared.Width.{Width}
use Rattle.handle.specs.declared.Width.TheVariants.{None, Four, Eight, Sixteen}
use Rattle.sizes.specs.Sizes.{password_bytes}
use Rattle.handle.specs.Sizes.{node_bytes, selector_at}
use Rattle.handle.specs.Widths.{length_of, most_bytes, width_for, halves, packed, unpacked}
use Rattle.handle.specs.Handles.{encoded_as, encoded, written, laid, laid_with, before, held_with, decoded_as, decoded}

-- the first n elements of a list, one by one; they are the whole of a list of n
abbrev pub elements : ℕ → List ℕ → List ℕ
elements n l = tabulate n (λ k. get_or l k 0)

pub listed : (n : ℕ) (l : List ℕ) → length l ≡ n → l ≡ elements n l
listed n l e = tabulate_is n (λ k. get_or l k 0) 0 l e (λ k h. refl)

-- the n elements from a place on, one by one
abbrev pub elements_from : ℕ → ℕ → List ℕ → List ℕ
elements_from a n l = tabulate n (λ k. get_or l (a + k) 0)

pub part_is : (a n : ℕ) (l : List ℕ) → a + n ≤ length l → take n (drop a l) ≡ elements_from a n l
part_is a n l h =
    tabulate_is n (λ k. get_or l (a + k) 0) 0 (take n (drop a l))
    (length-take-le n (drop a l) (omega (arith, length-drop a l)))
    (λ k b. get_or-take n (drop a l) k 0 b ∙ get_or-drop a l k 0)

-- a handle of these parts
abbrev pub handle_of : ℕ → ℕ → List ℕ → Width → List ℕ → Handle
handle_of n l p v s = record { node = n; local = l; password = p; width = v; selector = s }

pub word_one : (a : ℕ) → word (a ∷ []) ≡ a
unfolding word word_from
word_one a = omega arith

-- ---- the width of a length

-- a length is none of the three, or that of a width
pub width_cases : (P : Width → Type 0) (n : ℕ) → P None → ((v : Width) → n ≡ length_of v → P v) → P (width_for n)
width_cases P n a b = go (eqb n (length_of Four)) refl
  where
    last : (x : Bool) → eqb n (length_of Sixteen) ≡ x → P (elim x [ true ↦ Sixteen | false ↦ None ])
    last true e = b Sixteen (eqb-true n (length_of Sixteen) e)
    last false e = a

    then : (x : Bool) → eqb n (length_of Eight) ≡ x
        → P (elim x [ true ↦ Eight | false ↦ elim (eqb n (length_of Sixteen)) [ true ↦ Sixteen | false ↦ None ] ])
    then true e = b Eight (eqb-true n (length_of Eight) e)
    then false e = last (eqb n (length_of Sixteen)) refl

    go : (x : Bool) → eqb n (length_of Four) ≡ x → P (elim x [
      | true ↦ Four
      | false ↦
          elim (eqb n (length_of Eight)) [
            | true ↦ Eight
            | false ↦ elim (eqb n (length_of Sixteen)) [ true ↦ Sixteen | false ↦ None ]
          ]
    ])
    go true e = b Four (eqb-true n (length_of Four) e)
    go false e = then (eqb n (length_of Eight)) refl

-- ---- what the code reads

module _ (b : List ℕ) (r : Handle) where
  abbrev at : ℕ → ℕ
  at k = get_or b (selector_at + k) 0

  pub decoded_four : length b ≡ length_of Four → (x y : ℕ) → x ≡ at 0 → y ≡ at 1
      → r ≡ held_with Four b (x % 16 ∷ x / 16 ∷ y % 16 ∷ y / 16 ∷ []) → r ≡ decoded b
  unfolding decoded unpacked
  decoded_four l x y ex ey e =
      e
      ∙ ap₂ (λ (p q : ℕ). held_with Four b (p % 16 ∷ p / 16 ∷ q % 16 ∷ q / 16 ∷ []))
      (ex ∙ sym (get_or-drop selector_at b 0 0)) (ey ∙ sym (get_or-drop selector_at b 1 0))
      ∙ ap (λ (n : ℕ). decoded_as (width_for n) b) (sym l)

  pub decoded_eight : length b ≡ length_of Eight → (x y z u : ℕ) → x ≡ at 0 → y ≡ at 1 → z ≡ at 2 → u ≡ at 3
      → r ≡ held_with Eight b (x ∷ y ∷ z ∷ u ∷ []) → r ≡ decoded b
  unfolding decoded unpacked tabulate
  decoded_eight l x y z u ex ey ez eu e =
      e
      ∙ (λ j.
      held_with Eight b
      ((ex ∙ sym (word_one (at 0))) j ∷ (ey ∙ sym (word_one (at 1))) j ∷ (ez ∙ sym (word_one (at 2))) j
      ∷ (eu ∙ sym (word_one (at 3))) j ∷ []))
      ∙ ap (λ (m : List ℕ). held_with Eight b (unpacked Eight (drop selector_at m))) (sym (listed (length_of Eight) b l))
      ∙ ap (λ (n : ℕ). decoded_as (width_for n) b) (sym l)

  pub decoded_sixteen : length b ≡ length_of Sixteen → (x y z u : ℕ)
      → x ≡ word (at 0 ∷ at 1 ∷ []) → y ≡ word (at 2 ∷ at 3 ∷ []) → z ≡ word (at 4 ∷ at 5 ∷ [])
      → u ≡ word (at 6 ∷ at 7 ∷ []) → r ≡ held_with Sixteen b (x ∷ y ∷ z ∷ u ∷ []) → r ≡ decoded b
  unfolding decoded unpacked tabulate
  decoded_sixteen l x y z u ex ey ez eu e =
      e
      ∙ (λ j. held_with Sixteen b (ex j ∷ ey j ∷ ez j ∷ eu j ∷ []))
      ∙ ap (λ (m : List ℕ). held_with Sixteen b (unpacked Sixteen (drop selector_at m)))
      (sym (listed (length_of Sixteen) b l))
      ∙ ap (λ (n : ℕ). decoded_as (width_for n) b) (sym l)

-- ---- what the code writes

abbrev bytes_of : ℕ → List ℕ → HandleBytes
bytes_of n b = record { length = n; bytes = b }

module _ (h : Handle) (lp : length h.password ≡ password_bytes) where
  abbrev listed_before : List ℕ → List ℕ
  listed_before t = bytes node_bytes h.node ++ (h.local ∷ []) ++ elements password_bytes h.password ++ t

  before_listed : (t : List ℕ) → before h t ≡ listed_before t
  before_listed t = ap (λ (p : List ℕ). bytes node_bytes h.node ++ (h.local ∷ []) ++ p ++ t) (listed password_bytes h.password lp)

  -- zeros, and over them the node, the local number, the password and the bytes after it, as the code has them
  pub laid_is : (n : ℕ) (b m q u t : List ℕ) → b ≡ h.node / 256 % 256 ∷ h.node % 256 ∷ [] → m ≡ b → q ≡ h.password → u ≡ t
      → length t ≡ 8
      → bytes_of n (put_mid 19 8 (put_mid 3 16 (set (m ++ replicate 25 0) 2 h.local) q) u) ≡ laid_with h n t
  unfolding bytes tabulate
  laid_is n b m q u t eb em eq eu lt =
      (λ j.
      bytes_of n
      (put_mid 19 8 (put_mid 3 16 (set ((em ∙ eb) j ++ replicate 25 0) 2 h.local) ((eq ∙ listed password_bytes h.password lp) j))
      ((eu ∙ listed 8 t lt) j)))
      ∙ ap (bytes_of n) (ap listed_before (sym (listed 8 t lt)) ∙ sym (before_listed t))

  -- the bytes u are the bytes t and zeros after them
  spread : (n : ℕ) (t u : List ℕ)
      → bytes_of n (listed_before u) ≡ laid (listed_before t)
      → laid_with h n u ≡ laid (before h t)
  spread n t u e =
      ap (λ (b : List ℕ). bytes_of n b) (before_listed u) ∙ e
      ∙ ap laid (sym (before_listed t))

  abbrev sub : ℕ → ℕ
  sub k = get_or h.selector k 0

  module _ (v : Width) (e : h.width ≡ v) where
    written_as : (r : HandleBytes) → r ≡ laid (encoded_as v h) → r ≡ written h
    unfolding written encoded
    written_as r er = er ∙ ap (λ (w : Width). laid (encoded_as w h)) (sym e)

  pub written_none : h.width ≡ None → bytes_of 0 (replicate most_bytes 0) ≡ written h
  written_none e = written_as None e (bytes_of 0 (replicate most_bytes 0)) refl

  module _ (r : HandleBytes) where
    pub written_four : h.width ≡ Four → (a b : ℕ) → a ≡ halves (sub 0) (sub 1) → b ≡ halves (sub 2) (sub 3)
        → r ≡ laid_with h (length_of Four) (a ∷ b ∷ 0 ∷ 0 ∷ 0 ∷ 0 ∷ 0 ∷ 0 ∷ []) → r ≡ written h
    unfolding packed bytes tabulate
    written_four e a b ea eb er =
        written_as Four e r
        (er ∙ (λ j. laid_with h (length_of Four) (ea j ∷ eb j ∷ 0 ∷ 0 ∷ 0 ∷ 0 ∷ 0 ∷ 0 ∷ []))
        ∙ spread (length_of Four) (packed Four h.selector)
        (halves (sub 0) (sub 1) ∷ halves (sub 2) (sub 3) ∷ 0 ∷ 0 ∷ 0 ∷ 0 ∷ 0 ∷ 0 ∷ []) refl)

    -- the two bytes of a subselector
    abbrev two : ℕ → List ℕ
    two k = sub k / 256 % 256 ∷ sub k % 256 ∷ []

    pub written_eight : h.width ≡ Eight → (a b c d : List ℕ) → a ≡ two 0 → b ≡ two 1 → c ≡ two 2 → d ≡ two 3
        → r ≡ laid_with h (length_of Eight) (get_or a 1 0 ∷ get_or b 1 0 ∷ get_or c 1 0 ∷ get_or d 1 0 ∷ 0 ∷ 0 ∷ 0 ∷ 0 ∷ [])
        → r ≡ written h
    unfolding packed bytes tabulate
    written_eight e a b c d ea eb ec ed er =
        written_as Eight e r
        (er
        ∙ (λ j.
        laid_with h (length_of Eight)
        (get_or (ea j) 1 0 ∷ get_or (eb j) 1 0 ∷ get_or (ec j) 1 0 ∷ get_or (ed j) 1 0 ∷ 0 ∷ 0 ∷ 0 ∷ 0 ∷ []))
        ∙ spread (length_of Eight) (packed Eight h.selector)
        (sub 0 % 256 ∷ sub 1 % 256 ∷ sub 2 % 256 ∷ sub 3 % 256 ∷ 0 ∷ 0 ∷ 0 ∷ 0 ∷ []) refl)

    pub written_sixteen : h.width ≡ Sixteen → (a b c d : List ℕ) → a ≡ two 0 → b ≡ two 1 → c ≡ two 2 → d ≡ two 3
        → r ≡ laid_with h (length_of Sixteen)
        (get_or a 0 0 ∷ get_or a 1 0 ∷ get_or b 0 0 ∷ get_or b 1 0 ∷ get_or c 0 0 ∷ get_or c 1 0 ∷ get_or d 0 0 ∷ get_or d 1 0 ∷ [])
        → r ≡ written h
    unfolding packed bytes tabulate
    written_sixteen e a b c d ea eb ec ed er =
        written_as Sixteen e r
        (er
        ∙ (λ j.
        laid_with h (length_of Sixteen)
        (get_or (ea j) 0 0 ∷ get_or (ea j) 1 0 ∷ get_or (eb j) 0 0 ∷ get_or (eb j) 1 0 ∷ get_or (ec j) 0 0 ∷ get_or (ec j) 1 0
        ∷ get_or (ed j) 0 0 ∷ get_or (ed j) 1 0 ∷ []))
        ∙ spread (length_of Sixteen) (packed Sixteen h.selector) (two 0 ++ two 1 ++ two 2 ++ two 3) refl)
