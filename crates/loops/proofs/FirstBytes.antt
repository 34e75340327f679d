-- Bytes taken by value from a part: a short one gives zeros, a loop over the others copies them, and a part of just that
-- length is given whole.
-- Assumes nothing.
use mathlib.Core.Path.{◌≡◌, refl, sym, ap, ◌∙◌}
use mathlib.Core.Bool.{Bool, true, false}
use mathlib.Core.List.{List}
use Prim.Native.Nat.{ℕ, ◌≤◌, ◌<◌}
use native.Mathlib.Omega.{arith}
use lib.Dec.{ltb}
use lib.ListN.{length, get_or, take, replicate}
use lib.Seq.{ext_get_or, get_or-take, length-take-le, take_all}
use borrow.Author.Tests.{lt-ltb, le-ltb}
use Rattle.loops.specs.First.{first_bytes}
use Rattle.loops.proofs.TabulateLaws.{Filled}

module _ (n : ℕ) (b : List ℕ) where
  abbrev chosen : Bool → List ℕ
  chosen t = elim t [ true ↦ replicate n 0 | false ↦ take n b ]

  pub first_short : length b < n → replicate n 0 ≡ first_bytes n b
  first_short h = sym (ap chosen (lt-ltb (length b) n h))

  first_taken : n ≤ length b → take n b ≡ first_bytes n b
  first_taken h = sym (ap chosen (le-ltb (length b) n h))

  pub first_whole : length b ≡ n → first_bytes n b ≡ b
  first_whole e = sym (first_taken (omega arith)) ∙ take_all n b (omega arith)

  pub first_copied : n ≤ length b → (i : ℕ) (l : List ℕ) → Filled n (λ k. get_or b k 0) 0 i l → n ≤ i → l ≡ first_bytes n b
  first_copied h i l w q = ext_get_or 0 l (take n b) (w.size ∙ sym (length-take-le n b h)) same ∙ first_taken h
    where
      same : (k : ℕ) → k < length l → get_or l k 0 ≡ get_or (take n b) k 0
      same k m =
          let e = w.size in
          w.at k (omega arith) ∙ sym (get_or-take n b k 0 (omega arith))
