-- Row 9's test in words: by the mode that the call needs, the chain starts from one primary password or from the other.
-- Where the field row does not apply, the mode needed is one of the two.
-- Assumes nothing.
use mathlib.Core.Path.{◌≡◌, refl, sym, ap}
use mathlib.Core.Logic.{◌⊎◌, inl, inr}
use Prim.Native.Nat.{ℕ}
use native.Mathlib.Omega.{arith}
use mathlib.Core.Bool.{Bool, true, false, not, ◌&&◌, ◌||◌, and-false}
use mathlib.Core.List.{List, [], ◌∷◌}
use lib.Dec.{eqb}
use borrow.Author.Tests.{eqb-true}
use lib.ListN.{length}
use Rattle.handle.specs.declared.Handle.{Handle}
use Rattle.handle.specs.Handles.{Name, name_of, width_of, validates}
use Rattle.store.specs.declared.Store.{Store}
use Rattle.store.specs.Records.{primary_of}
use Rattle.calls.specs.Calls.{Call, among, opens, uses, needed, handle_of, other_of}
use Rattle.calls.specs.Numbers.{valid, violated}
use Rattle.calls.specs.Words.{Opening, ReadMode, WriteMode, Chain, Valid, Field, Violated, cluster_of}
use Rattle.calls.proofs.TestLaws.{Is, map_is, same_is, off_is, not_is, then_is, and_is, or_is, eq_is}
use Rattle.calls.proofs.KindLaws.{kind_is}
use Rattle.calls.proofs.CallLaws.{mode_known}
use Rattle.calls.proofs.SelectorWords.{chain_is, four}
use Rattle.calls.proofs.PresentedWords.{opens_is, presented_is}
use Rattle.calls.proofs.WordLaws.{bad_field_is}

-- ---- the mode needed

module _ (x : Call) where
  abbrev m : ℕ
  m = x.args.mode

  pub read_is : Is (eqb (needed x) 1) (ReadMode x)
  read_is =
      same_is (go (uses x.kind).mode (among (5 ∷ []) x.kind))
      (or_is (kind_is (λ k. not (uses k).mode && among (5 ∷ []) k) _ refl x)
      (and_is (kind_is (λ k. (uses k).mode) _ refl x) (eq_is m 1)))
    where
      go : (u v : Bool)
          → eqb (elim u [ true ↦ m | false ↦ elim v [ true ↦ 1 | false ↦ 2 ] ]) 1 ≡ not u && v || u && eqb m 1
      go true v = refl
      go false true = refl
      go false false = refl

  pub write_is : Opening x → Is (eqb (needed x) 2) (WriteMode x)
  write_is o =
      same_is (go (opens x.kind) (uses x.kind).mode (among (5 ∷ []) x.kind) ((opens_is x).into o))
      (or_is (kind_is (λ k. opens k && (not (uses k).mode && not (among (5 ∷ []) k))) _ refl x)
      (and_is (kind_is (λ k. (uses k).mode) _ refl x) (eq_is m 2)))
    where
      go : (w u v : Bool) → w ≡ true
          → eqb (elim u [ true ↦ m | false ↦ elim v [ true ↦ 1 | false ↦ 2 ] ]) 2
          ≡ w && (not u && not v) || u && eqb m 2
      go w true v e = ap (λ (t : Bool). t || eqb m 2) (sym (and-false w))
      go w false true e = ap (λ (t : Bool). t || false) (sym (and-false w))
      go w false false e = ap (λ (t : Bool). t && true || false) (sym e)

module _ (f : Name → List ℕ → ℕ → List ℕ) (x : Call) (s : Store) (c : ¬ Field x) where
  module _ (h : Handle) (four : length h.selector ≡ 4) (o : Opening x) where
    from : ℕ → Bool
    from mode = validates (width_of h) (f (name_of h)) (primary_of (cluster_of h s) mode) h

    abbrev Moded : Type 0
    Moded =
        (ReadMode x × Chain (f (name_of h)) (cluster_of h s).read h)
        ⊎ (WriteMode x × Chain (f (name_of h)) (cluster_of h s).write h)

    moded_is : Is (from (needed x)) Moded
    unfolding from
    moded_is = go (mode_known x (off_is (bad_field_is x) c))
      where
        chain : (p : List ℕ) → Is (validates (width_of h) (f (name_of h)) p h) (Chain (f (name_of h)) p h)
        chain p = chain_is h four (f (name_of h)) p

        go : (needed x ≡ 1) ⊎ (needed x ≡ 2) → Is (from (needed x)) Moded
        go (inl e) =
            same_is (ap from e)
            (map_is (λ w. inl ((read_is x).out (ap (λ (n : ℕ). eqb n 1) e), w)) back (chain (cluster_of h s).read))
          where
            back : Moded → Chain (f (name_of h)) (cluster_of h s).read h
            back (inl (r, w)) = w
            back (inr (r, w)) = absurd (omega (arith, e, eqb-true (needed x) 2 ((write_is x o).into r)))
        go (inr e) =
            same_is (ap from e)
            (map_is (λ w. inr ((write_is x o).out (ap (λ (n : ℕ). eqb n 2) e), w)) back (chain (cluster_of h s).write))
          where
            back : Moded → Chain (f (name_of h)) (cluster_of h s).write h
            back (inl (r, w)) = absurd (omega (arith, e, eqb-true (needed x) 1 ((read_is x).into r)))
            back (inr (r, w)) = w

    valid_is : Is (valid f (needed x) h s) (Valid f x h s)
    unfolding valid from
    valid_is = and_is (map_is sym sym (eq_is (width_of h) (cluster_of h s).width)) moded_is

  pub violated_is : Is (violated f x s) (Violated f x s)
  unfolding violated
  violated_is =
      then_is (opens_is x) (λ o.
      presented_is x (λ h. not (valid f (needed x) h s)) (λ h. ¬ Valid f x h s)
      (λ q. not_is (valid_is (handle_of x) (four x.args.handle) o))
      (λ q. not_is (valid_is (other_of x) (four x.args.other) o)))
