-- Which handles a call presents, and which cluster and segment it is about, in words: call 1 is about the cluster that it
-- names, every other about the one that its handle names. A test of the handles presented is one of the handle that the
-- call takes, and one of the second that a join takes.
-- Assumes nothing.
use mathlib.Core.Path.{◌≡◌, refl, ap, ap₂, ◌∙◌}
use mathlib.Core.Logic.{inl, inr}
use Prim.Native.Nat.{ℕ, ◌*◌, ◌+◌}
use mathlib.Core.Bool.{Bool, true, false, ◌&&◌, ◌||◌, or-false}
use mathlib.Core.List.{List, [], ◌∷◌, ◌++◌}
use Rattle.handle.specs.declared.Handle.{Handle}
use Rattle.handle.specs.Handles.{node_of}
use Rattle.store.specs.declared.Store.{Store}
use Rattle.store.specs.Records.{table_at, place_at}
use Rattle.calls.specs.Calls.{Call, Kind, new_cluster, join}
use Rattle.calls.specs.Calls.{opens, uses, handle_of, other_of, taken, presented, any_of}
use Rattle.calls.specs.Calls.{node_for, record_for, place_for}
use Rattle.calls.specs.Words.{Named, Handled, Joining, Some, Opening, place}
use Rattle.calls.proofs.TestLaws.{Is, same_is, off_is, then_is, or_is}
use Rattle.calls.proofs.KindLaws.{one, kind_is, but_is, other_kind}

module _ (x : Call) where
  -- ---- the kinds

  pub handled_is : Is (uses x.kind).handle (Handled x)
  handled_is = but_is (λ k. (uses k).handle) refl x

  pub local_is : Is (uses x.kind).local (Named (new_cluster ∷ []) x)
  local_is = kind_is (λ k. (uses k).local) _ refl x

  pub opens_is : Is (opens x.kind) (Opening x)
  opens_is = kind_is opens _ refl x

  -- call 1 is about the cluster of its local number on its current node, the others about the one that the handle names
  abbrev about : Bool → ℕ
  about u =
      elim u [ true ↦ x.args.current | false ↦ node_of (handle_of x) ] * 8
      + elim u [ true ↦ x.args.local | false ↦ (handle_of x).local ]

  pub own_record : Named (new_cluster ∷ []) x → record_for x ≡ x.args.current * 8 + x.args.local
  own_record n = ap about (local_is.into n)

  no_local : Handled x → (uses x.kind).local ≡ false
  unfolding Named
  no_local h = off_is local_is none
    where
      none : ¬ Named (new_cluster ∷ []) x
      none (inl e) = h e
      none (inr e) = e

  pub handle_record : Handled x → record_for x ≡ node_of (handle_of x) * 8 + (handle_of x).local
  handle_record h = ap about (no_local h)

  pub handle_node : Handled x → node_for x ≡ node_of (handle_of x)
  handle_node h = ap (λ (u : Bool). elim u [ true ↦ x.args.current | false ↦ node_of (handle_of x) ]) (no_local h)

  pub handle_place : (s : Store) → Handled x → place_for x (table_at s) ≡ place x s
  handle_place s h = ap (λ (n : ℕ). place_at (table_at s) n x.args.segment) (handle_record h)

  -- a test of the handles presented is one of the handle that the call takes, and one of the second that a join takes
  pub join_is : Is (uses x.kind).other (Joining x)
  join_is = kind_is (λ k. (uses k).other) _ refl x

  pub each_handle : (p : Handle → Bool)
      → any_of p (presented x) ≡ (uses x.kind).handle && p (handle_of x) || (uses x.kind).other && p (other_of x)
  each_handle p = go (uses x.kind).handle (uses x.kind).other
    where
      go : (u v : Bool) → any_of p (taken u (handle_of x) ++ taken v (other_of x)) ≡ u && p (handle_of x) || v && p (other_of x)
      go true true = ap (λ (b : Bool). p (handle_of x) || b) (or-false (p (other_of x)))
      go true false = refl
      go false true = or-false (p (other_of x))
      go false false = refl

  pub presented_is : (p : Handle → Bool) (P : Handle → Type 0) → (Handled x → Is (p (handle_of x)) (P (handle_of x)))
      → (Joining x → Is (p (other_of x)) (P (other_of x))) → Is (any_of p (presented x)) (Some P x)
  presented_is p P h k = same_is (each_handle p) (or_is (then_is handled_is h) (then_is join_is k))

  -- and beside a test of kinds that all take a handle, and no second one
  pub alone_is : {a : Bool} (ks : List Kind) → Is a (Named ks x) → one ks new_cluster ≡ false → one ks join ≡ false
      → (p : Handle → Bool) {P : Type 0} → (Named ks x → Is (p (handle_of x)) P)
      → Is (a && any_of p (presented x)) (Named ks x × P)
  unfolding Named
  alone_is ks h e j p q =
      then_is h (λ n.
      same_is
      (each_handle p
      ∙ ap₂ (λ (u v : Bool). u && p (handle_of x) || v && p (other_of x)) (handled_is.into (other_kind ks e x n))
      (off_is join_is (apart n))
      ∙ or-false (p (handle_of x))) (q n))
    where
      apart : Named ks x → ¬ Joining x
      apart n (inl k) = other_kind ks j x n k
      apart n (inr k) = k
