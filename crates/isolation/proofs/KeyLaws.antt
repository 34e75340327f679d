-- What the lists of condition 3 and of the readers are asked, in words: each part of the test `keyed` is one of a key, and what
-- is tested of the handles presented is tested of the one that a call takes, and of the second one of a join.
-- Assumes nothing.
use mathlib.Core.Path.{◌∙◌}
use Prim.Native.Nat.{ℕ}
use mathlib.Core.Bool.{Bool, not, ◌&&◌}
use mathlib.Core.List.{List}
use lib.Dec.{eqb}
use borrow.Author.Tests.{eqb-true}
use Rattle.loops.proofs.BelowLaws.{and_left}
use Rattle.handle.specs.declared.Handle.{Handle}
use Rattle.handle.specs.Selectors.{gapped}
use Rattle.handle.specs.Handles.{Name, node_of, width_of}
use Rattle.store.specs.declared.Store.{Store}
use Rattle.store.specs.Records.{record_of, cluster_at}
use Rattle.calls.specs.Calls.{Call, handle_of, other_of, record_named}
use Rattle.calls.specs.Numbers.{valid}
use Rattle.calls.specs.Words.{Some, Opening}
use Rattle.calls.proofs.TestLaws.{Is, map_is, then_is, and_is, holds_is, fails_is, eq_is}
use Rattle.calls.proofs.PresentedWords.{opens_is, presented_is}
use Rattle.isolation.specs.Copies.{names, keyed}
use Rattle.isolation.specs.Statements.{Key, KeyedInWords, KeysFit}

module _ (node local : ℕ) (f : Name → List ℕ → ℕ → List ℕ) (m : ℕ) (s : Store) where
  abbrev test : Handle → Bool
  test h = names node local h && not (gapped (width_of h) h.selector) && valid f m h s

  key_is : (h : Handle) → Is (test h) (Key node local f m h s)
  key_is h =
      map_is
      (λ r. record { named_node = r.0.0.0; named_local = r.0.0.1; even = r.0.1; valid = r.1 })
      (λ k. (((k.named_node, k.named_local), k.even), k.valid))
      (and_is
      (and_is (and_is (eq_is (node_of h) node) (eq_is h.local local)) (fails_is (gapped (width_of h) h.selector)))
      (holds_is (valid f m h s)))

  pub keyed_is : (x : Call) → Is (keyed node local f m x s) (Opening x × Some (λ h. Key node local f m h s) x)
  unfolding keyed
  keyed_is x =
      then_is (opens_is x) (λ o.
      presented_is x test (λ h. Key node local f m h s) (λ e. key_is (handle_of x)) (λ e. key_is (other_of x)))

pub keyed_in_words : (node local : ℕ) (f : Name → List ℕ → ℕ → List ℕ) → KeyedInWords node local f
keyed_in_words node local f m x s =
    let t = keyed_is node local f m s x in (t.out, t.into)

pub keys_fit : (node local : ℕ) (f : Name → List ℕ → ℕ → List ℕ) → KeysFit node local f
unfolding valid
keys_fit node local f m h s k =
    eqb-true (width_of h) (cluster_at s (record_named h)).width
    (and_left (eqb (width_of h) (cluster_at s (record_named h)).width) _ k.valid)
    ∙ (λ j. (cluster_at s (record_of (k.named_node j) (k.named_local j))).width)
