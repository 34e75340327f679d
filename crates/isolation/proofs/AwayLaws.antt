-- A handle that names a cluster does not validate, if a call that is not keyed to the cluster presents it. So a call done that
-- is not keyed to a cluster is about another one: its handle validates in the mode needed and is not gapped, so it does not
-- name that cluster, and places that exist have one record each.
-- Assumes nothing.
use mathlib.Core.Path.{◌≡◌, sym, ap, ◌∙◌, fun_ext}
use mathlib.Core.Logic.{◌≢◌, ◌⊎◌, inl, inr}
use Prim.Native.Nat.{ℕ, ◌<◌}
use native.Mathlib.Omega.{arith}
use native.Mathlib.Decide.{ℕ_discrete}
use mathlib.Core.Bool.{Bool, true, false, not, ◌&&◌, true≢false}
use mathlib.Core.List.{List}
use lib.Dec.{eqb}
use borrow.Author.Tests.{eq-eqb}
use Rattle.loops.proofs.BelowLaws.{and_both}
use Rattle.sizes.specs.Sizes.{clusters}
use Rattle.handle.specs.declared.Handle.{Handle}
use Rattle.handle.specs.Selectors.{gapped}
use Rattle.handle.specs.Handles.{Name, node_of, width_of}
use Rattle.store.specs.declared.Cluster.{Cluster}
use Rattle.store.specs.declared.Store.{Store}
use Rattle.store.specs.Records.{table_of, record_of, cluster_at, table_at, read_mode, write_mode}
use Rattle.calls.specs.Calls.{Call, opens, needed, handle_of, presented, record_for, record_named}
use Rattle.calls.specs.Numbers.{valid, number}
use Rattle.calls.proofs.CallLaws.{opened, Presents, none_of, InRange, guarded, record_is}
use Rattle.calls.proofs.DoneLaws.{done_mode, each_range, done_even, done_valid}
use Rattle.isolation.specs.Copies.{set_apart, names, keyed, Shut}

-- where two stores differ in one record alone, what is the same of that record is the same of all
pub same_records : {A : Type 0} (g : Cluster → A) (n : ℕ) (a b : Store)
    → ((k : ℕ) → k ≢ n → cluster_at a k ≡ cluster_at b k) → g (cluster_at a n) ≡ g (cluster_at b n)
    → (k : ℕ) → g (cluster_at a k) ≡ g (cluster_at b k)
same_records g n a b others e k = go (ℕ_discrete k n)
  where
    go : Dec (k ≡ n) → g (cluster_at a k) ≡ g (cluster_at b k)
    go (yes p) = ap (λ (i : ℕ). g (cluster_at a i)) p ∙ e ∙ ap (λ (i : ℕ). g (cluster_at b i)) (sym p)
    go (no p) = ap g (others k p)

-- so their tables are, if that of the record is
pub same_tables : (n : ℕ) (a b : Store) → ((k : ℕ) → k ≢ n → cluster_at a k ≡ cluster_at b k) → table_at a n ≡ table_at b n
    → table_at a ≡ table_at b
same_tables n a b others e = fun_ext (same_records table_of n a b others e)

-- a place in range is the cluster set apart, or has another record
pub named : (node local : ℕ) → local < clusters → (n l : ℕ) → InRange n l
    → ((n ≡ node) × (l ≡ local)) ⊎ (record_of n l ≢ set_apart node local)
named node local low n l r = go (ℕ_discrete n node) (ℕ_discrete l local)
  where
    go : Dec (n ≡ node) → Dec (l ≡ local) → ((n ≡ node) × (l ≡ local)) ⊎ (record_of n l ≢ set_apart node local)
    go (yes p) (yes q) = inl (p, q)
    go (yes p) (no q) = inr (λ e. let hr = r.local_low in absurd (omega arith))
    go (no p) d = inr (λ e. let hr = r.local_low in absurd (omega arith))

module _ (f : Name → List ℕ → ℕ → List ℕ) (x : Call) (s : Store) where
  module _ (h : Handle) (i : Presents x h) (o : opens x.kind ≡ true) where
    -- a handle that a call not keyed in a mode presents does not validate in it, if it names the cluster
    pub not_keyed : (node local m : ℕ) → keyed node local f m x s ≡ false → gapped (width_of h) h.selector ≡ false
        → node_of h ≡ node → h.local ≡ local → valid f m h s ≡ false
    unfolding keyed
    not_keyed node local m e g p q =
        guarded (names node local h && even) (valid f m h s)
        (and_both (names node local h) even
        (and_both (eqb (node_of h) node) (eqb h.local local) (eq-eqb (node_of h) node p) (eq-eqb h.local local q))
        (ap not g))
        (none_of (λ k. names node local k && not (gapped (width_of k) k.selector) && valid f m k s) (presented x)
        (guarded (opens x.kind) _ o e) h i)
      where
        even : Bool
        even = not (gapped (width_of h) h.selector)

  module _ (size : ℕ) (e : number f x s size ≡ 0) (o : opens x.kind ≡ true) where
    -- a call done that is not keyed in the mode needed is about another cluster
    module _ (node local : ℕ) (low : local < clusters) where
      pub away : keyed node local f (needed x) x s ≡ false → record_for x ≢ set_apart node local
      away k =
          go
          (named node local low (node_of (handle_of x)) (handle_of x).local
          (each_range f x s size e (handle_of x) (opened x o).presents))
        where
          go : ((node_of (handle_of x) ≡ node) × ((handle_of x).local ≡ local))
              ⊎ (record_named (handle_of x) ≢ set_apart node local) → record_for x ≢ set_apart node local
          go (inr n) = λ t. n (sym (record_is x o) ∙ t)
          go (inl n) =
              absurd (true≢false
              (sym (done_valid f x s size e o)
              ∙ not_keyed (handle_of x) (opened x o).presents o node local (needed x) k (done_even f x s size e o) n.0
              n.1))

      pub shut_away : Shut node local f x s → record_for x ≢ set_apart node local
      shut_away h = away (go (done_mode f x s size e))
        where
          go : (needed x ≡ read_mode) ⊎ (needed x ≡ write_mode) → keyed node local f (needed x) x s ≡ false
          go (inl q) = ap (λ (m : ℕ). keyed node local f m x s) q ∙ h.0
          go (inr q) = ap (λ (m : ℕ). keyed node local f m x s) q ∙ h.1
