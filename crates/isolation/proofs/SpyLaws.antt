-- Which calls spy, as a test: what is computed of lists goes by it. A call that asks for reading opens a cluster; none asks for both modes.
-- Assumes nothing.
use mathlib.Core.Path.{◌≡◌, refl, sym, ◌∙◌}
use Prim.Native.Nat.{ℕ}
use native.Mathlib.Omega.{arith}
use mathlib.Core.Bool.{Bool, true, false, not, ◌&&◌, ◌||◌, true≢false}
use mathlib.Core.List.{List, [], ◌∷◌, map}
use mathlib.Core.Logic.{inl, inr}
use lib.Dec.{eqb}
use Rattle.handle.specs.Handles.{Name}
use Rattle.store.specs.declared.Store.{Store}
use Rattle.store.specs.Records.{cluster_at}
use Rattle.store.specs.Records.{read_mode}
use Rattle.calls.specs.Calls.{Call, Kind, read, reduce, new_password, join, validate, look, opens, needed}
use Rattle.calls.specs.Words.{Named, ReadMode}
use Rattle.isolation.specs.Copies.{set_apart, keyed}
use Rattle.isolation.specs.Writers.{Spies}
use Rattle.calls.proofs.TestLaws.{Is, map_is, and_is, holds_is}
use Rattle.calls.proofs.KindLaws.{kinds, one, kind_is, kind_then}
use Rattle.calls.proofs.ValidWords.{read_is}
use Rattle.calls.proofs.PresentedWords.{opens_is}
use Rattle.isolation.proofs.KeyLaws.{keyed_is}
use native.Mathlib.Omega.{arith}
use borrow.Author.Tests.{eqb-true, not-true}
use Rattle.calls.specs.Calls.{new_cluster, weaken}
use Rattle.isolation.specs.Writers.{WritingIsFree}
use Rattle.calls.proofs.ValidWords.{write_is}

module _ (x : Call) where
  -- what holds of the kinds that a list names
  named_then : (u : Kind → Bool) (ks : List Kind) → map (λ k. not (one ks k) || u k) kinds ≡ map (λ k. true) kinds → Named ks x
      → u x.kind ≡ true
  named_then u ks e n = kind_then (one ks) u e x.kind ((kind_is (one ks) ks refl x).into n)

  asking_opens : ReadMode x → opens x.kind ≡ true
  asking_opens (inl n) = named_then opens (read ∷ look ∷ []) refl n
  asking_opens (inr (n, m)) = named_then opens (reduce ∷ new_password ∷ join ∷ validate ∷ []) refl n

module _ (node local : ℕ) (f : Name → List ℕ → ℕ → List ℕ) where
  abbrev pub spying : Call → Store → Bool
  spying x s = eqb (needed x) 1 && (cluster_at s (set_apart node local)).active && keyed node local f read_mode x s

  pub spying_is : (x : Call) (s : Store) → Is (spying x s) (Spies node local f x s)
  spying_is x s =
      map_is (λ t. record { active = t.0.1; reading = t.0.0; key = t.1.1 })
      (λ p. ((p.reading, p.active), ((opens_is x).out (asking_opens x p.reading), p.key)))
      (and_is (and_is (read_is x) (holds_is (cluster_at s (set_apart node local)).active)) (keyed_is node local f read_mode s x))

  pub unspied : (x : Call) (s : Store) → spying x s ≡ false → ¬ Spies node local f x s
  unspied x s e p = true≢false (sym ((spying_is x s).into p) ∙ e)

  pub writing_is_free : WritingIsFree node local f
  writing_is_free x s (inl w) p =
      let one : needed x ≡ 1 = eqb-true (needed x) 1 ((read_is x).into p.reading) in
      let two : needed x ≡ 2 =
      eqb-true (needed x) 2 ((write_is x ((opens_is x).out (asking_opens x p.reading))).into w) in
      omega arith
  writing_is_free x s (inr n) p =
      true≢false
      (sym (asking_opens x p.reading)
      ∙ not-true (opens x.kind) (named_then x (λ k. not (opens k)) (new_cluster ∷ weaken ∷ []) refl n))
