-- Readers alter nothing, by induction over the list. A call done that is not keyed for writing is about another
-- cluster, which leaves this one held, or changes nothing, or replaces the read password, which is no part of what is
-- claimed.
-- Assumes nothing.
use mathlib.Core.Path.{◌≡◌, refl, sym, ap, ◌∙◌, subst}
use mathlib.Core.Logic.{◌≢◌, ◌⊎◌, inl, inr}
use Prim.Native.Nat.{ℕ, ◌<◌}
use mathlib.Core.Bool.{true, false}
use mathlib.Core.List.{List, [], ◌∷◌}
use lib.ListN.{length}
use Rattle.sizes.specs.Sizes.{nodes, clusters}
use Rattle.handle.specs.Handles.{Name}
use Rattle.store.specs.declared.Cluster.{Cluster}
use Rattle.store.specs.declared.Store.{Store}
use Rattle.store.specs.Records.{Table, table_of, cluster_at, place_of, put_record, read_mode, write_mode, with_password}
use Rattle.calls.specs.Calls.{Copy, Call, call, Arguments, Kind, new_cluster, delete_cluster, new_segment, delete_segment}
use Rattle.calls.specs.Calls.{read, write, weaken, reduce, new_password, freeze, join, validate, look, opens, needed}
use Rattle.calls.specs.Calls.{record_for}
use Rattle.calls.specs.Steps.{put_cluster, about, password_replaced, left, step, run}
use Rattle.isolation.specs.Copies.{SoundCopy, Done, InPlace, set_apart, Held, Unaltered, keyed, NoWriter}
use Rattle.isolation.specs.Statements.{ReadersAlterNothing}
use Rattle.calls.proofs.DoneLaws.{done_mode, new_away}
use Rattle.isolation.proofs.AwayLaws.{away}
use Rattle.isolation.proofs.EntryLaws.{put_cases}
use Rattle.isolation.proofs.KeptLaws.{tables, left_held, by_number, step_sound}

module _ (node local : ℕ) (high : node < nodes) (low : local < clusters) (f : Name → List ℕ → ℕ → List ℕ) where
  from_held : (a b : Copy) → Held node local a b → Unaltered node local a b
  from_held a b h =
      record {
        table = ap table_of h.cluster;
        write = ap (λ (d : Cluster). d.write) h.cluster;
        bytes = h.bytes;
      }

  unaltered_same : (c : Copy) → Unaltered node local c c
  unaltered_same c = record { table = refl; write = refl; bytes = λ p i hi u. refl }

  unaltered_trans : (a b c : Copy) → Unaltered node local a b → Unaltered node local b c → Unaltered node local a c
  unaltered_trans a b c h k =
      record {
        table = h.table ∙ k.table;
        write = h.write ∙ k.write;
        bytes = λ p i hi u.
            h.bytes p i hi u ∙ k.bytes p i hi (subst (λ (t : Table). InPlace node (place_of t i) p) h.table u);
      }

  read_password : (x : Call) (c : Copy) (p : List ℕ) (m : ℕ) → m ≡ read_mode
      → Unaltered node local c (put_cluster c (record_for x) (with_password (about x c) m p))
  read_password x c p m e = go (put_cases c.store (record_for x) (set_apart node local) d)
    where
      d : Cluster
      d = with_password (about x c) m p

      s : Store
      s = put_record c.store (record_for x) d

      go : (cluster_at s (set_apart node local) ≡ cluster_at c.store (set_apart node local))
          ⊎ ((set_apart node local ≡ record_for x) × (cluster_at s (set_apart node local) ≡ d))
          → Unaltered node local c (put_cluster c (record_for x) d)
      go (inl q) = from_held c _ (record { cluster = sym q; bytes = λ p i hi u. refl })
      go (inr q) =
          record {
            table = ap (tables c) q.0 ∙ sym (ap table_of q.1);
            write =
                ap (λ (n : ℕ). (cluster_at c.store n).write) q.0
                ∙ sym (ap (λ (m : ℕ). (with_password (about x c) m p).write) e)
                ∙ sym (ap (λ (d : Cluster). d.write) q.1);
            bytes = λ p i hi u. refl;
          }

  module _ (c : Copy) (k : SoundCopy c) (active : (tables c (set_apart node local)).active ≡ true) (g : Arguments) where
    abbrev Unkeyed : Kind → Type 0
    Unkeyed kind = keyed node local f write_mode (call kind g) c.store ≡ false

    another : (kind : Kind) → Done f (call kind g) c → record_for (call kind g) ≢ set_apart node local
        → Unaltered node local c (left kind (call kind g) c)
    another kind e ne = from_held c _ (left_held f g c k node local high low kind e ne)

    -- a call that needs the write mode
    writing : (kind : Kind) → opens kind ≡ true → needed (call kind g) ≡ write_mode → Unkeyed kind
        → Done f (call kind g) c → Unaltered node local c (left kind (call kind g) c)
    writing kind o q s e =
        another kind e
        (away f (call kind g) c.store (length c.memory) e o node local low
        (ap (λ (m : ℕ). keyed node local f m (call kind g) c.store) q ∙ s))

    left_unaltered : (kind : Kind) → Unkeyed kind → Done f (call kind g) c
        → Unaltered node local c (left kind (call kind g) c)
    unfolding left password_replaced
    left_unaltered new_cluster s e =
        another new_cluster e (new_away f g c.store (length c.memory) e (set_apart node local) active)
    left_unaltered delete_cluster s e = writing delete_cluster refl refl s e
    left_unaltered new_segment s e = writing new_segment refl refl s e
    left_unaltered delete_segment s e = writing delete_segment refl refl s e
    left_unaltered read s e = unaltered_same c
    left_unaltered write s e = writing write refl refl s e
    left_unaltered weaken s e = unaltered_same c
    left_unaltered reduce s e = unaltered_same c
    left_unaltered new_password s e = go (done_mode f (call new_password g) c.store (length c.memory) e)
      where
        go : (g.mode ≡ read_mode) ⊎ (g.mode ≡ write_mode)
            → Unaltered node local c (left new_password (call new_password g) c)
        go (inl m) = read_password (call new_password g) c g.first g.mode m
        go (inr m) = writing new_password refl m s e
    left_unaltered freeze s e = writing freeze refl refl s e
    left_unaltered join s e = unaltered_same c
    left_unaltered validate s e = unaltered_same c
    left_unaltered look s e = unaltered_same c

  run_unaltered : (xs : List Call) (c : Copy) → SoundCopy c → (tables c (set_apart node local)).active ≡ true
      → NoWriter node local f xs c → Unaltered node local c (run f xs c).copy
  run_unaltered [] c k active s = unaltered_same c
  run_unaltered (x ∷ xs) c k active s =
      let h =
      by_number f (Unaltered node local c) x c (unaltered_same c)
      (left_unaltered c k active x.args x.kind s.0) in
      unaltered_trans c (step f x c).copy (run f xs (step f x c).copy).copy h
      (run_unaltered xs (step f x c).copy (step_sound f x c k)
      (ap (λ (t : Table). t.active) (sym h.table) ∙ active) s.1)

pub readers_alter_nothing : (node local : ℕ) (f : Name → List ℕ → ℕ → List ℕ) → ReadersAlterNothing node local f
readers_alter_nothing node local f high low = run_unaltered node local high low f
