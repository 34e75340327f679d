-- Writers learn nothing, by induction over the list. What holds before each call: both copies are sound and have in common what
-- writers may know. A call gets the same number in both: a call that asks for writing meets one password, and one that asks for
-- reading meets handles that validate in neither, or other clusters. What it gives comes from another cluster's segment or from
-- a password in common. What it leaves is made from the tables, and bytes that come to belong to another cluster are zeros.
-- Assumes nothing.
use mathlib.Core.Path.{◌≡◌, refl, sym, ap, ap₂, ◌∙◌}
use mathlib.Core.Logic.{◌≢◌, ◌⊎◌, inl, inr}
use Prim.Native.Nat.{ℕ, ◌<◌}
use mathlib.Core.Bool.{Bool, true, false, not}
use mathlib.Core.List.{List, [], ◌∷◌}
use lib.ListN.{length}
use borrow.Author.Tests.{eq-eqb, not-true}
use Rattle.sizes.specs.Sizes.{clusters}
use Rattle.handle.specs.declared.Handle.{Handle}
use Rattle.handle.specs.Handles.{Name, node_of}
use Rattle.store.specs.declared.Cluster.{Cluster}
use Rattle.store.specs.declared.Store.{Store}
use Rattle.store.specs.Records.{Tables, record_of, cluster_at, table_at, read_mode, write_mode, primary_of}
use Rattle.calls.specs.Calls.{Copy, Call, call, Arguments, Kind, among, opens, uses, needed, node_for, local_for, record_for}
use Rattle.calls.specs.Calls.{record_named}
use Rattle.calls.specs.Numbers.{no_place, gapped_handle, inactive_cluster, valid, number}
use Rattle.calls.specs.Steps.{about, given}
use Rattle.isolation.specs.Copies.{SoundCopy, Done, set_apart, keyed}
use Rattle.isolation.specs.Writers.{SameToWriters, AlikeIsSame, Spies, WritersLearnNothing}
use Rattle.calls.proofs.CallLaws.{Presents, InRange, mode_known, active_is, ungapped_is}
use Rattle.calls.proofs.DoneLaws.{done_range, done_mode, done_active}
use Rattle.calls.proofs.KindLaws.{kind_then}
use Rattle.calls.proofs.ValidWords.{read_is}
use Rattle.isolation.proofs.AddressLaws.{place_outside}
use Rattle.isolation.proofs.AwayLaws.{not_keyed, away}
use Rattle.isolation.proofs.KeyLaws.{keyed_in_words}
use Rattle.isolation.proofs.KeptLaws.{tables, facts, low_segment, step_sound}
use Rattle.isolation.proofs.NumberLaws.{Level, level_by, sound_number}
use Rattle.isolation.proofs.PairLaws.{reads_segment, reading_opens, moded_opens, same_given, same_looked}
use Rattle.isolation.proofs.PairLaws.{same_step, Stepped, kept_run, replies_run, places_run}
use Rattle.isolation.proofs.WriterLeftLaws.{same_to_writers, writes, left_same}

-- the mode that a call needs: read if it reads a segment, and the one that it names
reading_needs : (x : Call) → among (5 ∷ []) x.kind ≡ true → needed x ≡ read_mode
reading_needs x r =
    ap₂ {C = ℕ}
    (λ (m t : Bool). elim m [ true ↦ x.args.mode | false ↦ elim t [ true ↦ read_mode | false ↦ write_mode ] ])
    (not-true (uses x.kind).mode (kind_then (among (5 ∷ [])) (λ k. not (uses k).mode) refl x.kind r)) r

moded_needs : (x : Call) → (uses x.kind).mode ≡ true → needed x ≡ x.args.mode
moded_needs x m =
    ap
    (λ (t : Bool).
    elim t [ true ↦ x.args.mode | false ↦ elim (among (5 ∷ []) x.kind) [ true ↦ read_mode | false ↦ write_mode ] ])
    m

module _ (node local : ℕ) (low : local < clusters) (f : Name → List ℕ → ℕ → List ℕ) where
  -- ---- no key for reading

  -- a call that asks for reading and does not spy is not keyed for reading, as long as the cluster is active
  unkeyed : (x : Call) (s : Store) → ¬ Spies node local f x s → (table_at s (set_apart node local)).active ≡ true
      → needed x ≡ read_mode → keyed node local f read_mode x s ≡ false
  unkeyed x s never active m = go (keyed node local f read_mode x s) refl
    where
      go : (t : Bool) → keyed node local f read_mode x s ≡ t → t ≡ false
      go false e = refl
      go true e =
          absurd (never (record {
            active = active;
            reading = (read_is x).out (eq-eqb (needed x) 1 m);
            key = ((keyed_in_words node local f read_mode x s).0 e).1;
          }))

  -- so if it is done, it is about another cluster
  reads_away : (x : Call) (c : Copy) → Done f x c → opens x.kind ≡ true → needed x ≡ read_mode
      → ¬ Spies node local f x c.store → record_for x ≢ set_apart node local
  reads_away x c e o m never q =
      away f x c.store (length c.memory) e o node local low
      (ap (λ (k : ℕ). keyed node local f k x c.store) m
      ∙ unkeyed x c.store never
      (ap (λ (n : ℕ). (tables c n).active) (sym q) ∙ done_active f x c.store (length c.memory) e o) m)
      q

  module _ (a b : Copy) (same : SameToWriters node local a b) where
    -- ---- the number

    numbers : (x : Call) → SoundCopy a → SoundCopy b → ¬ Spies node local f x a.store → ¬ Spies node local f x b.store
        → number f x a.store (length a.memory) ≡ number f x b.store (length b.memory)
    numbers x sa sb na nb =
        sound_number node local low f a b same.others x sa sb same.size (same_to_writers node local a b same)
        (λ place even fields active o h i. go place even active o h i (mode_known x fields))
      where
        -- a handle of the cluster that a call asking for reading presents validates in neither copy
        invalid : gapped_handle x ≡ false → inactive_cluster x (tables a) ≡ false → opens x.kind ≡ true → (h : Handle)
            → Presents x h → needed x ≡ read_mode → node_of h ≡ node → h.local ≡ local → (s : Store)
            → ¬ Spies node local f x s → tables a ≡ table_at s → valid f (needed x) h s ≡ false
        invalid even active o h i m p q s never t =
            ap (λ (k : ℕ). valid f k h s) m
            ∙ not_keyed f x s h i o node local read_mode
            (unkeyed x s never
            (ap (λ (ts : Tables). (ts (set_apart node local)).active) (sym t)
            ∙ (λ j. (tables a (record_of (sym p j) (sym q j))).active)
            ∙ active_is x h i o (tables a) active)
            m) (ungapped_is x h i even) p q

        go : no_place x ≡ false → gapped_handle x ≡ false → inactive_cluster x (tables a) ≡ false → opens x.kind ≡ true
            → (h : Handle) → Presents x h → (needed x ≡ read_mode) ⊎ (needed x ≡ write_mode)
            → Level f x a.store b.store h
        go place even active o h i (inr m) =
            inl
            (ap (primary_of (cluster_at a.store (record_named h))) m
            ∙ writes node local a b same (record_named h)
            ∙ ap (primary_of (cluster_at b.store (record_named h))) (sym m))
        go place even active o h i (inl m) =
            level_by node local low f a b same.others x place h i
            (λ p q. inr (
              invalid even active o h i m p q a.store na refl,
              invalid even active o h i m p q b.store nb (same_to_writers node local a b same),
            ))

    -- ---- what a call done gives

    module _ (k : SoundCopy a) (g : Arguments) where
      given_same : (kind : Kind) → ¬ Spies node local f (call kind g) a.store → Done f (call kind g) a
          → given f kind (call kind g) a ≡ given f kind (call kind g) b
      given_same kind never e =
          same_given f g a b k (same_to_writers node local a b same) same.size kind e
          (λ r p u.
          same.bytes (node_for x) (local_for x) g.segment p v.node_low v.local_low
          (low_segment f g a k kind (reads_segment kind r) e)
          (reads_away x a e (reading_opens kind r) (reading_needs x r) never) u)
          (λ m. go m (done_mode f x a.store (length a.memory) e))
        where
          x : Call
          x = call kind g

          v : InRange (node_for x) (local_for x)
          v = done_range f x a.store (length a.memory) e

          go : (uses kind).mode ≡ true → (needed x ≡ read_mode) ⊎ (needed x ≡ write_mode)
              → primary_of (about x a) g.mode ≡ primary_of (about x b) g.mode
          go m (inl q) =
              ap (λ (d : Cluster). primary_of d g.mode)
              (same.others (record_for x) (reads_away x a e (moded_opens kind m) q never))
          go m (inr q) =
              let w : g.mode ≡ write_mode = sym (moded_needs x m) ∙ q in
              ap (primary_of (about x a)) w ∙ writes node local a b same (record_for x) ∙ ap (primary_of (about x b)) (sym w)

  -- ---- the list

  record Invariant (a b : Copy) : Type 0 where
    sound_first : SoundCopy a
    sound_second : SoundCopy b
    same : SameToWriters node local a b

  one : (x : Call) (a b : Copy) → Invariant a b → ¬ Spies node local f x a.store → ¬ Spies node local f x b.store
      → Stepped f Invariant x a b
  one x a b v na nb =
      let n = numbers a b v.same x v.sound_first v.sound_second na nb in
      let s =
      same_step f x a b n (SameToWriters node local) v.same
      (λ e. (
        given_same a b v.same v.sound_first x.args x.kind na e,
        left_same node local a b v.same f v.sound_first x.args x.kind e,
      )) in
      record {
        reply = s.0;
        told = same_looked f x a b n (same_to_writers node local a b v.same);
        kept =
            record {
              sound_first = step_sound f x a v.sound_first;
              sound_second = step_sound f x b v.sound_second;
              same = s.1;
            };
      }

pub writers_learn_nothing : (f : Name → List ℕ → ℕ → List ℕ) → WritersLearnNothing f
writers_learn_nothing f node local high low xs a b sa sb same na nb =
    let i = Invariant node local low f in
    let t : Call → Store → Type 0 = λ x s. ¬ Spies node local f x s in
    let o = one node local low f in
    let v : i a b = record { sound_first = sa; sound_second = sb; same = same } in
    record {
      replies = replies_run f i t o xs a b v na nb;
      places = places_run f i t o xs a b v na nb;
      same = (kept_run f i t o xs a b v na nb).same;
    }

-- ---- copies that are alike

pub alike_is_same : (node local : ℕ) → AlikeIsSame node local
alike_is_same node local high low a b k al w =
    record {
      records = al.records;
      others = al.others;
      table = al.table;
      write = w;
      size = al.size;
      bytes = λ v l i p hv hl hi ne u.
          al.bytes p (place_outside a.store (length a.memory) (facts a k) node local high low v l i hv hl hi ne p u);
    }
