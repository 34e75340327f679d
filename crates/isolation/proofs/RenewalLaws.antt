-- What call 9 tells of the other mode's password: nothing. The tables of the two copies are the same, and a call in a mode
-- meets the passwords of that mode alone, in row 9 and in row 12; soundness looks at the passwords of inactive clusters alone.
-- Assumes nothing.
use mathlib.Core.Path.{◌≡◌, refl, sym, ap, ap₂, ◌∙◌}
use mathlib.Core.Logic.{◌≢◌, ◌⊎◌, inl, inr}
use Prim.Native.Nat.{ℕ}
use native.Mathlib.Decide.{ℕ_discrete}
use mathlib.Core.Bool.{Bool, true, false, ◌&&◌, ◌||◌}
use mathlib.Core.List.{List, [], ◌∷◌}
use lib.Dec.{eqb}
use lib.ListN.{length}
use Rattle.loops.specs.Below.{every}
use Rattle.sizes.specs.Sizes.{nodes, records, segments, memory}
use Rattle.handle.specs.Handles.{Name, decoded}
use Rattle.store.specs.declared.Cluster.{Cluster}
use Rattle.store.specs.declared.Store.{Store}
use Rattle.store.specs.Records.{Table, table_of, cluster_at, table_at, segment_of, place_of, primary_of, with_password}
use Rattle.store.specs.Sound.{sound_segment, node_apart, idle, sound_width, allowed, below, sized, settled, sound}
use Rattle.store.proofs.ChangeLaws.{put_other}
use Rattle.calls.specs.Calls.{Copy, Call, new_password, renewing, record_named}
use Rattle.calls.specs.Numbers.{number}
use Rattle.calls.specs.Steps.{Reply, left, given, password_replaced}
use Rattle.calls.proofs.CallLaws.{mode_known}
use Rattle.isolation.specs.Copies.{Done}
use Rattle.isolation.specs.Renewals.{SameButOther, Untold, OtherUntold, GuessesUntold}
use Rattle.isolation.proofs.NumberLaws.{rows_number}
use Rattle.isolation.proofs.PairLaws.{same_step}
use Rattle.isolation.proofs.AwayLaws.{same_records, same_tables}
use Rattle.isolation.proofs.PrimaryLaws.{renewed_record}

-- ---- one password of one cluster

module _ (m n : ℕ) (a b : Copy) (same : SameButOther m n a b) where
  -- what is the same of that record is the same of all
  each : {A : Type 0} (g : Cluster → A) → g (cluster_at a.store n) ≡ g (cluster_at b.store n) → (k : ℕ)
      → g (cluster_at a.store k) ≡ g (cluster_at b.store k)
  each g = same_records g n a.store b.store same.others

  tables : table_at a.store ≡ table_at b.store
  tables = same_tables n a.store b.store same.others same.table

  passwords : (m ≡ 1) ⊎ (m ≡ 2) → (k : ℕ) → primary_of (cluster_at a.store k) m ≡ primary_of (cluster_at b.store k) m
  passwords (inl e) =
      each (λ (c : Cluster). primary_of c m)
      (ap (primary_of (cluster_at a.store n)) e ∙ same.read e ∙ ap (primary_of (cluster_at b.store n)) (sym e))
  passwords (inr e) =
      each (λ (c : Cluster). primary_of c m)
      (ap (primary_of (cluster_at a.store n)) e ∙ same.write e ∙ ap (primary_of (cluster_at b.store n)) (sym e))

  -- the width and the places are the table's
  fitting : sized (cluster_at a.store n) ≡ sized (cluster_at b.store n)
  unfolding sized below
  fitting =
      ap
      (λ (t : Table).
      sound_width t.active t.width && every segments (λ i. allowed (place_of t i) i t.width))
      same.table

  settles : (k : ℕ) → settled (cluster_at a.store k) ≡ settled (cluster_at b.store k)
  unfolding settled
  settles =
      each settled
      (active_settled (cluster_at a.store n) same.active
      ∙ fitting
      ∙ sym (active_settled (cluster_at b.store n) (ap (λ (t : Table). t.active) (sym same.table) ∙ same.active)))
    where
      active_settled : (c : Cluster) → c.active ≡ true → settled c ≡ sized c
      active_settled c e = ap (λ (t : Bool). (t || idle c) && sized c) e

  sounds : (size : ℕ) → sound a.store size ≡ sound b.store size
  unfolding sound
  sounds size =
      λ j.
      eqb size memory
      && every records (λ k. every segments (λ i. sound_segment (segment_of (tables j k) i)))
      && every nodes (node_apart (tables j))
      && every records (λ k. settles k j)

module _ (f : Name → List ℕ → ℕ → List ℕ) (m : ℕ) (h p : List ℕ) where
  abbrev x : Call
  x = renewing m h p

  abbrev own : ℕ
  own = record_named (decoded h)

  abbrev after : Copy → Store
  after c = (left new_password x c).store

  -- what call 9 leaves of each record
  module _ (c : Copy) (e : Done f x c) where
    renewed : (k : ℕ) → k ≡ own → cluster_at (after c) k ≡ with_password (cluster_at c.store k) m p
    renewed k q =
        ap (cluster_at (after c)) q
        ∙ renewed_record f x.args c e
        ∙ ap (λ (i : ℕ). with_password (cluster_at c.store i) m p) (sym q)

    apart : (k : ℕ) → k ≢ own → cluster_at (after c) k ≡ cluster_at c.store k
    unfolding left password_replaced
    apart k q = put_other c.store own _ k q

  module _ (n : ℕ) (a b : Copy) (same : SameButOther m n a b) where
    number_same : number f x a.store (length a.memory) ≡ number f x b.store (length b.memory)
    number_same =
        rows_number f x a.store b.store (length a.memory) (sounds m n a b same (length a.memory))
        (tables m n a b same)
        (λ place even fields active o k i. inl (passwords m n a b same (mode_known x fields) (record_named k)))
        ∙ ap (λ (l : List ℕ). number f x b.store (length l)) same.memory

    module _ (ea : Done f x a) (eb : Done f x b) where
      -- what is the same of a record as it was, and with the new password, is the same of what is left
      kept : {A : Type 0} (g : Cluster → A) (k : ℕ) → g (cluster_at a.store k) ≡ g (cluster_at b.store k)
          → g (with_password (cluster_at a.store k) m p) ≡ g (with_password (cluster_at b.store k) m p)
          → g (cluster_at (after a) k) ≡ g (cluster_at (after b) k)
      kept g k e w = go (ℕ_discrete k own)
        where
          go : Dec (k ≡ own) → g (cluster_at (after a) k) ≡ g (cluster_at (after b) k)
          go (yes q) = ap g (renewed a ea k q) ∙ w ∙ ap g (sym (renewed b eb k q))
          go (no q) = ap g (apart a ea k q) ∙ e ∙ ap g (sym (apart b eb k q))

      left_same : SameButOther m n (left new_password x a) (left new_password x b)
      unfolding left password_replaced
      left_same =
          record {
            active = go (ℕ_discrete n own);
            others = λ k q.
                kept (λ (c : Cluster). c) k (same.others k q) (ap (λ (c : Cluster). with_password c m p) (same.others k q));
            table = kept table_of n same.table same.table;
            read = λ e.
                kept (λ (c : Cluster). c.read) n (same.read e)
                (λ j. elim (eqb m 1) [ true ↦ p | false ↦ same.read e j ]);
            write = λ e.
                kept (λ (c : Cluster). c.write) n (same.write e)
                (λ j. elim (eqb m 1) [ true ↦ same.write e j | false ↦ p ]);
            memory = same.memory;
          }
        where
          go : Dec (n ≡ own) → (cluster_at (after a) n).active ≡ true
          go (yes q) = ap (λ (c : Cluster). c.active) (renewed a ea n q) ∙ same.active
          go (no q) = ap (λ (c : Cluster). c.active) (apart a ea n q) ∙ same.active

    untold : Untold f m n x a b
    unfolding given
    untold =
        let s =
        same_step f x a b number_same (SameButOther m n) same
        (λ e. (refl, left_same e (sym number_same ∙ e))) in
        record { reply = s.0; left = s.1 }

module _ (f : Name → List ℕ → ℕ → List ℕ) where
  pub other_untold : OtherUntold f
  other_untold m n h p a b same = untold f m h p n a b same

  pub guesses_untold : GuessesUntold f
  guesses_untold m n [] a b same = refl
  guesses_untold m n (g ∷ gs) a b same =
      let u = other_untold m n g.handle g.password a b same in
      ap₂ (λ (r : Reply) (rs : List Reply). r ∷ rs) u.reply (guesses_untold m n gs _ _ u.left)
