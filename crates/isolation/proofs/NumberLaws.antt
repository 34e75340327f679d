-- Both copies give a call the same number. Rows that see the call alone, or the tables, agree at once. The two rows that see
-- passwords, 9 and 12, see those of the mode needed alone, and the width is in the table: it is enough that no handle which is presented can tell the copies
-- apart. These are looked at only where no row above applied, 8 among them, and row 12 only where row 9 did not apply.
-- Assumes nothing.
use mathlib.Core.Path.{◌≡◌, refl, sym, ap, ap₂, ◌∙◌}
use mathlib.Core.Logic.{◌≢◌, ◌⊎◌, inl, inr}
use Prim.Native.Nat.{ℕ, ◌<◌}
use mathlib.Core.Bool.{Bool, true, false, not, ◌&&◌, true≢false}
use mathlib.Core.List.{List, [], ◌∷◌}
use lib.Dec.{eqb}
use lib.ListN.{length}
use Rattle.sizes.specs.Sizes.{clusters}
use Rattle.handle.specs.declared.Handle.{Handle}
use Rattle.handle.specs.Handles.{Name, name_of, node_of, width_of, same_password, validates}
use Rattle.store.specs.declared.Cluster.{Cluster}
use Rattle.store.specs.declared.Store.{Store}
use Rattle.store.specs.Records.{Tables, cluster_at, table_at, read_mode, write_mode, primary_of}
use Rattle.store.specs.Sound.{sound}
use Rattle.calls.specs.Calls.{Copy, Call, call, Kind, new_password, among, opens, needed, handle_of, presented, any_of, record_for}
use Rattle.calls.specs.Calls.{record_named}
use Rattle.calls.specs.Numbers.{unsound, no_place, bad_field, gapped_handle, in_use, inactive_cluster, other_width, valid, violated}
use Rattle.calls.specs.Numbers.{old_password, cluster_frozen, segment_present, segment_absent, segment_frozen, short, full_node}
use Rattle.calls.specs.Numbers.{by_tables, by_records, rows, number}
use Rattle.isolation.specs.Copies.{SoundCopy, set_apart, Alike, Shut}
use Rattle.calls.proofs.FirstLaws.{Agree, ◌▸◌, first_agree}
use Rattle.calls.proofs.CallLaws.{Presents, any_same, opened, handle_range, mode_known, record_is, ungapped_is, valid_is}
use Rattle.calls.proofs.KindLaws.{kind_is, only_kind}
use Rattle.isolation.proofs.AwayLaws.{same_tables, named, not_keyed}

-- ---- the rows of two stores with the same tables, both sound or both not

module _ (f : Name → List ℕ → ℕ → List ℕ) (x : Call) (a b : Store) where
  -- a handle that the call presents cannot tell the stores apart: they have one password for it in the mode needed, or it
  -- validates in neither
  abbrev pub Level : Handle → Type 0
  Level h =
      (primary_of (cluster_at a (record_named h)) (needed x) ≡ primary_of (cluster_at b (record_named h)) (needed x))
      ⊎ ((valid f (needed x) h a ≡ false) × (valid f (needed x) h b ≡ false))

  -- and where the tables are equal, it has its cluster's width in both or in neither
  same_valid : table_at a ≡ table_at b → (h : Handle) → Level h → valid f (needed x) h a ≡ valid f (needed x) h b
  unfolding valid
  same_valid same h (inl e) =
      ap₂ (λ (ts : Tables) (p : List ℕ). eqb (width_of h) (ts (record_named h)).width && validates (width_of h) (f (name_of h)) p h)
      same e
  same_valid same h (inr (p, q)) = p ∙ sym q

  module _ (size : ℕ) (sounds : sound a size ≡ sound b size) (same : table_at a ≡ table_at b)
      (level : no_place x ≡ false → gapped_handle x ≡ false → bad_field x ≡ false → inactive_cluster x (table_at a) ≡ false
      → opens x.kind ≡ true → (h : Handle) → Presents x h → Level h) where
    tabled : (n : ℕ) (t : Call → Tables → Bool) → by_tables n t x a ≡ by_tables n t x b
    tabled n t = ap (λ (ts : Tables). record { number = n; applies = t x ts }) same

    told : (n : ℕ) (t : Call → Store → Bool) → t x a ≡ t x b → by_records n t x a ≡ by_records n t x b
    told n t e = ap (λ (u : Bool). record { number = n; applies = u }) e

    same_sound : unsound size x a ≡ unsound size x b
    unfolding unsound
    same_sound = ap (λ (t : Bool). not (among (7 ∷ []) x.kind) && not t) sounds

    module _ (place : no_place x ≡ false) (even : gapped_handle x ≡ false) (fields : bad_field x ≡ false)
        (active : inactive_cluster x (table_at a) ≡ false) where
      same_violated : violated f x a ≡ violated f x b
      unfolding violated
      same_violated = go (opens x.kind) refl
        where
          wrong : Store → Handle → Bool
          wrong s h = not (valid f (needed x) h s)

          go : (t : Bool) → opens x.kind ≡ t → (t && any_of (wrong a) (presented x)) ≡ (t && any_of (wrong b) (presented x))
          go true o =
              any_same (wrong a) (wrong b) (presented x) (λ h i. ap not (same_valid same h (level place even fields active o h i)))
          go false o = refl

      same_old : violated f x a ≡ false → old_password x a ≡ old_password x b
      unfolding old_password
      same_old v = go (among (9 ∷ []) x.kind) refl
        where
          current : Store → List ℕ
          current s = primary_of (cluster_at s (record_for x)) x.args.mode

          -- it is the one that the call's handle meets in the mode needed
          met : (s : Store) → opens x.kind ≡ true → needed x ≡ x.args.mode
              → current s ≡ primary_of (cluster_at s (record_named (handle_of x))) (needed x)
          met s o m = λ j. primary_of (cluster_at s (record_is x o j)) (sym m j)

          kept : opens x.kind ≡ true → needed x ≡ x.args.mode → Level (handle_of x) → current a ≡ current b
          kept o m (inl e) = met a o m ∙ e ∙ sym (met b o m)
          kept o m (inr (p, q)) =
              absurd (true≢false (sym (valid_is x (handle_of x) (opened x o).presents o f a v) ∙ p))

          go : (t : Bool) → among (9 ∷ []) x.kind ≡ t
              → (t && same_password x.args.first (current a)) ≡ (t && same_password x.args.first (current b))
          go true e =
              let k = only_kind new_password x ((kind_is (among (9 ∷ [])) _ refl x).out e) in
              let o : opens x.kind ≡ true = ap opens k in
              ap (same_password x.args.first)
              (kept o (ap (λ (j : Kind). needed (call j x.args)) k)
              (level place even fields active o (handle_of x) (opened x o).presents))
          go false e = refl

    same_rows : Agree x a b (rows f size)
    same_rows =
        refl ▸ λ e25.
        told 1 (unsound size) same_sound ▸ λ e1.
        refl ▸ λ e2.
        refl ▸ λ e3.
        refl ▸ λ e4.
        refl ▸ λ e24.
        refl ▸ λ e5.
        tabled 6 in_use ▸ λ e6.
        refl ▸ λ e7.
        tabled 8 inactive_cluster ▸ λ e8.
        tabled 25 other_width ▸ λ q25.
        told 9 (violated f) (same_violated e2 e4 e3 e8) ▸ λ e9.
        refl ▸ λ e23.
        refl ▸ λ e10.
        tabled 22 cluster_frozen ▸ λ e22.
        refl ▸ λ e11.
        told 12 old_password (same_old e2 e4 e3 e8 e9) ▸ λ e12.
        tabled 13 segment_present ▸ λ e13.
        tabled 14 segment_absent ▸ λ e14.
        tabled 22 segment_frozen ▸ λ q22.
        tabled 15 short ▸ λ e15.
        tabled 16 full_node ▸ λ e16.
        refl ▸ λ e21.
        refl ▸ λ e17. tt

    pub rows_number : number f x a size ≡ number f x b size
    unfolding number
    rows_number = first_agree x a b (rows f size) same_rows

-- ---- two copies that differ in one record

module _ (node local : ℕ) (low : local < clusters) (f : Name → List ℕ → ℕ → List ℕ) (a b : Copy)
    (others : (n : ℕ) → n ≢ set_apart node local → cluster_at a.store n ≡ cluster_at b.store n) (x : Call) where
  -- a handle of another cluster meets equal records
  pub level_by : no_place x ≡ false → (h : Handle) → Presents x h
      → (node_of h ≡ node → h.local ≡ local → Level f x a.store b.store h) → Level f x a.store b.store h
  level_by place h i own = go (named node local low (node_of h) h.local (handle_range x h i place))
    where
      go : ((node_of h ≡ node) × (h.local ≡ local)) ⊎ (record_named h ≢ set_apart node local)
          → Level f x a.store b.store h
      go (inl (p, q)) = own p q
      go (inr n) = inl (ap (λ (c : Cluster). primary_of c (needed x)) (others (record_named h) n))

  pub sound_number : SoundCopy a → SoundCopy b → length a.memory ≡ length b.memory
      → table_at a.store ≡ table_at b.store
      → (no_place x ≡ false → gapped_handle x ≡ false → bad_field x ≡ false → inactive_cluster x (table_at a.store) ≡ false
      → opens x.kind ≡ true → (h : Handle) → Presents x h → Level f x a.store b.store h)
      → number f x a.store (length a.memory) ≡ number f x b.store (length b.memory)
  sound_number sa sb size same level =
      rows_number f x a.store b.store (length a.memory) (sa ∙ sym sb ∙ ap (sound b.store) (sym size)) same level
      ∙ ap (number f x b.store) size

-- ---- two copies that are alike

pub alike_tables : (node local : ℕ) (a b : Copy) → Alike node local a b → table_at a.store ≡ table_at b.store
alike_tables node local a b al = same_tables (set_apart node local) a.store b.store al.others al.table

module _ (node local : ℕ) (low : local < clusters) (f : Name → List ℕ → ℕ → List ℕ) (a b : Copy)
    (al : Alike node local a b) where
  pub same_number : (x : Call) → SoundCopy a → SoundCopy b → Shut node local f x a.store
      → Shut node local f x b.store
      → number f x a.store (length a.memory) ≡ number f x b.store (length b.memory)
  same_number x sa sb ha hb =
      sound_number node local low f a b al.others x sa sb al.size (alike_tables node local a b al)
      (λ place even fields active o h i.
      level_by node local low f a b al.others x place h i
      (λ p q. inr (invalid even fields o h i p q a.store ha, invalid even fields o h i p q b.store hb)))
    where
      -- a handle of the cluster set apart validates in neither copy
      invalid : gapped_handle x ≡ false → bad_field x ≡ false → opens x.kind ≡ true → (h : Handle) → Presents x h
          → node_of h ≡ node → h.local ≡ local → (s : Store) → Shut node local f x s → valid f (needed x) h s ≡ false
      invalid even fields o h i p q s t = by (mode_known x fields)
        where
          by : (needed x ≡ read_mode) ⊎ (needed x ≡ write_mode) → valid f (needed x) h s ≡ false
          by (inl e) =
              ap (λ (m : ℕ). valid f m h s) e
              ∙ not_keyed f x s h i o node local read_mode t.0 (ungapped_is x h i even) p q
          by (inr e) =
              ap (λ (m : ℕ). valid f m h s) e
              ∙ not_keyed f x s h i o node local write_mode t.1 (ungapped_is x h i even) p q
