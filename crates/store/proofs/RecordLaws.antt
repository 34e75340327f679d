-- The parts of a record as the code reads and replaces them: by the bounds, by the place, by the mode.
-- Assumes nothing.
use mathlib.Core.Path.{◌≡◌, refl, sym, ap, ◌∙◌, subst}
use mathlib.Core.Logic.{◌↔◌}
use mathlib.Core.Bool.{Bool, true, false, not}
use mathlib.Core.List.{List, [], ◌∷◌, map}
use Prim.Native.Nat.{ℕ, zero, suc, ◌+◌, ◌*◌, ◌≤◌, ◌<◌}
use lib.ListN.{length, get_or, set, length-map, get_or-eq_default}
use lib.Seq.{set_out}
use borrow.Author.Tests.{le-leb, lt-leb, eq-eqb, ne_eqb, not-true}
use Rattle.std.specs.Prelude.{EachIndex, slice_index_or}
use Rattle.loops.specs.Below.{every}
use Rattle.loops.proofs.BelowLaws.{tests_equal, every_in, every_at}
use Rattle.sizes.specs.Sizes.{nodes, clusters, segments}
use Rattle.store.specs.Places.{Place, None}
use Rattle.store.specs.declared.Segment.{Segment}
use Rattle.store.specs.declared.Cluster.{Cluster}
use Rattle.store.specs.Records.{segment_at, absent_segment, table_of, place_of, frozen_of, none_frozen, with_segment, with_place, with_mark, record_at, read_mode, primary_of}
use Rattle.store.specs.declared.Store.{Store}
use Rattle.store.specs.Records.{no_cluster, cluster_at, put_record, with_password}

-- ---- the number of a record

module _ (node local : ℕ) where
  pub at_no_node : nodes ≤ node → 0 ≡ record_at node local
  at_no_node h = simp (le-leb nodes node h)

  pub at_no_local : node < nodes → clusters ≤ local → 0 ≡ record_at node local
  at_no_local h l = simp (lt-leb nodes node h, le-leb clusters local l)

  pub at_record : node < nodes → local < clusters → node * clusters + local ≡ record_at node local
  at_record h l = simp (lt-leb nodes node h, lt-leb clusters local l)

-- ---- the place of a segment, and its mark

pub length_mapped : {A B : Type 0} (f : A → B) (l : List A) (n : ℕ) → length (map f l) ≡ n → length l ≡ n
length_mapped f l n e = sym (length-map l f) ∙ e

module _ (c : Cluster) (i : ℕ) (e : length c.segments ≡ segments) (h : segments ≤ i) where
  pub place_beyond : None ≡ place_of (table_of c) i
  place_beyond = sym (ap (λ (g : Segment). g.place) (get_or-eq_default c.segments absent_segment (rw e h)))

  pub beyond : (g : Segment) → c ≡ with_segment c i g
  beyond g = ap (λ (l : List Segment). record { active = c.active; width = c.width; read = c.read; write = c.write; segments = l })
      (sym (set_out c.segments i g (rw e h)))

  pub with_beyond : (p : Place) → c ≡ with_place c i p
  with_beyond p = beyond (segment_at p)

  pub frozen_beyond : false ≡ frozen_of (table_of c) i
  frozen_beyond = sym (ap (λ (g : Segment). g.frozen) (get_or-eq_default c.segments absent_segment (rw e h)))

  pub mark_beyond : c ≡ with_mark c i
  mark_beyond = beyond _

-- none is frozen, told of each index
pub frozen_told : (c : Cluster) (r : Bool) → length c.segments ≡ segments
    → ((r ≡ true) ↔ EachIndex c.segments (λ k. (slice_index_or c.segments k absent_segment).frozen ≡ false)) → r ≡ none_frozen (table_of c)
unfolding none_frozen
frozen_told c r e w =
    tests_equal r (every segments (λ k. not (frozen_of (table_of c) k)))
    (λ t. every_in segments _ (λ k h. ap not (w.0 t k (subst (λ (n : ℕ). k < n) (sym e) h))))
    (λ t. w.1 (λ k h. not-true (frozen_of (table_of c) k) (every_at segments _ t k (subst (λ (n : ℕ). k < n) e h))))

-- ---- the primary password of a mode

module _ (c : Cluster) (mode : ℕ) where
  chosen : Bool → List ℕ
  chosen b = elim b [ true ↦ c.read | false ↦ c.write ]

  pub primary_read : mode ≡ read_mode → c.read ≡ primary_of c mode
  unfolding chosen
  primary_read e = sym (ap chosen (eq-eqb mode read_mode e))

  pub primary_write : (mode ≡ read_mode → ⊥) → c.write ≡ primary_of c mode
  unfolding chosen
  primary_write e = sym (ap chosen (ne_eqb mode read_mode e))

  module _ (p : List ℕ) where
    replacing : Bool → Cluster
    replacing b =
        record {
          active = c.active;
          width = c.width;
          read = elim b [ true ↦ p | false ↦ c.read ];
          write = elim b [ true ↦ c.write | false ↦ p ];
          segments = c.segments;
        }

    pub replaced_read : mode ≡ read_mode
        → record { active = c.active; width = c.width; read = p; write = c.write; segments = c.segments } ≡ with_password c mode p
    unfolding replacing
    replaced_read e = sym (ap replacing (eq-eqb mode read_mode e))

    pub replaced_write : (mode ≡ read_mode → ⊥)
        → record { active = c.active; width = c.width; read = c.read; write = p; segments = c.segments } ≡ with_password c mode p
    unfolding replacing
    replaced_write e = sym (ap replacing (ne_eqb mode read_mode e))

-- ---- a record put back as it was

set_itself : {A : Type 0} (l : List A) (n : ℕ) (d : A) → set l n (get_or l n d) ≡ l
set_itself [] n d = refl
set_itself (x ∷ l) zero d = refl
set_itself (x ∷ l) (suc n) d = λ j. x ∷ set_itself l n d j

pub put_itself : (s : Store) (n : ℕ) → put_record s n (cluster_at s n) ≡ s
put_itself s n = ap (λ (l : List Cluster). record { clusters = l }) (set_itself s.clusters n no_cluster)

-- a segment that is frozen already
pub mark_itself : (c : Cluster) (i : ℕ) → frozen_of (table_of c) i ≡ true → with_mark c i ≡ c
mark_itself c i e =
    ap (λ (t : Bool). with_segment c i (record { place = place_of (table_of c) i; frozen = t })) (sym e)
    ∙ ap (λ (l : List Segment). record { active = c.active; width = c.width; read = c.read; write = c.write; segments = l })
    (set_itself c.segments i absent_segment)
