-- The base that a node's map tells. Where every place of the node lies inside its memory and the map is that of all its
-- segments, bytes are clear in the map exactly if they are clear of every place: so the least start of enough clear bits is
-- the base. In a sound store every place lies inside.
-- Assumes nothing.
use mathlib.Core.Path.{◌≡◌, sym, ap, ◌∙◌, subst}
use mathlib.Core.Bool.{true, false, not}
use mathlib.Core.List.{List}
use Prim.Native.Nat.{ℕ, ◌+◌, ◌*◌, ◌≤◌, ◌<◌}
use native.Mathlib.Omega.{arith}
use lib.ListN.{length}
use borrow.Author.Tests.{not-true}
use Rattle.loops.proofs.TurnLaws.{turns_none}
use Rattle.sizes.specs.Sizes.{nodes, clusters, segments, node_memory, memory}
use Rattle.std.specs.Prelude.{Option, IfSome}
use Rattle.spans.specs.Spans.{marks, word_bits, or_end, Room}
use Rattle.store.specs.Places.{Found, None, Some, present_at}
use Rattle.store.specs.declared.Store.{Store}
use Rattle.store.specs.Records.{Tables, record_of, table_at, segment_on, place_on}
use Rattle.store.specs.Sound.{apart, sound}
use Rattle.store.specs.Placement.{PlacedIn}
use Rattle.store.specs.inner.Passes.{Map, map_words, stamped, stamped_by, node_map, Mapped, Based}
use Rattle.store.proofs.PlaceLaws.{Inside, inside_in, holds_in, holds_out}
use Rattle.store.proofs.MapLaws.{Before, above, beside, leaves, unmarked, map_at, unmarked_out, unmarked_in}
use Rattle.store.proofs.MapLaws.{free_in, free_apart, apart_leaves}
use Rattle.store.proofs.PlacementLaws.{Fits, bounds, base_is, base_none, base_no_node, base_no_size, base_too_long}
use Rattle.store.proofs.SoundLaws.{segment_inside, sound_out}

-- ---- clear in the map, and clear of every place

module _ (ts : Tables) (node : ℕ) (map : Map) (w : Mapped ts node map) where
  map_is : map ≡ map_at ts node clusters 0
  unfolding map_at stamped_by
  map_is = w.whole ∙ sym (turns_none (λ i. stamped (place_on ts node clusters i)) (node_map ts node clusters))

  module _ (base size : ℕ) (i : Inside base size) where
    map_clear : ((x : ℕ) → base ≤ x → x < base + size → map x ≡ false)
        → (m j : ℕ) → m < clusters → j < segments → apart (present_at base size) (place_on ts node m j) ≡ true
    map_clear f m j hm hj =
        free_apart (present_at base size) (place_on ts node m j) map (inside_in base size i) (w.within m j hm hj)
        (free_in (present_at base size) map (λ x h. let o = holds_out x base size h in ap not (f x o.from o.below)))
        (λ x u. unmarked_out ts node clusters 0 m j x (subst (λ (q : Map). unmarked x q ≡ true) map_is u) (above hm hj))

    clear_map : ((m j : ℕ) → m < clusters → j < segments → apart (present_at base size) (place_on ts node m j) ≡ true)
        → (x : ℕ) → base ≤ x → x < base + size → map x ≡ false
    clear_map f x l h =
        not-true (map x) (subst (λ (q : Map). unmarked x q ≡ true) (sym map_is) (unmarked_in ts node clusters 0 x each))
      where
        each : (m j : ℕ) → Before clusters 0 m j → leaves x (place_on ts node m j) ≡ true
        each m j (above hm hj) =
            apart_leaves (present_at base size) (place_on ts node m j) x (f m j hm hj) (holds_in x base size l h)
        each m j (beside q k) = absurd (omega arith)

-- ---- the ways through the code

module _ (ws : List ℕ) (size : ℕ) where
  pub based_empty : size < 1 → Based (marks ws) size None
  based_empty h = record { told = λ ts node n w. base_no_size ts node size h }

  pub based_long : node_memory < size → Based (marks ws) size None
  based_long h = record { told = λ ts node n w. base_too_long ts node size h }

  module _ (some : 1 ≤ size) (long : length ws ≡ map_words) (r : ℕ) (v : Room size ws r) where
    -- no smaller base fits
    below : (ts : Tables) (node : ℕ) → Mapped ts node (marks ws) → (k : ℕ) → k < r → Fits ts node size k → ⊥
    below ts node w k h f =
        let i = bounds ts node size k f in
        v.least k h (omega (arith, long)) (clear_map ts node (marks ws) w k size i f.free)

    pub based_none : node_memory ≤ r → Based (marks ws) size None
    based_none h = record { told = λ ts node n w. base_none ts node size (λ k l. below ts node w k (omega arith)) }

    pub based_at : r < node_memory → Based (marks ws) size (Some r)
    based_at h =
        let e = v.ends (omega (arith, long)) in
        let i : Inside r size = record { some = some; ends = omega (arith, long, e) } in
        record {
          told = λ ts node n w.
              base_is ts node size r h
              (record {
                known = n;
                within = inside_in r size i;
                free = map_clear ts node (marks ws) w r size i (v.clear (omega (arith, long)));
              })
              (below ts node w);
        }

  -- what the search for room tells is the base, or that there is none
  pub based_room : (1 ≤ size) → length ws ≡ map_words → (r : Option ℕ) → IfSome r (λ b. b < length ws * word_bits)
      → Room size ws (or_end ws r) → Based (marks ws) size r
  based_room some long None b v = based_none some long (or_end ws None) v (omega (arith, long))
  based_room some long (Some r) b v = based_at some long r v (omega (arith, long, b))

-- ---- a sound store

module _ (s : Store) (node size : ℕ) where
  pub placed_no_node : nodes ≤ node → PlacedIn s node size None
  placed_no_node h = record { told = λ e. base_no_node (table_at s) node size h }

  -- a map that is the node's where the store is sound tells the base where it is
  pub placed_mapped : (map : Map) (r : Found) → node < nodes
      → (sound s memory ≡ true → map ≡ node_map (table_at s) node clusters) → Based map size r → PlacedIn s node size r
  placed_mapped map r h f b =
      record {
        told = λ e.
            b.told (table_at s) node h
            (record {
              within = λ l i hl hi.
                  segment_inside (segment_on (table_at s) node l i)
                  ((sound_out s memory e).ranged (record_of node l) i (omega arith) hi);
              whole = f e;
            });
      }
