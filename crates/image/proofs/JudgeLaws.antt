-- The code's passes over an image tell whether it is good and its store sound. Where the records of a node so far passed,
-- the map is that of their segments (`Judged`); one that is refused leaves a map of which nothing is known, and the node is
-- refused whatever follows. Record by record, passing is being good and being sound. Where all nodes passed, the base that
-- the map of one of them tells is that of a new segment.
-- Assumes nothing.
use mathlib.Core.Path.{◌≡◌, refl, sym, ap, ap₂, ◌∙◌, subst}
use mathlib.Core.Bool.{Bool, true, false, not, ◌&&◌, cond, true≢false}
use mathlib.Core.List.{List}
use Prim.Native.Nat.{ℕ, ◌+◌, ◌/◌, ◌%◌, ◌≤◌, ◌<◌}
use native.Mathlib.Omega.{arith}
use lib.Dec.{eqb, ltb}
use lib.ListN.{replicate}
use borrow.Author.Tests.{not-true, not-false, eqb-true, eqb-false, ltb-true, ltb-false}
use Rattle.std.specs.Option.{is_some, option_flatten}
use Rattle.std.specs.Bool.{then_some}
use Rattle.loops.specs.Below.{every}
use Rattle.loops.proofs.BelowLaws.{and_left, and_right, and_off, tests_equal, every_at, every_in, every_same, every_both}
use Rattle.loops.proofs.BelowLaws.{every_pair_at, every_pair_in}
use Rattle.loops.proofs.RunningLaws.{Running, running_none, running_more, running_all, every_more}
use Rattle.loops.proofs.TurnLaws.{turns_none, turns_more}
use Rattle.sizes.specs.Sizes.{nodes, clusters, segments, records, memory}
use Rattle.spans.specs.Spans.{marks}
use Rattle.spans.proofs.SpanLaws.{marks_none}
use Rattle.store.specs.declared.Cluster.{Cluster}
use Rattle.store.specs.Places.{Found, None}
use Rattle.store.specs.Records.{Tables, record_of, table_of, table_at, segment_of, place_of, place_on}
use Rattle.store.specs.Sound.{settled, sound}
use Rattle.store.specs.Placement.{placement, placed_by, no_room}
use Rattle.store.specs.inner.Passes.{Map, map_words, stamped_by, claims, blank, node_map, cluster_sound, Based}
use Rattle.store.proofs.ClaimLaws.{tested_told}
use Rattle.store.proofs.PlacementLaws.{base_no_node}
use Rattle.store.proofs.RoomLaws.{placed_mapped}
use Rattle.image.specs.Parts.{slot}
use Rattle.image.specs.Images.{record_bytes, cluster_in, good_record, store_in, good}
use Rattle.image.specs.Verdicts.{sound_in, placement_in}
use Rattle.image.specs.inner.Claims.{record_sound, RecordClaimed, BaseOn}
use Rattle.image.proofs.ReadLaws.{cluster_at_lem}

-- the two ways to what is found
module _ (map : Map) (here : Bool) (size : ℕ) (found : Found) where
  pub base_kept : not here ≡ true → BaseOn map here size found found
  base_kept e = record { told = λ t. absurd (true≢false (sym e ∙ ap not t)); kept = λ t. refl }

  pub base_told : not here ≡ false → (r : Found) → Based map size r → BaseOn map here size found r
  base_told e r d = record { told = λ t. d; kept = λ t. absurd (true≢false (sym (ap not t) ∙ e)) }

module _ (b : List ℕ) where
  abbrev tables : Tables
  tables = table_at (store_in b)

  abbrev bytes_of : ℕ → ℕ → List ℕ
  bytes_of node l = slot record_bytes b (record_of node l)

  -- ---- the records of a node

  -- record l of the node passes, after the segments of those before it
  abbrev passes : ℕ → ℕ → Bool
  passes node l = record_sound (slot record_bytes b (record_of node l)) (node_map (table_at (store_in b)) node l)

  -- the map with the segments of no record of the node, and of one more
  map_none : (node : ℕ) → marks (replicate map_words 0) ≡ node_map (table_at (store_in b)) node 0
  unfolding node_map
  map_none node =
      (λ j x. marks_none map_words x j) ∙ sym (turns_none (λ m. stamped_by segments (place_on tables node m)) blank)

  map_more : (node l : ℕ) (map after : Map) → node < nodes → l < clusters → map ≡ node_map (table_at (store_in b)) node l
      → after ≡ stamped_by segments (place_of (table_of (cluster_in (slot record_bytes b (record_of node l))))) map
      → after ≡ node_map (table_at (store_in b)) node (l + 1)
  unfolding node_map
  map_more node l map after hv h m e =
      e
      ∙ ap (stamped_by segments (place_of (table_of (cluster_in (bytes_of node l))))) m
      ∙ ap (λ (c : Cluster). stamped_by segments (place_of (table_of c)) (node_map tables node l))
      (sym (cluster_at_lem b (record_of node l) (omega arith)))
      ∙ sym (turns_more l (λ m. stamped_by segments (place_on tables node m)) blank)

  -- l records of the node were judged
  pub record Judged (node l : ℕ) (ok : Bool) (map : Map) : Type 0 where
    pub told : Running clusters (passes node) l ok
    pub left : ok ≡ true → map ≡ node_map tables node l

  pub judged_none : (node : ℕ) → Judged node 0 true (marks (replicate map_words 0))
  judged_none node = record { told = running_none _ _; left = λ t. map_none node }

  module _ (node l : ℕ) (ok : Bool) (map : Map) (w : Judged node l ok map) where
    pub judged_more : (r : Bool) (after : Map) → node < nodes → l < clusters
        → RecordClaimed (slot record_bytes b (record_of node l)) map r after → Judged node (l + 1) (r && ok) after
    judged_more r after hv h e =
        record {
          told = telling ok w.told w.left;
          left = λ t. map_more node l map after hv h (w.left (and_right r ok t)) (e.left (and_left r ok t));
        }
      where
        telling : (t : Bool) → Running clusters (passes node) l t → (t ≡ true → map ≡ node_map tables node l)
            → Running clusters (passes node) (l + 1) (r && t)
        telling true q f =
            running_more _ _ l true q r h (e.told ∙ ap (record_sound (bytes_of node l)) (f refl))
        telling false q f =
            let low = q.low in
            record {
              low = omega arith;
              told =
                  and_off r false refl
                  ∙ sym (every_more l (passes node) ∙ and_off (passes node l) (every l (passes node)) (sym q.told));
            }

    judged_all : clusters ≤ l → ok ≡ every clusters (passes node)
    judged_all h = running_all _ _ l ok w.told h

    judged_map : clusters ≤ l → ok ≡ true → map ≡ node_map tables node clusters
    judged_map h t =
        let low = w.told.low in
        let all : l ≡ clusters = omega arith in
        w.left t ∙ ap (node_map tables node) all

  -- ---- the nodes

  abbrev fine : ℕ → ℕ → Bool
  fine node l = good_record (bytes_of node l)

  abbrev sounds : ℕ → ℕ → Bool
  sounds = cluster_sound (store_in b)

  passes_is : (v m : ℕ) → v < nodes → m < clusters → passes v m ≡ fine v m && sounds v m
  unfolding cluster_sound
  passes_is v m hv hm =
      ap (λ (c : Cluster). fine v m && (settled c && claims segments (segment_of (table_of c)) (node_map tables v m)))
      (sym (cluster_at_lem b (record_of v m) (omega arith)))

  abbrev all_fine : Bool
  all_fine = every nodes (λ v. every clusters (fine v))

  abbrev all_sound : Bool
  all_sound = every nodes (λ v. every clusters (sounds v))

  all_fine_lem : all_fine ≡ good b
  unfolding good
  all_fine_lem =
      tests_equal all_fine (every records (λ n. good_record (slot record_bytes b n)))
      (λ e. every_in records (λ n. good_record (slot record_bytes b n)) (λ n h.
      subst (λ (k : ℕ). good_record (slot record_bytes b k) ≡ true) (split n)
      (every_pair_at nodes clusters fine e (n / clusters) (n % clusters) (omega arith) (omega arith))))
      (λ e. every_pair_in nodes clusters fine (λ v m hv hm.
      every_at records (λ n. good_record (slot record_bytes b n)) e (record_of v m) (omega arith)))
    where
      split : (n : ℕ) → record_of (n / clusters) (n % clusters) ≡ n
      split n = omega arith

  both : every nodes (λ v. every clusters (passes v)) ≡ all_fine && all_sound
  both =
      every_same nodes (λ v. every clusters (passes v)) (λ v. every clusters (fine v) && every clusters (sounds v))
      (λ v hv.
      every_same clusters (passes v) (λ m. fine v m && sounds v m) (λ m hm. passes_is v m hv hm)
      ∙ every_both clusters (fine v) (sounds v))
      ∙ every_both nodes (λ v. every clusters (fine v)) (λ v. every clusters (sounds v))

  all_sound_lem : all_sound ≡ sound (store_in b) memory
  all_sound_lem =
      tested_told (store_in b) memory nodes all_sound (record { low = omega arith; told = refl }) (omega arith)

  -- the loop over the nodes has come to its end
  nodes_told : (node : ℕ) (ok : Bool) → Running nodes (λ v. every clusters (passes v)) node ok → nodes ≤ node
      → ok ≡ sound_in b
  nodes_told node ok w h =
      running_all _ _ node ok w h ∙ both ∙ ap₂ (λ (x y : Bool). x && y) all_fine_lem all_sound_lem

  -- ---- the base on one of them

  module _ (wanted size : ℕ) where
    -- so many nodes passed, and the base is told by the map of the one that is wanted
    pub record Sought (node : ℕ) (ok : Bool) (found : Found) : Type 0 where
      pub told : Running nodes (λ v. every clusters (passes v)) node ok
      pub based : wanted < node → ok ≡ true → Based (node_map tables wanted clusters) size found
      pub beyond : nodes ≤ wanted → found ≡ None

    pub sought_none : Sought 0 true None
    sought_none = record { told = running_none _ _; based = λ h. absurd (omega arith); beyond = λ h. refl }

    pub sought_more : (node : ℕ) (ok : Bool) (found : Found) → Sought node ok found → node < nodes
        → (l : ℕ) (r : Bool) (map : Map) → Judged node l r map → clusters ≤ l
        → (base : Found) → BaseOn map (eqb node wanted) size found base → Sought (node + 1) (r && ok) base
    sought_more node ok found w h l r map e all base d = go (eqb node wanted) refl d
      where
        told : Running nodes (λ v. every clusters (passes v)) (node + 1) (r && ok)
        told = running_more _ _ node ok w.told r h (judged_all node l r map e all)

        go : (here : Bool) → eqb node wanted ≡ here → BaseOn map here size found base → Sought (node + 1) (r && ok) base
        go true q d =
            let same = eqb-true node wanted q in
            record {
              told = told;
              based = λ _ t.
                  subst (λ (m : Map). Based m size base)
                  (judged_map node l r map e all (and_left r ok t) ∙ ap (λ (v : ℕ). node_map tables v clusters) same)
                  (d.told refl);
              beyond = λ k. absurd (omega (arith, same, h));
            }
        go false q d =
            let other = eqb-false node wanted q in
            record {
              told = told;
              based = λ k t.
                  subst (Based (node_map tables wanted clusters) size) (sym (d.kept refl))
                  (w.based (omega (arith, other)) (and_right r ok t));
              beyond = λ k. d.kept refl ∙ w.beyond k;
            }

    module _ (node : ℕ) (ok : Bool) (found : Found) (w : Sought node ok found) (h : nodes ≤ node) where
      sought_sound : ok ≡ sound_in b
      sought_sound = nodes_told node ok w.told h

      -- what is told where the verdict is that
      verdict : (t : Bool) → ok ≡ t → cond t (placement tables wanted size) no_room ≡ placement_in b wanted size
      verdict t e = ap (λ (u : Bool). cond u (placement tables wanted size) no_room) (sym e ∙ sought_sound)

      sought_nowhere : not ok ≡ true → placed_by None ≡ placement_in b wanted size
      sought_nowhere e = verdict false (not-true ok e)

      sought_base : not ok ≡ false → placed_by found ≡ placement_in b wanted size
      sought_base e = go (ltb wanted nodes) refl ∙ verdict true t
        where
          t : ok ≡ true
          t = not-false ok e

          held : sound (store_in b) memory ≡ true
          held = and_right (good b) (sound (store_in b) memory) (sym sought_sound ∙ t)

          go : (q : Bool) → ltb wanted nodes ≡ q → placed_by found ≡ placement tables wanted size
          go true q =
              let l = ltb-true wanted nodes q in
              (placed_mapped (store_in b) wanted size (node_map tables wanted clusters) found l (λ s. refl)
              (w.based (omega (arith, l)) t)).told held
          go false q =
              let l = ltb-false wanted nodes q in
              ap placed_by (w.beyond l) ∙ base_no_node tables wanted size l

      -- the base, where the store is sound
      pub sought_told : is_some (then_some ok found) ≡ sound_in b
      sought_told = go ok refl
        where
          go : (t : Bool) → ok ≡ t → is_some (then_some t found) ≡ sound_in b
          go true e = sym e ∙ sought_sound
          go false e = sym e ∙ sought_sound

      pub sought_placed : placed_by (option_flatten (then_some ok found)) ≡ placement_in b wanted size
      sought_placed = go ok refl
        where
          go : (t : Bool) → ok ≡ t → placed_by (option_flatten (then_some t found)) ≡ placement_in b wanted size
          go true e = sought_base (ap not e)
          go false e = sought_nowhere (ap not e)
