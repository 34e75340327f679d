-- A list cut in chunks of one length, as `as_chunks` cuts it: chunk k is a part of the list, and item i of it is item k * w + i.
-- So are a store's clusters, a chunk for each node.
-- Assumes nothing.
use mathlib.Core.Path.{◌≡◌, sym, ap, ◌∙◌, subst}
use mathlib.Core.List.{List, []}
use Prim.Native.Nat.{ℕ, zero, suc, ◌+◌, ◌*◌, ◌/◌, ◌<◌}
use native.Mathlib.Nat.{suc-mul, zero-mul, le_of_suc-le-suc}
use native.Mathlib.Omega.{arith}
use lib.ListN.{length, get_or, take, drop}
use lib.Seq.{drop-drop, get_or-take, get_or-drop}
use Rattle.std.specs.Simd.{first_chunks}
use Rattle.sizes.specs.Sizes.{nodes, clusters, records}
use Rattle.store.specs.declared.Cluster.{Cluster}
use Rattle.store.specs.declared.Store.{Store}
use Rattle.store.specs.Records.{record_of, no_cluster, cluster_at}

module _ {A : Type 0} (w : ℕ) where
  pub chunk_at : (n : ℕ) (l : List A) (k : ℕ) → k < n → get_or (first_chunks w n l) k [] ≡ take w (drop (k * w) l)
  chunk_at zero l k h = absurd (omega arith)
  chunk_at (suc n) l zero h = ap (λ (m : ℕ). take w (drop m l)) (sym (zero-mul w))
  chunk_at (suc n) l (suc k) h =
      chunk_at n (drop w l) k (le_of_suc-le-suc h)
      ∙ ap (take w) (drop-drop (k * w) w l)
      ∙ ap (λ (m : ℕ). take w (drop m l)) (turn (k * w) w ∙ sym (suc-mul k w))
    where
      turn : (a w : ℕ) → w + a ≡ a + w
      turn a w = omega arith

  pub item_at : (n : ℕ) (l : List A) (k i : ℕ) (d : A) → k < n → i < w
      → get_or (get_or (first_chunks w n l) k []) i d ≡ get_or l (k * w + i) d
  item_at n l k i d h b =
      ap (λ (c : List A). get_or c i d) (chunk_at n l k h)
      ∙ get_or-take w (drop (k * w) l) i d b
      ∙ get_or-drop (k * w) l i d

-- the clusters of a store, cut by their nodes
module _ (s : Store) (long : length s.clusters ≡ records) (cs : List (List Cluster)) (en : length cs ≡ length s.clusters / clusters) where
  all : length s.clusters / clusters ≡ nodes
  all = ap (λ (n : ℕ). n / clusters) long

  pub nodes_all : length cs ≡ nodes
  nodes_all = en ∙ all

  pub node_cluster : cs ≡ first_chunks clusters (length s.clusters / clusters) s.clusters → (v l : ℕ) → v < nodes → l < clusters
      → get_or (get_or cs v []) l no_cluster ≡ cluster_at s (record_of v l)
  node_cluster e v l h b =
      ap (λ (x : List (List Cluster)). get_or (get_or x v []) l no_cluster) e
      ∙ item_at clusters (length s.clusters / clusters) s.clusters v l no_cluster (subst (λ (n : ℕ). v < n) (sym all) h) b
