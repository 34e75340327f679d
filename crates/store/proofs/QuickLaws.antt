-- Soundness worked out with fewer pairs, for stores that are computed: an absent segment is apart from all others, so only
-- those that are present are held against the rest. `quickly` opens all that such a computation runs through.
-- Assumes nothing.
use mathlib.Core.Path.{◌≡◌, refl, ap}
use mathlib.Core.Bool.{Bool, true, ◌&&◌, ◌||◌, or-true}
use Prim.Native.Nat.{ℕ}
use lib.Dec.{eqb}
use Rattle.loops.specs.Below.{every}
use Rattle.loops.proofs.BelowLaws.{every_in, every_same}
use Rattle.store.specs.Places.{Place, None, Some, present_at}
use Rattle.store.specs.declared.Store.{Store}
use Rattle.sizes.specs.Sizes.{nodes, clusters, segments, records, memory}
use Rattle.store.specs.Records.{Tables, cluster_at, table_at, segment_of, place_on}
use Rattle.store.specs.Sound.{in_ranges, ends_inside, inside, sound_mark, sound_segment, apart, node_apart}
use Rattle.store.specs.Sound.{zero_bytes, idle, below, sized, settled, sound}

-- segment i of local number l against all of the node
module _ (ts : Tables) (node l i : ℕ) where
  unfoldable pub alone : Place → Bool
  alone p = every clusters (λ m. every segments (λ j. eqb l m && eqb i j || apart p (place_on ts node m j)))

  unfoldable pub passed : Place → Bool
  passed None = true
  passed (Some span) = alone (present_at span.base span.length)

  alone_passed : (p : Place) → alone p ≡ passed p
  unfolding alone passed apart
  alone_passed None =
      every_in clusters (λ m. every segments (λ j. eqb l m && eqb i j || true)) (λ m hm.
      every_in segments (λ j. eqb l m && eqb i j || true) (λ j hj. or-true (eqb l m && eqb i j)))
  alone_passed (Some span) = refl

unfoldable pub quick_apart : Tables → ℕ → Bool
quick_apart ts node = every clusters (λ l. every segments (λ i. passed ts node l i (place_on ts node l i)))

unfoldable pub quick : Store → ℕ → Bool
quick s size =
    eqb size memory
    && every records (λ n. every segments (λ i. sound_segment (segment_of (table_at s n) i)))
    && every nodes (quick_apart (table_at s))
    && every records (λ n. settled (cluster_at s n))

apart_quick : (ts : Tables) (node : ℕ) → node_apart ts node ≡ quick_apart ts node
unfolding node_apart quick_apart alone
apart_quick ts node =
    every_same clusters _ _ (λ l hl.
    every_same segments _ _ (λ i hi. alone_passed ts node l i (place_on ts node l i)))

pub sound_quick : (s : Store) (size : ℕ) → sound s size ≡ quick s size
unfolding sound quick
sound_quick s size =
    ap (λ (b : Bool). eqb size memory
    && every records (λ n. every segments (λ i. sound_segment (segment_of (table_at s n) i)))
    && b
    && every records (λ n. settled (cluster_at s n)))
    (every_same nodes (node_apart (table_at s)) (quick_apart (table_at s)) (λ v h. apart_quick (table_at s) v))

unfoldable pub quickly : Unit {0}
unfolding quick quick_apart passed alone every sound_segment sound_mark inside in_ranges ends_inside apart settled sized below idle
    zero_bytes
quickly = tt
