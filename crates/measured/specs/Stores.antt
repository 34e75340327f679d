-- Stores to measure with: every cluster active with sixteen segments and zero passwords, segment i of record n at entry
-- n * 16 + i of two tables, absent where its length is zero; none is frozen.
-- Assumes nothing.
use Rattle.std.specs.Prelude.{ℕ, ◌+◌, ◌*◌, true, false, List, eqb, get_or, replicate}
use Rattle.loops.specs.Tabulate.{tabulate}
use Rattle.sizes.specs.Sizes.{records, segments, password_bytes}
use Rattle.store.specs.Places.{Place, None, present_at}
use Rattle.store.specs.declared.Segment.{Segment}
use Rattle.store.specs.declared.Cluster.{Cluster}
use Rattle.store.specs.declared.Store.{Store}
use Rattle.store.specs.Records.{segment_at}

unfoldable pub place_from : ℕ → ℕ → Place
place_from base length = elim (eqb length 0) [ true ↦ None | false ↦ present_at base length ]

abbrev pub segment_from : List ℕ → List ℕ → ℕ → ℕ → Segment
segment_from bases lengths n i =
    segment_at (place_from (get_or bases (n * segments + i) 0) (get_or lengths (n * segments + i) 0))

unfoldable pub cluster_from : List ℕ → List ℕ → ℕ → Cluster
cluster_from bases lengths n =
    record {
      active = true;
      width = segments;
      read = replicate password_bytes 0;
      write = replicate password_bytes 0;
      segments = tabulate segments (segment_from bases lengths n);
    }

unfoldable pub store_from : List ℕ → List ℕ → Store
store_from bases lengths = record { clusters = tabulate records (cluster_from bases lengths) }
