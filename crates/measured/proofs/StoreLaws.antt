-- A place from its two numbers, and a segment and a cluster from theirs.
-- Assumes nothing.
use mathlib.Core.Path.{◌≡◌, sym, ap}
use mathlib.Core.Bool.{Bool, true, false}
use mathlib.Core.List.{List}
use Prim.Native.Nat.{ℕ}
use borrow.Author.Tests.{eq-eqb, ne_eqb}
use lib.ListN.{replicate}
use Rattle.loops.specs.Tabulate.{tabulate}
use Rattle.sizes.specs.Sizes.{segments, password_bytes}
use Rattle.store.specs.Places.{Place, None, present_at}
use Rattle.store.specs.declared.Segment.{Segment}
use Rattle.measured.specs.Stores.{place_from, segment_from, cluster_from}

abbrev chosen : ℕ → ℕ → Bool → Place
chosen base length b = elim b [ true ↦ None | false ↦ present_at base length ]

pub place_absent : (base length : ℕ) → length ≡ 0 → None ≡ place_from base length
unfolding place_from
place_absent base length e = sym (ap (chosen base length) (eq-eqb length 0 e))

pub place_present : (base length : ℕ) → (length ≡ 0 → ⊥) → present_at base length ≡ place_from base length
unfolding place_from
place_present base length h = sym (ap (chosen base length) (ne_eqb length 0 h))

pub cluster_is : (bases lengths : List ℕ) (n : ℕ) (gs : List Segment)
    → gs ≡ tabulate segments (segment_from bases lengths n)
    → record {
      active = true;
      width = segments;
      read = replicate password_bytes 0;
      write = replicate password_bytes 0;
      segments = gs;
    }
    ≡ cluster_from bases lengths n
unfolding cluster_from
cluster_is bases lengths n gs e =
    λ j.
    record {
      active = true;
      width = segments;
      read = replicate password_bytes 0;
      write = replicate password_bytes 0;
      segments = e j;
    }
