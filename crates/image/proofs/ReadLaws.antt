-- A record cut where its fields begin is that of its cluster; one record of an image is that of the store which the image
-- holds.
-- Assumes nothing.
use mathlib.Core.Path.{◌≡◌, sym, ap, ◌∙◌}
use mathlib.Core.List.{List}
use Prim.Native.Nat.{ℕ, ◌<◌}
use native.Mathlib.Omega.{arith}
use borrow.Rule.Slice.PartMut.{mid_len}
use lib.ListN.{length, get_or}
use Rattle.loops.specs.First.{first_bytes}
use Rattle.loops.proofs.FirstBytes.{first_whole}
use Rattle.loops.proofs.TabulateLaws.{get_d_tabulate}
use Rattle.sizes.specs.Sizes.{records, password_bytes}
use Rattle.store.specs.declared.Segment.{Segment}
use Rattle.store.specs.declared.Cluster.{Cluster}
use Rattle.store.specs.Records.{no_cluster, cluster_at}
use Rattle.image.specs.Parts.{part, slot}
use Rattle.image.specs.Images.{record_bytes, width_at, read_at, write_at, segments_at, flag_in, segments_in, cluster_in}
use Rattle.image.specs.Images.{store_in}

-- the code has cut a record where its fields begin
pub cluster_cut : (b r w : List ℕ) (gs : List Segment) → length b ≡ record_bytes
    → r ≡ first_bytes password_bytes (part b read_at write_at) → w ≡ first_bytes password_bytes (part b write_at segments_at)
    → gs ≡ segments_in (part b segments_at record_bytes)
    → record { active = flag_in (get_or b 0 0); width = get_or b width_at 0; read = r; write = w; segments = gs } ≡ cluster_in b
unfolding cluster_in
cluster_cut b r w gs e er ew eg =
    λ j. record {
      active = flag_in (get_or b 0 0);
      width = get_or b width_at 0;
      read = (er ∙ first_whole password_bytes (part b read_at write_at) (mid_len read_at write_at b (omega arith))) j;
      write = (ew ∙ first_whole password_bytes (part b write_at segments_at) (mid_len write_at segments_at b (omega arith))) j;
      segments = eg j;
    }

pub cluster_at_lem : (b : List ℕ) (n : ℕ) → n < records → cluster_at (store_in b) n ≡ cluster_in (slot record_bytes b n)
unfolding store_in
cluster_at_lem b n h = get_d_tabulate records (λ k. cluster_in (slot record_bytes b k)) no_cluster n h

-- the code has looked up record n
pub record_found_lem : (b : List ℕ) (m n : ℕ) (c : Cluster) → (n ≡ m) × (n < records) → c ≡ cluster_in (slot record_bytes b n)
    → c ≡ cluster_at (store_in b) m
record_found_lem b m n c g e = e ∙ sym (cluster_at_lem b n g.1) ∙ ap (λ (k : ℕ). cluster_at (store_in b) k) g.0
