-- A new segment in words. Call 3 done has shown that the store is sound and that placement gives a base, so the sentence
-- on the base holds of it; the bytes put are zeros, inside the memory.
-- Assumes nothing.
use mathlib.Core.Path.{◌≡◌, refl, sym, ap, ◌∙◌}
use Prim.Native.Nat.{ℕ, ◌+◌, ◌*◌, ◌≤◌, ◌<◌}
use native.Mathlib.Omega.{arith}
use native.Mathlib.Decide.{dec_lt}
use mathlib.Core.Bool.{true, true≢false}
use mathlib.Core.List.{List}
use lib.ListN.{length, get_or, replicate, length-replicate, get_or-replicate, get_or-eq_default}
use lib.Seq.{get_or-set_same}
use borrow.Author.Tests.{leb-false, not-false}
use Rattle.handle.specs.Handles.{Name, node_of, width_of}
use Rattle.handle.proofs.WidthLaws.{bits_le}
use Rattle.store.specs.declared.Segment.{Segment}
use Rattle.store.specs.declared.Cluster.{Cluster}
use Rattle.store.specs.declared.Store.{Store}
use Rattle.store.specs.Records.{segment_at, absent_segment, no_cluster, table_of, cluster_at, table_at, segment_of, frozen_of, with_place}
use Rattle.store.specs.Sound.{sound}
use Rattle.store.specs.SoundWords.{SoundInWords}
use Rattle.store.specs.Placement.{placed_at, placement}
use Rattle.store.specs.PlacementWords.{Room}
use Rattle.store.proofs.ChangeLaws.{put_same}
use Rattle.store.proofs.SoundWordLaws.{sound_in_words}
use Rattle.store.proofs.PlaceLaws.{inside_out}
use Rattle.store.proofs.PlacementLaws.{new_base_fits}
use Rattle.store.proofs.PlacementWordLaws.{placement_in_words}
use Rattle.calls.specs.Calls.{Copy, Call, Arguments, call, new_segment, handle_of, record_for}
use Rattle.calls.specs.Numbers.{unsound, bad_segment, number}
use Rattle.calls.specs.Words.{place, cluster_of}
use Rattle.calls.specs.Steps.{Outcome, about, new_base_for, new_place, segment_made, left, given, step}
use Rattle.calls.specs.MadeWords.{Sixteen, MadeInWords}
use Rattle.calls.proofs.DoneLaws.{no_row, done_range, done_segment, done_active, new_base_lem}
use Rattle.calls.proofs.MemoryLaws.{length_overwritten, overwritten_inside, overwritten_out}
use Rattle.calls.proofs.StepLaws.{step_done}

-- an active record is one of the store's
pub active_in : (s : Store) (n : ℕ) → (table_at s n).active ≡ true → n < length s.clusters
active_in s n e = go (dec_lt n (length s.clusters))
  where
    go : Dec (n < length s.clusters) → n < length s.clusters
    go (yes h) = h
    go (no h) =
        absurd (true≢false
        (sym e ∙ ap (λ (c : Cluster). c.active) (get_or-eq_default s.clusters no_cluster (omega arith))))

module _ (f : Name → List ℕ → ℕ → List ℕ) (g : Arguments) (c : Copy) where
  abbrev x : Call
  x = call new_segment g

  abbrev node : ℕ
  node = node_of (handle_of x)

  abbrev base : ℕ
  base = new_base_for x (table_at c.store)

  abbrev zeros : List ℕ
  zeros = replicate g.size 0

  module _ (e : number f x c.store (length c.memory) ≡ 0) where
    whole : SoundInWords c.store (length c.memory)
    unfolding unsound
    whole =
        (sound_in_words c.store (length c.memory)).0
        (not-false (sound c.store (length c.memory)) (no_row f x c.store (length c.memory) e).unsound)

    low_node : node < 4
    low_node = (done_range f x c.store (length c.memory) e).node_low

    some_size : 1 ≤ g.size
    some_size =
        let found = new_base_fits (table_at c.store) node g.size _ (new_base_lem f g c.store (length c.memory) e) in
        (inside_out _ g.size found.within).some

    smallest : Room c.store node g.size base × ((k : ℕ) → k < base → Room c.store node g.size k → ⊥)
    unfolding placement
    smallest =
        ((placement_in_words c.store (length c.memory) whole node g.size low_node some_size).at base).0
        (ap placed_at (new_base_lem f g c.store (length c.memory) e))

    put_in : node * 4096 + base + length zeros ≤ length c.memory
    put_in =
        rw (length-replicate {A = ℕ} g.size 0) (omega (arith, low_node, smallest.0.ends, whole.slice))

    step_made : step f x c ≡ record { copy = segment_made x c; reply = given f new_segment x c }
    unfolding left
    step_made = step_done f x c e

    pub made_in_words : Sixteen x c → MadeInWords f g c
    unfolding given segment_made bad_segment
    made_in_words whole =
        record {
          base = base;
          number = ap (λ (o : Outcome). o.reply.number) step_made;
          present =
              ap (λ (o : Outcome). place x o.copy.store) step_made ∙ ap (λ (z : Segment). z.place) found;
          unfrozen = λ t.
              true≢false
              (sym t
              ∙ ap (λ (o : Outcome). frozen_of (table_of (cluster_of (handle_of x) o.copy.store)) g.segment) step_made
              ∙ ap (λ (z : Segment). z.frozen) found);
          room = smallest.0;
          smallest = smallest.1;
          cleared = λ k h.
              ap (λ (o : Outcome). get_or o.copy.memory (node * 4096 + base + k) 0) step_made
              ∙ overwritten_inside c.memory (node * 4096 + base) zeros put_in k
              (rw (length-replicate {A = ℕ} g.size 0) h)
              ∙ get_or-replicate g.size k 0 0 h;
          others = λ p n.
              ap (λ (o : Outcome). get_or o.copy.memory p 0) step_made
              ∙ overwritten_out c.memory (node * 4096 + base) zeros put_in p
              (λ a b. n (a, rw (length-replicate {A = ℕ} g.size 0) at b));
          long =
              ap (λ (o : Outcome). length o.copy.memory) step_made
              ∙ length_overwritten c.memory (node * 4096 + base) zeros put_in;
        }
      where
        made : Cluster
        made = with_place (about x c) g.segment (new_place x (table_at c.store))

        low : g.segment < length (about x c).segments
        low =
            let i = leb-false (width_of (handle_of x)) g.segment (done_segment f x c.store (length c.memory) e) in
            omega (arith, whole, bits_le (handle_of x).width)

        found : segment_of (table_of (cluster_at (segment_made x c).store (record_for x))) g.segment
            ≡ segment_at (new_place x (table_at c.store))
        found =
            ap (λ (d : Cluster). segment_of (table_of d) g.segment)
            (put_same c.store (record_for x) made
            (active_in c.store (record_for x) (done_active f x c.store (length c.memory) e refl)))
            ∙ get_or-set_same (about x c).segments g.segment (segment_at (new_place x (table_at c.store))) absent_segment low
