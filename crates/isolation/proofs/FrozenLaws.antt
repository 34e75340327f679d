-- What is frozen stays, by induction over the list. A call done is about another cluster, or leaves the segment's entry
-- alone: deleting the cluster, deleting the segment or writing to it would have been refused with 22, making it anew with
-- 13, making the cluster anew with 6, and freezing it again changes nothing. What a call writes is another segment, or
-- room that was free.
-- Assumes nothing.
use mathlib.Core.Path.{◌≡◌, refl, sym, ap, ◌∙◌, subst}
use mathlib.Core.Logic.{inr}
use Prim.Native.Nat.{ℕ, ◌+◌, ◌*◌, ◌<◌}
use native.Mathlib.Omega.{arith}
use native.Mathlib.Decide.{ℕ_discrete}
use mathlib.Core.Bool.{Bool, true, false, not, true≢false, false≢true}
use mathlib.Core.List.{List, [], ◌∷◌}
use lib.ListN.{length, get_or}
use borrow.Author.Tests.{not-false, not-true}
use Rattle.loops.proofs.BelowLaws.{every_at}
use Rattle.sizes.specs.Sizes.{segments}
use Rattle.handle.specs.Handles.{Name}
use Rattle.store.specs.Places.{Place, present_at}
use Rattle.store.specs.declared.Segment.{Segment}
use Rattle.store.specs.declared.Cluster.{Cluster}
use Rattle.store.specs.declared.Store.{Store}
use Rattle.store.specs.Records.{Table, table_of, record_of, cluster_at, segment_of, place_of, frozen_of, none_frozen}
use Rattle.store.specs.Sound.{is_absent, inside, apart, sound}
use Rattle.store.proofs.RecordLaws.{put_itself, mark_itself}
use Rattle.store.proofs.SoundWordLaws.{sound_in_words}
use Rattle.calls.specs.Calls.{Copy, Call, call, Arguments, Kind, new_cluster, delete_cluster, new_segment, delete_segment}
use Rattle.calls.specs.Calls.{read, write, weaken, reduce, new_password, freeze, join, validate, look, node_for, local_for}
use Rattle.calls.specs.Calls.{record_for, place_for, frozen_for}
use Rattle.calls.specs.Numbers.{unsound, cluster_frozen, segment_present, segment_frozen}
use Rattle.calls.specs.Steps.{put_cluster, about, segment_marked, left, step, run}
use Rattle.calls.proofs.DoneLaws.{no_row, done_range, new_away, new_base_lem}
use Rattle.calls.specs.FreezeWords.{FreezeInWords}
use Rattle.calls.proofs.FreezeLaws.{freeze_in_words}
use Rattle.isolation.specs.Copies.{SoundCopy, Done, InPlace}
use Rattle.isolation.specs.Statements.{Touched}
use Rattle.isolation.specs.Frozen.{place_at, Fixed, FrozenStays, FixedFromThenOn}
use Rattle.isolation.proofs.AddressLaws.{disjoint, place_inside, place_outside, room_outside}
use Rattle.isolation.proofs.EntryLaws.{left_entries}
use Rattle.isolation.proofs.KeptLaws.{tables, facts, low_segment, left_own, by_number, step_sound}

module _ (f : Name → List ℕ → ℕ → List ℕ) (v l i base size : ℕ) (hv : v < 4) (hl : l < 8) (hi : i < 16) where
  abbrev n : ℕ
  n = record_of v l

  -- the segment is present there, and frozen
  record Published (c : Copy) : Type 0 where
    present : place_of (tables c n) i ≡ present_at base size
    marked : frozen_of (tables c n) i ≡ true

  module _ (c : Copy) (k : SoundCopy c) (p : Published c) where
    -- its cluster is active: an inactive one has no segment
    active : (tables c n).active ≡ true
    active = go (tables c n).active refl
      where
        go : (b : Bool) → (tables c n).active ≡ b → b ≡ true
        go true e = refl
        go false e =
            absurd (false≢true
            (ap is_absent (sym p.present)
            ∙ ap is_absent (((sound_in_words c.store (length c.memory)).0 k).no_segment n i (omega arith) hi e)))

    module _ (g : Arguments) where
      -- ---- the entry of the segment

      abbrev Stays : Cluster → Cluster → Type 0
      Stays a b = (segment_of (table_of b) i ≡ segment_of (table_of a) i) × (b.active ≡ a.active)

      abbrev owns : Kind → Cluster
      owns kind = cluster_at (left kind (call kind g) c).store (record_for (call kind g))

      module _ (kind : Kind) (q : record_for (call kind g) ≡ n) where
        -- what is known of it, where the call is about its cluster and names it
        present_here : g.segment ≡ i → is_absent (place_for (call kind g) (tables c)) ≡ false
        present_here s =
            ap is_absent
            ((λ j. place_of (tables c (q j)) (s j)) ∙ p.present)

        frozen_here : g.segment ≡ i → frozen_for (call kind g) (tables c) ≡ true
        frozen_here s = (λ j. frozen_of (tables c (q j)) (s j)) ∙ p.marked

        unchanged : owns kind ≡ about (call kind g) c → Stays (about (call kind g) c) (owns kind)
        unchanged e = (ap (λ (d : Cluster). segment_of (table_of d) i) e, ap (λ (d : Cluster). d.active) e)

      stays : (kind : Kind) → Done f (call kind g) c → record_for (call kind g) ≡ n
          → Stays (about (call kind g) c) (owns kind)
      unfolding cluster_frozen none_frozen segment_present segment_frozen left segment_marked
      stays new_cluster e q =
          absurd (new_away f g c.store (length c.memory) e n active q)
      stays delete_cluster e q =
          let r = no_row f (call delete_cluster g) c.store (length c.memory) e in
          let none = every_at segments (λ j. not (frozen_of (tables c (record_for (call delete_cluster g))) j)) (not-false _ r.cluster_frozen) i hi in
          absurd (true≢false
          (sym p.marked ∙ ap (λ (m : ℕ). frozen_of (tables c m) i) (sym q)
          ∙ not-true (frozen_of (tables c (record_for (call delete_cluster g))) i) none))
      stays new_segment e q =
          let r = no_row f (call new_segment g) c.store (length c.memory) e in
          let t = left_entries f g c new_segment e in
          (t.segments i (λ s. true≢false (sym (not-false _ r.segment_present) ∙ present_here new_segment q (sym s))), t.active)
      stays delete_segment e q =
          let r = no_row f (call delete_segment g) c.store (length c.memory) e in
          let t = left_entries f g c delete_segment e in
          (t.segments i (λ s. true≢false (sym (frozen_here delete_segment q (sym s)) ∙ r.segment_frozen)), t.active)
      stays read e q = unchanged read q refl
      stays write e q = unchanged write q (left_entries f g c write e)
      stays weaken e q = unchanged weaken q refl
      stays reduce e q = unchanged reduce q refl
      stays new_password e q =
          let t = (left_entries f g c new_password e).table in
          (ap (λ (d : Table). segment_of d i) t, ap (λ (d : Table). d.active) t)
      stays freeze e q = go (ℕ_discrete i g.segment)
        where
          go : Dec (i ≡ g.segment) → Stays (about (call freeze g) c) (owns freeze)
          go (no s) = let t = (left_entries f g c freeze e).others in (t.segments i s, t.active)
          go (yes s) =
              unchanged freeze q
              (ap (λ (d : Cluster). cluster_at (put_cluster c (record_for (call freeze g)) d).store (record_for (call freeze g)))
              (mark_itself (about (call freeze g) c) g.segment (frozen_here freeze q (sym s)))
              ∙ ap (λ (z : Store). cluster_at z (record_for (call freeze g))) (put_itself c.store (record_for (call freeze g))))
      stays join e q = unchanged join q refl
      stays validate e q = unchanged validate q refl
      stays look e q = unchanged look q refl

      -- ---- the bytes of the segment

      untouched : (kind : Kind) → Done f (call kind g) c → (a : ℕ) → InPlace v (place_of (tables c n) i) a
          → Touched kind (call kind g) (tables c) a → ⊥
      unfolding segment_frozen
      untouched new_cluster e a u t = t
      untouched delete_cluster e a u t = t
      untouched new_segment e a u t =
          room_outside c.store (length c.memory) (facts c k) v l hv hl _ _ _
          (new_base_lem f g c.store (length c.memory) e) a t i hi u
      untouched delete_segment e a u t = t
      untouched read e a u t = t
      untouched write e a u t =
          go (ℕ_discrete (record_for (call write g)) n) (ℕ_discrete g.segment i)
        where
          go : Dec (record_for (call write g) ≡ n) → Dec (g.segment ≡ i) → ⊥
          go (no ne) d =
              let w = done_range f (call write g) c.store (length c.memory) e in
              place_outside c.store (length c.memory) (facts c k) v l hv hl (node_for (call write g)) (local_for (call write g)) g.segment
              w.node_low w.local_low (low_segment f g c k write refl e) ne a t i hi u
          go (yes q) (yes s) =
              true≢false
              (sym (frozen_here write q s) ∙ (no_row f (call write g) c.store (length c.memory) e).segment_frozen)
          go (yes q) (no s) =
              disjoint (node_for (call write g)) v (place_for (call write g) (tables c)) (place_of (tables c n) i)
              (subst (λ (m : ℕ). inside (place_of (tables c m) g.segment) ≡ true) (sym q)
              (place_inside c.store (length c.memory) (facts c k) n g.segment (omega arith) (low_segment f g c k write refl e)))
              (place_inside c.store (length c.memory) (facts c k) n i (omega arith) hi)
              (λ w.
              ap (λ (m : ℕ). apart (place_of (tables c m) g.segment) (place_of (tables c n) i)) q
              ∙ (facts c k).apartness v l g.segment l i hv hl (low_segment f g c k write refl e) hl hi (inr s))
              a t u
      untouched weaken e a u t = t
      untouched reduce e a u t = t
      untouched new_password e a u t = t
      untouched freeze e a u t = t
      untouched join e a u t = t
      untouched validate e a u t = t
      untouched look e a u t = t

      -- ---- both

      left_fixed : (kind : Kind) → Done f (call kind g) c → Fixed v l i base size c (left kind (call kind g) c)
      left_fixed kind e =
          record {
            active = kept (λ d. d.active) (λ q. (stays kind e q).1) ∙ active;
            place = kept (λ d. place_of (table_of d) i) (λ q. ap (λ (z : Segment). z.place) (stays kind e q).0) ∙ p.present;
            frozen = kept (λ d. frozen_of (table_of d) i) (λ q. ap (λ (z : Segment). z.frozen) (stays kind e q).0) ∙ p.marked;
            bytes = λ b h.
                (left_own f g c k kind e).bytes (v * 4096 + (base + b))
                (untouched kind e (v * 4096 + (base + b))
                (subst (λ (z : Place). InPlace v z (v * 4096 + (base + b))) (sym p.present) (omega arith)));
          }
        where
          kept : {A : Type 0} (t : Cluster → A) → (record_for (call kind g) ≡ n → t (owns kind) ≡ t (about (call kind g) c))
              → t (cluster_at (left kind (call kind g) c).store n) ≡ t (cluster_at c.store n)
          kept t same = go (ℕ_discrete (record_for (call kind g)) n)
            where
              go : Dec (record_for (call kind g) ≡ n)
                  → t (cluster_at (left kind (call kind g) c).store n) ≡ t (cluster_at c.store n)
              go (yes q) =
                  ap (λ (m : ℕ). t (cluster_at (left kind (call kind g) c).store m)) (sym q) ∙ same q
                  ∙ ap (λ (m : ℕ). t (cluster_at c.store m)) q
              go (no ne) = ap t ((left_own f g c k kind e).records n (λ q. ne (sym q)))

    same_fixed : Fixed v l i base size c c
    same_fixed = record { active = active; place = p.present; frozen = p.marked; bytes = λ b h. refl }

    step_fixed : (x : Call) → Fixed v l i base size c (step f x c).copy
    step_fixed x = by_number f (Fixed v l i base size c) x c same_fixed (left_fixed x.args x.kind)

  stays_so : (c d : Copy) → Fixed v l i base size c d → Published d
  stays_so c d h = record { present = h.place; marked = h.frozen }

  run_fixed : (xs : List Call) (c : Copy) → SoundCopy c → Published c → Fixed v l i base size c (run f xs c).copy
  run_fixed [] c k p = same_fixed c k p
  run_fixed (x ∷ xs) c k p =
      let h = step_fixed c k p x in
      let t = run_fixed xs (step f x c).copy (step_sound f x c k) (stays_so c (step f x c).copy h) in
      record {
        active = t.active;
        place = t.place;
        frozen = t.frozen;
        bytes = λ b u. t.bytes b u ∙ h.bytes b u;
      }

module _ (f : Name → List ℕ → ℕ → List ℕ) where
  pub frozen_stays : FrozenStays f
  frozen_stays v l i base size hv hl hi xs c k p m =
      run_fixed f v l i base size hv hl hi xs c k (record { present = p; marked = m })

  pub fixed_from_then_on : FixedFromThenOn f
  unfolding unsound
  fixed_from_then_on g xs c e = record { present = w.present; fixed = fixed }
    where
      w : FreezeInWords f g c
      w = freeze_in_words f g c e

      k : SoundCopy c
      k = not-false (sound c.store (length c.memory)) (no_row f (call freeze g) c.store (length c.memory) e).unsound

      fixed : (base size : ℕ) → place_at c.store (node_for (call freeze g)) (local_for (call freeze g)) g.segment ≡ present_at base size
          → Fixed (node_for (call freeze g)) (local_for (call freeze g)) g.segment base size c (run f (call freeze g ∷ xs) c).copy
      fixed base size q =
          let r = done_range f (call freeze g) c.store (length c.memory) e in
          let t =
          frozen_stays _ _ g.segment base size r.node_low r.local_low (low_segment f g c k freeze refl e)
          xs (step f (call freeze g) c).copy (step_sound f (call freeze g) c k) (w.stays ∙ q) w.marked in
          record {
            active = t.active;
            place = t.place;
            frozen = t.frozen;
            bytes = λ b u.
                t.bytes b u
                ∙ ap (λ (m : List ℕ). get_or m (node_for (call freeze g) * 4096 + (base + b)) 0) w.memory;
          }
