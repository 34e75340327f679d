-- A call done keeps soundness, and changes only what is its own. Every change of a record is one of those that the
-- store crate shows to keep soundness; bytes are overwritten inside the slice, so that its length stays. What a call
-- makes or writes is a segment of its own cluster, and lies outside the segments of every other one.
-- Assumes nothing.
use mathlib.Core.Path.{◌≡◌, refl, sym, ap, ◌∙◌, subst}
use mathlib.Core.Logic.{◌≢◌, ◌⊎◌, inl, inr}
use Prim.Native.Nat.{ℕ, zero, suc, ◌+◌, ◌≤◌, ◌<◌}
use native.Mathlib.Omega.{arith}
use mathlib.Core.Bool.{true}
use mathlib.Core.List.{List, [], ◌∷◌}
use lib.Dec.{leb, ltb}
use lib.ListN.{length, take, replicate, length-replicate}
use lib.Seq.{length-take-le}
use borrow.Author.Tests.{leb-false, lt-ltb, not-false}
use Rattle.sizes.specs.Sizes.{nodes, clusters, segments, memory}
use Rattle.handle.specs.Handles.{Name, width_of}
use Rattle.handle.proofs.WidthLaws.{bits_le}
use Rattle.store.specs.declared.Cluster.{Cluster}
use Rattle.store.specs.Records.{Tables, table_at, put_record, with_place, length_of, with_password}
use Rattle.store.specs.Sound.{is_width, sized, below, sound}
use Rattle.store.proofs.PlaceLaws.{inside_out}
use Rattle.store.proofs.PlacementLaws.{new_base_fits}
use Rattle.store.proofs.SoundLaws.{Sound, sound_out, settled_active, sized_settled, sound_starting}
use Rattle.store.proofs.ChangeLaws.{put_other, sound_same, sound_inactive, sound_started, sound_made, sound_removed}
use Rattle.store.proofs.ChangeLaws.{sound_frozen}
use Rattle.calls.specs.Calls.{Copy, Call, call, Arguments, Kind, new_cluster, delete_cluster, new_segment, delete_segment}
use Rattle.calls.specs.Calls.{read, write, weaken, reduce, new_password, freeze, join, validate, look, node_for, local_for, record_for}
use Rattle.calls.specs.Calls.{start, uses, handle_of, place_for, start_for}
use Rattle.calls.specs.Numbers.{bad_segment, bad_width, number}
use Rattle.calls.specs.Steps.{put_cluster, about, new_base_for, new_place, new_start, effects}
use Rattle.calls.specs.Steps.{left, outcome, step}
use Rattle.isolation.specs.Copies.{SoundCopy, Done, set_apart, Outside, Held}
use Rattle.isolation.specs.Statements.{StartSound, SoundKept, Touched, OnlyItsOwn, OthersAlone, OtherHeld}
use Rattle.calls.proofs.MemoryLaws.{length_overwritten, overwritten_out}
use Rattle.calls.proofs.CallLaws.{InRange, guarded}
use Rattle.isolation.proofs.AddressLaws.{in_place, place_fits, place_inside, place_outside, room_outside}
use Rattle.isolation.proofs.AwayLaws.{named}
use Rattle.calls.proofs.FreezeLaws.{freeze_present}
use Rattle.calls.proofs.DoneLaws.{done_range, done_segment, done_width, done_wide, done_active, new_base_lem, write_long}

abbrev pub tables : Copy → Tables
tables c = table_at c.store

abbrev pub facts : (c : Copy) → SoundCopy c → Sound c.store (length c.memory)
facts c k = sound_out c.store (length c.memory) k

module _ (f : Name → List ℕ → ℕ → List ℕ) where
  module _ (g : Arguments) (c : Copy) (k : SoundCopy c) where
    -- ---- bytes are overwritten inside the slice

    pub segment_fits : (x : Call) → InRange (node_for x) (local_for x) → x.args.segment < segments
        → start_for x (tables c) + length_of (place_for x (tables c)) ≤ length c.memory
    segment_fits x v h =
        let w = (facts c k).whole in
        let n = v.node_low in
        let l = v.local_low in
        let i =
        place_fits (node_for x) (place_for x (tables c)) n
        (place_inside c.store (length c.memory) (facts c k) (record_for x) x.args.segment (omega arith) h) in
        omega arith

    abbrev cleared : List ℕ
    cleared = replicate g.size 0

    pub new_fits : Done f (call new_segment g) c
        → new_start (call new_segment g) (tables c) + length cleared ≤ length c.memory
    new_fits e =
        let x : Call = call new_segment g in
        let room = new_base_fits (tables c) (node_for x) g.size _ (new_base_lem f g c.store (length c.memory) e) in
        let i = inside_out (new_base_for x (tables c)) g.size room.within in
        rw (length-replicate {A = ℕ} g.size 0) (omega (arith, i.ends, room.known, (facts c k).whole))

    -- a segment that a call names is below its handle's width, and no record has more than sixteen
    below_width : (kind : Kind) → (uses kind).segment ≡ true → Done f (call kind g) c
        → g.segment < width_of (handle_of (call kind g))
    unfolding bad_segment
    below_width kind u e =
        leb-false (width_of (handle_of (call kind g))) g.segment
        (guarded (uses kind).segment (leb (width_of (handle_of (call kind g))) g.segment) u
        (done_segment f (call kind g) c.store (length c.memory) e))

    pub low_segment : (kind : Kind) → (uses kind).segment ≡ true → Done f (call kind g) c → g.segment < segments
    low_segment kind u e =
        let l = below_width kind u e in
        let m = bits_le (handle_of (call kind g)).width in
        omega arith

    -- so a new segment is below its cluster's width
    new_below : Done f (call new_segment g) c → ltb g.segment (about (call new_segment g) c).width ≡ true
    new_below e =
        lt-ltb g.segment (about (call new_segment g) c).width
        (subst (λ (w : ℕ). g.segment < w) (done_wide f (call new_segment g) c.store (length c.memory) e refl)
        (below_width new_segment refl e))

    -- a new cluster has one of the three widths
    new_width : Done f (call new_cluster g) c → is_width g.width ≡ true
    unfolding bad_width
    new_width e = not-false (is_width g.width) (done_width f (call new_cluster g) c.store (length c.memory) e)

    abbrev data_written : List ℕ
    data_written = take (length_of (place_for (call write g) (tables c))) g.bytes

    pub length_data : Done f (call write g) c → length data_written ≡ length_of (place_for (call write g) (tables c))
    length_data e = length-take-le _ g.bytes (write_long f g c.store (length c.memory) e)

    pub write_fits : Done f (call write g) c
        → start_for (call write g) (tables c) + length data_written ≤ length c.memory
    write_fits e =
        rw (length_data e)
        (segment_fits (call write g) (done_range f (call write g) c.store (length c.memory) e) (low_segment write refl e))

    -- ---- soundness is kept

    left_sound : (kind : Kind) → Done f (call kind g) c → SoundCopy (left kind (call kind g) c)
    unfolding effects sized below
    left_sound new_cluster e =
        let v = done_range f (call new_cluster g) c.store (length c.memory) e in
        sound_started c.store _ k _ _ v.node_low v.local_low g.width g.first g.second (new_width e)
    left_sound delete_cluster e =
        let v = done_range f (call delete_cluster g) c.store (length c.memory) e in
        sound_inactive c.store _ k _ _ v.node_low v.local_low
    left_sound new_segment e =
        let x : Call = call new_segment g in
        let v = done_range f x c.store (length c.memory) e in
        ap
        (sound (put_record c.store (record_for x) (with_place (about x c) g.segment (new_place x (tables c)))))
        (length_overwritten c.memory (new_start x (tables c)) cleared (new_fits e))
        ∙ sound_made c.store _ k _ _ v.node_low v.local_low g.segment
        (done_active f x c.store (length c.memory) e refl) (new_below e) (new_base_for x (tables c)) g.size
        (new_base_lem f g c.store (length c.memory) e)
    left_sound delete_segment e =
        let x : Call = call delete_segment g in
        let v = done_range f x c.store (length c.memory) e in
        sound_removed c.store _ k _ _ v.node_low v.local_low g.segment
        (done_active f x c.store (length c.memory) e refl)
    left_sound read e = k
    left_sound write e =
        ap (sound c.store)
        (length_overwritten c.memory (start_for (call write g) (tables c)) data_written (write_fits e))
        ∙ k
    left_sound weaken e = k
    left_sound reduce e = k
    left_sound new_password e =
        let x : Call = call new_password g in
        let v = done_range f x c.store (length c.memory) e in
        let d : Cluster = with_password (about x c) g.mode g.first in
        sound_same c.store _ k _ _ v.node_low v.local_low d
        (settled_active d (done_active f x c.store (length c.memory) e refl)
        (sized_settled (about x c) ((facts c k).settling (record_for x) (omega (arith, v.node_low, v.local_low)))))
        refl
    left_sound freeze e =
        let x : Call = call freeze g in
        let v = done_range f x c.store (length c.memory) e in
        sound_frozen c.store _ k _ _ v.node_low v.local_low g.segment
        (done_active f x c.store (length c.memory) e refl) (freeze_present f g c e)
    left_sound join e = k
    left_sound validate e = k
    left_sound look e = k

    -- ---- only its own is changed

    put_own : (x : Call) (d : Cluster) → OnlyItsOwn x c (put_cluster c (record_for x) d)
    put_own x d = record { records = put_other c.store (record_for x) d; size = refl; bytes = λ p u. refl }

    same_own : (x : Call) → OnlyItsOwn x c c
    same_own x = record { records = λ n ne. refl; size = refl; bytes = λ p u. refl }

    pub left_own : (kind : Kind) → Done f (call kind g) c → OnlyItsOwn (call kind g) c (left kind (call kind g) c)
    unfolding effects
    left_own new_cluster e = put_own (call new_cluster g) _
    left_own delete_cluster e = put_own (call delete_cluster g) _
    left_own new_segment e =
        let x : Call = call new_segment g in
        record {
          records = (put_own x (with_place (about x c) g.segment (new_place x (tables c)))).records;
          size = length_overwritten c.memory (new_start x (tables c)) cleared (new_fits e);
          bytes = λ p u.
              overwritten_out c.memory (new_start x (tables c)) cleared (new_fits e) p
              (λ lo hi. u (lo, rw (length-replicate {A = ℕ} g.size 0) at hi));
        }
    left_own delete_segment e = put_own (call delete_segment g) _
    left_own read e = same_own (call read g)
    left_own write e =
        let x : Call = call write g in
        record {
          records = λ n ne. refl;
          size = length_overwritten c.memory (start_for x (tables c)) data_written (write_fits e);
          bytes = λ p u.
              overwritten_out c.memory (start_for x (tables c)) data_written (write_fits e) p
              (λ lo hi. u (in_place (node_for x) (place_for x (tables c)) p lo (rw (length_data e) at hi)));
        }
    left_own weaken e = same_own (call weaken g)
    left_own reduce e = same_own (call reduce g)
    left_own new_password e = put_own (call new_password g) _
    left_own freeze e = put_own (call freeze g) _
    left_own join e = same_own (call join g)
    left_own validate e = same_own (call validate g)
    left_own look e = same_own (call look g)

    module _ (node local : ℕ) (high : node < nodes) (low : local < clusters) where
      touched_outside : (kind : Kind) → Done f (call kind g) c → record_for (call kind g) ≢ set_apart node local → (p : ℕ)
          → Touched kind (call kind g) (tables c) p → Outside node local (tables c) p
      touched_outside new_cluster e ne p t = absurd t
      touched_outside delete_cluster e ne p t = absurd t
      touched_outside new_segment e ne p t =
          room_outside c.store (length c.memory) (facts c k) node local high low _ _ _
          (new_base_lem f g c.store (length c.memory) e) p t
      touched_outside delete_segment e ne p t = absurd t
      touched_outside read e ne p t = absurd t
      touched_outside write e ne p t =
          let v = done_range f (call write g) c.store (length c.memory) e in
          place_outside c.store (length c.memory) (facts c k) node local high low _ _ g.segment v.node_low
          v.local_low (low_segment write refl e) ne p t
      touched_outside weaken e ne p t = absurd t
      touched_outside reduce e ne p t = absurd t
      touched_outside new_password e ne p t = absurd t
      touched_outside freeze e ne p t = absurd t
      touched_outside join e ne p t = absurd t
      touched_outside validate e ne p t = absurd t
      touched_outside look e ne p t = absurd t

      pub left_held : (kind : Kind) → Done f (call kind g) c → record_for (call kind g) ≢ set_apart node local
          → Held node local c (left kind (call kind g) c)
      left_held kind e ne =
          let own = left_own kind e in
          record {
            cluster = sym (own.records (set_apart node local) (λ q. ne (sym q)));
            bytes = λ p i hi u. sym (own.bytes p (λ t. touched_outside kind e ne p t i hi u));
          }

  -- ---- any call, and any list of calls

  -- what holds of a copy and of what a call done leaves of it holds of what any call leaves of it
  pub by_number : (P : Copy → Type 0) (x : Call) (c : Copy) → P c → (Done f x c → P (left x.kind x c))
      → P (step f x c).copy
  unfolding step
  by_number P x c same done = go (number f x c.store (length c.memory)) refl
    where
      go : (n : ℕ) → number f x c.store (length c.memory) ≡ n → P (outcome f n x c).copy
      go zero e = done e
      go (suc n) e = same

  pub step_sound : (x : Call) (c : Copy) → SoundCopy c → SoundCopy (step f x c).copy
  step_sound x c k = by_number SoundCopy x c k (left_sound x.args c k x.kind)

  pub sound_kept : SoundKept f
  sound_kept [] c k = k
  sound_kept (x ∷ xs) c k = sound_kept xs (step f x c).copy (step_sound x c k)

  pub others_alone : OthersAlone f
  others_alone x c k =
      by_number (OnlyItsOwn x c) x c (same_own x.args c k x) (left_own x.args c k x.kind)

  pub held_same : (node local : ℕ) (c : Copy) → Held node local c c
  held_same node local c = record { cluster = refl; bytes = λ p i hi u. refl }

  pub other_held : (node local : ℕ) → OtherHeld node local f
  other_held node local high low x c k away =
      by_number (Held node local c) x c (held_same node local c)
      (λ e. left_held x.args c k node local high low x.kind e
      (go (named node local low (node_for x) (local_for x) (done_range f x c.store (length c.memory) e))))
    where
      go : ((node_for x ≡ node) × (local_for x ≡ local)) ⊎ (record_for x ≢ set_apart node local)
          → record_for x ≢ set_apart node local
      go (inl q) = absurd (away q)
      go (inr ne) = ne

pub start_sound : StartSound
start_sound = ap (sound start.store) (length-replicate {A = ℕ} memory 0) ∙ sound_starting
