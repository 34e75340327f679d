-- A call done that names a segment and looks at the store: the store is sound, so the segment lies inside the memory.
-- Assumes nothing.
use mathlib.Core.Path.{◌≡◌}
use Prim.Native.Nat.{ℕ, ◌+◌, ◌*◌, ◌≤◌, ◌<◌}
use native.Mathlib.Nat.{lt_of_lt_of_le}
use native.Mathlib.Omega.{arith}
use mathlib.Core.Bool.{true, not}
use mathlib.Core.List.{List, [], ◌∷◌}
use lib.Dec.{leb}
use lib.ListN.{length}
use borrow.Author.Tests.{leb-false, not-false}
use Rattle.handle.specs.Handles.{Name, width_of}
use Rattle.handle.proofs.WidthLaws.{bits_le}
use Rattle.store.specs.Places.{present_at}
use Rattle.store.specs.Records.{table_at}
use Rattle.store.specs.Sound.{sound}
use Rattle.store.specs.SoundWords.{SoundInWords}
use Rattle.store.proofs.SoundWordLaws.{sound_in_words}
use Rattle.calls.specs.Calls.{Copy, Call, among, uses, handle_of, node_for, record_for, place_for}
use Rattle.calls.specs.Numbers.{unsound, bad_segment, number}
use Rattle.calls.proofs.CallLaws.{guarded}
use Rattle.calls.proofs.DoneLaws.{no_row, done_range, done_segment}

module _ (f : Name → List ℕ → ℕ → List ℕ) (x : Call) (c : Copy) (e : number f x c.store (length c.memory) ≡ 0)
    (looks : not (among (7 ∷ []) x.kind) ≡ true) (names : (uses x.kind).segment ≡ true) where
  pub done_whole : SoundInWords c.store (length c.memory)
  unfolding unsound
  done_whole =
      (sound_in_words c.store (length c.memory)).0
      (not-false (sound c.store (length c.memory))
      (guarded (not (among (7 ∷ []) x.kind)) (not (sound c.store (length c.memory))) looks
      (no_row f x c.store (length c.memory) e).unsound))

  done_low : x.args.segment < 16
  unfolding bad_segment
  done_low =
      lt_of_lt_of_le
      (leb-false (width_of (handle_of x)) x.args.segment
      (guarded (uses x.kind).segment (leb (width_of (handle_of x)) x.args.segment) names
      (done_segment f x c.store (length c.memory) e)))
      (bits_le (handle_of x).width)

  module _ (base size : ℕ) (q : place_for x (table_at c.store) ≡ present_at base size) where
    low : record_for x < 32
    low = let d = done_range f x c.store (length c.memory) e in omega arith

    pub done_some : 0 < size
    done_some = let n = done_whole.lengths (record_for x) x.args.segment base size low done_low q in omega arith

    pub done_inside : node_for x * 4096 + base + size ≤ length c.memory
    done_inside =
        let d = done_range f x c.store (length c.memory) e in
        let n = done_whole.ends (record_for x) x.args.segment base size low done_low q in
        let w = done_whole.slice in
        omega arith
