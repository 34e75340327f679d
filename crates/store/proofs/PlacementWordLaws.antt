-- Placement is what document 01's sentence says, both ways: in a sound store, on a node that exists, for at least one
-- byte, the definition's test of a base is the room of the sentence.
-- Assumes nothing.
use mathlib.Core.Path.{◌≡◌, refl, sym, ap, ◌∙◌}
use mathlib.Core.Bool.{true, false, ◌&&◌, true≢false}
use mathlib.Core.Option.{Option, none, some}
use Prim.Native.Nat.{ℕ, ◌+◌, ◌*◌, ◌≤◌, ◌<◌}
use native.Mathlib.Omega.{arith}
use lib.Dec.{ltb}
use borrow.Author.Tests.{lt-ltb}
use Rattle.loops.proofs.BelowLaws.{and_both, test_off, every_pair_in}
use Rattle.loops.proofs.SearchLaws.{least_none, least_is}
use Rattle.store.specs.Places.{present_at}
use Rattle.store.specs.declared.Store.{Store}
use Rattle.sizes.specs.Sizes.{nodes, clusters, segments, node_memory}
use Rattle.store.specs.Records.{table_at, place_on}
use Rattle.store.specs.Sound.{inside, apart}
use Rattle.store.specs.Placement.{Placed, clear, fits, new_base, placed_at, placement}
use Rattle.store.specs.SoundWords.{SoundInWords}
use Rattle.store.specs.PlacementWords.{Room, PlacementInWords}
use Rattle.store.proofs.PlaceLaws.{inside_out, inside_in}
use Rattle.store.proofs.PlacementLaws.{Fits, fits_out, new_base_fits, new_base_least, new_base_none}
use Rattle.store.proofs.SoundWordLaws.{apart_words, words_apart, inside_words}

module _ (s : Store) (slice : ℕ) (w : SoundInWords s slice) (v size : ℕ) (hv : v < 4) (hs : 1 ≤ size) where
  room_of : (base : ℕ) → Fits (table_at s) v size base → Room s v size base
  room_of base r =
      let b = inside_out base size r.within in
      record {
        low = omega arith;
        ends = b.ends;
        free = λ l i k hl hi from below q.
            apart_words (present_at base size) (place_on (table_at s) v l i) (r.free l i hl hi) k (from, below) q;
      }

  fits_of : (base : ℕ) → Room s v size base → fits (table_at s) v size base ≡ true
  unfolding fits clear
  fits_of base r =
      and_both (ltb v nodes && inside (present_at base size)) (clear (table_at s) v (present_at base size))
      (and_both (ltb v nodes) (inside (present_at base size)) (lt-ltb v nodes hv) within)
      (every_pair_in clusters segments (λ l i. apart (present_at base size) (place_on (table_at s) v l i)) (λ l i hl hi.
      words_apart (present_at base size) (place_on (table_at s) v l i) within
      (inside_words s slice w (v * 8 + l) i (omega arith) hi)
      (λ k q. r.free l i k hl hi q.0 q.1)))
    where
      within : inside (present_at base size) ≡ true
      within = inside_in base size (record { some = hs; ends = r.ends })

  no_fit : (k : ℕ) → (Room s v size k → ⊥) → fits (table_at s) v size k ≡ false
  no_fit k h = test_off (fits (table_at s) v size k) (λ e. h (room_of k (fits_out (table_at s) v size k e)))

  -- what the search gives, and that it gives none

  found : (base : ℕ) → Room s v size base → ((k : ℕ) → k < base → Room s v size k → ⊥)
      → new_base (table_at s) v size ≡ some base
  unfolding new_base
  found base r h =
      let low : base < node_memory = omega (arith, r.low) in
      least_is (fits (table_at s) v size) node_memory base low (fits_of base r) (λ k l. no_fit k (h k l))

  missing : ((base : ℕ) → Room s v size base → ⊥) → new_base (table_at s) v size ≡ none
  unfolding new_base
  missing h = least_none (fits (table_at s) v size) node_memory (λ k l. no_fit k (h k))

  some_out : (base : ℕ) → new_base (table_at s) v size ≡ some base
      → Room s v size base × ((k : ℕ) → k < base → Room s v size k → ⊥)
  some_out base e = (
    room_of base (new_base_fits (table_at s) v size base e),
    λ k h r. true≢false (sym (fits_of k r) ∙ new_base_least (table_at s) v size base e k h),
  )

  none_out : new_base (table_at s) v size ≡ none → (base : ℕ) → Room s v size base → ⊥
  none_out e base r =
      let low : base < node_memory = omega (arith, r.low) in
      true≢false (sym (fits_of base r) ∙ new_base_none (table_at s) v size e base low)

  pub placement_in_words : PlacementInWords s v size
  unfolding placement
  placement_in_words =
      record {
        at = λ base. (λ e. some_out base (given (new_base (table_at s) v size) base e), λ r. ap placed_at (found base r.0 r.1));
        nowhere = (λ e. none_out (refused (new_base (table_at s) v size) e), λ h. ap (λ (o : Option ℕ). (placed_at o).number) (missing h));
      }
    where
      given : (o : Option ℕ) (base : ℕ) → placed_at o ≡ record { number = 0; base = base } → o ≡ some base
      given none base e = absurd (omega (arith, ap (λ (a : Placed). a.number) e))
      given (some b) base e = ap (λ (a : Placed). some a.base) e

      refused : (o : Option ℕ) → (placed_at o).number ≡ 16 → o ≡ none
      refused none e = refl
      refused (some b) e = absurd (omega arith)
