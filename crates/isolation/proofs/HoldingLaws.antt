-- The copies of the witnesses, of every width and with any of the sixteen segments: any two of them are alike, and one that is held
-- has its passwords and bytes still.
-- Assumes nothing.
use mathlib.Core.Path.{◌≡◌, refl, sym, ap, ◌∙◌, subst}
use Prim.Native.Nat.{ℕ, zero, suc, ◌<◌}
use native.Mathlib.Omega.{arith}
use lib.ListN.{get_or, replicate}
use lib.Seq.{get_or-set_same}
use Rattle.store.specs.Places.{Place, present_at}
use Rattle.store.specs.declared.Segment.{Segment}
use Rattle.store.specs.declared.Cluster.{Cluster}
use Rattle.store.specs.Records.{segment_at, absent_segment, starting_store, table_at, place_at}
use Rattle.store.proofs.ChangeLaws.{put_other}
use Rattle.calls.specs.Calls.{Copy}
use Rattle.isolation.specs.Copies.{InPlace, Outside, Alike, Held}
use Rattle.isolation.specs.Witness.{holding_of, Still}

pub four : (n i r w b p : ℕ) → p < 4 → get_or (holding_of n i r w b).memory p 0 ≡ b
four n i r w b zero l = refl
four n i r w b (suc zero) l = refl
four n i r w b (suc (suc zero)) l = refl
four n i r w b (suc (suc (suc zero))) l = refl
four n i r w b (suc (suc (suc (suc p)))) l = absurd (omega arith)

module _ (n i : ℕ) (hi : i < 16) where
  pub placed : (r w b : ℕ) → place_at (table_at (holding_of n i r w b).store) 2 i ≡ present_at 0 4
  placed r w b =
      ap (λ (s : Segment). s.place)
      (get_or-set_same (replicate 16 absent_segment) i (segment_at (present_at 0 4)) absent_segment (omega arith))

  -- the four bytes are the segment's
  pub within : (r w b p : ℕ) → p < 4 → InPlace 0 (place_at (table_at (holding_of n i r w b).store) 2 i) p
  within r w b p l = subst (λ (q : Place). InPlace 0 q p) (sym (placed r w b)) (omega arith, omega arith)

  pub alike_holding : (r w b s q c : ℕ) → Alike 0 2 (holding_of n i r w b) (holding_of n i s q c)
  alike_holding r w b s q c =
      record {
        records = refl;
        others = λ m ne. put_other starting_store 2 _ m ne ∙ sym (put_other starting_store 2 _ m ne);
        table = refl;
        size = refl;
        bytes = bytes_equal;
      }
    where
      bytes_equal : (p : ℕ) → Outside 0 2 (table_at (holding_of n i r w b).store) p
          → get_or (holding_of n i r w b).memory p 0 ≡ get_or (holding_of n i s q c).memory p 0
      bytes_equal zero out = absurd (out i hi (within r w b 0 (omega arith)))
      bytes_equal (suc zero) out = absurd (out i hi (within r w b 1 (omega arith)))
      bytes_equal (suc (suc zero)) out = absurd (out i hi (within r w b 2 (omega arith)))
      bytes_equal (suc (suc (suc zero))) out = absurd (out i hi (within r w b 3 (omega arith)))
      bytes_equal (suc (suc (suc (suc p)))) out = refl

  -- what is held has its passwords and bytes still
  pub still_holding : (r w b : ℕ) (d : Copy) → Held 0 2 (holding_of n i r w b) d → Still d r w b
  still_holding r w b d h =
      record {
        read = ap (λ (k : Cluster). k.read) (sym h.cluster);
        write = ap (λ (k : Cluster). k.write) (sym h.cluster);
        bytes = λ p l. sym (h.bytes p i hi (within r w b p l)) ∙ four n i r w b p l;
      }
