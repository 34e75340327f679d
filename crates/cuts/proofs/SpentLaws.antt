-- A handle with one flat subselector left: the single cut is done, and either double cut is refused at its second call. With the three ways,
-- all replies that are written out.
-- Assumes nothing.
use mathlib.Core.Path.{◌≡◌, refl}
use Prim.Native.Nat.{ℕ, ◌<◌}
use native.Mathlib.Omega.{arith}
use mathlib.Core.List.{List, [], ◌∷◌}
use Rattle.bits.specs.Sets.{has, set_of, count}
use Rattle.bits.specs.Bytes.{bytes}
use Rattle.handle.specs.declared.Handle.{Handle}
use Rattle.handle.specs.Widths.{packed}
use Rattle.handle.specs.Handles.{Name, encoded, decoded, Holdable, weaken_number, weakened, weakening, reduced}
use Rattle.handle.specs.Conversion.{SixteenBytes}
use Rattle.handle.proofs.TripLaws.{decode_encode}
use Rattle.isolation.specs.UseLists.{of_eight, keeping}
use Rattle.cuts.specs.cases.Replies.{g, by, last, spent, Told, SpentTold, RepliesTold}
use Rattle.cuts.proofs.ThreeLaws.{three_told}
use Rattle.cuts.proofs.ReplyLaws.{of, holds, from, Opened, weakening_told, refusal_told, validation_told, reduction_told}

module _ (f : Name → List ℕ → ℕ → List ℕ) (sixteen : SixteenBytes f) (r w : List ℕ) (b c d y z : ℕ) where
  abbrev name : Name
  name = record { node = 3; local = 7 }

  abbrev selector : ℕ → List ℕ
  selector x = 0xfe ∷ 0xfd ∷ 0xfb ∷ x ∷ []

  -- with the primary password p
  module _ (p : List ℕ) where
    abbrev before : List ℕ
    before = g f (g f (g f p 0xfe) 0xfd) 0xfb

    -- the last subselector flat, and another number there
    abbrev old : Handle
    old = of of_eight before (selector 0xff)

    abbrev cut : ℕ → Handle
    cut x = of of_eight (g f before x) (selector x)

    abbrev cut_bytes : ℕ → List ℕ
    cut_bytes x = by (g f before x) (selector x)

    abbrev reduction : Handle
    reduction = of of_eight (g f p 0x38) (0x38 ∷ 0xff ∷ 0xff ∷ 0xff ∷ [])

    holds_old : Holdable old
    holds_old =
        holds of_eight before 0xfe 0xfd 0xfb 0xff (sixteen name (g f (g f p 0xfe) 0xfd) 0xfb)
        (omega arith, (omega arith, (omega arith, (omega arith, tt))))

    holds_cut : (x : ℕ) → x < 256 → Holdable (cut x)
    holds_cut x l =
        holds of_eight (g f before x) 0xfe 0xfd 0xfb x (sixteen name before x)
        (omega arith, (omega arith, (omega arith, (l, tt))))

    told_spent : (m : ℕ) → Opened f of_eight r w b c d y z old m → Opened f of_eight r w b c d y z (cut 0x3f) m
        → reduced 8 (g f) (cut 0x3f) (from f of_eight r w b c d y z (cut 0x3f) m) ≡ reduction
        → Told f (keeping of_eight r w b c d y z) (spent f m p)
    unfolding encoded packed bytes has set_of count weaken_number weakened weakening
    told_spent m e k q =
        λ j.
        validation_told f of_eight r w b c d y z old holds_old (last f p) refl m e j
        ∷ weakening_told f of_eight r w b c d y z old holds_old (last f p) refl (cut 0x7f) (cut_bytes 0x7f) 4 0x78 refl refl j
        ∷ refusal_told f of_eight r w b c d y z (cut 0x7f) (holds_cut 0x7f (omega arith)) (cut_bytes 0x7f) refl 17 0xb8 refl j
        ∷ weakening_told f of_eight r w b c d y z old holds_old (last f p) refl (cut 0xbf) (cut_bytes 0xbf) 4 0xb8 refl refl j
        ∷ refusal_told f of_eight r w b c d y z (cut 0xbf) (holds_cut 0xbf (omega arith)) (cut_bytes 0xbf) refl 17 0x78 refl j
        ∷ refusal_told f of_eight r w b c d y z (cut 0xbf) (holds_cut 0xbf (omega arith)) (cut_bytes 0xbf) refl 17 0x38 refl j
        ∷ weakening_told f of_eight r w b c d y z old holds_old (last f p) refl (cut 0x3f) (cut_bytes 0x3f) 3 0x38 refl refl j
        ∷ weakening_told f of_eight r w b c d y z (cut 0x3f) (holds_cut 0x3f (omega arith)) (cut_bytes 0x3f) refl (cut 0x3f)
        (cut_bytes 0x3f) 3 0xb8 refl refl j
        ∷ validation_told f of_eight r w b c d y z (cut 0x3f) (holds_cut 0x3f (omega arith)) (cut_bytes 0x3f) refl m k j
        ∷ reduction_told f of_eight r w b c d y z (cut 0x3f) (holds_cut 0x3f (omega arith)) (cut_bytes 0x3f) refl m reduction
        (by (g f p 0x38) (0x38 ∷ 0xff ∷ 0xff ∷ 0xff ∷ [])) refl k q j
        ∷ []

    pub last_back : decoded (last f p) ≡ old
    unfolding encoded packed bytes
    last_back = decode_encode old holds_old

  pub spent_told : SpentTold f r w b c d y z
  unfolding has set_of count reduced
  spent_told =
      record {
        reading = told_spent r 1 (record { ends = refl; none = refl }) (record { ends = refl; none = refl }) refl;
        writing = told_spent w 2 (record { ends = refl; none = refl }) (record { ends = refl; none = refl }) refl;
      }

pub replies_told : RepliesTold
replies_told f sixteen v r w b c d y z lr lw =
    (three_told f sixteen v r w b c d y z lr lw, spent_told f sixteen r w b c d y z)
