-- The bytes that a run tells are the text of the list; the room that holds the longest text is enough for any.
-- Assumes nothing.
use mathlib.Core.Path.{◌≡◌, sym, ap, ◌∙◌}
use Prim.Native.Nat.{ℕ, ◌≤◌}
use native.Mathlib.Omega.{arith}
use mathlib.Core.List.{List}
use lib.ListN.{length, take}
use lib.Seq.{length-take-le}
use Rattle.std.specs.Counts.{IsPrefixLen}
use Rattle.std.specs.Prelude.{Option, Some}
use Rattle.lines.specs.Buffers.{filled, Begins}
use Rattle.list.specs.Texts.{output, most_text, room_for, output_within}
use Rattle.list.proofs.RoomLaws.{room_most}
use Rattle.list.proofs.OutputLaws.{output_fits}

-- a number of bytes that a buffer has
pub counted : (n : ℕ) (l : List ℕ) → n ≤ length l → IsPrefixLen n l
counted n l h = (h, sym (length-take-le n l h))

module _ (list out after : List ℕ) (o : Option ℕ) (h : Begins out after (filled o) (output_within (length out) list))
    (r : ℕ) (e : o ≡ Some r) (same : length after ≡ length out) where
  pub text_inside : r ≤ length after
  text_inside = let b : filled o ≤ length out = h.room in let f : filled o ≡ r = ap filled e in omega arith

  pub text_counted : r ≡ length (take r after)
  text_counted = sym (length-take-le r after text_inside)

  pub text_whole : room_for list ≤ length out → take r after ≡ output list
  text_whole l = ap (λ (n : ℕ). take n after) (sym (ap filled e)) ∙ h.start ∙ output_fits (length out) list l

pub most_fits : (list out : List ℕ) → length out ≡ most_text → room_for list ≤ length out
most_fits list out e = let l = room_most list in omega arith
