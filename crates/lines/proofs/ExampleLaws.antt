-- The sample of document 01 and the other lines come out of the definitions: each is computed. That of a refused call stops
-- at the number, whatever that is, and so does that of a call that gives nothing.
-- Assumes nothing.
use mathlib.Core.Path.{◌≡◌, refl}
use mathlib.Core.Bool.{Bool, true, false, cond}
use mathlib.Core.List.{List, [], map}
use Prim.Native.Nat.{ℕ}
use borrow.Author.Tests.{ne_eqb}
use Rattle.lines.specs.Text.{ascii, digit, decimal_in, decimal, hexadecimal}
use Rattle.lines.specs.Lines.{spaced, line, gives, told, call_line, RefusedStops, OthersStop, word_line}
use Rattle.lines.specs.Examples.{Example, examples}

pub examples_hold : map (λ (e : Example). e.given) examples ≡ map (λ (e : Example). ascii e.printed) examples
unfolding examples call_line word_line told gives line spaced decimal decimal_in hexadecimal digit
examples_hold = refl

pub refused_stops : RefusedStops
unfolding call_line told
refused_stops k code a s n = rw (ne_eqb a.number 0 n) refl

-- nothing, whichever it is
nothing : (t : Bool) → ◌≡◌ {A = List (List ℕ)} (cond t [] []) []
nothing true = refl
nothing false = refl

pub others_stop : OthersStop
unfolding call_line told gives
others_stop k code a s n1 n5 n7 n8 n9 n11 =
    rw (
      ne_eqb code 1 n1,
      ne_eqb code 5 n5,
      ne_eqb code 7 n7,
      ne_eqb code 8 n8,
      ne_eqb code 9 n9,
      ne_eqb code 11 n11,
      nothing,
    )
    refl
