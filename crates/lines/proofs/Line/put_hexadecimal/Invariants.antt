-- After i turns the digits of the first i bytes are put, two places a byte.
-- Assumes nothing.
use Rattle.std.proofs.Common.{◌+◌, ◌*◌, ◌≡◌, take}
use Rattle.lines.specs.Text.{hexadecimal}
use Rattle.lines.specs.Buffers.{Adds}
use Rattle.lines.proofs.Line.put_hexadecimal.Given as goal

abbrev pub invariant-loop-b : goal.invariant-loop-b
invariant-loop-b l =
    record {
      so_far : Adds l.initial.self l.self (hexadecimal (take l.b-index l.bytes));
      ends : l.self.at ≡ l.initial.self.at + 2 * l.b-index;
    }
