-- No start below the one that is tried has room (`Tried`); each turn that finds none goes on behind a bit that is set.
-- Assumes nothing.
use Prim.Native.Nat.{◌-◌, ◌*◌}
use lib.ListN.{length}
use Rattle.spans.specs.Spans.{word_bits}
use Rattle.spans.proofs.NextLaws.{Tried}
use Rattle.spans.proofs.room.Given as goal

abbrev pub invariant-loop-start : goal.invariant-loop-start
invariant-loop-start l = Tried l.size l.map l.base

abbrev pub decreases-loop-start : goal.decreases-loop-start
decreases-loop-start l = length l.map * word_bits - l.base
