-- Before turn i the first i bytes are those of the source.
-- Assumes nothing.
use lib.ListN.{length, get_or}
use Rattle.loops.proofs.TabulateLaws.{Filled}
use Rattle.cluster.proofs.bytes.copy.Given as goal

abbrev pub invariant-loop-i : goal.invariant-loop-i
invariant-loop-i l = Filled (length l.initial.to) (λ k. get_or l.from k 0) 0 l.i l.to
