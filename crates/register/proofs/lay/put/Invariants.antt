-- Before each turn the first i bytes stand in their place.
-- Assumes nothing.
use Rattle.register.proofs.PutLaws.{Putting}
use Rattle.register.proofs.lay.put.Given as goal

abbrev pub invariant-loop-i : goal.invariant-loop-i
invariant-loop-i l = Putting l.initial.buffer l.buffer l.at l.bytes l.i
