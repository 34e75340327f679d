-- Before each turn the first k handles stand at the start of the buffer.
-- Assumes nothing.
use Rattle.register.proofs.PutLaws.{Laying}
use Rattle.register.proofs.lay.lay.Given as goal

abbrev pub invariant-loop-k : goal.invariant-loop-k
invariant-loop-k l = Laying l.handles l.n l.initial.buffer l.buffer l.k
