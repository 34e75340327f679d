-- Before each turn the openers among the first k entries stand at the start of the buffer.
-- Assumes nothing.
use Rattle.register.proofs.PutLaws.{Listing}
use Rattle.register.proofs.lay.list.Given as goal

abbrev pub invariant-loop-k : goal.invariant-loop-k
invariant-loop-k l = Listing l.seen l.n l.segment l.initial.buffer l.buffer l.count l.k
