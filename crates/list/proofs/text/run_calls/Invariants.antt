-- The lines so far, and those of the records ahead, are the lines of the chain.
-- Assumes nothing.
use Rattle.list.proofs.RunLaws.{Going}
use Rattle.list.proofs.text.run_calls.Given as goal

abbrev pub invariant-calls : goal.invariant-calls
invariant-calls l =
    Going l.list l.total l.initial.memory l.initial.buffer l.initial.out l.store l.memory l.buffer l.out l.at l.counter l.end
