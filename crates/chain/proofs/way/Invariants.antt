-- Before each turn the loop is on the way (`Walking`).
-- Assumes nothing.
use Rattle.chain.proofs.WalkLaws.{Walking}
use Rattle.chain.proofs.way.Given as goal

abbrev pub invariant-loop-met : goal.invariant-loop-met
invariant-loop-met l = Walking l.bytes l.width l.from l.n l.met l.at
