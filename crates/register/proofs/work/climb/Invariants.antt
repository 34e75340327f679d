-- Before each turn the way has met `met` entries, which are kept in order, and is at `at`.
-- Assumes nothing.
use Rattle.register.proofs.ClimbLaws.{Climbing}
use Rattle.register.proofs.work.climb.Given as goal

abbrev pub invariant-loop-met : goal.invariant-loop-met
invariant-loop-met l = Climbing l.entries l.known l.initial.path l.path l.from l.n l.met l.at
