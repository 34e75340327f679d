-- Each turn of the outer loop climbs from k to what is known, and the inner one comes down again: what it works out next was
-- weakened from the entry above.
-- Assumes nothing.
use Rattle.handle.specs.Conversion.{product}
use Rattle.register.proofs.WorkLaws.{Working, Descending}
use Rattle.register.proofs.work.work_out.Given as goal

abbrev pub invariant-loop-i : goal.invariant-loop-i
invariant-loop-i l = Descending product l.fn.handle l.entries l.n l.wanted l.seen l.handles l.path l.k l.i l.above l.sight

abbrev pub invariant-loop-k : goal.invariant-loop-k
invariant-loop-k l = Working product l.fn.handle l.entries l.n l.wanted l.seen l.handles l.path l.k-counter
