-- Before each turn the differences of the bytes seen are or-ed together; the sum is zero just where they agree.
-- Assumes nothing.
use Rattle.handle.proofs.PasswordLaws.{Comparing}
use Rattle.handle.proofs.same.Given as goal

abbrev pub invariant-loop-x : goal.invariant-loop-x
invariant-loop-x l = Comparing l.fn.a l.fn.b l.differing l.x-iterator.a.rest.now l.x-iterator.b.rest.now
