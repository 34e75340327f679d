-- Before each turn so many numbers from the first are those of the handles, for every memory that is judged so.
-- Assumes nothing.
use Rattle.gelmuszta.proofs.ValidationLaws.{Judging}
use Rattle.gelmuszta.proofs.validation.judge.Given as goal

abbrev pub invariant-loop-turn : goal.invariant-loop-turn
invariant-loop-turn l = Judging l.sound l.image l.mode l.each l.handles l.initial.numbers l.numbers l.turn
