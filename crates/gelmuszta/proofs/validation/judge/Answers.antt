use Rattle.gelmuszta.proofs.ValidationLaws.{judging_none, judging_more, judging_all}
use borrow.Author.Rules.{rules}
use Rattle.gelmuszta.proofs.validation.judge.Goals as goal

pub loop-turn-init : goal.loop-turn-init
loop-turn-init c = search (rules, judging_none)

pub loop-turn-preserved : goal.loop-turn-preserved
loop-turn-preserved c = search (rules, judging_more)

pub returns : goal.returns
returns c = search (rules, judging_all)
