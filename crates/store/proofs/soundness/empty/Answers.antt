use borrow.Author.Rules.{rules}
use Rattle.loops.proofs.RunningLaws.{running_none, running_more, running_all}
use Rattle.store.proofs.PlaceLaws.{absent_told}
use Rattle.store.proofs.soundness.empty.Goals as goal

pub loop-segment-init : goal.loop-segment-init
loop-segment-init c = running_none _ _

pub loop-segment-preserved : goal.loop-segment-preserved
loop-segment-preserved c = search (rules, running_more, absent_told)

pub returns : goal.returns
returns c = search (rules, running_all)
