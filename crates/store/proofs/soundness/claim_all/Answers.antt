use borrow.Author.Rules.{rules}
use Rattle.store.proofs.MarkLaws.{claiming_none, claiming_more, claiming_all}
use Rattle.store.proofs.soundness.claim_all.Goals as goal

pub loop-segment-init : goal.loop-segment-init
loop-segment-init c = claiming_none _ _

pub loop-segment-preserved : goal.loop-segment-preserved
loop-segment-preserved c = search (rules, claiming_more)

pub returns : goal.returns
returns c = search (rules, claiming_all)
