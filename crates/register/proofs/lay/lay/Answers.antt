use borrow.Author.Rules.{rules}
use Rattle.register.proofs.PutLaws.{laying_none, laying_more, laying_fits, laid_all}
use Rattle.register.proofs.lay.lay.Goals as goal

pub loop-k-init : goal.loop-k-init
loop-k-init c = search (rules, laying_none)

pub put-requires : goal.put-requires
put-requires c = search (rules, laying_fits)

pub loop-k-preserved : goal.loop-k-preserved
loop-k-preserved c = search (rules, laying_more)

pub returns : goal.returns
returns c = search (rules, laid_all)
