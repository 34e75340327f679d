use borrow.Author.Rules.{rules}
use Rattle.register.proofs.PutLaws.{putting_none, putting_more, putting_inside, put_all, put_written}
use Rattle.register.proofs.lay.put.Goals as goal

pub loop-i-init : goal.loop-i-init
loop-i-init c = search (rules, putting_none)

pub bounds-buffer-at : goal.bounds-buffer-at
bounds-buffer-at c = search (rules, putting_inside)

pub loop-i-preserved : goal.loop-i-preserved
loop-i-preserved c = search (rules, putting_more)

pub returns : goal.returns
returns c = search (rules, put_all, put_written)
