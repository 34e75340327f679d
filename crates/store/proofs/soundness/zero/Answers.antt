use borrow.Author.Rules.{rules}
use Rattle.loops.proofs.RunningLaws.{running_none, running_more, running_all}
use Rattle.store.specs.Sound.{zero_bytes}
use Rattle.store.proofs.soundness.zero.Goals as goal

pub loop-byte-init : goal.loop-byte-init
loop-byte-init c = running_none _ _

pub loop-byte-preserved : goal.loop-byte-preserved
loop-byte-preserved c = search (rules, running_more)

pub returns : goal.returns
unfolding zero_bytes
returns c = search (rules, running_all)
