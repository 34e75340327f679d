use borrow.Author.Rules.{rules}
use Rattle.aes.proofs.CipherLaws.{rounds_none, rounds_more, rounds_all}
use Rattle.aes.proofs.encrypt_with.Goals as goal

pub loop-i-init : goal.loop-i-init
loop-i-init c = rounds_none _ _

pub loop-i-preserved : goal.loop-i-preserved
loop-i-preserved c = search (rules, rounds_more)

pub returns : goal.returns
returns c = search (rules, rounds_all)
