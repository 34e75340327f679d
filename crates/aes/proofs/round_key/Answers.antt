use mathlib.Core.Path.{refl}
use borrow.Author.Rules.{rules}
use Rattle.aes.specs.KeyExpansion.{expand}
use Rattle.aes.proofs.KeyExpansionLaws.{keys_more}
use Rattle.aes.proofs.round_key.Goals as goal

pub loop-i-init : goal.loop-i-init
unfolding expand
loop-i-init c = refl

pub loop-i-preserved : goal.loop-i-preserved
loop-i-preserved c = search (rules, keys_more)
