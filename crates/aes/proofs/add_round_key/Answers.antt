use borrow.Author.Rules.{rules}
use Rattle.loops.proofs.TabulateLaws.{filled_all}
use Rattle.aes.specs.Transformations.{add_round_key}
use Rattle.aes.proofs.add_round_key.Goals as goal

pub returns : goal.returns
unfolding add_round_key
returns c = filled_all 16 _ 0 _ _ c.loop-i.invariant.done (search rules)
