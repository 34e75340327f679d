use borrow.Author.Rules.{rules}
use Rattle.loops.proofs.TabulateLaws.{filled_all}
use Rattle.aes.specs.Transformations.{sub_bytes}
use Rattle.aes.proofs.sub_bytes.Goals as goal

pub returns : goal.returns
unfolding sub_bytes
returns c = filled_all 16 _ 0 _ _ c.loop-b.invariant.done (search rules)
