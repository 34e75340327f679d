-- 03 times a byte is its double and itself.
-- Assumes nothing.
use borrow.Author.Rules.{rules}
use Rattle.field.proofs.FieldLaws.{dot_three}
use Rattle.aes.proofs.mix.Goals as goal

pub returns : goal.returns
returns c = cc (dot_three c.before.before.args.b (search rules))
