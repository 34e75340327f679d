-- A shift and the rest of the modulus: the law of doubling at width 8.
-- Assumes nothing.
use mathlib.Core.Path.{sym}
use borrow.Author.Rules.{rules}
use Rattle.field.proofs.FieldLaws.{dot_two}
use Rattle.field.proofs.doubled.Goals as goal

pub returns : goal.returns
returns c = sym (dot_two c.args.b (search rules))
