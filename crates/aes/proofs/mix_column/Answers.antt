-- A sum may be taken in any order.
-- Assumes nothing.
use borrow.Author.Rules.{rules}
use Rattle.aes.proofs.StateLaws.{mix_column_is}
use Rattle.aes.proofs.mix_column.Goals as goal

pub returns : goal.returns
returns c = search (rules, mix_column_is)
