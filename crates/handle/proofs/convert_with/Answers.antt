-- The two bytes of the parameter stand last in the block, and `aes::encrypt_with` says the rest.
-- Assumes nothing.
use Rattle.handle.proofs.CodeLaws.{code_converted}
use borrow.Author.Rules.{rules}
use Rattle.handle.proofs.convert_with.Goals as goal

pub returns : goal.returns
returns c = search (rules, code_converted)
