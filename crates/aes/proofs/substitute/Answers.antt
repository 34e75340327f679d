-- The table holds the substitution of each byte.
-- Assumes nothing.
use borrow.Author.Rules.{rules}
use Rattle.field.proofs.SubstitutionLaws.{substitution_at}
use Rattle.aes.proofs.substitute.Goals as goal

pub returns : goal.returns
returns c = search (rules, substitution_at)
