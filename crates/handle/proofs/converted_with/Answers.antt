-- A flat subselector is skipped; any other is converted.
-- Assumes nothing.
use Rattle.handle.proofs.CodeLaws.{converted_flat, converted_other}
use borrow.Author.Rules.{rules}
use Rattle.handle.proofs.converted_with.Goals as goal

pub returns-then-subselector-flat : goal.returns-then-subselector-flat
returns-then-subselector-flat c = search (rules, converted_flat)

pub returns : goal.returns
returns c = search (rules, converted_other)
