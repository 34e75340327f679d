-- The position of the first that is flat.
-- Assumes nothing.
use Rattle.std.proofs.Common.{rules}
use Rattle.handle.proofs.CodeLaws.{first_placed}
use Rattle.handle.proofs.Handle.first_flat.Goals as goal

pub returns-clause-place : goal.returns-clause-place
returns-clause-place c = search (rules, first_placed)
