-- The number of the shared rows.
-- Assumes nothing.
use Rattle.std.proofs.Common.{rules}
use Rattle.cluster.proofs.OpenLaws.{validate_is}
use Rattle.cluster.proofs.open.validate.Goals as goal

pub returns : goal.returns
returns c = search (rules, validate_is)
