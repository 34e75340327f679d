-- The statement of two cuts and one cut is put to use for every conversion of sixteen bytes.
-- Assumes nothing.
use Rattle.cuts.specs.cases.Uses.{TwoCutsUses}
use Rattle.cuts.proofs.EachLaws.{uses_each}

pub two_cuts_uses : TwoCutsUses
two_cuts_uses f sixteen = uses_each f sixteen
