-- A bit is a power of two that fits.
-- Assumes nothing.
use borrow.Author.Rules.{rules}
use Rattle.spans.proofs.WordLaws.{bit_is}
use Rattle.spans.proofs.bit.Goals as goal

pub returns : goal.returns
returns c = bit_is _ (search rules)
