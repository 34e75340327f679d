-- The bytes read and written again are the same where a handle has so many, and none where none has.
-- Assumes nothing.
use Rattle.codec.proofs.HeldLaws.{from_so}
use borrow.Author.Rules.{rules}
use Rattle.codec.proofs.held_from.Goals as goal

pub returns : goal.returns
returns c = search (rules, from_so, c.type_inv.bytes)
