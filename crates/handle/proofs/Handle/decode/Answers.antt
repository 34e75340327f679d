-- A return for each length, and one for every other: the bytes read are those of the definition.
-- Assumes nothing.
use Rattle.handle.proofs.CodecLaws.{decoded_four, decoded_eight, decoded_sixteen}
use Rattle.handle.proofs.DecodedLaws.{decoded_none}
use borrow.Author.Rules.{rules}
use Rattle.handle.proofs.Handle.decode.Goals as goal

pub returns-in-21 : goal.returns-in-21
returns-in-21 c = search (rules, decoded_four)

pub returns-in-23 : goal.returns-in-23
returns-in-23 c = search (rules, decoded_eight)

pub returns-in-27 : goal.returns-in-27
returns-in-27 c = search (rules, decoded_sixteen)

pub returns : goal.returns
returns c = search (rules, decoded_none)
