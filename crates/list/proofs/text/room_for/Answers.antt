-- One room or the other, as the test tells.
-- Assumes nothing.
use Rattle.list.proofs.RoomLaws.{room_quiet, room_loud}
use borrow.Author.Rules.{rules}
use Rattle.list.proofs.text.room_for.Goals as goal

pub returns-then-quiet : goal.returns-then-quiet
returns-then-quiet c = search (rules, room_quiet)

pub returns-else-quiet : goal.returns-else-quiet
returns-else-quiet c = search (rules, room_loud)
