-- Each way through the function is one law: no byte asked for, too many, and what the map tells.
-- Assumes nothing.
use Rattle.store.proofs.RoomLaws.{based_empty, based_long, based_room}
use borrow.Author.Rules.{rules}
use Rattle.store.proofs.placement.base_in.Goals as goal

pub returns-then-size-lt1 : goal.returns-then-size-lt1
returns-then-size-lt1 c = search (rules, based_empty)

pub returns-then-size-gt-NODE_MEMORY : goal.returns-then-size-gt-NODE_MEMORY
returns-then-size-gt-NODE_MEMORY c = search (rules, based_long)

pub returns : goal.returns
returns c = search (rules, based_room)
