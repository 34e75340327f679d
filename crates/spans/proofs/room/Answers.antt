-- No start below the one that is tried has room (`Tried`); each turn that finds none goes on behind a bit that is set.
-- Assumes nothing.
use Rattle.spans.proofs.NextLaws.{tried_none, room_none, room_found, tried_more, room_rises}
use Rattle.spans.proofs.room.Goals as goal

pub loop-start-init : goal.loop-start-init
loop-start-init c = tried_none _ _

pub returns-in_default-next-clause-least : goal.returns-in_default-next-clause-least
returns-in_default-next-clause-least c =
    room_found _ _ _ c.loop-start.invariant c.requires.some _ c.in-Some.ensures.found c.in_default-next.ensures.none

pub loop-start-smaller : goal.loop-start-smaller
loop-start-smaller c =
    room_rises _ _ _ c.loop-start.invariant c.requires.some _ c.in-Some.ensures.found _ c.in-Some-next.ensures.found

pub loop-start-preserved : goal.loop-start-preserved
loop-start-preserved c =
    tried_more _ _ _ c.loop-start.invariant c.requires.some _ c.in-Some.ensures.found _ c.in-Some-next.ensures.found

pub returns-clause-least : goal.returns-clause-least
returns-clause-least c = room_none _ _ _ c.loop-start.invariant c.requires.some c.in_default.ensures.none
