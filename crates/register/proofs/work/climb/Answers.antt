use borrow.Author.Rules.{rules}
use Rattle.register.proofs.ClimbLaws.{climbing_none, climbing_more, climbing_flag, climbing_room}
use Rattle.register.proofs.ClimbLaws.{climbing_entry, climbs_link, climbs_loop, climbs_known}
use Rattle.register.proofs.work.climb.Goals as goal

pub loop-met-init : goal.loop-met-init
loop-met-init c = search (rules, climbing_none)

pub bounds-known-at : goal.bounds-known-at
bounds-known-at c = search (rules, climbing_flag)

pub returns-in-Some : goal.returns-in-Some
returns-in-Some c = search (rules, climbs_known)

pub returns-then-n-at : goal.returns-then-n-at
returns-then-n-at c = search (rules, climbs_link)

pub returns-else-n-at : goal.returns-else-n-at
returns-else-n-at c = search (rules, climbs_loop)

pub bounds-path-met : goal.bounds-path-met
bounds-path-met c = search (rules, climbing_room)

pub loop-met-preserved : goal.loop-met-preserved
loop-met-preserved c = search (rules, climbing_more, c.type_inv.entries)
