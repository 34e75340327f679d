-- Refused where placement has no base, or the segment made; the bounds that are tested always hold.
-- Assumes nothing.
use Rattle.std.proofs.Common.{rules}
use Rattle.cluster.proofs.MakeLaws.{new_segment_full, new_segment_beyond, new_segment_done, can_make_is}
use Rattle.cluster.proofs.make.new_segment.Goals as goal

pub returns-then-not-can_make : goal.returns-then-not-can_make
returns-then-not-can_make c = search (rules, new_segment_beyond)

pub make-requires : goal.make-requires
make-requires c = search (rules, can_make_is)

pub returns-in-None : goal.returns-in-None
returns-in-None c = search (rules, new_segment_full)

pub returns-else-not-can_make : goal.returns-else-not-can_make
returns-else-not-can_make c = search (rules, new_segment_done)
