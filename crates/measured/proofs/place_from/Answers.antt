-- By cases on the length.
-- Assumes nothing.
use Rattle.measured.proofs.StoreLaws.{place_absent, place_present}
use Rattle.measured.proofs.place_from.Goals as goal

pub returns-then-length-eq0 : goal.returns-then-length-eq0
returns-then-length-eq0 c = place_absent c.args.base c.args.length c.if-length-eq0.true

pub returns : goal.returns
returns c = place_present c.args.base c.args.length c.if-length-eq0.false
