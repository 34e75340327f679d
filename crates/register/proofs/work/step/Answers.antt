-- The handle's place is written where handles are wanted.
-- Assumes nothing.
use Rattle.handle.specs.Conversion.{product}
use Rattle.register.proofs.NarrowLaws.{step_wanted, step_unwanted}
use Rattle.register.proofs.work.step.Goals as goal
use Rattle.register.proofs.work.step.Goals.{then-wanted, else-wanted}

pub returns : goal.returns
returns c =
    elim c.if-wanted.branch [
      | then-wanted w ↦ step_wanted _ _ product _ c.in_ok-cut.ensures _ c.unwrap_or.ensures _ _ _ _ _ _ w.is_some.ensures _ w.weaker.ensures w.handles-is c.if-wanted.array_long c.requires.entry_bound
      | else-wanted w ↦ step_unwanted _ _ product _ c.in_ok-cut.ensures _ c.unwrap_or.ensures _ _ _ _ w.if-wanted.false _ w.handles-is
    ]
