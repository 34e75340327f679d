-- The answers written out are those of the definitions, which are computed.
-- Assumes nothing.
use mathlib.Core.Path.{refl}
use Rattle.loops.specs.Search.{least_from, least}
use Rattle.chain.specs.Way.{reached, numbered, met, way}
use Rattle.chain.specs.Literals.{WaysAnswered}

pub ways_answered : WaysAnswered
unfolding least_from least reached numbered met way
ways_answered = refl
