-- The image of the starting store is all zeros.
-- Assumes nothing.
use mathlib.Core.Path.{sym}
use Rattle.image.proofs.TripLaws.{image_starting}
use Rattle.gelmuszta.proofs.stores.gelmuszta_start.Goals as goal

pub returns : goal.returns
returns c = sym image_starting
