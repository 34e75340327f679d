-- No bytes are written where it is refused.
-- Assumes nothing.
use Rattle.measured.proofs.HandleLaws.{refused_bytes}
use Rattle.measured.proofs.measured_weaken.Goals as goal

pub returns-in-Err-clause-out_length_after : goal.returns-in-Err-clause-out_length_after
returns-in-Err-clause-out_length_after c = refused_bytes _ _ c.decode.ensures _ _ c.in-Err.ensures
