-- The pair at the entry's place.
-- Assumes nothing.
use mathlib.Core.Path.{ap, ◌∙◌}
use mathlib.Core.List.{List, []}
use Prim.Native.Nat.{ℕ, ◌-◌}
use lib.ListN.{get_or}
use Rattle.register.proofs.ClimbLaws.{pair_of}
use Rattle.register.proofs.work.pair.Goals as goal

pub returns : goal.returns
returns c =
    ap (λ (ps : List (List ℕ)). get_or ps (c.args.entry - 1) []) c.as_chunks.ensures.front
    ∙ pair_of c.args.entries.now c.args.entry c.requires
