-- Assumes nothing.
use mathlib.Core.Path.{ap, ◌∙◌}
use mathlib.Core.Bool.{not}
use mathlib.Core.List.{List}
use Prim.Native.Nat.{ℕ}
use lib.Dec.{eqb}
use Rattle.std.specs.List.{list_all}
use Rattle.list.specs.Records.{code_of}
use Rattle.list.proofs.RoomLaws.{chunks_quiet}
use Rattle.list.proofs.text.quiet.Goals as goal

pub returns : goal.returns
returns c =
    chunks_quiet c.args.list.now c.none_read.result
    (c.none_read.ensures ∙ ap (list_all (λ (r : List ℕ). not (eqb (code_of r) 5))) c.as_chunks.ensures.front)
