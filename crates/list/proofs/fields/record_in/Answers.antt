-- Assumes nothing.
use mathlib.Core.Path.{ap, ◌∙◌}
use mathlib.Core.List.{List, []}
use Prim.Native.Nat.{ℕ, ◌-◌}
use lib.ListN.{get_or}
use Rattle.list.proofs.FieldLaws.{chunk_record}
use Rattle.list.proofs.fields.record_in.Goals as goal
use mathlib.Core.Path.{refl}

pub returns : goal.returns
returns c =
    ap (λ (l : List (List ℕ)). get_or l (c.args.k - 1) []) c.as_chunks.ensures.front
    ∙ chunk_record c.args.list.now c.args.k _ c.requires.from c.requires.inside refl
