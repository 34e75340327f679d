-- Column by column, by what a mixed column is.
-- Assumes nothing.
-- four columns, byte by byte
use mathlib.Core.List.{List, [], ◌∷◌}
use Prim.Native.Nat.{ℕ}
use lib.ListN.{get_or}
use Rattle.loops.specs.Tabulate.{tabulate}
use Rattle.aes.specs.Transformations.{mix_columns}
use Rattle.aes.proofs.mix_columns.Goals as goal

abbrev columns : List ℕ → List ℕ → List ℕ → List ℕ → List ℕ
columns a b c d =
    get_or a 0 0 ∷ get_or a 1 0 ∷ get_or a 2 0 ∷ get_or a 3 0 ∷ get_or b 0 0 ∷ get_or b 1 0 ∷ get_or b 2 0 ∷ get_or b 3 0 ∷ get_or c 0 0
    ∷ get_or c 1 0 ∷ get_or c 2 0 ∷ get_or c 3 0 ∷ get_or d 0 0 ∷ get_or d 1 0 ∷ get_or d 2 0 ∷ get_or d 3 0
    ∷ []

pub returns : goal.returns
unfolding mix_columns tabulate
returns c =
    let p = c.before.before.before.mix_column-a.ensures in
    let q = c.before.before.mix_column-b.ensures in
    let u = c.before.mix_column-c.ensures in
    let v = c.mix_column-d.ensures in
    λ j. columns (p j) (q j) (u j) (v j)
