-- Calls 2, 3, 4 and 10: where the shared rows refuse, theirs is the first of all.
-- Assumes nothing.
use mathlib.Core.Path.{◌≡◌, ap, ◌∙◌}
use mathlib.Core.Bool.{Bool, not}
use mathlib.Core.List.{[], ◌∷◌}
use Prim.Native.Nat.{ℕ}
use lib.Dec.{eqb, leb}
use Rattle.std.specs.Prelude.{Result, Err}
use Rattle.std.specs.Result.{IsErrAnd}
use Rattle.sizes.specs.Sizes.{nodes}
use Rattle.numbers.specs.declared.Number.{Number}
use Rattle.numbers.specs.Codes.{told}
use Rattle.handle.specs.declared.Handle.{Handle}
use Rattle.handle.specs.Selectors.{all_flat}
use Rattle.handle.specs.Handles.{node_of, width_of, first_of}
use Rattle.store.specs.declared.Cluster.{Cluster}
use Rattle.store.specs.Records.{write_mode}
use Rattle.refusals.specs.Rows.{row, shared_rows, owner_rows}
use Rattle.refusals.proofs.AfterLaws.{exit_first}
use Rattle.refusals.proofs.GivenLaws.{shared_numbered}

-- the node as the code has it
module _ {X : Type 0} (sd : Bool) (h : Handle) (c : Cluster) (current : ℕ) (field : Bool) (v : ℕ) (ev : v ≡ node_of h)
    (r : Result X Number) (er : told r ≡ first_of (shared_rows sd h c (leb nodes current) field (not (eqb current v)) write_mode)) where
  pub owner_shared : (n : Number) → r ≡ Err n → {Y : Type 0} (q : Result Y Number) → IsErrAnd q (λ k. k ≡ n)
      → told q ≡ first_of (owner_rows sd h c current field)
  unfolding owner_rows
  owner_shared n e q i =
      exit_first (shared_rows sd h c (leb nodes current) field (not (eqb current (node_of h))) write_mode)
      (row 10 (not (all_flat (width_of h) h.selector)) ∷ [])
      (shared_numbered sd h c (leb nodes current) field (not (eqb current (node_of h))) write_mode) r
      (er
      ∙ ap (λ (u : ℕ). first_of (shared_rows sd h c (leb nodes current) field (not (eqb current u)) write_mode)) ev)
      n e q i
