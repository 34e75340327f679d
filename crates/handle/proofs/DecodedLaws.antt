-- Bytes of none of the three lengths are no handle.
-- Assumes nothing.
use mathlib.Core.Path.{◌≡◌}
use Prim.Native.Nat.{ℕ}
use mathlib.Core.List.{List}
use lib.ListN.{length}
use Rattle.handle.specs.declared.Handle.{Handle}
use Rattle.handle.specs.declared.Width.{Width}
use Rattle.handle.specs.declared.Width.TheVariants.{None, Four, Eight, Sixteen}
use Rattle.handle.specs.Widths.{length_of}
use Rattle.handle.specs.Handles.{no_handle, decoded_as, decoded}
use Rattle.handle.proofs.CodecLaws.{width_cases}

module _ (b : List ℕ) (r : Handle) where
  pub decoded_none : (length b ≡ length_of Four → ⊥) → (length b ≡ length_of Eight → ⊥)
      → (length b ≡ length_of Sixteen → ⊥) → r ≡ no_handle → r ≡ decoded b
  unfolding decoded
  decoded_none p q s e = width_cases (λ v. r ≡ decoded_as v b) (length b) e other
    where
      other : (v : Width) → length b ≡ length_of v → r ≡ decoded_as v b
      other None l = e
      other Four l = absurd (p l)
      other Eight l = absurd (q l)
      other Sixteen l = absurd (s l)
