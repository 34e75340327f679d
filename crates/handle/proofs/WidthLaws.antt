-- The three widths: none has more than sixteen bits, and as many bits are one width; and the bytes of a primary handle of each.
-- Assumes nothing.
use Prim.Native.Nat.{ℕ, ◌≤◌}
use native.Mathlib.Omega.{arith}
use mathlib.Core.Path.{◌≡◌, refl, ap, ◌∙◌}
use mathlib.Core.List.{List}
use lib.ListN.{replicate}
use Rattle.bits.specs.Sets.{full}
use Rattle.handle.specs.declared.HandleBytes.{HandleBytes}
use Rattle.handle.specs.Handles.{encoded, written, laid}
use Rattle.handle.specs.Opens.{primary_bytes}
use Rattle.handle.specs.declared.Width.{Width}
use Rattle.handle.specs.declared.Width.TheVariants.{None, Four, Eight, Sixteen}
use Rattle.handle.specs.Widths.{bits_of}

pub bits_le : (v : Width) → bits_of v ≤ 16
bits_le None = omega arith
bits_le Four = omega arith
bits_le Eight = omega arith
bits_le Sixteen = omega arith

-- the bytes of a primary handle, as the code has it
pub primary_written : (v : Width) (node local : ℕ) (p : List ℕ) (x : ℕ) → x ≡ full (bits_of v) → (r : HandleBytes)
    → r ≡ written (record { node = node; local = local; password = p; width = v; selector = replicate 4 x })
    → r ≡ laid (primary_bytes v node local p)
unfolding written
primary_written v node local p x e r er =
    er
    ∙ ap
    (λ (y : ℕ). laid (encoded (record { node = node; local = local; password = p; width = v; selector = replicate 4 y })))
    e

-- widths of as many bits are one
pub bits_same : (v u : Width) → bits_of v ≡ bits_of u → v ≡ u
bits_same None None e = refl
bits_same None Four e = absurd (omega arith)
bits_same None Eight e = absurd (omega arith)
bits_same None Sixteen e = absurd (omega arith)
bits_same Four None e = absurd (omega arith)
bits_same Four Four e = refl
bits_same Four Eight e = absurd (omega arith)
bits_same Four Sixteen e = absurd (omega arith)
bits_same Eight None e = absurd (omega arith)
bits_same Eight Four e = absurd (omega arith)
bits_same Eight Eight e = refl
bits_same Eight Sixteen e = absurd (omega arith)
bits_same Sixteen None e = absurd (omega arith)
bits_same Sixteen Four e = absurd (omega arith)
bits_same Sixteen Eight e = absurd (omega arith)
bits_same Sixteen Sixteen e = refl
