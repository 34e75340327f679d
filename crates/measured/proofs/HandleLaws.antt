-- No handle is written where a weakening is refused.
-- Assumes nothing.
use mathlib.Core.Path.{◌≡◌, refl, ap, ◌∙◌}
use mathlib.Core.List.{List}
use Prim.Native.Nat.{ℕ}
use lib.ListN.{replicate}
use Rattle.handle.specs.declared.Handle.{Handle}
use Rattle.handle.specs.Handles.{Weakened, no_handle, decoded, encoded, written, refusal}
use Rattle.handle.specs.Widths.{most_bytes}
use Rattle.measured.specs.Handles.{handed, weakened_by, weakened}

none_written : handed (replicate most_bytes 0) 0 ≡ written no_handle
unfolding written encoded
none_written = refl

pub refused_bytes : (b : List ℕ) (h : Handle) → h ≡ decoded b → (mask n : ℕ) → refusal n ≡ weakened_by h mask
    → handed (replicate most_bytes 0) 0 ≡ written (weakened b mask).handle
refused_bytes b h e mask n d =
    none_written ∙ ap (λ (w : Weakened). written w.handle) (d ∙ ap (λ (k : Handle). weakened_by k mask) e)
