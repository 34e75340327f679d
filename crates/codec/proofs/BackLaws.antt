-- A handle's bytes, written one after the other with their length at the end, give the handle again.
-- Assumes nothing.
use mathlib.Core.Path.{◌≡◌, ap, ◌∙◌}
use mathlib.Core.List.{List, [], ◌∷◌, ◌++◌}
use Prim.Native.Nat.{ℕ}
use lib.ListN.{length, set}
use Rattle.handle.specs.declared.HandleBytes.{HandleBytes}
use Rattle.handle.specs.Widths.{most_bytes}
use Rattle.codec.specs.Held.{handed}
use Rattle.codec.proofs.HeldLaws.{handed_held, held_so}

module _ (a : HandleBytes) (l : length a.bytes ≡ most_bytes) where
  pub held_back : (m : List ℕ) → m ≡ a.bytes → handed (set (m ++ (0 ∷ [])) most_bytes a.length) ≡ a
  held_back m e = ap handed (held_so a l m e) ∙ handed_held a l
