-- Before turn i the key is the round key of round i.
-- Assumes nothing.
use mathlib.Core.Path.{◌≡◌}
use Rattle.aes.specs.KeyExpansion.{round_key}
use Rattle.aes.proofs.round_key.Given as goal

abbrev pub invariant-loop-i : goal.invariant-loop-i
invariant-loop-i l = l.k ≡ round_key l.initial.k l.i
