-- Two bytes as one number.
-- Assumes nothing.
use Rattle.bits.specs.Bytes.{word, word_from}
use native.Mathlib.Omega.{arith}
use Rattle.bits.proofs.word.Goals as goal

pub returns : goal.returns
unfolding word word_from
returns c = omega (arith, c.from_be_bytes.ensures)
