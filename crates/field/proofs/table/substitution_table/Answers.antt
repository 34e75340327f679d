-- One test, computed over the whole table.
-- Assumes nothing.
use mathlib.Core.Path.{refl}
use mathlib.Core.Bool.{xor}
use Rattle.bits.specs.Sets.{has, set_of}
use Rattle.loops.specs.Below.{every}
use Rattle.field.specs.Field.{product, remainder, times, dot, squares, inverse}
use Rattle.field.specs.Substitution.{affine, sbox}
use Rattle.field.proofs.SubstitutionLaws.{obeys, substitution_tested}
use Rattle.field.proofs.table.substitution_table.Goals as goal

pub returns : goal.returns
unfolding obeys every sbox affine set_of has xor inverse squares dot times remainder product
returns c = substitution_tested _ refl refl
