-- The answers written out are those of the definitions, which are computed.
-- Assumes nothing.
use mathlib.Core.Path.{refl}
use mathlib.Core.List.{List}
use Prim.Native.Nat.{ℕ}
use Rattle.bits.specs.Sets.{has, set_of, count}
use Rattle.bits.specs.Bytes.{bytes, word, word_from}
use Rattle.loops.specs.Search.{least_from, least}
use Rattle.loops.specs.Tabulate.{tabulate}
use Rattle.chain.specs.Way.{reached, numbered, met, way, records}
use Rattle.handle.specs.Widths.{packed, unpacked}
use Rattle.handle.specs.Handles.{Name, encoded, decoded, weaken_number, weakened, weakening}
use Rattle.register.specs.Registers.{steps, made, lowest, whole_number, handles_told, bytes_up_to, handles_left, openers_up_to}
use Rattle.register.specs.Registers.{openers_entry, openers_told, openers_left}
use Rattle.register.specs.cases.Literals.{FiveMade, FiveWritten, Answered, Given, Placed, Wholes}

module _ (f : Name → List ℕ → ℕ → List ℕ) where
  pub five_made : FiveMade f
  unfolding has set_of count word word_from least_from least tabulate reached numbered met way records unpacked decoded weaken_number weakened weakening steps made lowest whole_number handles_told handles_left openers_up_to openers_entry openers_told openers_left
  five_made = record { handles = refl; openers = refl; untouched = refl; unwritten = refl }

  pub answered : Answered f
  unfolding has set_of count word word_from least_from least tabulate reached numbered met way records unpacked decoded weaken_number weakened weakening steps made lowest whole_number openers_up_to openers_entry openers_told
  answered = refl

  pub first_answered : Given f
  unfolding has set_of count word word_from least_from least tabulate reached numbered met way records unpacked decoded weaken_number weakened weakening steps made lowest whole_number handles_told
  first_answered = refl

pub five_written : FiveWritten
unfolding has set_of count bytes word word_from least_from least tabulate reached numbered met way records packed unpacked encoded decoded weaken_number weakened weakening steps made lowest whole_number handles_told bytes_up_to handles_left
five_written = refl

pub wholes : Wholes
unfolding word word_from tabulate unpacked decoded whole_number
wholes = refl

pub placed : Placed
placed = refl
