-- Document 02, §2: what a look tells. A refused look shows an empty part, and a second question tells its number.
--     Looked              what a look tells: its number, and a part of the memory
--     nowhere             a part of no bytes, from 0 to 0
--     part_by n x ts       the part that the look x shows where its number is n: that of the segment, nowhere if it is refused
--     looked_by n x ts     the number n of the look x, and that part
-- Over a conversion f:
--     looked f x s size   the number of a look, and its part: the records and the slice's length decide, and no byte of
--                         the memory is seen
--     aes_looked           the same by the product's conversion
-- Assumes nothing.
use Rattle.std.specs.Prelude.{ℕ, zero, suc, List}
use Rattle.handle.specs.Handles.{Name}
use Rattle.handle.specs.Conversion.{product}
use Rattle.store.specs.declared.Store.{Store}
use Rattle.store.specs.Records.{Tables, table_at}
use Rattle.calls.specs.declared.Part.{Part}
use Rattle.calls.specs.Calls.{Call, part_for}
use Rattle.calls.specs.Numbers.{number}

pub record Looked : Type 0 where
  pub number : ℕ
  pub part : Part

abbrev pub nowhere : Part
nowhere = record { from = 0; to = 0 }

abbrev pub part_by : ℕ → Call → Tables → Part
part_by zero x ts = part_for x ts
part_by (suc n) x ts = nowhere

abbrev pub looked_by : ℕ → Call → Tables → Looked
looked_by n x ts = record { number = n; part = part_by n x ts }

unfoldable pub looked : (Name → List ℕ → ℕ → List ℕ) → Call → Store → ℕ → Looked
looked f x s size = looked_by (number f x s size) x (table_at s)

abbrev pub aes_looked : Call → Store → ℕ → Looked
aes_looked = looked product
