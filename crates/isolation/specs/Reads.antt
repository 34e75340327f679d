-- Document 01, call 5: "the first length bytes of the buffer hold the segment, the length is told", and nothing beyond
-- the segment is copied. For every conversion f and every copy:
--     Read g c r    the segment that the arguments g name is present with a base and a length, and of the reply r:
--       told          the number is 0 and the length is the segment's; the handles and the count are zero
--       long          the buffer is as long as the one that came with the call
--       segment       its first length bytes are those of the node's memory from the base on
--       rest          its other bytes are as they came
--     ReadGives     every read done gives such a reply
-- Assumes nothing.
use Rattle.std.specs.Prelude.{◌≡◌, ℕ, ◌+◌, ◌*◌, ◌≤◌, ◌<◌, List, length, get_or}
use Rattle.handle.specs.Handles.{Name, decoded}
use Rattle.store.specs.Places.{present_at}
use Rattle.store.specs.Records.{table_at, place_on}
use Rattle.calls.specs.Calls.{Copy, Arguments, call, read}
use Rattle.calls.specs.Steps.{Reply, step}
use Rattle.calls.specs.Literals.{none, told}
use Rattle.isolation.specs.Copies.{Done}

pub record Read (g : Arguments) (c : Copy) (r : Reply) : Type 0 where
  pub base : ℕ
  pub size : ℕ
  pub place : place_on (table_at c.store) (decoded g.handle).node (decoded g.handle).local g.segment
      ≡ present_at base size
  pub told : r ≡ told 0 none none 0 size r.buffer
  pub long : length r.buffer ≡ length g.bytes
  pub segment : (i : ℕ) → i < size
      → get_or r.buffer i 0 ≡ get_or c.memory ((decoded g.handle).node * 4096 + base + i) 0
  pub rest : (i : ℕ) → size ≤ i → get_or r.buffer i 0 ≡ get_or g.bytes i 0

abbrev pub ReadGives : (Name → List ℕ → ℕ → List ℕ) → Type 0
ReadGives f = (g : Arguments) (c : Copy) → Done f (call read g) c → Read g c (step f (call read g) c).reply
