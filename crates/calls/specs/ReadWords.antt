-- Document 01, "The calls", row 5 of the table and the sentence on what a read copies, in words: what a read that is done
-- gives and leaves.
--     ReadInWords f g c    of the read with the arguments g on the copy c: the segment that it names is present with a
--                          base and a length; the first length bytes of the buffer are the segment's, of its node's own
--                          4,096 bytes of the memory, and those after them are as they were; the length is told, no handle,
--                          that is 27 zero bytes and the length 0 for each, and a zero count; the copy is as it was
-- Assumes nothing.
use Rattle.std.specs.Prelude.{◌≡◌, ℕ, ◌+◌, ◌*◌, ◌≤◌, ◌<◌, List, length, get_or, replicate}
use Rattle.handle.specs.Handles.{Name, node_of}
use Rattle.store.specs.Places.{present_at}
use Rattle.calls.specs.Calls.{Copy, Call, Arguments, call, read, handle_of}
use Rattle.calls.specs.Words.{place}
use Rattle.calls.specs.Steps.{Reply, step}

module _ (f : Name → List ℕ → ℕ → List ℕ) (g : Arguments) (c : Copy) where
  abbrev x : Call
  x = call read g

  abbrev reply : Reply
  reply = (step f x c).reply

  pub record ReadInWords : Type 0 where
    pub base : ℕ
    pub size : ℕ
    pub present : place x c.store ≡ present_at base size
    pub number : reply.number ≡ 0
    pub told : reply.length ≡ size
    pub bytes : (k : ℕ) → k < size
        → get_or reply.buffer k 0 ≡ get_or c.memory (node_of (handle_of x) * 4096 + base + k) 0
    pub after : (k : ℕ) → size ≤ k → get_or reply.buffer k 0 ≡ get_or g.bytes k 0
    pub long : length reply.buffer ≡ length g.bytes
    pub first : reply.first ≡ record { length = 0; bytes = replicate 27 0 }
    pub second : reply.second ≡ record { length = 0; bytes = replicate 27 0 }
    pub count : reply.count ≡ 0
    pub copy : (step f x c).copy ≡ c
