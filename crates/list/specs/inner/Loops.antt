-- What the functions that run a list ask for and keep.
--     Reach list k b out                 record k is one of the list's, the buffer has its size, and a line fits in `out`
--     Lined list k b d out after n next  the call of record k is done on the bench b, leaves d, and its line of n bytes
--                                        stands at the start of `out`, which is now `after`; next is the record that it
--                                        names
--     Ends list i end                    the lines of i records of the list end there at the latest: a longest line for
--                                        each record, of a quiet list a brief one for each
--     Ready list total m b out           the chain of the list is whole and has that many records, `out` has the room for
--                                        its text, and the memory m and the buffer b are those of the start
-- Assumes nothing.
use Rattle.std.specs.Prelude.{◌≡◌, ℕ, ◌*◌, ◌≤◌, true, List, length}
use Rattle.chain.specs.Way.{done}
use Rattle.chain.specs.Bytes.{next_in}
use Rattle.lines.specs.Buffers.{longest, brief, Begins}
use Rattle.list.specs.Records.{record_bytes, record_in}
use Rattle.list.specs.Runs.{Bench, buffer_bytes, starting, performed}
use Rattle.list.specs.Texts.{checked, record_line, quiet, room_for}

pub record Reach (list : List ℕ) (k : ℕ) (buffer out : List ℕ) : Type 0 where
  pub from : 1 ≤ k
  pub inside : k * record_bytes ≤ length list
  pub small : k ≤ 255
  pub room : length buffer ≡ buffer_bytes
  pub wide : longest ≤ length out

pub record Lined (list : List ℕ) (k : ℕ) (b d : Bench) (out after : List ℕ) (n next : ℕ) : Type 0 where
  pub left : d ≡ (performed (record_in list k) b).bench
  pub line : Begins out after n (record_line list k (performed (record_in list k) b))
  pub named : next ≡ next_in list record_bytes k

pub record Ends (list : List ℕ) (i end : ℕ) : Type 0 where
  pub long : end ≤ i * longest
  pub short : quiet list ≡ true → end ≤ i * brief

pub record Ready (list : List ℕ) (total : ℕ) (m b out : List ℕ) : Type 0 where
  pub whole : checked list ≡ done total
  pub memory : m ≡ starting.copy.memory
  pub buffer : b ≡ starting.buffer
  pub wide : room_for list ≤ length out
