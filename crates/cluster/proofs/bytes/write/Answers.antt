-- A write is refused, or done; the part that it is about lies inside the memory.
-- Assumes nothing.
use native.Mathlib.Omega.{arith}
use Rattle.std.proofs.Common.{rules}
use Rattle.cluster.proofs.AccessLaws.{access_reaches}
use Rattle.cluster.proofs.BytesLaws.{write_refused, write_beyond, write_done}
use Rattle.cluster.proofs.bytes.write.Goals as goal

pub returns-in_err-access : goal.returns-in_err-access
returns-in_err-access c = search (rules, write_refused, c.in_err-access.was)

pub returns-then-memory-from : goal.returns-then-memory-from
returns-then-memory-from c = search (rules, write_beyond, c.in_ok-access.was)

pub copy_in-requires : goal.copy_in-requires
copy_in-requires c =
    access_reaches _ _ _ _ _ _ _ _ c.access.result c.access.ensures _ c.in_ok-access.was _ _ _ c.length_of-size.ensures
    (omega arith)

pub returns : goal.returns
returns c = search (rules, write_done, c.in_ok-access.was)
