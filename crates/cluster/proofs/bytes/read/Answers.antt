-- A read is refused, or done; the part that it is about lies inside the memory.
-- Assumes nothing.
use mathlib.Core.Path.{refl}
use native.Mathlib.Omega.{arith}
use Rattle.std.proofs.Common.{rules}
use Rattle.cluster.proofs.AccessLaws.{access_reaches}
use Rattle.cluster.proofs.BytesLaws.{read_refused, read_beyond, read_done}
use Rattle.cluster.proofs.bytes.read.Goals as goal

pub returns-in_err-access : goal.returns-in_err-access
returns-in_err-access c = search (rules, read_refused, c.in_err-access.was)

pub returns-then-memory-from : goal.returns-then-memory-from
returns-then-memory-from c = search (rules, read_beyond, c.in_ok-access.was)

pub copy_out-requires : goal.copy_out-requires
copy_out-requires c =
    access_reaches _ _ _ _ _ _ _ _ c.access.result c.access.ensures _ c.in_ok-access.was _ _ _ c.length_of-size.ensures
    (omega arith)

pub returns : goal.returns
returns c =
    λ s b g.
    read_done s c.args.memory.now b _ _ c.access.result _ _ _ g _ c.place_of-place.ensures _ refl c.access.ensures _ c.in_ok-access.was _ c.start_of-from.ensures.begins
    _ c.length_of-size.ensures _ c.copy_out.ensures
