-- Three parts, then the active byte and the width.
-- Assumes nothing.
use lib.ListN.{length-set}
use native.Mathlib.Omega.{arith}
use Rattle.image.proofs.RecordLaws.{record_put}
use borrow.Author.Rules.{rules}
use Rattle.image.proofs.writing.put_record.Goals as goal

pub bounds-out-1 : goal.bounds-out-1
bounds-out-1 c = simp length-set (omega arith)

pub shape_of-out : goal.shape_of-out
shape_of-out c = simp length-set (omega arith)

pub returns : goal.returns
returns c = search (rules, record_put)
