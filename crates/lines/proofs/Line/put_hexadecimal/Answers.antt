-- Assumes nothing.
use borrow.Author.Rules.{rules}
use native.Mathlib.Omega.{arith}
use Rattle.lines.proofs.PutLaws.{hexadecimal_none, hexadecimal_next, hexadecimal_all}
use Rattle.lines.proofs.Line.put_hexadecimal.Goals as goal

pub loop-b-init : goal.loop-b-init
loop-b-init c = record { so_far = search (rules, hexadecimal_none); ends = omega arith }

pub loop-b-preserved : goal.loop-b-preserved
loop-b-preserved c = record { so_far = search (rules, hexadecimal_next); ends = omega arith }

pub returns-clause-adds : goal.returns-clause-adds
returns-clause-adds c = search (rules, hexadecimal_all)
