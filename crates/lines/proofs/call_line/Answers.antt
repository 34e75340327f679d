-- One refusal; the line of a refused call, which another function puts; else the parts of the line, one after another.
-- Assumes nothing.
use borrow.Author.Rules.{rules}
use Rattle.lines.specs.Buffers.{call_line_within}
use Rattle.lines.proofs.LineLaws.{call_whole, refused_begins}
use Rattle.lines.proofs.call_line.Goals as goal

pub returns-then-out-lt-LONGEST-clause-begins : goal.returns-then-out-lt-LONGEST-clause-begins
unfolding call_line_within
returns-then-out-lt-LONGEST-clause-begins c = search rules

pub returns-clause-begins : goal.returns-clause-begins
returns-clause-begins c = search (rules, call_whole)

pub returns-in-Err-clause-begins : goal.returns-in-Err-clause-begins
returns-in-Err-clause-begins c = search (rules, refused_begins)
