-- One refusal; else the parts of the line, one after another.
-- Assumes nothing.
use borrow.Author.Rules.{rules}
use Rattle.lines.specs.Buffers.{stopped_within}
use Rattle.lines.proofs.LineLaws.{stopped_whole}
use Rattle.lines.proofs.refused_call_line.Goals as goal

pub returns-then-out-lt-LONGEST-clause-begins : goal.returns-then-out-lt-LONGEST-clause-begins
unfolding stopped_within
returns-then-out-lt-LONGEST-clause-begins c = search rules

pub returns-clause-begins : goal.returns-clause-begins
returns-clause-begins c = search (rules, stopped_whole)
