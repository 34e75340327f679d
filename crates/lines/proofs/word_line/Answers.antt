-- One refusal; else the parts of the line, one after another.
-- Assumes nothing.
use borrow.Author.Rules.{rules}
use Rattle.lines.specs.Buffers.{word_line_within}
use Rattle.lines.proofs.LineLaws.{word_whole}
use Rattle.lines.proofs.word_line.Goals as goal

pub returns-then-out-word-clause-begins : goal.returns-then-out-word-clause-begins
unfolding word_line_within
returns-then-out-word-clause-begins c = search rules

pub returns-clause-begins : goal.returns-clause-begins
returns-clause-begins c = search (rules, word_whole)
