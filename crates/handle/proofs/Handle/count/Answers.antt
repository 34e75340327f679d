-- The count of ones is that of the segments, and no width has more than sixteen.
-- Assumes nothing.
use Rattle.handle.proofs.CodeLaws.{count_fits, code_count}
use Rattle.handle.proofs.WidthLaws.{bits_le}
use borrow.Author.Rules.{rules}
use Rattle.handle.proofs.Handle.count.Goals as goal

pub overflow_cast-result : goal.overflow_cast-result
overflow_cast-result c = search (rules, count_fits, bits_le)

pub returns : goal.returns
returns c = search (rules, code_count)
