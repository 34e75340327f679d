-- The bits of a word, or those that it lacks.
-- Assumes nothing.
use Rattle.spans.proofs.NextLaws.{picked_set, picked_clear}
use borrow.Author.Rules.{rules}
use Rattle.spans.proofs.Sought.of.Goals as goal

pub returns-in-Set : goal.returns-in-Set
returns-in-Set c = search (rules, picked_set)

pub returns-in-Clear : goal.returns-in-Clear
returns-in-Clear c = search (rules, picked_clear)
