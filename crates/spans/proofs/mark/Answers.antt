-- Each way through the function is one law: an empty span, one that ends past the map, one word, three spans.
-- Assumes nothing.
use Rattle.spans.proofs.MarkLaws.{mark_empty, mark_long, mark_one, mark_three}
use borrow.Author.Rules.{rules}
use Rattle.spans.proofs.mark.Goals as goal

pub returns-then-to-from : goal.returns-then-to-from
returns-then-to-from c = search (rules, mark_empty)

pub returns-then-map-last : goal.returns-then-map-last
returns-then-map-last c = search (rules, mark_long)

pub returns-then-first-last : goal.returns-then-first-last
returns-then-first-last c = search (rules, mark_one)

pub returns : goal.returns
returns c = search (rules, mark_three)
