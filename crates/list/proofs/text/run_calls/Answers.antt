use Rattle.list.proofs.RunLaws.{going_none, going_reach, going_more, going_all, going_ends}
use Rattle.list.proofs.RunLaws.{going_inside, going_fits}
use borrow.Author.Rules.{rules}
use Rattle.list.proofs.text.run_calls.Goals as goal

pub calls-init : goal.calls-init
calls-init c = search (rules, going_none)

pub slice_bounds-one-count : goal.slice_bounds-one-count
slice_bounds-one-count c = search (rules, going_inside)

pub slice_bounds-one-start : goal.slice_bounds-one-start
slice_bounds-one-start c = search (rules, going_inside)

pub one-ran-requires : goal.one-ran-requires
one-ran-requires c = search (rules, going_reach)

pub overflow_add-end : goal.overflow_add-end
overflow_add-end c = record { fits = search (rules, going_fits) }

pub calls-preserved : goal.calls-preserved
calls-preserved c = search (rules, going_more)

pub returns : goal.returns
returns c = record { begins = search (rules, going_all); ends = search (rules, going_ends) }
