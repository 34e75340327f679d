-- Each return is the number of the first row that applies: the tests before it are off.
-- Assumes nothing.
use borrow.Author.Rules.{rules}
use Rattle.register.proofs.WholeLaws.{whole_length, whole_node, whole_local, whole_field, whole_gapped}
use Rattle.register.proofs.WholeLaws.{whole_odd, whole_many, whole_short, whole_none, times_fits}
use Rattle.register.proofs.whole.Goals as goal

pub returns-then-handle-ne-HANDLE-clause-number : goal.returns-then-handle-ne-HANDLE-clause-number
returns-then-handle-ne-HANDLE-clause-number c = search (rules, whole_length)

pub returns-then-node-ge-NODES-clause-number : goal.returns-then-node-ge-NODES-clause-number
returns-then-node-ge-NODES-clause-number c = search (rules, whole_node)

pub returns-then-h-ge-CLUSTERS-clause-number : goal.returns-then-h-ge-CLUSTERS-clause-number
returns-then-h-ge-CLUSTERS-clause-number c = search (rules, whole_local)

pub returns-then-beyond-clause-number : goal.returns-then-beyond-clause-number
returns-then-beyond-clause-number c = search (rules, whole_field)

pub returns-then-gapped-clause-number : goal.returns-then-gapped-clause-number
returns-then-gapped-clause-number c = search (rules, whole_gapped)

pub returns-then-size-ne0-clause-number : goal.returns-then-size-ne0-clause-number
returns-then-size-ne0-clause-number c = search (rules, whole_odd)

pub returns-then-n-gt-MOST-clause-number : goal.returns-then-n-gt-MOST-clause-number
returns-then-n-gt-MOST-clause-number c = search (rules, whole_many)

pub overflow_mul-n : goal.overflow_mul-n
overflow_mul-n c = search (rules, times_fits)

pub returns-then-room-n-clause-number : goal.returns-then-room-n-clause-number
returns-then-room-n-clause-number c = search (rules, whole_short)

pub returns-clause-number : goal.returns-clause-number
returns-clause-number c = search (rules, whole_none)
