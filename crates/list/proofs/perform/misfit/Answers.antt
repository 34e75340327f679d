-- Row by row: 1, 2 for the node, 2 for the local number, 3.
-- Assumes nothing.
use Rattle.list.proofs.PerformLaws.{misfit_unsound, misfit_node, misfit_local, misfit_field}
use borrow.Author.Rules.{rules}
use Rattle.list.proofs.perform.misfit.Goals as goal

pub returns-then-not-sound : goal.returns-then-not-sound
returns-then-not-sound c = search (rules, misfit_unsound)

pub returns-then-node-ge-NODES : goal.returns-then-node-ge-NODES
returns-then-node-ge-NODES c = search (rules, misfit_node)

pub returns-then-from-ge-CLUSTERS : goal.returns-then-from-ge-CLUSTERS
returns-then-from-ge-CLUSTERS c = search (rules, misfit_local)

pub returns : goal.returns
returns c = search (rules, misfit_field)
