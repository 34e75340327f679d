-- The chain tells whether no segment is frozen, which is the test of the definition.
-- Assumes nothing.
use borrow.Author.Rules.{rules}
use Rattle.store.proofs.RecordLaws.{length_mapped, frozen_told}
use Rattle.store.proofs.records.none_frozen.Goals as goal

pub returns : goal.returns
returns c =
    frozen_told c.before.before.args.cluster c.all.result (search (rules, length_mapped)) (search rules)
