-- What is held gives the handle's bytes and their length again.
-- Assumes nothing.
use Rattle.codec.proofs.BackLaws.{held_back}
use borrow.Author.Rules.{rules}
use Rattle.codec.proofs.held.Goals as goal

pub returns-clause-back : goal.returns-clause-back
returns-clause-back c = search (rules, held_back)
