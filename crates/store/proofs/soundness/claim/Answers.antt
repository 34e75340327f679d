-- An absent place leaves the map as it is; a present one has its bytes marked, or is refused.
-- Assumes nothing.
use Rattle.store.proofs.MarkLaws.{claim_absent, claim_mark}
use borrow.Author.Rules.{rules}
use Rattle.store.proofs.soundness.claim.Goals as goal

pub returns-in-None : goal.returns-in-None
returns-in-None c = search (rules, claim_absent)

pub returns-in-Some : goal.returns-in-Some
returns-in-Some c = search (rules, claim_mark)
