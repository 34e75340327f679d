-- The record is cut where its fields begin.
-- Assumes nothing.
use Rattle.image.proofs.ReadLaws.{cluster_cut}
use borrow.Author.Rules.{rules}
use Rattle.image.proofs.reading.cluster_in.Goals as goal

pub returns : goal.returns
returns c = search (rules, cluster_cut)
