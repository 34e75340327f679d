-- The handles that the call gives, handed out.
-- Assumes nothing.
use mathlib.Core.Path.{refl, ◌∙◌}
use Rattle.calls.specs.Answers.{first, second}
use Rattle.gelmuszta.proofs.ReplyLaws.{new_cluster_two}
use Rattle.gelmuszta.proofs.ShapeLaws.{handles_any, given_of}
use Rattle.gelmuszta.proofs.records.gelmuszta_new_cluster.Goals as goal

pub returns : goal.returns
returns c =
    handles_any _ refl _ _ c.told.ensures _ _ c.new_cluster-answer.ensures (new_cluster_two _)
    _ _ (c.held.ensures.back ∙ given_of first c.new_cluster-answer.result c.unwrap_or-given.result c.unwrap_or-given.ensures _ c.first.ensures)
    (c.held-2.ensures.back ∙ given_of second c.new_cluster-answer.result c.unwrap_or-given.result c.unwrap_or-given.ensures _ c.second.ensures)
