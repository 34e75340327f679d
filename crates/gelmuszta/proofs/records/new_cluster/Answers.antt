-- An image that holds no sound store; or the core on what it holds, and the record put back.
-- Assumes nothing.
use borrow.Author.Rules.{rules}
use Rattle.calls.specs.Numbers.{bad_length}
use Rattle.gelmuszta.proofs.FoundLaws.{unsound_any, place_failed, place_done}
use Rattle.gelmuszta.proofs.records.new_cluster.Goals as goal

pub returns-then-not-sound_in : goal.returns-then-not-sound_in
unfolding bad_length
returns-then-not-sound_in c = search (rules, unsound_any)

pub returns-in_err-changed : goal.returns-in_err-changed
returns-in_err-changed c = search (rules, place_failed, c.in_err-changed.was)

pub returns : goal.returns
returns c =
    place_done _ c.record_in-cluster.ensures.whole _ _ _ _ c.record_in-cluster.ensures.cluster (search rules) _ c.new_cluster.ensures
    _ c.in_ok-changed.was _ (search rules)
