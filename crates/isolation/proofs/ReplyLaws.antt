-- Every kind done once, computed. Soundness is kept along the list, so at each call only the rows below the first are.
-- Assumes nothing.
use mathlib.Core.Path.{◌≡◌, refl, ap, ◌∙◌}
use mathlib.Core.Bool.{true}
use Rattle.handle.specs.Handles.{reduced}
use Rattle.calls.specs.Calls.{start}
use Rattle.calls.specs.Cases.{added}
use Rattle.isolation.specs.Replies.{done_calls, done_replies, seen, EachDone}
use Rattle.isolation.proofs.KeptLaws.{start_sound}
use Rattle.calls.specs.Numbers.{tests}
use Rattle.calls.specs.Steps.{effects}
use Rattle.calls.proofs.Computing.{computing}
use Rattle.isolation.proofs.RunLaws.{numbers_of, numbered, run_by_lem}

numbered_done : numbered added (numbers_of added done_replies) done_calls start ≡ true
unfolding reduced tests effects computing
numbered_done = refl

pub each_done : EachDone
unfolding reduced effects computing
each_done = ap seen (run_by_lem added (numbers_of added done_replies) done_calls start start_sound numbered_done) ∙ refl
