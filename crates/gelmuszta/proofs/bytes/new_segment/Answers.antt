-- What is refused before all else; a refusal but 16; or the rest of the core on what is found, and the record put back.
-- Assumes nothing.
use mathlib.Core.Path.{ap, ◌∙◌}
use Rattle.store.specs.Placement.{placed_by}
use Rattle.gelmuszta.proofs.MakeLaws.{segment_unopened, segment_turned, segment_failed, segment_made}
use Rattle.gelmuszta.proofs.bytes.new_segment.Goals as goal

pub returns-in_err-opened : goal.returns-in_err-opened
returns-in_err-opened c =
    segment_unopened _ _ _ _ _ _ c.told-memory _ c.taken-handle.ensures _ c.in_err-opened.ensures _ c.from_residual.ensures.1

pub returns-in_err-segment_refusal : goal.returns-in_err-segment_refusal
returns-in_err-segment_refusal c =
    segment_turned _ _ _ _ _ _ c.told-memory _ c.taken-handle.ensures _ c.in_ok-opened.ensures _ c.segment_refusal.ensures _
    c.in_err-segment_refusal.was _ c.from_residual-in_err-segment_refusal.ensures.1

pub returns-in_err-changed : goal.returns-in_err-changed
returns-in_err-changed c =
    segment_failed _ _ _ _ _ _ c.told-memory _ c.taken-handle.ensures _ c.in_ok-opened.ensures _ c.segment_refusal.ensures _
    c.in_ok-segment_refusal.was _ _ c.node.ensures (ap placed_by c.flatten.ensures ∙ c.sound_and_base-judged.ensures.base) _ _ c.new_segment.ensures _
    c.in_err-changed.was _ c.from_residual-in_err-changed.ensures.1

pub returns : goal.returns
returns c =
    segment_made _ _ _ _ _ _ c.told-memory _ c.taken-handle.ensures _ c.in_ok-opened.ensures _ c.segment_refusal.ensures _
    c.in_ok-segment_refusal.was _ _ c.node.ensures (ap placed_by c.flatten.ensures ∙ c.sound_and_base-judged.ensures.base) _ _ c.new_segment.ensures _
    c.in_ok-changed.was _ c.put_back.ensures.given _ c.put_back.ensures.image
