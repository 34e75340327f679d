-- Refused but for 16; else the rest of the core, on what placement finds; the record put back.
-- Assumes nothing.
use Rattle.guard.proofs.OpenLaws.{new_segment_refused, new_segment_failed, new_segment_made}
use Rattle.guard.proofs.new_segment.Goals as goal

pub returns-in_err-segment_refusal : goal.returns-in_err-segment_refusal
returns-in_err-segment_refusal c =
    new_segment_refused _ _ _ _ _ _ _ c.look_up-opened.ensures _ _ c.segment_refusal.ensures _ c.in_err-segment_refusal.was _
    c.from_residual.ensures.1

pub returns-in_err-changed : goal.returns-in_err-changed
returns-in_err-changed c =
    new_segment_failed _ _ _ _ _ _ _ c.look_up-opened.ensures _ _ c.segment_refusal.ensures _ c.in_ok-segment_refusal.was _
    c.node.ensures c.new_base-found.result c.new_base-found.ensures _ _ c.new_segment.ensures _ c.in_err-changed.was _
    c.from_residual-in_err-changed.ensures.1

pub returns : goal.returns
returns c =
    new_segment_made _ _ _ _ _ _ _ c.look_up-opened.ensures _ _ c.segment_refusal.ensures _ c.in_ok-segment_refusal.was _
    c.node.ensures c.new_base-found.result c.new_base-found.ensures _ _ c.new_segment.ensures _ c.in_ok-changed.was _
    c.record_of.ensures.0 _ c.put_back.ensures
