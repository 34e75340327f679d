-- What is told for the call as a whole; or what working the entries out tells; or their handles, laid in the buffer.
-- Assumes nothing.
use Rattle.std.proofs.lemmas.Result.{err_from_is_err_and}
use Rattle.handle.specs.Conversion.{product, SixteenBytes}
use Rattle.handle.proofs.PasswordLaws.{length_conversion}
use Rattle.register.proofs.HandlesLaws.{handles_whole, handles_whole_left, handles_failed, handles_failed_left}
use Rattle.register.proofs.HandlesLaws.{handles_done, handles_done_left, handles_few, handles_room}
use Rattle.register.proofs.WholeLaws.{going_stands}
use Rattle.register.proofs.handles.Goals as goal

sixteen : SixteenBytes product
sixteen n = length_conversion

pub returns-in_err-h : goal.returns-in_err-h
returns-in_err-h c =
    let p = err_from_is_err_and c.from_residual.result c.from_residual.ensures.1 in
    record {
      answer = rw (p.1, p.2) (handles_whole product sixteen _ _ _ _ c.in_err-h.ensures.number);
      buffer = handles_whole_left product sixteen _ _ _ _ c.in_err-h.ensures.number;
    }

pub work_out-requires-clause-entries_len_bound : goal.work_out-requires-clause-entries_len_bound
work_out-requires-clause-entries_len_bound c = handles_few _ _ _ c.in_ok-h.ensures.number

pub work_out-requires-clause-standing : goal.work_out-requires-clause-standing
work_out-requires-clause-standing c = going_stands _ _ _ _ _ c.in_ok-h.ensures.number _ c.in_ok-h.ensures.handle

pub returns-in_err-work_out : goal.returns-in_err-work_out
returns-in_err-work_out c =
    let p = err_from_is_err_and c.from_residual-in_err-work_out.result c.from_residual-in_err-work_out.ensures.1 in
    let h = c.in_ok-h.ensures in
    record {
      answer = rw (p.1, p.2) (handles_failed product sixteen _ _ _ h.number _ h.handle _ c.in_err-work_out.ensures);
      buffer = handles_failed_left product sixteen _ _ _ h.number _ h.handle _ c.in_err-work_out.ensures;
    }

pub lay-requires : goal.lay-requires
lay-requires c = handles_room _ _ _ c.in_ok-h.ensures.number

pub returns : goal.returns
returns c =
    let h = c.in_ok-h.ensures in
    record {
      answer = handles_done product sixteen _ _ _ h.number _ h.handle _ _ c.in_ok-work_out.ensures;
      buffer = handles_done_left product sixteen _ _ _ h.number _ h.handle _ _ c.in_ok-work_out.ensures _ c.lay.ensures;
    }
