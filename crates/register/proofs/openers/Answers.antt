-- What is told for the call as a whole; or what working the entries out tells; or the openers, listed in the buffer.
-- Assumes nothing.
use Rattle.std.proofs.lemmas.Result.{err_from_is_err_and}
use Rattle.handle.specs.Conversion.{product}
use Rattle.register.proofs.OpenerLaws.{openers_whole, openers_whole_left, openers_failed, openers_failed_left}
use Rattle.register.proofs.OpenerLaws.{openers_done, openers_done_left, openers_few, openers_room, openers_segment}
use Rattle.register.proofs.WholeLaws.{going_stands}
use Rattle.register.proofs.openers.Goals as goal

pub returns-in_err-h : goal.returns-in_err-h
returns-in_err-h c =
    let p = err_from_is_err_and c.from_residual.result c.from_residual.ensures.1 in
    record {
      answer = rw (p.1, p.2) (openers_whole product _ _ _ _ _ c.in_err-h.ensures.number);
      buffer = openers_whole_left product _ _ _ _ _ c.in_err-h.ensures.number;
    }

pub work_out-requires-clause-entries_len_bound : goal.work_out-requires-clause-entries_len_bound
work_out-requires-clause-entries_len_bound c = openers_few product _ _ _ _ c.in_ok-h.ensures.number

pub work_out-requires-clause-standing : goal.work_out-requires-clause-standing
work_out-requires-clause-standing c = going_stands _ _ _ _ _ c.in_ok-h.ensures.number _ c.in_ok-h.ensures.handle

pub returns-in_err-work_out : goal.returns-in_err-work_out
returns-in_err-work_out c =
    let p = err_from_is_err_and c.from_residual-in_err-work_out.result c.from_residual-in_err-work_out.ensures.1 in
    let h = c.in_ok-h.ensures in
    record {
      answer = rw (p.1, p.2) (openers_failed product _ _ _ _ h.number _ h.handle _ c.in_err-work_out.ensures);
      buffer = openers_failed_left product _ _ _ _ h.number _ h.handle _ c.in_err-work_out.ensures;
    }

pub list-count-requires : goal.list-count-requires
list-count-requires c =
    let z = c.in_ok-h.ensures.number in
    record {
      n_bound = openers_few product _ _ _ _ z;
      n_in_bounds = openers_room product _ _ _ _ z;
      segment_bound = openers_segment product _ _ _ _ z;
    }

pub returns : goal.returns
returns c =
    let h = c.in_ok-h.ensures in
    let w = c.in_ok-work_out.ensures in
    record {
      answer = openers_done product _ _ _ _ h.number _ h.handle _ _ _ w _ c.list-count.ensures.0;
      buffer = openers_done_left product _ _ _ _ h.number _ h.handle _ _ _ w _ c.list-count.ensures.1;
    }
