-- Nothing where the room is too little, the line of a refused list, or the chain's lines and the last one.
-- Assumes nothing.
use mathlib.Core.Path.{ap}
use native.Mathlib.Omega.{arith}
use Rattle.numbers.specs.Codes.{code}
use Rattle.numbers.proofs.ToldLaws.{code_above}
use Rattle.chain.specs.Way.{done, refusal}
use Rattle.lines.specs.Buffers.{filled}
use Rattle.list.proofs.OutputLaws.{run_short, run_refused, run_ready, run_fits, run_done, line_fits, last_room}
use borrow.Author.Rules.{rules}
use Rattle.list.proofs.text.run.Goals as goal

pub returns-then-out-room_for-clause-begins : goal.returns-then-out-room_for-clause-begins
returns-then-out-room_for-clause-begins c = search (rules, run_short)

pub returns-in-Err-clause-begins : goal.returns-in-Err-clause-begins
returns-in-Err-clause-begins c =
    run_refused c.args.list.now c.args.out.now c.room_for.result c.room_for.ensures c.if-out-room_for.false
    (refusal (code c.in-Err.number)) c.in-Err.ensures (code_above c.in-Err.number) c.code.result c.code.ensures
    c.refused_line.new.out (filled c.refused_line.result) c.refused_line.ensures.begins

pub returns-in-Err-clause-there : goal.returns-in-Err-clause-there
returns-in-Err-clause-there c =
    let wide = line_fits c.args.list.now c.args.out.now c.room_for.result c.room_for.ensures c.if-out-room_for.false
    (refusal (code c.in-Err.number)) c.in-Err.ensures in
    (λ _. omega arith, λ _. c.refused_line.ensures.there.1 wide)

pub run_calls-end-requires : goal.run_calls-end-requires
run_calls-end-requires c =
    run_ready c.args.list.now c.args.out.now c.room_for.result c.room_for.ensures c.if-out-room_for.false
    (done c.in-Ok.total) c.in-Ok.ensures (search rules) _ _ (search rules) (search rules)

pub overflow_cast-total : goal.overflow_cast-total
overflow_cast-total c =
    record {
      fits =
          run_fits c.args.list.now c.args.out.now c.room_for.result c.room_for.ensures c.if-out-room_for.false
          (done c.in-Ok.total) c.in-Ok.ensures (search rules);
    }

pub unwrap-last-requires : goal.unwrap-last-requires
unwrap-last-requires c =
    c.end_line.ensures.there.1
    (last_room c.args.list.now c.args.out.now c.room_for.result c.room_for.ensures c.if-out-room_for.false
    (done c.in-Ok.total) c.in-Ok.ensures (search rules) c.run_calls-end.new.out c.run_calls-end.result
    c.run_calls-end.ensures.begins c.run_calls-end.auto.out c.run_calls-end.ensures.ends)

pub returns-clause-begins : goal.returns-clause-begins
returns-clause-begins c =
    run_done c.args.list.now c.args.out.now c.room_for.result c.room_for.ensures c.if-out-room_for.false
    (done c.in-Ok.total) c.in-Ok.ensures (search rules) c.run_calls-end.new.out c.run_calls-end.result
    c.run_calls-end.ensures.begins c.run_calls-end.auto.out c.run_calls-end.ensures.ends
    c.end_line.new.out (filled c.end_line.result) c.unwrap-last.result (ap filled c.unwrap-last.ensures)
    c.end_line.ensures.begins c.end_line.auto.out
