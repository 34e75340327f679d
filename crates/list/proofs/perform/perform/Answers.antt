-- Each code is its call, and what is no code is refused.
-- Assumes nothing.
use mathlib.Core.Path.{◌≡◌, ◌∙◌}
use borrow.Author.Rules.{rules}
use Rattle.list.proofs.PerformLaws.{perform_new_cluster, perform_delete_cluster, perform_new_segment, perform_delete_segment}
use Rattle.list.proofs.PerformLaws.{perform_read, perform_write, perform_weaken, perform_reduce, perform_new_password}
use Rattle.list.proofs.PerformLaws.{perform_freeze, perform_join, perform_unknown, perform_misfit, joined}
use Rattle.list.specs.Runs.{bench, ran, performed}
use Rattle.list.proofs.perform.perform.Goals as goal
use Rattle.list.proofs.perform.perform.Goals.{in-NewCluster, in-DeleteCluster, in-NewSegment, in-DeleteSegment}
use Rattle.list.proofs.perform.perform.Goals.{in-NewPassword, in-Freeze}

pub returns-in_default : goal.returns-in_default
returns-in_default c =
    perform_unknown c.args.called.bytes.now c.args.store.now c.args.memory.now c.code.result c.code.ensures
    c.in_default.ensures.1 c.args.buffer.now

pub returns-in-Read : goal.returns-in-Read
returns-in-Read c = search (rules, perform_read c.args.called.bytes.now c.args.store.now c.args.memory.now c.in-Ok.code c.code.result c.in-Ok.ensures c.code.ensures)

pub returns-in-Weaken : goal.returns-in-Weaken
returns-in-Weaken c = search (rules, perform_weaken c.args.called.bytes.now c.args.store.now c.args.memory.now c.in-Ok.code c.code.result c.in-Ok.ensures c.code.ensures)

pub returns-in-Reduce : goal.returns-in-Reduce
returns-in-Reduce c = search (rules, perform_reduce c.args.called.bytes.now c.args.store.now c.args.memory.now c.in-Ok.code c.code.result c.in-Ok.ensures c.code.ensures)

pub returns-in-Join : goal.returns-in-Join
returns-in-Join c = search (rules, perform_join c.args.called.bytes.now c.args.store.now c.args.memory.now c.in-Ok.code c.code.result c.in-Ok.ensures c.code.ensures)

pub returns-then-data_length-gt-MOST_DATA : goal.returns-then-data_length-gt-MOST_DATA
returns-then-data_length-gt-MOST_DATA c = search (rules, perform_misfit c.args.called.bytes.now c.args.store.now c.args.memory.now c.in-Ok.code c.code.result c.in-Ok.ensures c.code.ensures)

pub returns-in-Write : goal.returns-in-Write
returns-in-Write c = search (rules, perform_write c.args.called.bytes.now c.args.store.now c.args.memory.now c.in-Ok.code c.code.result c.in-Ok.ensures c.code.ensures)

pub returns : goal.returns
returns c =
    let done : ran c.args.store.now c.match-code.done c.match-code.memory c.args.buffer.now
    ≡ performed c.args.called.bytes.now (bench c.args.store.now c.args.memory.now c.args.buffer.now) =
    elim c.match-code.branch [
      | in-NewCluster w ↦
          joined c.args.called.bytes.now c.args.store.now c.args.memory.now c.args.buffer.now w.done-is w.memory-is
          (search (rules, perform_new_cluster c.args.called.bytes.now c.args.store.now c.args.memory.now c.in-Ok.code c.code.result c.in-Ok.ensures c.code.ensures))
      | in-DeleteCluster w ↦
          joined c.args.called.bytes.now c.args.store.now c.args.memory.now c.args.buffer.now w.done-is w.memory-is
          (search (rules, perform_delete_cluster c.args.called.bytes.now c.args.store.now c.args.memory.now c.in-Ok.code c.code.result c.in-Ok.ensures c.code.ensures))
      | in-NewSegment w ↦
          joined c.args.called.bytes.now c.args.store.now c.args.memory.now c.args.buffer.now w.done-is w.memory-is
          (search (rules, perform_new_segment c.args.called.bytes.now c.args.store.now c.args.memory.now c.in-Ok.code c.code.result c.in-Ok.ensures c.code.ensures))
      | in-DeleteSegment w ↦
          joined c.args.called.bytes.now c.args.store.now c.args.memory.now c.args.buffer.now w.done-is w.memory-is
          (search (rules, perform_delete_segment c.args.called.bytes.now c.args.store.now c.args.memory.now c.in-Ok.code c.code.result c.in-Ok.ensures c.code.ensures))
      | in-NewPassword w ↦
          joined c.args.called.bytes.now c.args.store.now c.args.memory.now c.args.buffer.now w.done-is w.memory-is
          (search (rules, perform_new_password c.args.called.bytes.now c.args.store.now c.args.memory.now c.in-Ok.code c.code.result c.in-Ok.ensures c.code.ensures))
      | in-Freeze w ↦
          joined c.args.called.bytes.now c.args.store.now c.args.memory.now c.args.buffer.now w.done-is w.memory-is
          (search (rules, perform_freeze c.args.called.bytes.now c.args.store.now c.args.memory.now c.in-Ok.code c.code.result c.in-Ok.ensures c.code.ensures))
    ] in
    c.settle.ensures c.match-code.memory c.args.buffer.now ∙ done
