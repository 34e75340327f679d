-- A call done of a code that is known tells what it gives; else nothing is told.
-- Assumes nothing.
use borrow.Author.Rules.{rules}
use Rattle.lines.specs.declared.Line.{Line}
use Rattle.lines.specs.Lines.{spaced, gives}
use Rattle.lines.proofs.LineLaws.{told_handles, told_count, told_unknown}
use Rattle.lines.proofs.Line.put_told.Goals as goal

pub returns-in_default-clause-adds : goal.returns-in_default-clause-adds
returns-in_default-clause-adds c =
    told_unknown c.args.given c.args.code c.args.segment.now c.args.self.now c.in_default.ensures.1

pub returns-in-NewCluster-clause-adds : goal.returns-in-NewCluster-clause-adds
returns-in-NewCluster-clause-adds c =
    told_handles c.args.given c.args.code c.args.segment.now c.args.self.now c.put_handle.new.self _ c.in-Ok.called
    c.in-Ok.ensures c.first.result c.first.ensures c.put_handle.ensures.adds c.in-NewCluster.is c.second.result
    c.second.ensures c.put_handle-in-NewCluster.ensures.adds

pub returns-in-Reduce-clause-adds : goal.returns-in-Reduce-clause-adds
unfolding gives
returns-in-Reduce-clause-adds c = search rules

pub returns-in-Read-clause-adds : goal.returns-in-Read-clause-adds
unfolding gives
returns-in-Read-clause-adds c = search rules

pub returns-in-Weaken-clause-adds : goal.returns-in-Weaken-clause-adds
returns-in-Weaken-clause-adds c =
    search (
      rules,
      λ (n : Line). told_count c.args.given c.args.code c.args.segment.now c.args.self.now
          c.put_handle-in-Weaken.new.self n c.in-Ok.called c.in-Ok.ensures c.first-in-Weaken.result
          c.first-in-Weaken.ensures c.put_handle-in-Weaken.ensures.adds c.in-Weaken.is,
    )

pub returns-in_default-called-clause-adds : goal.returns-in_default-called-clause-adds
unfolding spaced gives
returns-in_default-called-clause-adds c = search rules
