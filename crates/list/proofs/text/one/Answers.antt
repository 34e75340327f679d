-- The record's call, and the line of what it answers.
-- Assumes nothing.
use mathlib.Core.Path.{◌≡◌, ap, subst}
use Prim.Native.Nat.{ℕ, ◌≤◌}
use Rattle.lines.specs.Buffers.{longest, brief, filled}
use Rattle.calls.specs.Answers as answers
use Rattle.list.proofs.LineLaws.{told_fits, told_taken, one_brief, one_lined}
use borrow.Author.Rules.{rules}
use Rattle.list.proofs.text.one.Goals as goal

pub slice_bounds-call_line-end : goal.slice_bounds-call_line-end
slice_bounds-call_line-end c =
    let e : c.map_or-n.result ≡ answers.gives answers.length 0 c.perform-answer.result = search rules in
    told_fits c.perform-answer.new.store c.perform-answer.result c.perform-answer.new.memory c.perform-answer.new.buffer _ _
    c.perform-answer.ensures c.perform-answer.auto.buffer _ e

pub slice_bounds-call_line-end-2 : goal.slice_bounds-call_line-end-2
slice_bounds-call_line-end-2 c =
    let e : c.map_or-n.result ≡ answers.gives answers.length 0 c.perform-answer.result = search rules in
    told_taken c.perform-answer.new.store c.perform-answer.result c.perform-answer.new.memory c.perform-answer.new.buffer _ _
    c.perform-answer.ensures c.perform-answer.auto.buffer _ e

pub returns : goal.returns
returns c =
    let e : c.map_or-n.result ≡ answers.gives answers.length 0 c.perform-answer.result = search rules in
    let w : filled c.call_line.result ≡ c.unwrap-written.result = ap filled c.unwrap-written.ensures in
    record {
      lined =
          one_lined c.args.list.now c.args.k c.record_in-called.result.bytes.now c.record_in-called.ensures c.args.store.now
          c.args.memory.now c.args.buffer.now c.args.out.now c.requires c.perform-answer.new.store c.perform-answer.result
          c.perform-answer.new.memory c.perform-answer.new.buffer c.perform-answer.ensures c.perform-answer.auto.buffer _ e
          c.call_line.new.out (filled c.call_line.result) c.unwrap-written.result c.code.result c.call_line.ensures.begins w
          c.code.ensures
          c.next.result c.next.ensures;
      written_le_longest = subst (λ (n : ℕ). n ≤ longest) w c.call_line.ensures.upper_bound;
      written_le_brief =
          one_brief c.args.list.now c.args.k c.record_in-called.result.bytes.now c.record_in-called.ensures _ c.code.result
          c.code.ensures (λ t. subst (λ (n : ℕ). n ≤ brief) w (c.call_line.ensures.upper_bound_2 t));
    }
