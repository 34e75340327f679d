use mathlib.Core.Path.{◌∙◌}
use Rattle.image.specs.Images.{segments_out}
use Rattle.image.proofs.WrittenLaws.{written_none, written_more, written_all}
use borrow.Author.Rules.{rules}
use Rattle.image.proofs.writing.put_segments.Goals as goal

pub loop-i-init : goal.loop-i-init
loop-i-init c = search (rules, written_none)

pub loop-i-preserved : goal.loop-i-preserved
loop-i-preserved c =
    written_more _ _ _ _ _ _ c.loop-i.invariant c.loop-i-test.true _
    (c.copy_from_slice.ensures.after ∙ c.segment_out.ensures) c.copy_from_slice.ensures.len

pub returns : goal.returns
unfolding segments_out
returns c = search (rules, written_all)
