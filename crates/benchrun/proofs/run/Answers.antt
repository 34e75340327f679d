-- Where something is told, it is the text of the list.
-- Assumes nothing.
use borrow.Author.Rules.{rules}
use Rattle.benchrun.proofs.TextLaws.{text_whole}
use Rattle.benchrun.proofs.run.Goals as goal

pub write_text-requires : goal.write_text-requires
write_text-requires g c =
    text_whole c.args.list.now c.blank-out.result c.run.new.out c.run.result c.run.ensures.begins c.in-Some.size c.in-Some.is
    c.run.auto.out (c.run.ensures.there.0 (search rules))
