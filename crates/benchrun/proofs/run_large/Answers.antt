-- The room is enough for any text, and what is handed on is the list's.
-- Assumes nothing.
use Rattle.benchrun.proofs.TextLaws.{text_whole, most_fits}
use Rattle.benchrun.proofs.run_large.Goals as goal

pub unwrap-size-requires : goal.unwrap-size-requires
unwrap-size-requires g c = c.run.ensures.there.1 (most_fits c.args.list.now c.blank-out.result c.blank-out.ensures)

pub write_text-requires : goal.write_text-requires
write_text-requires g c =
    text_whole c.args.list.now c.blank-out.result c.run.new.out c.run.result c.run.ensures.begins c.unwrap-size.result
    c.unwrap-size.ensures c.run.auto.out (most_fits c.args.list.now c.blank-out.result c.blank-out.ensures)
