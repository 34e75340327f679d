-- Nothing is written past the last record; else the record's own bytes.
-- Assumes nothing.
use Rattle.image.proofs.PutLaws.{put_none, put_one}
use borrow.Author.Rules.{rules}
use Rattle.image.proofs.writing.put_record_in.Goals as goal

pub returns-then-at-ge-RECORDS : goal.returns-then-at-ge-RECORDS
returns-then-at-ge-RECORDS c =
    let both = put_none c.args.out.now c.args.at c.args.cluster (search rules) (λ i. c.type_inv.out i) (search rules) in
    record { bytes = both.0; image = both.1 }

pub returns : goal.returns
returns c =
    let both =
    put_one c.args.out.now c.args.at c.args.cluster (search rules) (search rules) (search rules) _
    c.put_record.ensures (search rules)
    in
    record { bytes = both.0; image = both.1 }
