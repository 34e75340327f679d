use borrow.Author.Rules.{rules}
use Rattle.register.proofs.PutLaws.{listing_none, listing_inside, listing_opens_as, listing_not_as, listed_count, listed_put}
use Rattle.register.proofs.lay.list.Goals as goal
use Rattle.register.proofs.lay.list.Goals.{then-has, else-has}

pub loop-k-init : goal.loop-k-init
loop-k-init c = search (rules, listing_none)

pub bounds-buffer-count : goal.bounds-buffer-count
bounds-buffer-count c = search (rules, listing_inside)

pub loop-k-preserved : goal.loop-k-preserved
loop-k-preserved c =
    elim c.if-has.branch [
      | then-has w ↦ search (rules, listing_opens_as)
      | else-has w ↦ search (rules, listing_not_as)
    ]

pub returns : goal.returns
returns c = (search (rules, listed_count), search (rules, listed_put))
