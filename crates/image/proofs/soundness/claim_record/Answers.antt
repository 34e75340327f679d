-- An inactive record, one that is none, an active one whose width is none of the three, and one of a width.
-- Assumes nothing.
use Rattle.image.proofs.ClaimLaws.{record_other}
use Rattle.image.proofs.IdleLaws.{record_zero}
use Rattle.image.proofs.WidthLaws.{width_low}
use Rattle.image.proofs.ActiveLaws.{record_active, record_unsized}
use borrow.Author.Rules.{rules}
use Rattle.image.proofs.soundness.claim_record.Goals as goal

pub returns-then-active-eq0 : goal.returns-then-active-eq0
returns-then-active-eq0 c = search (rules, record_zero)

pub returns-then-active-ne1 : goal.returns-then-active-ne1
returns-then-active-ne1 c = search (rules, record_other)

pub returns-then-not-is_width : goal.returns-then-not-is_width
returns-then-not-is_width c = search (rules, record_unsized)

pub claim_active-requires : goal.claim_active-requires
claim_active-requires c = search (rules, width_low)

pub returns : goal.returns
returns c = search (rules, record_active)
