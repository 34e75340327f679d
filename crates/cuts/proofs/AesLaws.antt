-- The theorems at the product's conversion.
-- Assumes nothing.
use Rattle.handle.specs.Conversion.{product, SixteenBytes}
use Rattle.handle.proofs.PasswordLaws.{length_conversion}
use Rattle.cuts.specs.Words.{AnyCutsWith, TwoCutsWith}
use Rattle.cuts.specs.Entries.{EntriesWith}
use Rattle.cuts.specs.cases.Replies.{WaysMetWith}
use Rattle.cuts.proofs.WordLaws.{any_cuts_in_all, two_cuts_in_all}
use Rattle.cuts.proofs.EntryLaws.{entries_alike}
use Rattle.cuts.proofs.MetLaws.{ways_met}

aes_sixteen : SixteenBytes product
aes_sixteen n p c = length_conversion p c

pub aes_any_cuts : AnyCutsWith product
aes_any_cuts = any_cuts_in_all product aes_sixteen

pub aes_two_cuts : TwoCutsWith product
aes_two_cuts = two_cuts_in_all product aes_sixteen

pub aes_entries_alike : EntriesWith product
aes_entries_alike = entries_alike product aes_sixteen

pub aes_ways_met : WaysMetWith product
aes_ways_met = (ways_met product aes_sixteen).0
