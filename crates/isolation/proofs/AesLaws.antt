-- The laws at the conversion that the product has: it gives sixteen bytes, and takes in no name.
-- Assumes nothing.
use Prim.Native.Nat.{ℕ}
use Rattle.handle.specs.Conversion.{product}
use Rattle.handle.proofs.PasswordLaws.{length_conversion}
use Rattle.calls.specs.EmptyWords.{NeverToNothing}
use Rattle.calls.specs.JoinWords.{JoinInWords}
use Rattle.calls.proofs.EmptyWordLaws.{never_to_nothing}
use Rattle.calls.proofs.JoinWordLaws.{join_in_words}
use Rattle.isolation.specs.Copies.{SixteenBytes}
use Rattle.isolation.specs.Statements.{SoundKept, TwoCopies, KeysFit, ReadersAlterNothing, Agreed}
use Rattle.isolation.specs.Witness.{one, two, tries, Concluded, Bites}
use Rattle.isolation.specs.ReaderWitness.{Unharmed}
use Rattle.isolation.specs.Writers.{WritersLearnNothing, RestsOnClearing, RestsOnTwelve}
use Rattle.isolation.specs.WriterWitness.{WritersList, WritersUntold, WritersBite}
use Rattle.isolation.specs.Frozen.{FrozenStays, FixedFromThenOn}
use Rattle.isolation.specs.FrozenWitness.{Standing}
use Rattle.isolation.specs.WidthLists.{Sort}
use Rattle.isolation.specs.WidthWitness.{WidthsTold, WidthsBite, WritesTold, Strays, ReadsTold, FrozenTold}
use Rattle.isolation.specs.Renewals.{OtherUntold, GuessesUntold, BothOpened, Revoked}
use Rattle.isolation.specs.Checks.{ValidationJudges}
use Rattle.isolation.proofs.KeptLaws.{sound_kept}
use Rattle.isolation.proofs.TwoCopies.{two_copies}
use Rattle.isolation.proofs.KeyLaws.{keys_fit}
use Rattle.isolation.proofs.ReaderLaws.{readers_alter_nothing}
use Rattle.isolation.proofs.CheckLaws.{validation_judges}
use Rattle.isolation.proofs.WitnessLaws.{agreed, concluded, bites}
use Rattle.isolation.proofs.ReaderWitnessLaws.{unharmed}
use Rattle.isolation.proofs.WriterLaws.{writers_learn_nothing}
use Rattle.isolation.proofs.WriterWitnessLaws.{writers_list, writers_untold, writers_bite}
use Rattle.isolation.proofs.LeakLaws.{rests_on_clearing, rests_on_twelve}
use Rattle.isolation.proofs.FrozenLaws.{frozen_stays, fixed_from_then_on}
use Rattle.isolation.proofs.FrozenWitnessLaws.{standing}
use Rattle.isolation.proofs.WidthWitnessLaws.{widths_told, widths_bite}
use Rattle.isolation.proofs.WidthHolderLaws.{writes_told, strays_free, reads_told, frozen_told}
use Rattle.isolation.proofs.RenewalLaws.{other_untold, guesses_untold}
use Rattle.isolation.proofs.RenewedLaws.{revoked, both_opened}

pub aes_sixteen : SixteenBytes product
aes_sixteen n = length_conversion

pub aes_sound_kept : SoundKept product
aes_sound_kept = sound_kept product

pub aes_two_copies : (node local : ℕ) → TwoCopies node local product
aes_two_copies node local = two_copies node local product

pub aes_keys_fit : (node local : ℕ) → KeysFit node local product
aes_keys_fit node local = keys_fit node local product

pub aes_readers_alter_nothing : (node local : ℕ) → ReadersAlterNothing node local product
aes_readers_alter_nothing node local = readers_alter_nothing node local product

pub aes_writers_learn_nothing : WritersLearnNothing product
aes_writers_learn_nothing = writers_learn_nothing product

pub aes_rests_on_clearing : RestsOnClearing product
aes_rests_on_clearing = rests_on_clearing product

pub aes_rests_on_twelve : RestsOnTwelve product
aes_rests_on_twelve = rests_on_twelve product

pub aes_frozen_stays : FrozenStays product
aes_frozen_stays = frozen_stays product

pub aes_fixed_from_then_on : FixedFromThenOn product
aes_fixed_from_then_on = fixed_from_then_on product

pub aes_other_untold : OtherUntold product
aes_other_untold = other_untold product

pub aes_guesses_untold : GuessesUntold product
aes_guesses_untold = guesses_untold product

pub aes_both_opened : BothOpened product
aes_both_opened = both_opened product

pub aes_revoked : Revoked product
aes_revoked = revoked product

pub aes_validation_judges : ValidationJudges product
aes_validation_judges = validation_judges product aes_sixteen

pub aes_never_to_nothing : NeverToNothing product
aes_never_to_nothing = never_to_nothing product aes_sixteen

pub aes_join_in_words : JoinInWords product
aes_join_in_words = join_in_words product aes_sixteen

pub aes_agreed : Agreed 0 2 product (tries product) one two
aes_agreed = agreed product

pub aes_concluded : Concluded product
aes_concluded = concluded product

pub aes_unharmed : Unharmed product
aes_unharmed = unharmed product

pub aes_standing : Standing product
aes_standing = standing product

pub aes_bites : Bites product
aes_bites = bites product

pub aes_writers_list : WritersList product
aes_writers_list = writers_list product

pub aes_writers_untold : WritersUntold product
aes_writers_untold = writers_untold product

pub aes_writers_bite : WritersBite product
aes_writers_bite = writers_bite product

pub aes_widths_told : (v : Sort) → WidthsTold product v
aes_widths_told = widths_told product

pub aes_widths_bite : (v : Sort) → WidthsBite product v
aes_widths_bite = widths_bite product

pub aes_writes_told : (v : Sort) → WritesTold product v
aes_writes_told = writes_told product

pub aes_strays_free : Strays product
aes_strays_free = strays_free product

pub aes_reads_told : (v : Sort) → ReadsTold product v
aes_reads_told = reads_told product

pub aes_frozen_told : (v : Sort) → FrozenTold product v
aes_frozen_told = frozen_told product
