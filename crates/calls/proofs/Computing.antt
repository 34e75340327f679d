-- The name that opens what a computed list runs through: sets and bytes, searches, handles and places.
-- Assumes nothing.
use Rattle.bits.specs.Sets.{has, set_of, count}
use Rattle.bits.specs.Bytes.{bytes, word_from, word}
use Rattle.loops.specs.Below.{every}
use Rattle.loops.specs.Search.{least_from, least}
use Rattle.handle.specs.Widths.{packed, unpacked}
use Rattle.handle.specs.Handles.{encoded, decoded, same_password, validates, weakened, reduced, joined}
use Rattle.store.specs.Sound.{in_ranges, ends_inside, inside, apart}
use Rattle.store.specs.Records.{none_frozen}
use Rattle.store.specs.Placement.{clear, fits, new_base, placement}

unfoldable pub computing : Unit {0}
unfolding has set_of count bytes word word_from every least least_from packed unpacked encoded decoded same_password validates weakened reduced joined
    placement new_base fits clear apart inside in_ranges ends_inside none_frozen
computing = tt
