-- The bytes written out are those of the definitions, which are computed.
-- Assumes nothing.
use mathlib.Core.Path.{refl}
use Rattle.bits.specs.Bytes.{bytes, word_from, word}
use Rattle.handle.specs.Widths.{packed, unpacked}
use Rattle.handle.specs.Handles.{encoded, decoded, written}
use Rattle.handle.specs.Conversion.{conversion}
use Rattle.handle.specs.Literals.{HandleBytes, Lengths, BlockBytes, Reply}

pub handle_bytes_lem : HandleBytes
unfolding encoded decoded packed unpacked bytes word word_from
handle_bytes_lem =
    record {
      of4 = refl;
      of8 = refl;
      of16 = refl;
      from21 = refl;
      from23 = refl;
      from27 = refl;
      from20 = refl;
      from22 = refl;
      from24 = refl;
      from28 = refl;
    }

pub lengths : Lengths
unfolding decoded
lengths = refl

pub block_bytes : BlockBytes
unfolding conversion bytes
block_bytes = record { block243 = refl; block258 = refl; by243 = λ p. refl; by258 = λ p. refl }

pub reply_bytes : Reply
unfolding written encoded packed bytes
reply_bytes = record { some = refl; none = refl }
