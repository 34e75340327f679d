-- The bytes written out are those of the definitions, which are computed.
-- Assumes nothing.
use mathlib.Core.Path.{refl}
use Rattle.bits.specs.Bytes.{bytes, word_from, word}
use Rattle.handle.specs.Widths.{packed, unpacked}
use Rattle.handle.specs.Handles.{encoded, decoded, written}
use Rattle.codec.specs.Held.{held_from}
use Rattle.codec.specs.HeldBytes.{HeldBytes, Lasts}

pub held_bytes : HeldBytes
unfolding written encoded decoded packed unpacked bytes word word_from held_from
held_bytes =
    record {
      of4 = refl;
      of8 = refl;
      of16 = refl;
      none = refl;
      in4 = refl;
      in8 = refl;
      in16 = refl;
      behind = refl;
      read4 = refl;
      read8 = refl;
      read16 = refl;
      from21 = refl;
      from23 = refl;
      from27 = refl;
      from22 = refl;
      from28 = refl;
    }

pub lasts : Lasts
unfolding decoded
lasts = record { read = refl; from = refl }
