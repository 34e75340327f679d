-- Handles and bytes read back from each other, at every width and length. At 23 bytes a subselector is the number of one
-- byte, so that the selector's bytes are its subselectors as they stand.
-- Assumes nothing.
use Prim.Native.Nat.{ℕ, ◌<◌}
use native.Mathlib.Omega.{arith}
use mathlib.Core.Path.{◌≡◌, refl, sym, ap, ◌∙◌, subst}
use mathlib.Core.Logic.{inl, inr}
use mathlib.Core.List.{List, [], ◌∷◌, ◌++◌}
use lib.ListN.{length, get_or, take, drop}
use Rattle.bits.specs.Bytes.{bytes}
use Rattle.loops.specs.Tabulate.{tabulate}
use Rattle.handle.specs.declared.Handle.{Handle}
use Rattle.handle.specs.declared.Width.{Width}
use Rattle.handle.specs.declared.Width.TheVariants.{Four, Eight, Sixteen}
use Rattle.handle.specs.Sizes.{subselectors, selector_at}
use Rattle.handle.specs.Widths.{bits_of, width_for, packed, unpacked}
use Rattle.handle.specs.Selectors.{Within}
use Rattle.handle.specs.Handles.{width_of, before, encoded_as, encoded, held_with, decoded_as, decoded, no_handle, Holdable}
use Rattle.handle.specs.Trips.{OfWidth, RoundTrips, AsBefore, WordConverted}
use Rattle.handle.proofs.CodecLaws.{listed, part_is, word_one}
use Rattle.handle.proofs.DecodedLaws.{decoded_none}
use Rattle.handle.proofs.TripLaws.{decode_encode, encode_decode, bytes_laid, encoded_none}
use Rattle.handle.proofs.HeldLaws.{conversion_byte, conversion_word}

-- ---- the round trips

of_width : (b : List ℕ) → OfWidth (length b) → ((i : ℕ) → get_or b i 0 < 256) → encoded (decoded b) ≡ b
of_width b (inl e) o = encode_decode b o Four e
of_width b (inr (inl e)) o = encode_decode b o Eight e
of_width b (inr (inr e)) o = encode_decode b o Sixteen e

pub round_trips : RoundTrips
round_trips =
    record {
      handle = decode_encode;
      bytes = of_width;
      other = λ b n. sym (decoded_none b no_handle (λ e. n (inl e)) (λ e. n (inr (inl e))) (λ e. n (inr (inr e))) refl);
      none = encoded_none;
      reply = bytes_laid;
    }

-- ---- at 23 bytes

-- four bytes of a selector are the four subselectors
four_read : (b : List ℕ) → length b ≡ 23 → unpacked Eight (drop selector_at b) ≡ take 4 (drop 19 b)
unfolding unpacked tabulate
four_read b e =
    ap (λ (l : List ℕ). unpacked Eight (drop selector_at l)) (listed 23 b e)
    ∙ (λ j.
    word_one (get_or b 19 0) j ∷ word_one (get_or b 20 0) j ∷ word_one (get_or b 21 0) j ∷ word_one (get_or b 22 0) j ∷ [])
    ∙ sym (part_is 19 4 b (omega arith))

eight_read : (b : List ℕ) → length b ≡ 23 → decoded b ≡ held_with Eight b (take 4 (drop 19 b))
unfolding decoded
eight_read b e = ap (λ (n : ℕ). decoded_as (width_for n) b) e ∙ ap (held_with Eight b) (four_read b e)

-- and the other way
one_written : (s : ℕ) → s < 256 → bytes 1 s ≡ s ∷ []
unfolding bytes
one_written s l = ap (λ (n : ℕ). n ∷ []) (omega arith)

four_written : (ss : List ℕ) → length ss ≡ subselectors → Within (bits_of Eight) ss → packed Eight ss ≡ ss
unfolding packed tabulate
four_written ss e w =
    (λ j.
    one_written (get_or ss 0 0) v.0 j ++ one_written (get_or ss 1 0) v.1.0 j
    ++ one_written (get_or ss 2 0) v.1.1.0 j ++ one_written (get_or ss 3 0) v.1.1.1.0 j)
    ∙ sym (listed subselectors ss e)
  where
    v : Within (bits_of Eight) (get_or ss 0 0 ∷ get_or ss 1 0 ∷ get_or ss 2 0 ∷ get_or ss 3 0 ∷ [])
    v = subst (Within (bits_of Eight)) (listed subselectors ss e) w

eight_written : (h : Handle) → Holdable h → h.width ≡ Eight → encoded h ≡ before h h.selector
unfolding encoded
eight_written h o e =
    ap (λ (v : Width). encoded_as v h) e
    ∙ ap (before h)
    (four_written h.selector o.selector (subst (λ (v : Width). Within (bits_of v) h.selector) e o.within))

pub as_before : AsBefore
as_before =
    record {
      read = λ b o. eight_read b o.long;
      wrote = eight_written;
      width = λ b o. ap width_of (eight_read b o.long);
      flat = λ s. refl;
      converted = conversion_byte;
    }

-- ---- at width 16

pub word_converted : WordConverted
word_converted = conversion_word
