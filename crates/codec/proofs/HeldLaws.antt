-- Handles as a caller holds them, for the code. 27 bytes and a length are laid one behind the other, so each is found again at
-- its place; bytes of a handle's length are those of the handle that they hold, and of any other length there is none.
-- Assumes nothing.
use Prim.Native.Nat.{ℕ, ◌<◌}
use mir.Syntax.{w8}
use mir.Val.{Fits}
use mathlib.Core.Path.{◌≡◌, sym, ap, ◌∙◌}
use mathlib.Core.Bool.{Bool, true, false, cond}
use mathlib.Core.List.{List, [], ◌∷◌, ◌++◌}
use lib.Dec.{eqb}
use lib.ListN.{length, get_or, set}
use lib.Seq.{take_at, get_or_at}
use Rattle.loops.specs.Tabulate.{tabulate}
use Rattle.numbers.specs.Numbers.{wrong_length_number}
use Rattle.handle.specs.declared.Handle.{Handle}
use Rattle.handle.specs.declared.HandleBytes.{HandleBytes}
use Rattle.handle.specs.declared.Width.{Width}
use Rattle.handle.specs.declared.Width.TheVariants.{None, Four, Eight, Sixteen}
use Rattle.handle.specs.Widths.{bits_of, length_of, most_bytes, width_for}
use Rattle.handle.specs.Handles.{width_of, laid, written, encoded, decoded_as, decoded}
use Rattle.handle.proofs.CodecLaws.{listed, width_cases}
use Rattle.handle.proofs.TripLaws.{encode_decode, encoded_none}
use Rattle.handle.proofs.HeldLaws.{width_decoded}
use Rattle.codec.specs.Held.{held_in, handed, no_handles, held_from, length_number}

-- ---- 27 bytes and a length

pub handed_held : (a : HandleBytes) → length a.bytes ≡ most_bytes → handed (held_in a) ≡ a
handed_held a l =
    λ j.
    record {
      length = get_or_at a.bytes a.length [] 0 most_bytes l j;
      bytes = take_at a.bytes (a.length ∷ []) most_bytes l j;
    }

-- the bytes with a zero behind them, and the length in its place, as the code has them
module _ (a : HandleBytes) (l : length a.bytes ≡ most_bytes) where
  pub held_so : (m : List ℕ) → m ≡ a.bytes → set (m ++ (0 ∷ [])) most_bytes a.length ≡ held_in a
  unfolding tabulate
  held_so m e =
      ap (λ (b : List ℕ). set (b ++ (0 ∷ [])) most_bytes a.length) (e ∙ listed most_bytes a.bytes l)
      ∙ ap (λ (b : List ℕ). b ++ (a.length ∷ [])) (sym (listed most_bytes a.bytes l))

-- ---- bytes from elsewhere

module _ (b : List ℕ) (o : (i : ℕ) → get_or b i 0 < 256) where
  encoded_again : encoded (decoded b) ≡ cond (no_handles (length b)) [] b
  unfolding decoded
  encoded_again =
      width_cases (λ v. encoded (decoded_as v b) ≡ cond (eqb (bits_of v) 0) [] b) (length b) encoded_none again
    where
      for_width : (v : Width) → length b ≡ length_of v → encoded (decoded_as (width_for (length_of v)) b) ≡ b
      for_width v e = ap (λ (n : ℕ). encoded (decoded_as (width_for n) b)) (sym e) ∙ encode_decode b o v e

      again : (v : Width) → length b ≡ length_of v → encoded (decoded_as v b) ≡ cond (eqb (bits_of v) 0) [] b
      again None e = encoded_none
      again Four e = for_width Four e
      again Eight e = for_width Eight e
      again Sixteen e = for_width Sixteen e

-- the same, in the code's own terms
pub from_so : (b : List ℕ) → ((i : ℕ) → Fits w8 (get_or b i 0)) → (r : List ℕ) (a : HandleBytes) (h : Handle)
    → r ≡ held_in a → a ≡ written h → h ≡ decoded b → r ≡ held_from b
unfolding held_from written
from_so b f r a h er ea eh =
    er ∙ ap held_in (ea ∙ ap written eh) ∙ ap (λ (l : List ℕ). held_in (laid l)) (encoded_again b (λ i. (f i).fits))

-- ---- their number

module _ (b : List ℕ) (h : Handle) (eh : h ≡ decoded b) (t : Bool) (et : t ≡ eqb (width_of h) 0) where
  no_handles_lem : t ≡ no_handles (length b)
  no_handles_lem = et ∙ ap (λ (k : Handle). eqb (width_of k) 0) eh ∙ ap (λ (v : Width). eqb (bits_of v) 0) (width_decoded b)

  pub length_none : t ≡ true → wrong_length_number ≡ length_number b
  length_none e = ap (λ (n : Bool). cond n wrong_length_number 0) (sym e ∙ no_handles_lem)

  pub length_some : t ≡ false → 0 ≡ length_number b
  length_some e = ap (λ (n : Bool). cond n wrong_length_number 0) (sym e ∙ no_handles_lem)
