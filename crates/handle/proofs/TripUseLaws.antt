-- The uses of the round trips: each is one clause of the theorem. That bytes written out are below 256 is computed.
-- Assumes nothing.
use Prim.Native.Nat.{ℕ, zero, suc, ◌<◌}
use native.Mathlib.Omega.{arith}
use mathlib.Core.Path.{◌≡◌, refl}
use mathlib.Core.Bool.{Bool, true, ◌&&◌}
use mathlib.Core.Logic.{◌≢◌, inl, inr}
use mathlib.Core.List.{List, [], ◌∷◌}
use lib.Dec.{ltb}
use lib.ListN.{length, get_or}
use borrow.Author.Tests.{ltb-true}
use Rattle.loops.proofs.BelowLaws.{and_left, and_right}
use Rattle.handle.specs.declared.Width.{Width}
use Rattle.handle.specs.declared.Width.TheVariants.{Four, Eight, Sixteen}
use Rattle.handle.specs.Widths.{bits_of}
use Rattle.handle.specs.Selectors.{Within}
use Rattle.handle.specs.Handles.{Holdable}
use Rattle.handle.specs.Trips.{OfWidth}
use Rattle.handle.specs.TripUses.{far, four, eight, sixteen, last, RoundTripUses}
use Rattle.handle.proofs.TripStatements.{round_trips}

abbrev small : List ℕ → Bool
small [] = true
small (x ∷ xs) = ltb x 256 && small xs

small_below : (b : List ℕ) → small b ≡ true → (i : ℕ) → get_or b i 0 < 256
small_below [] e i = omega arith
small_below (x ∷ xs) e zero = ltb-true x 256 (and_left (ltb x 256) (small xs) e)
small_below (x ∷ xs) e (suc i) = small_below xs (and_right (ltb x 256) (small xs) e) i

-- bytes of another length
beside : (b : List ℕ) → length b ≢ 21 → length b ≢ 23 → length b ≢ 27 → ¬ OfWidth (length b)
beside b x y z (inl e) = x e
beside b x y z (inr (inl e)) = y e
beside b x y z (inr (inr e)) = z e

-- such a handle can be written
held : (v : Width) (p ss : List ℕ) → 0 < bits_of v → length p ≡ 16 → length ss ≡ 4 → Within (bits_of v) ss → Holdable (far v p ss)
held v p ss w e n i =
    record { wide = w; node = omega arith; local = omega arith; password = e; selector = n; within = i }

pub round_trip_uses : RoundTripUses
round_trip_uses =
    record {
      handle_four = λ p e. round_trips.handle (far Four p four) (held Four p four (omega arith) e refl (omega arith, (omega arith, (omega arith, (omega arith, tt)))));
      handle_eight = λ p e. round_trips.handle (far Eight p eight) (held Eight p eight (omega arith) e refl (omega arith, (omega arith, (omega arith, (omega arith, tt)))));
      handle_sixteen = λ p e. round_trips.handle (far Sixteen p sixteen) (held Sixteen p sixteen (omega arith) e refl (omega arith, (omega arith, (omega arith, (omega arith, tt)))));
      bytes_21 = round_trips.bytes (last (161 ∷ 44 ∷ [])) (inl refl) (small_below (last (161 ∷ 44 ∷ [])) refl);
      bytes_23 =
          round_trips.bytes (last (1 ∷ 255 ∷ 130 ∷ 64 ∷ [])) (inr (inl refl))
          (small_below (last (1 ∷ 255 ∷ 130 ∷ 64 ∷ [])) refl);
      bytes_27 =
          round_trips.bytes (last (1 ∷ 2 ∷ 255 ∷ 254 ∷ 128 ∷ 3 ∷ 0 ∷ 4 ∷ [])) (inr (inr refl))
          (small_below (last (1 ∷ 2 ∷ 255 ∷ 254 ∷ 128 ∷ 3 ∷ 0 ∷ 4 ∷ [])) refl);
      other_22 = λ b e. round_trips.other b (beside b (λ h. omega arith) (λ h. omega arith) (λ h. omega arith));
      other_26 = λ b e. round_trips.other b (beside b (λ h. omega arith) (λ h. omega arith) (λ h. omega arith));
      other_28 = λ b e. round_trips.other b (beside b (λ h. omega arith) (λ h. omega arith) (λ h. omega arith));
      other_none = round_trips.other [] (beside [] (λ h. omega arith) (λ h. omega arith) (λ h. omega arith));
      none = round_trips.none;
      reply_22 = λ b e. round_trips.reply b;
      reply_28 = λ b e. round_trips.reply b;
    }
