-- What is held is taken back. The length stands behind 27 bytes, of which the handle's own are the first; any other last byte
-- takes a number of bytes that no handle has.
-- Assumes nothing.
use Prim.Native.Nat.{ℕ, ◌+◌, ◌-◌, ◌≤◌, ◌<◌}
use native.Mathlib.Omega.{arith}
use mathlib.Core.Path.{◌≡◌, refl, sym, ap, ◌∙◌, subst}
use mathlib.Core.Logic.{inl, inr}
use mathlib.Core.Bool.{cond}
use mathlib.Core.List.{List, [], ◌∷◌, ◌++◌}
use lib.Dec.{eqb}
use lib.ListN.{length, get_or, take, replicate, length-append, length-replicate, length-take}
use lib.Seq.{take_all, get_or_at, take-append-le, take-append_seam, take-suc}
use Rattle.numbers.specs.Numbers.{wrong_length_number}
use Rattle.handle.specs.declared.Handle.{Handle}
use Rattle.handle.specs.declared.Width.{Width}
use Rattle.handle.specs.declared.Width.TheVariants.{None, Four, Eight, Sixteen}
use Rattle.handle.specs.Widths.{bits_of, length_of, most_bytes}
use Rattle.handle.specs.Handles.{laid, written, encoded, decoded, no_handle, Holdable}
use Rattle.handle.specs.Trips.{OfWidth}
use Rattle.handle.proofs.CodecLaws.{width_cases}
use Rattle.handle.proofs.TripLaws.{decode_encode, length_decoded}
use Rattle.handle.proofs.TripStatements.{round_trips}
use Rattle.codec.specs.Held.{held_in, handed, bytes_held, no_handles, held_from, length_number, HeldTrips}
use Rattle.codec.proofs.HeldLaws.{handed_held}

-- ---- the handle's own bytes, and what stands behind them

behind : (b t : List ℕ) → length b + length t ≡ 27 → bytes_held ((b ++ t) ++ (length b ∷ [])) ≡ b
behind b t e =
    ap (λ (n : ℕ). take n ((b ++ t) ++ (length b ∷ []))) (get_or_at (b ++ t) (length b) [] 0 most_bytes (length-append b t ∙ e))
    ∙ take-append-le (length b) (b ++ t) (length b ∷ []) (omega (arith, length-append b t))
    ∙ take-append_seam b t

taken : (b : List ℕ) → length b ≤ 27 → bytes_held (held_in (laid b)) ≡ b
taken b l = behind b (replicate (most_bytes - length b) 0) (omega (arith, length-replicate {A = ℕ} (most_bytes - length b) 0))

whole : (hs : List ℕ) → length hs ≡ 28 → held_in (handed hs) ≡ hs
whole hs e = sym (take-suc hs most_bytes 0 (omega arith)) ∙ take_all 28 hs (omega arith)

-- ---- handles

length_held : (h : Handle) → Holdable h → length (encoded h) ≤ 27
length_held h o = go h.width refl (length_decoded (encoded h) wide ∙ ap (λ (k : Handle). length_of k.width) (decode_encode h o))
  where
    wide : 0 < bits_of (decoded (encoded h)).width
    wide = subst (λ (k : Handle). 0 < bits_of k.width) (sym (decode_encode h o)) o.wide

    go : (v : Width) → h.width ≡ v → length (encoded h) ≡ length_of h.width → length (encoded h) ≤ 27
    go None e l = omega (arith, l, ap length_of e)
    go Four e l = omega (arith, l, ap length_of e)
    go Eight e l = omega (arith, l, ap length_of e)
    go Sixteen e l = omega (arith, l, ap length_of e)

handle : (h : Handle) → Holdable h → decoded (bytes_held (held_in (written h))) ≡ h
unfolding written
handle h o = ap decoded (taken (encoded h) (length_held h o)) ∙ decode_encode h o

other : (hs : List ℕ) → length hs ≡ 28 → ¬ OfWidth (get_or hs 27 0) → decoded (bytes_held hs) ≡ no_handle
other hs e n = round_trips.other (bytes_held hs) (λ w. n (told w))
  where
    k : ℕ
    k = get_or hs 27 0

    -- as many are taken as there are, up to 28
    few : length (bytes_held hs) < 28 → length (bytes_held hs) ≡ k
    few l = omega (arith, length-take k hs, e, l)

    told : OfWidth (length (bytes_held hs)) → OfWidth k
    told (inl w) = inl (sym (few (omega (arith, w))) ∙ w)
    told (inr (inl w)) = inr (inl (sym (few (omega (arith, w))) ∙ w))
    told (inr (inr w)) = inr (inr (sym (few (omega (arith, w))) ∙ w))

-- ---- bytes from elsewhere

from : (b : List ℕ) → OfWidth (length b) → held_from b ≡ held_in (laid b)
unfolding held_from
from b (inl w) = ap (λ (n : ℕ). held_in (laid (cond (no_handles n) [] b))) w
from b (inr (inl w)) = ap (λ (n : ℕ). held_in (laid (cond (no_handles n) [] b))) w
from b (inr (inr w)) = ap (λ (n : ℕ). held_in (laid (cond (no_handles n) [] b))) w

none : (b : List ℕ) → ¬ OfWidth (length b) → held_from b ≡ replicate 28 0
unfolding held_from
none b n =
    width_cases (λ v. held_in (laid (cond (eqb (bits_of v) 0) [] b)) ≡ replicate 28 0) (length b) refl no_width_lem
  where
    no_width_lem : (v : Width) → length b ≡ length_of v → held_in (laid (cond (eqb (bits_of v) 0) [] b)) ≡ replicate 28 0
    no_width_lem None e = refl
    no_width_lem Four e = absurd (n (inl e))
    no_width_lem Eight e = absurd (n (inr (inl e)))
    no_width_lem Sixteen e = absurd (n (inr (inr e)))

done : (b : List ℕ) → OfWidth (length b) → length_number b ≡ 0
done b (inl w) = ap (λ (n : ℕ). cond (no_handles n) wrong_length_number 0) w
done b (inr (inl w)) = ap (λ (n : ℕ). cond (no_handles n) wrong_length_number 0) w
done b (inr (inr w)) = ap (λ (n : ℕ). cond (no_handles n) wrong_length_number 0) w

refused : (b : List ℕ) → ¬ OfWidth (length b) → length_number b ≡ 25
refused b n = width_cases (λ v. cond (eqb (bits_of v) 0) wrong_length_number 0 ≡ wrong_length_number) (length b) refl no_width_lem
  where
    no_width_lem : (v : Width) → length b ≡ length_of v → cond (eqb (bits_of v) 0) wrong_length_number 0 ≡ wrong_length_number
    no_width_lem None e = refl
    no_width_lem Four e = absurd (n (inl e))
    no_width_lem Eight e = absurd (n (inr (inl e)))
    no_width_lem Sixteen e = absurd (n (inr (inr e)))

pub held_trips : HeldTrips
held_trips =
    record {
      taken = taken;
      again = handed_held;
      whole = whole;
      handle = handle;
      behind = behind;
      other = other;
      from = from;
      none = none;
      done = done;
      refused = refused;
    }
