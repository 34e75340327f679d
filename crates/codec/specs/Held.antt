-- How a caller holds a handle: in 28 bytes. The handle's own come first, zeros fill them up to the 27 of the longest handle, and
-- the last byte tells how many are its own.
--     held_bytes        the bytes of a handle held
--     held_in a         the 28 bytes of what a reply has of a handle: the array and then the length
--     handed hs        the other way: the array and the length that 28 bytes hold
--     bytes_held hs     the handle's own bytes, as many as the last one tells; more than there are is all of them, and no handle
--                      has so many
--     no_handles n      no handle has n bytes
--     held_from b       the bytes b of a handle, so held; 28 zeros where no handle has so many bytes
--     length_number b   25 where no handle has so many bytes as b, or 0
-- Statements:
--     HeldTrips        taken: what is held is taken back, up to 27 bytes
--                      again, whole: held_in and handed undo each other, on 27 bytes and a length, and on 28 bytes
--                      handle: a handle of any width, written and held, is read back
--                      behind: what stands behind a handle's own bytes does not matter
--                      other: a last byte that is none of the three lengths, above 27 too, holds no handle
--                      from, none: bytes from elsewhere are held as they are where a handle has so many, and else 28 zeros are;
--                      done, refused: their number is 0 then, and else 25
-- Assumes nothing.
use Rattle.std.specs.Prelude.{ℕ, ◌+◌, ◌≤◌, ◌≡◌, Bool, cond, List, [], ◌∷◌, ◌++◌, eqb, length, get_or, take, replicate}
use Rattle.numbers.specs.Numbers.{wrong_length_number}
use Rattle.handle.specs.declared.Handle.{Handle}
use Rattle.handle.specs.declared.HandleBytes.{HandleBytes}
use Rattle.handle.specs.Widths.{bits_of, most_bytes, width_for}
use Rattle.handle.specs.Handles.{laid, written, decoded, no_handle, Holdable}
use Rattle.handle.specs.Trips.{OfWidth}

abbrev pub held_bytes : ℕ
held_bytes = most_bytes + 1

abbrev pub held_in : HandleBytes → List ℕ
held_in a = a.bytes ++ (a.length ∷ [])

abbrev pub handed : List ℕ → HandleBytes
handed hs = record { length = get_or hs most_bytes 0; bytes = take most_bytes hs }

abbrev pub bytes_held : List ℕ → List ℕ
bytes_held hs = take (get_or hs most_bytes 0) hs

abbrev pub no_handles : ℕ → Bool
no_handles n = eqb (bits_of (width_for n)) 0

unfoldable pub held_from : List ℕ → List ℕ
held_from b = held_in (laid (cond (no_handles (length b)) [] b))

abbrev pub length_number : List ℕ → ℕ
length_number b = cond (no_handles (length b)) wrong_length_number 0

pub record HeldTrips : Type 0 where
  pub taken : (b : List ℕ) → length b ≤ 27 → bytes_held (held_in (laid b)) ≡ b
  pub again : (a : HandleBytes) → length a.bytes ≡ 27 → handed (held_in a) ≡ a
  pub whole : (hs : List ℕ) → length hs ≡ 28 → held_in (handed hs) ≡ hs
  pub handle : (h : Handle) → Holdable h → decoded (bytes_held (held_in (written h))) ≡ h
  pub behind : (b t : List ℕ) → length b + length t ≡ 27 → bytes_held ((b ++ t) ++ (length b ∷ [])) ≡ b
  pub other : (hs : List ℕ) → length hs ≡ 28 → ¬ OfWidth (get_or hs 27 0) → decoded (bytes_held hs) ≡ no_handle
  pub from : (b : List ℕ) → OfWidth (length b) → held_from b ≡ held_in (laid b)
  pub none : (b : List ℕ) → ¬ OfWidth (length b) → held_from b ≡ replicate 28 0
  pub done : (b : List ℕ) → OfWidth (length b) → length_number b ≡ 0
  pub refused : (b : List ℕ) → ¬ OfWidth (length b) → length_number b ≡ 25
