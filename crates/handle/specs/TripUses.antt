-- What the round trips give, clause by clause, for handles of each width that name no place there is: node 65,535 and local number 255,
-- the highest that their bytes hold.
--     far v p ss         such a handle of the width v, with the password p and the subselectors ss
--     four, eight, sixteen    subselectors of each width, all different, some with every bit of the width
--     last ss            bytes of such a handle, with a password of sixteen different bytes and the selector ss
--     RoundTripUses      handle: a handle is read back from its bytes, of each width, with any sixteen numbers for its password
--                        bytes: bytes are those of the handle that they hold, of each length
--                        other: bytes of the lengths beside these hold no handle, whatever they are, nor does none at all
--                        none, reply: no handle has no bytes; bytes laid out in a reply are there, more than a handle's too
-- Assumes nothing.
use Rattle.std.specs.Prelude.{ℕ, ◌≡◌, List, [], ◌∷◌, length}
use Rattle.handle.specs.declared.Handle.{Handle}
use Rattle.handle.specs.declared.Width.{Width}
use Rattle.handle.specs.declared.Width.TheVariants.{Four, Eight, Sixteen}
use Rattle.handle.specs.Handles.{encoded, decoded, no_handle, laid, bytes_in}

abbrev pub far : Width → List ℕ → List ℕ → Handle
far v p ss = record { node = 65535; local = 255; password = p; width = v; selector = ss }

abbrev pub four : List ℕ
four = 1 ∷ 15 ∷ 6 ∷ 8 ∷ []

abbrev pub eight : List ℕ
eight = 1 ∷ 255 ∷ 130 ∷ 64 ∷ []

abbrev pub sixteen : List ℕ
sixteen = 258 ∷ 65535 ∷ 32769 ∷ 4 ∷ []

abbrev pub last : List ℕ → List ℕ
last ss =
    255 ∷ 254 ∷ 253 ∷ 16 ∷ 17 ∷ 18 ∷ 19 ∷ 20 ∷ 21 ∷ 22 ∷ 23 ∷ 24 ∷ 25 ∷ 26 ∷ 27 ∷ 28 ∷ 29 ∷ 30 ∷ 31 ∷ ss

pub record RoundTripUses : Type 0 where
  pub handle_four : (p : List ℕ) → length p ≡ 16 → decoded (encoded (far Four p four)) ≡ far Four p four
  pub handle_eight : (p : List ℕ) → length p ≡ 16 → decoded (encoded (far Eight p eight)) ≡ far Eight p eight
  pub handle_sixteen : (p : List ℕ) → length p ≡ 16 → decoded (encoded (far Sixteen p sixteen)) ≡ far Sixteen p sixteen
  pub bytes_21 : encoded (decoded (last (161 ∷ 44 ∷ []))) ≡ last (161 ∷ 44 ∷ [])
  pub bytes_23 : encoded (decoded (last (1 ∷ 255 ∷ 130 ∷ 64 ∷ []))) ≡ last (1 ∷ 255 ∷ 130 ∷ 64 ∷ [])
  pub bytes_27 : encoded (decoded (last (1 ∷ 2 ∷ 255 ∷ 254 ∷ 128 ∷ 3 ∷ 0 ∷ 4 ∷ [])))
      ≡ last (1 ∷ 2 ∷ 255 ∷ 254 ∷ 128 ∷ 3 ∷ 0 ∷ 4 ∷ [])
  pub other_22 : (b : List ℕ) → length b ≡ 22 → decoded b ≡ no_handle
  pub other_26 : (b : List ℕ) → length b ≡ 26 → decoded b ≡ no_handle
  pub other_28 : (b : List ℕ) → length b ≡ 28 → decoded b ≡ no_handle
  pub other_none : decoded [] ≡ no_handle
  pub none : encoded no_handle ≡ []
  pub reply_22 : (b : List ℕ) → length b ≡ 22 → bytes_in (laid b) ≡ b
  pub reply_28 : (b : List ℕ) → length b ≡ 28 → bytes_in (laid b) ≡ b
