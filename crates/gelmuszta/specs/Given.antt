-- The handles that a call on an image gives, as its caller holds them in 28 bytes.
--     Spread hs      the 28 bytes hs are a handle's own bytes, zeros behind them up to 27, and then how many its own are
--     GivenHeld, HandlesGiven    the 28 bytes of the first handle, and of the second, that an exported function gives are so spread: whatever
--                    bytes hold the handle that the call gives; of every call, image and memory
--     RepliesWritten    what stands where in the replies that contracts speak of: handles of the widths 8, 4 and 16, a count, a length
--                    and a buffer, written out
--     WeakenedAlways    weakening gives on every image, one that holds no store too, and with every memory what it gives on any
--                    copy at all, and leaves image and memory
-- Assumes nothing.
use Rattle.std.specs.Prelude.{◌≡◌, List, [], ◌∷◌, ◌++◌, ℕ, ◌-◌, length, replicate}
use Rattle.bits.specs.Bytes.{Bytes}
use Rattle.handle.specs.Literals.{small_bytes, middle_bytes, large_bytes}
use Rattle.codec.specs.Held.{handed, bytes_held}
use Rattle.codec.specs.HeldBytes.{small_held, middle_held, large_held}
use Rattle.calls.specs.Calls.{Copy, Call, weakening_by}
use Rattle.calls.specs.Literals.{told}
use Rattle.calls.specs.Steps.{aes_step}
use Rattle.image.specs.Images.{image_bytes}
use Rattle.gelmuszta.specs.Exported.{giving, giving_both, counting, telling, leaving, exported}

abbrev pub Spread : List ℕ → Type 0
Spread hs =
    hs ≡ (bytes_held hs ++ replicate (27 - length (bytes_held hs)) 0) ++ (length (bytes_held hs) ∷ [])

pub record GivenHeld (x : Call) (b m hs : List ℕ) : Type 0 where
  pub first : handed hs ≡ (exported x b m).reply.first → Spread hs
  pub second : handed hs ≡ (exported x b m).reply.second → Spread hs

abbrev pub HandlesGiven : Type 0
HandlesGiven = (x : Call) (b m hs : List ℕ) → length hs ≡ 28 → GivenHeld x b m hs

pub record RepliesWritten : Type 0 where
  pub both : giving_both 6 middle_held small_held ≡ told 6 middle_bytes small_bytes 0 0 []
  pub one : giving 7 middle_held ≡ told 7 middle_bytes [] 0 0 []
  pub count : counting 8 large_held 5 ≡ told 8 large_bytes [] 5 0 []
  pub length : telling 9 4 (1 ∷ 2 ∷ 3 ∷ []) ≡ told 9 [] [] 0 4 (1 ∷ 2 ∷ 3 ∷ [])

abbrev pub WeakenedAlways : Type 0
WeakenedAlways =
    (k : ℕ) (h b m : List ℕ) → Bytes image_bytes b → (c : Copy)
    → exported (weakening_by k h) b m ≡ leaving (aes_step (weakening_by k h) c).reply b m
