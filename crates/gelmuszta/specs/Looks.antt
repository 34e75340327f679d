-- A look on an image, in words: of the look from the current node v at the segment i with the handle of the bytes h, on the
-- image b and the memory m.
--     LookOnImage v i h b m    what it tells:
--       refused                  where it is refused, its part goes from 0 to 0
--       damaged                  on an image that holds no store it is refused with 1 and shows no byte,
--       wrong_length              but with 25 where the bytes have none of the three lengths of a handle
--       exact                    the bytes shown are exactly its part of the memory
--       inside                   the part lies inside the memory
-- Assumes nothing.
use Rattle.std.specs.Prelude.{◌≡◌, ◌≢◌, true, false, List, [], ℕ, ◌-◌, ◌≤◌, length, take, drop}
use Rattle.handle.specs.Handles.{no_width, decoded}
use Rattle.calls.specs.declared.Part.{Part}
use Rattle.calls.specs.Calls.{Call, looking}
use Rattle.calls.specs.Literals.{shows}
use Rattle.image.specs.Images.{good}
use Rattle.gelmuszta.specs.Exported.{exported, exported_part}

module _ (v i : ℕ) (h b m : List ℕ) where
  abbrev x : Call
  x = looking v i h

  abbrev pub part : Part
  part = exported_part x b (length m)

  pub record LookOnImage : Type 0 where
    pub refused : (exported x b m).reply.number ≢ 0 → part ≡ record { from = 0; to = 0 }
    pub damaged : good b ≡ false → no_width (decoded h) ≡ false → (exported x b m).reply ≡ shows 1 []
    pub wrong_length : good b ≡ false → no_width (decoded h) ≡ true → (exported x b m).reply ≡ shows 25 []
    pub exact : (exported x b m).reply.shown ≡ take (part.to - part.from) (drop part.from m)
    pub inside : (part.from ≤ part.to) × (part.to ≤ length m)
