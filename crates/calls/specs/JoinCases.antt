-- Document 02, §5: the numbers of call 11 as computed lists, on the stores and with the shorthands of the numbers' lists.
--     lower b, upper b, some b  handles that reference segments 0 to 3, 4 to 7 and 4 to 6
--     joins                     each number that applies to either handle, for the first alone and for the second alone, but
--                               for 8, which is both handles' or neither's; 24 and 23; and joins done
--     joins_apart                24 for two handles that each open a cluster
--     JoinsGiven                all these numbers are given, on these stores
-- Assumes nothing.
use Rattle.std.specs.Prelude.{◌≡◌, ℕ, ◌+◌, List, [], ◌∷◌}
use Rattle.sizes.specs.Sizes.{memory}
use Rattle.handle.specs.Selectors.{flats, in_first}
use Rattle.calls.specs.Calls.{joining}
use Rattle.calls.specs.Cases.{shown, primary, weak, other, gap, far, high, idle, sample, marked, beside, Case, gives}
use Rattle.calls.specs.Cases.{told_on, named}

-- handles that together reference all eight segments, and all but the last
abbrev pub lower : ℕ → List ℕ
lower b = shown 1 2 (b + 15) (in_first 8 15)

abbrev pub upper : ℕ → List ℕ
upper b = shown 1 2 (b + 240) (in_first 8 240)

abbrev pub some : ℕ → List ℕ
some b = shown 1 2 (b + 112) (in_first 8 112)

-- what is said of a handle, for the first of the two alone, and for the second alone
abbrev pub joins : List Case
joins =
    gives 2 (joining 1 far (weak 3))
    ∷ gives 2 (joining 1 (weak 3) far)
    ∷ gives 2 (joining 1 high (weak 3))
    ∷ gives 2 (joining 1 (weak 3) high)
    ∷ gives 3 (joining 0 (weak 3) (other 3))
    ∷ gives 3 (joining 3 (weak 3) (other 3))
    ∷ gives 4 (joining 1 gap (weak 3))
    ∷ gives 4 (joining 1 (weak 3) gap)
    -- the node alone, the local number alone, both; both clusters inactive
    ∷ gives 24 (joining 1 (weak 3) (shown 2 2 35 (in_first 8 32)))
    ∷ gives 24 (joining 1 (shown 2 2 35 (in_first 8 32)) (weak 3))
    ∷ gives 24 (joining 1 (weak 3) (shown 1 1 35 (in_first 8 32)))
    ∷ gives 24 (joining 1 (shown 1 1 35 (in_first 8 32)) (weak 3))
    ∷ gives 24 (joining 1 (weak 3) (shown 2 1 35 (in_first 8 32)))
    ∷ gives 24 (joining 1 idle (shown 1 5 0 (flats 8)))
    ∷ gives 8 (joining 1 idle idle)
    ∷ gives 9 (joining 1 (weak 4) (other 3))
    ∷ gives 9 (joining 1 (weak 3) (other 4))
    ∷ gives 9 (joining 2 (weak 3) (other 4))
    ∷ gives 9 (joining 2 (weak 4) (other 3))
    ∷ gives 9 (joining 1 (weak 4) (weak 4))
    ∷ gives 9 (joining 1 (primary 4) (weak 3))
    ∷ gives 9 (joining 2 (upper 4) (lower 3))
    -- all eight: by two that are not primary, by one that is, by two that are
    ∷ gives 23 (joining 1 (lower 3) (upper 3))
    ∷ gives 23 (joining 2 (upper 4) (lower 4))
    ∷ gives 23 (joining 1 (primary 3) (weak 3))
    ∷ gives 23 (joining 1 (weak 3) (primary 3))
    ∷ gives 23 (joining 2 (primary 4) (primary 4))
    -- all but one, two that overlap, one within the other, one and itself; in either mode, and either way round
    ∷ gives 0 (joining 1 (lower 3) (some 3))
    ∷ gives 0 (joining 2 (some 4) (lower 4))
    ∷ gives 0 (joining 1 (some 3) (upper 3))
    ∷ gives 0 (joining 1 (weak 3) (upper 3))
    ∷ gives 0 (joining 2 (upper 4) (weak 4))
    ∷ gives 0 (joining 1 (weak 3) (weak 3))
    ∷ gives 0 (joining 1 (weak 3) (other 3))
    ∷ gives 0 (joining 2 (weak 4) (other 4))
    -- nothing, with some and with nothing: its password has gone through 16 and 32
    ∷ gives 0 (joining 1 (shown 1 2 51 (16 ∷ 32 ∷ 255 ∷ 255 ∷ [])) (weak 3))
    ∷ gives 0 (joining 1 (shown 1 2 51 (16 ∷ 32 ∷ 255 ∷ 255 ∷ [])) (shown 1 2 51 (16 ∷ 32 ∷ 255 ∷ 255 ∷ [])))
    ∷ []

abbrev pub joins_apart : List Case
joins_apart =
    gives 24 (joining 1 (primary 3) (beside 6))
    ∷ gives 24 (joining 1 (beside 6) (primary 3))
    ∷ gives 24 (joining 2 (weak 4) (beside 7))
    ∷ gives 23 (joining 1 (beside 6) (beside 6))
    ∷ gives 0 (joining 1 (weak 3) (other 3))
    ∷ []

pub record JoinsGiven : Type 0 where
  pub joins : told_on sample memory joins ≡ named joins
  pub apart : told_on marked memory joins_apart ≡ named joins_apart
