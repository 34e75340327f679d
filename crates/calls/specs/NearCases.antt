-- Document 01, rows 7, 9 and 12: passwords are equal if all sixteen bytes are. As a computed list, on the store and with the
-- shorthands of the numbers' lists.
--     near b k             sixteen bytes b, but for byte k, which is one more
--     places               the sixteen places of a password
--     nears                for each place: two passwords that differ there alone are no twins, a handle whose password differs
--                          there does not validate, and a new password that differs there is not the old one, in either mode
--     NearGiven            these numbers are given
-- Assumes nothing.
use Rattle.std.specs.Prelude.{◌≡◌, ℕ, ◌+◌, List, [], ◌∷◌, ◌++◌, map, set}
use Rattle.sizes.specs.Sizes.{memory}
use Rattle.handle.specs.Selectors.{flats}
use Rattle.handle.specs.declared.Width.TheVariants.{Eight}
use Rattle.handle.specs.Handles.{encoded}
use Rattle.calls.specs.Calls.{making_cluster, renewing, validating}
use Rattle.calls.specs.Cases.{sixteen, primary, sample, Case, gives, told_on, named}

abbrev near : ℕ → ℕ → List ℕ
near b k = set (sixteen b) k (b + 1)

abbrev shown : List ℕ → List ℕ
shown p = encoded (record { node = 1; local = 2; password = p; width = Eight; selector = flats 8 })

abbrev places : List ℕ
places = 0 ∷ 1 ∷ 2 ∷ 3 ∷ 4 ∷ 5 ∷ 6 ∷ 7 ∷ 8 ∷ 9 ∷ 10 ∷ 11 ∷ 12 ∷ 13 ∷ 14 ∷ 15 ∷ []

abbrev pub nears : List Case
nears =
    map (λ (k : ℕ). gives 0 (making_cluster 1 3 8 (sixteen 1) (near 1 k))) places
    ++ (map (λ (k : ℕ). gives 9 (validating 1 (shown (near 3 k)))) places
    ++ (map (λ (k : ℕ). gives 0 (renewing 1 (primary 3) (near 3 k))) places
    ++ map (λ (k : ℕ). gives 0 (renewing 2 (primary 4) (near 4 k))) places))

abbrev pub NearGiven : Type 0
NearGiven = told_on sample memory nears ≡ named nears
