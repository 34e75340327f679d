-- What validation gives for the cluster of `UseLists`, of each width and in each mode, for a conversion f that gives sixteen bytes: 0
-- where the handle's password is what the chain gives, and 9 where it is not. The passwords are sixteen bytes a for reading and sixteen
-- bytes b for writing, both open, so that they may be equal.
--     cut v p            a handle of the cluster that references its highest segment alone, with the password that f makes of p
--     deep v p           a handle with four subselectors that are not flat, no two of them equal, with the password that f makes of p
--                        by the first, then by the second, the third and the fourth
--     told m h a b       the number of validation in the mode m, of the handle h
--     ValidationUses     right, wrong: for a primary handle with sixteen bytes k; chained: for a handle cut from the mode's own
--                        password; crossed: for one cut from another password, where the two do not come out equal; deep, deep-crossed:
--                        the same of handles with four subselectors that are not flat
-- Assumes nothing.
use Rattle.std.specs.Prelude.{◌≡◌, ◌≢◌, ℕ, List, [], ◌∷◌, ◌++◌, length, get_or}
use Rattle.loops.specs.Tabulate.{tabulate}
use Rattle.handle.specs.Handles.{Name}
use Rattle.calls.specs.Calls.{Copy, validating}
use Rattle.calls.specs.Numbers.{number}
use Rattle.calls.specs.Literals.{sixteen}
use Rattle.isolation.specs.UseLists.{Wide, of_four, of_eight, of_sixteen, own, keeping}

-- the parameter that keeps the highest segment, and the selector with it
abbrev pub parameter : Wide → ℕ
parameter of_four = 8
parameter of_eight = 128
parameter of_sixteen = 32768

abbrev pub selector : Wide → List ℕ
selector of_four = 248 ∷ 255 ∷ []
selector of_eight = 128 ∷ 255 ∷ 255 ∷ 255 ∷ []
selector of_sixteen = 128 ∷ 0 ∷ 255 ∷ 255 ∷ 255 ∷ 255 ∷ 255 ∷ 255 ∷ []

-- four subselectors, each without one segment
abbrev pub selectors : Wide → List ℕ
selectors of_four = 222 ∷ 123 ∷ []
selectors of_eight = 254 ∷ 253 ∷ 251 ∷ 247 ∷ []
selectors of_sixteen = 255 ∷ 254 ∷ 255 ∷ 253 ∷ 255 ∷ 251 ∷ 255 ∷ 247 ∷ []

module _ (f : Name → List ℕ → ℕ → List ℕ) where
  abbrev by : List ℕ → ℕ → List ℕ
  by = f (record { node = 3; local = 7 })

  abbrev pub fourth : Wide → ℕ → List ℕ
  fourth of_four k = by (by (by (by (sixteen k) 14) 13) 11) 7
  fourth of_eight k = by (by (by (by (sixteen k) 254) 253) 251) 247
  fourth of_sixteen k = by (by (by (by (sixteen k) 65534) 65533) 65531) 65527

module _ (f : Name → List ℕ → ℕ → List ℕ) (v : Wide) where
  abbrev pub password : ℕ → List ℕ
  password k = f (record { node = 3; local = 7 }) (sixteen k) (parameter v)

  abbrev pub cut : ℕ → List ℕ
  cut k = 0 ∷ 3 ∷ 7 ∷ (tabulate 16 (λ i. get_or (password k) i 0) ++ selector v)

  abbrev pub deep : ℕ → List ℕ
  deep k = 0 ∷ 3 ∷ 7 ∷ (tabulate 16 (λ i. get_or (fourth f v k) i 0) ++ selectors v)

  module _ (a b : ℕ) where
    abbrev pub judged : Copy
    judged = keeping v (sixteen a) (sixteen b) 1 2 3 4 5

    abbrev told : ℕ → List ℕ → ℕ
    told m h = number f (validating m h) judged.store (length judged.memory)

    pub record ValidationUses : Type 0 where
      pub right_reading : told 1 (own v 3 7 a) ≡ 0
      pub right_writing : told 2 (own v 3 7 b) ≡ 0
      pub wrong_reading : (k : ℕ) → k ≢ a → told 1 (own v 3 7 k) ≡ 9
      pub wrong_writing : (k : ℕ) → k ≢ b → told 2 (own v 3 7 k) ≡ 9
      pub chained_reading : told 1 (cut a) ≡ 0
      pub chained_writing : told 2 (cut b) ≡ 0
      pub crossed_reading : (k : ℕ) → password k ≢ password a → told 1 (cut k) ≡ 9
      pub crossed_writing : (k : ℕ) → password k ≢ password b → told 2 (cut k) ≡ 9
      pub deep_reading : told 1 (deep a) ≡ 0
      pub deep_writing : told 2 (deep b) ≡ 0
      pub deep_crossed_reading : (k : ℕ) → fourth f v k ≢ fourth f v a → told 1 (deep k) ≡ 9
      pub deep_crossed_writing : (k : ℕ) → fourth f v k ≢ fourth f v b → told 2 (deep k) ≡ 9
