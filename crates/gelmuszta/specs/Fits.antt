-- What a call takes in, as an exported function has it.
--     PasswordsFit x     the passwords that the call x takes in have sixteen bytes
--     AllFit xs          so has each that a call of the list takes in
--     fitting            a call of each kind, with passwords where calls 1 and 9 take them and nowhere else: AllFit must hold
--                        of it, so that nothing is asked of a call that takes no password
-- Assumes nothing.
use Rattle.std.specs.Prelude.{◌≡◌, true, List, [], ◌∷◌, length, replicate}
use Rattle.sizes.specs.Sizes.{password_bytes}
use Rattle.calls.specs.Calls.{Call, uses, making_cluster, deleting_cluster, making_segment, deleting_segment, reading, writing}
use Rattle.calls.specs.Calls.{weakening_by, reducing, renewing, freezing, joining, validating, looking}

pub record PasswordsFit (x : Call) : Type 0 where
  pub first : (uses x.kind).first ≡ true → length x.args.first ≡ password_bytes
  pub second : (uses x.kind).second ≡ true → length x.args.second ≡ password_bytes

abbrev pub AllFit : List Call → Type 0
AllFit [] = Unit {0}
AllFit (x ∷ xs) = PasswordsFit x × AllFit xs

abbrev pub fitting : List Call
fitting =
    making_cluster 0 0 0 (replicate 16 0) (replicate 16 0)
    ∷ deleting_cluster 0 []
    ∷ making_segment 0 0 0 []
    ∷ deleting_segment 0 0 []
    ∷ reading 0 [] []
    ∷ writing 0 [] []
    ∷ weakening_by 0 []
    ∷ reducing 0 []
    ∷ renewing 0 [] (replicate 16 0)
    ∷ freezing 0 0 []
    ∷ joining 0 [] []
    ∷ validating 0 []
    ∷ looking 0 0 []
    ∷ []
