-- Document 01, "The calls", and document 02, §3 and §5: the code of each call.
--     code c         the code of the call c
--     Decodes n r    r is the call with the code n, or the code of no call
-- Assumes nothing.
use Rattle.std.specs.Prelude.{◌≡◌, ℕ, Result, MatchResult}
use Rattle.calls.specs.declared.Code.{Code}
use Rattle.calls.specs.declared.Code.TheVariants.{NewCluster, DeleteCluster, NewSegment, DeleteSegment, Read, Write, Weaken}
use Rattle.calls.specs.declared.Code.TheVariants.{Reduce, NewPassword, Freeze, Join}
use Rattle.calls.specs.declared.UnknownCode.{UnknownCode}

abbrev pub code : Code → ℕ
code NewCluster = 1
code DeleteCluster = 2
code NewSegment = 3
code DeleteSegment = 4
code Read = 5
code Write = 6
code Weaken = 7
code Reduce = 8
code NewPassword = 9
code Freeze = 10
code Join = 11

abbrev pub Decodes : ℕ → Result Code UnknownCode → Type 0
Decodes n r = MatchResult r (λ c. code c ≡ n) (λ e. (e.0 ≡ n) × ((c : Code) → code c ≡ n → ⊥))
