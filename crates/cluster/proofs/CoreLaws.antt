-- Ends of a core: a refusal leaves what it found, at a return and at the exit of a `?` alike.
-- Assumes nothing.
use mathlib.Core.Path.{◌≡◌, sym, ap, ◌∙◌}
use mathlib.Core.List.{List, []}
use Prim.Native.Nat.{ℕ}
use lib.ListN.{length}
use Rattle.std.specs.Prelude.{Result, Err}
use Rattle.std.specs.Result.{IsErrAnd}
use Rattle.numbers.specs.declared.Number.{Number}
use Rattle.numbers.specs.Codes.{code, told}
use Rattle.handle.specs.Conversion.{product}
use Rattle.store.specs.declared.Store.{Store}
use Rattle.calls.specs.declared.Changed.{Changed}
use Rattle.calls.specs.Calls.{Call, buffer}
use Rattle.calls.specs.Numbers.{number}
use Rattle.calls.specs.Steps.{aes_step}
use Rattle.calls.specs.Answers.{Answer, copy_of, ended, changed}
use Rattle.calls.proofs.StepLaws.{step_refused}
use Rattle.numbers.proofs.ToldLaws.{code_above, told_err, exit_err}

module _ (x : Call) (s : Store) (m : List ℕ) where
  module _ (n : Number) (e : number product x s (length m) ≡ code n) where
    pub refused_alone : ended s m (Err n) (buffer x) ≡ aes_step x (copy_of s m)
    refused_alone = sym (step_refused product x (copy_of s m) (code n) e (code_above n))

    pub refused_record : buffer x ≡ [] → (i : ℕ) → changed i s m (Err n) ≡ aes_step x (copy_of s m)
    refused_record none i = ap (ended s m (Err n)) (sym none) ∙ refused_alone

  module _ {X : Type 0} (r : Result X Number) (e : number product x s (length m) ≡ told r) (n : Number) (er : r ≡ Err n) where
    pub exit_alone : (a : Answer) → IsErrAnd a (λ k. k ≡ n) → ended s m a (buffer x) ≡ aes_step x (copy_of s m)
    exit_alone a i =
        ap (λ (q : Answer). ended s m q (buffer x)) (exit_err r n er a i) ∙ refused_alone n (e ∙ told_err r n er)

    pub exit_record : buffer x ≡ [] → (i : ℕ) (a : Result Changed Number) → IsErrAnd a (λ k. k ≡ n)
        → changed i s m a ≡ aes_step x (copy_of s m)
    exit_record none i a w =
        ap (changed i s m) (exit_err r n er a w) ∙ refused_record n (e ∙ told_err r n er) none i
