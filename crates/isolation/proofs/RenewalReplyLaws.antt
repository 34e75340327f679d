-- The lists of new passwords, computed; soundness is kept along them, so at each call only the rows below the first are.
-- Assumes nothing.
use mathlib.Core.Path.{◌≡◌, refl, sym, ap, ◌∙◌}
use mathlib.Core.Logic.{◌≢◌}
use Prim.Native.Nat.{ℕ}
use native.Mathlib.Omega.{arith}
use mathlib.Core.Bool.{true}
use mathlib.Core.List.{List}
use lib.ListN.{length}
use Rattle.handle.specs.Handles.{Name, reduced}
use Rattle.store.specs.Records.{starting_store, cluster_at}
use Rattle.store.proofs.QuickLaws.{quick, quickly, sound_quick}
use Rattle.store.proofs.ChangeLaws.{put_other}
use Rattle.calls.specs.Calls.{start}
use Rattle.calls.specs.Numbers.{tests}
use Rattle.calls.specs.Steps.{Ran, effects, run}
use Rattle.calls.specs.Cases.{added}
use Rattle.calls.proofs.Computing.{computing}
use Rattle.isolation.specs.Copies.{SoundCopy}
use Rattle.isolation.specs.Renewals.{guesses}
use Rattle.isolation.specs.RenewalReplies.{renew_calls, renew_replies, seen, BothDone, alone, tries, answers, Guessed}
use Rattle.isolation.proofs.KeptLaws.{start_sound}
use Rattle.isolation.proofs.RunLaws.{numbers_of, ran_by, numbered, run_by_lem}

numbered_renewals : numbered added (numbers_of added renew_replies) renew_calls start ≡ true
unfolding reduced tests effects computing
numbered_renewals = refl

pub both_done : BothDone
unfolding reduced effects computing
both_done = ap seen (run_by_lem added (numbers_of added renew_replies) renew_calls start start_sound numbered_renewals) ∙ refl

-- soundness does not look at the passwords of an active cluster
quick_alone : (r w : ℕ) → quick (alone r w).store (length (alone r w).memory) ≡ true
unfolding quickly
quick_alone r w = refl

sound_alone : (r w : ℕ) → SoundCopy (alone r w)
sound_alone r w = sound_quick (alone r w).store (length (alone r w).memory) ∙ quick_alone r w

others_same : (r w q v k : ℕ) → k ≢ 10 → cluster_at (alone r w).store k ≡ cluster_at (alone q v).store k
others_same r w q v k n = put_other starting_store 10 _ k n ∙ sym (put_other starting_store 10 _ k n)

module _ (f : Name → List ℕ → ℕ → List ℕ) where
  -- the replies, by the numbers
  replied : (m r w : ℕ) → numbered f (numbers_of f answers) (guesses m tries) (alone r w) ≡ true
      → (ran_by f (numbers_of f answers) (guesses m tries) (alone r w)).replies ≡ answers
      → (run f (guesses m tries) (alone r w)).replies ≡ answers
  replied m r w n e =
      ap (λ (t : Ran). t.replies) (run_by_lem f (numbers_of f answers) (guesses m tries) (alone r w) (sound_alone r w) n) ∙ e

  pub guessed : Guessed f
  unfolding tests effects computing
  guessed =
      record {
        reading =
            record {
              active = refl;
              others = others_same 3 4 3 5;
              table = refl;
              read = λ e. refl;
              write = λ e. absurd (omega arith);
              memory = refl;
            };
        writing =
            record {
              active = refl;
              others = others_same 4 3 5 3;
              table = refl;
              read = λ e. absurd (omega arith);
              write = λ e. refl;
              memory = refl;
            };
        told = replied 1 3 4 refl refl;
        told_other = replied 1 3 5 refl refl;
        written = replied 2 4 3 refl refl;
        written_other = replied 2 5 3 refl refl;
      }
