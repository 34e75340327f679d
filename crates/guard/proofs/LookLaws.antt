-- A look: what the core tells of every store that has what was looked up, it tells of these records; the number and the part
-- of the memory are then the reply's, and the part lies inside the memory, where it says.
-- Assumes nothing.
use mathlib.Core.Path.{◌≡◌, sym, ap, subst, ◌∙◌}
use mathlib.Core.List.{List, []}
use Prim.Native.Nat.{ℕ, ◌+◌, ◌≤◌}
use native.Mathlib.Omega.{arith}
use borrow.Rule.Slice.Shared.{by_byte}
use lib.ListN.{length, replicate, length-replicate}
use Rattle.std.specs.Prelude.{Result, Ok, Err}
use Rattle.numbers.specs.declared.Number.{Number}
use Rattle.numbers.specs.Codes.{told}
use Rattle.std.specs.Result.{IsErrAnd}
use Rattle.handle.specs.Conversion.{product}
use Rattle.store.specs.declared.Store.{Store}
use Rattle.calls.specs.declared.Part.{Part}
use Rattle.calls.specs.Calls.{looking}
use Rattle.calls.specs.Steps.{Outcome, within, aes_step}
use Rattle.calls.specs.Answers.{copy_of, looked_as}
use Rattle.calls.specs.Looks.{Looked, aes_looked}
use Rattle.calls.proofs.LookLaws.{step_looked, part_inside}
use Rattle.numbers.proofs.ToldLaws.{exit_err}
use Rattle.refusals.specs.declared.Opened.{Opened}
use Rattle.refusals.specs.Given.{OpenedFrom}
use Rattle.guard.specs.Places.{further}
use Rattle.guard.specs.inner.Opens.{Opens}

module _ (s : Store) (b : List ℕ) (current i : ℕ) where
  -- some memory of that length
  pub looked_is : (size : ℕ) (o : Opened) → Opens o s size b → (r : Result Part Number)
      → ((t : Store) (m d : List ℕ) → OpenedFrom o t m d
      → looked_as r ≡ aes_looked (looking current i d) t (length m))
      → looked_as r ≡ aes_looked (looking current i b) s size
  looked_is size o w r core =
      core s (replicate size 0) b (w.given (replicate size 0) (length-replicate {A = ℕ} size 0))
      ∙ ap (aes_looked (looking current i b) s) (length-replicate {A = ℕ} size 0)

  module _ (m : List ℕ) where
    pub number_told : (r : Result Part Number) → looked_as r ≡ aes_looked (looking current i b) s (length m)
        → (looked_as r).number ≡ (aes_step (looking current i b) (copy_of s m)).reply.number
    number_told r e =
        ap (λ (q : Looked). q.number) e
        ∙ sym (ap (λ (o : Outcome). o.reply.number) (step_looked product current i b (copy_of s m)))

    -- at the exit of a `?`
    pub number_refused : (r : Result Part Number) → looked_as r ≡ aes_looked (looking current i b) s (length m)
        → (n : Number) → r ≡ Err n → (q : Result Unit Number) → IsErrAnd q (λ k. k ≡ n)
        → told q ≡ (aes_step (looking current i b) (copy_of s m)).reply.number
    number_refused r e n er q w =
        ap told (exit_err r n er q w)
        ∙ ap (λ (x : Result Part Number). (looked_as x).number) (sym er) ∙ number_told r e

    shown_is : (r : Result Part Number) → looked_as r ≡ aes_looked (looking current i b) s (length m)
        → within (looked_as r).part m ≡ (aes_step (looking current i b) (copy_of s m)).reply.shown
    shown_is r e =
        ap (λ (q : Looked). within q.part m) e
        ∙ sym (ap (λ (o : Outcome). o.reply.shown) (step_looked product current i b (copy_of s m)))

    pub none_shown : (n : Number) → looked_as (Err n) ≡ aes_looked (looking current i b) s (length m)
        → [] ≡ (aes_step (looking current i b) (copy_of s m)).reply.shown
    none_shown n e = shown_is (Err n) e

    module _ (p : Part) (e : looked_as (Ok p) ≡ aes_looked (looking current i b) s (length m)) where
      pub part_rises : p.from ≤ p.to
      part_rises = subst (λ (q : Looked). q.part.from ≤ q.part.to) (sym e) (part_inside product current i b (copy_of s m)).0

      pub part_ends : p.to ≤ length m
      part_ends = subst (λ (q : Looked). q.part.to ≤ length m) (sym e) (part_inside product current i b (copy_of s m)).1

      -- a part begins as many bytes further as it says
      pub part_lies : (at : ℕ × ℕ) → (at.0, by_byte p.from at.1)
          ≡ further at (aes_looked (looking current i b) s (length m)).part.from
      part_lies at =
          let n : by_byte p.from at.1 ≡ at.1 + p.from = omega arith in
          ap (λ (k : ℕ). (at.0, k)) n ∙ ap (λ (q : Looked). further at q.part.from) e

      pub part_shown : within p m ≡ (aes_step (looking current i b) (copy_of s m)).reply.shown
      part_shown = shown_is (Ok p) e
