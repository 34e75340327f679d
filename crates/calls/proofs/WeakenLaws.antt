-- Weakening as a call: its number in the table is the handle's own, and its reply is the handle crate's.
-- Assumes nothing.
use mathlib.Core.Path.{◌≡◌, refl, sym, ap, ◌∙◌}
use mathlib.Core.Bool.{or-false}
use mathlib.Core.List.{List, []}
use Prim.Native.Nat.{ℕ, zero, suc}
use lib.ListN.{length}
use Rattle.handle.specs.declared.Handle.{Handle}
use Rattle.handle.specs.Selectors.{referenced}
use Rattle.handle.specs.Handles.{Name, name_of, width_of, laid, written, weaken_number, reply, weakened, weakening}
use Rattle.handle.proofs.TripLaws.{encoded_none}
use Rattle.store.specs.declared.Store.{Store}
use Rattle.calls.specs.Calls.{Copy, Call, Arguments, call, weaken, handle_of}
use Rattle.calls.specs.Numbers.{number, tests}
use Rattle.calls.specs.Steps.{Reply, no_bytes, weaken_reply, left, given, outcome, step}

module _ (f : Name → List ℕ → ℕ → List ℕ) (g : Arguments) where
  abbrev x : Call
  x = call weaken g

  abbrev h : Handle
  h = handle_of x

  pub number_weaken : (s : Store) (size : ℕ) → number f x s size ≡ weaken_number (width_of h) h g.mask
  unfolding number tests weaken_number
  number_weaken s size = simp or-false

  pub step_weaken : (c : Copy)
      → step f x c ≡ record { copy = c; reply = weaken_reply (weakening (width_of h) (f (name_of h)) h g.mask) }
  unfolding step weakening left given written
  step_weaken c =
      ap (λ (n : ℕ). outcome f n x c) (number_weaken c.store (length c.memory))
      ∙ go (weaken_number (width_of h) h g.mask)
    where
      w : Handle
      w = weakened (width_of h) (f (name_of h)) h g.mask

      bare : ℕ → List ℕ → Reply
      bare n b = record { number = n; first = laid b; second = laid no_bytes; count = 0; length = 0; buffer = []; shown = [] }

      go : (n : ℕ) → outcome f n x c
          ≡ record { copy = c; reply = weaken_reply (reply n w (referenced (width_of h) w.selector)) }
      go zero = refl
      go (suc n) =
          ap (λ (b : List ℕ). record { copy = c; reply = bare (suc n) b }) (sym encoded_none)
