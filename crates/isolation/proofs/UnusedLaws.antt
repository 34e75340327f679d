-- Arguments that a call does not use are ignored: with them blank, the number, what is left, what is given and the
-- buffer are the same text, kind by kind.
-- Assumes nothing.
use mathlib.Core.Path.{◌≡◌, refl, sym, ap, ◌∙◌}
use Prim.Native.Nat.{ℕ, zero, suc}
use mathlib.Core.List.{List}
use lib.ListN.{length}
use Rattle.handle.specs.Handles.{Name}
use Rattle.calls.specs.Calls.{Copy, Call, call, Arguments, Kind, new_cluster, delete_cluster, new_segment, delete_segment}
use Rattle.calls.specs.Calls.{read, write, weaken, reduce, new_password, freeze, join, validate, look, uses, buffer}
use Rattle.calls.specs.Numbers.{number, tests}
use Rattle.calls.specs.Steps.{plain, effects}
use Rattle.calls.specs.Steps.{left, given, outcome, step}
use Rattle.isolation.specs.Checks.{trimmed, UnusedIgnored}

module _ (f : Name → List ℕ → ℕ → List ℕ) where
  record Same (k : Kind) (x y : Call) (c : Copy) : Type 0 where
    number : number f x c.store (length c.memory) ≡ number f y c.store (length c.memory)
    left : left k x c ≡ left k y c
    given : given f k x c ≡ given f k y c
    buffer : buffer x ≡ buffer y

  same : (k : Kind) (g : Arguments) (c : Copy) → Same k (call k g) (call k (trimmed (uses k) g)) c
  unfolding number tests effects
  same new_cluster g c = record { number = refl; left = refl; given = refl; buffer = refl }
  same delete_cluster g c = record { number = refl; left = refl; given = refl; buffer = refl }
  same new_segment g c = record { number = refl; left = refl; given = refl; buffer = refl }
  same delete_segment g c = record { number = refl; left = refl; given = refl; buffer = refl }
  same read g c = record { number = refl; left = refl; given = refl; buffer = refl }
  same write g c = record { number = refl; left = refl; given = refl; buffer = refl }
  same weaken g c = record { number = refl; left = refl; given = refl; buffer = refl }
  same reduce g c = record { number = refl; left = refl; given = refl; buffer = refl }
  same new_password g c = record { number = refl; left = refl; given = refl; buffer = refl }
  same freeze g c = record { number = refl; left = refl; given = refl; buffer = refl }
  same join g c = record { number = refl; left = refl; given = refl; buffer = refl }
  same validate g c = record { number = refl; left = refl; given = refl; buffer = refl }
  same look g c = record { number = refl; left = refl; given = refl; buffer = refl }

  step_trimmed : (k : Kind) (g : Arguments) (c : Copy) → step f (call k g) c ≡ step f (call k (trimmed (uses k) g)) c
  unfolding step
  step_trimmed k g c =
      ap (λ (n : ℕ). outcome f n (call k g) c) (same k g c).number
      ∙ go (number f (call k (trimmed (uses k) g)) c.store (length c.memory))
    where
      go : (n : ℕ) → outcome f n (call k g) c ≡ outcome f n (call k (trimmed (uses k) g)) c
      go zero = λ t. record { copy = (same k g c).left t; reply = (same k g c).given t }
      go (suc n) = λ t. record { copy = c; reply = plain (suc n) ((same k g c).buffer t) }

  pub unused_ignored : UnusedIgnored f
  unused_ignored k g h c e =
      step_trimmed k g c ∙ ap (λ (z : Arguments). step f (call k z) c) e ∙ sym (step_trimmed k h c)
