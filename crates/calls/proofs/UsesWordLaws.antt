-- Which arguments a call goes by: with all others zero or empty its number, what it leaves, what it gives and its buffer are
-- the same text, kind by kind; and that call changes only as the listed arguments do.
-- Assumes nothing.
use mathlib.Core.Path.{◌≡◌, refl, sym, ap, ◌∙◌}
use Prim.Native.Nat.{ℕ, zero, suc}
use mathlib.Core.List.{List}
use lib.ListN.{length}
use Rattle.handle.specs.Handles.{Name}
use Rattle.calls.specs.Calls.{Copy, Call, Arguments, Kind, call, new_cluster, delete_cluster, new_segment, delete_segment}
use Rattle.calls.specs.Calls.{read, write, weaken, reduce, new_password, freeze, join, validate, look, buffer}
use Rattle.calls.specs.Calls.{making_cluster, deleting_cluster, making_segment, deleting_segment, reading, writing}
use Rattle.calls.specs.Calls.{weakening_by, reducing, renewing, freezing, joining, validating, looking}
use Rattle.calls.specs.Numbers.{number, tests}
use Rattle.calls.specs.Steps.{plain, outcome, step, effects}
use Rattle.calls.specs.UsesWords.{UsesInWords}

-- the call of the kind k that has what it goes by from g, and nothing else
abbrev bare : Kind → Arguments → Call
bare new_cluster g = making_cluster g.current g.local g.width g.first g.second
bare delete_cluster g = deleting_cluster g.current g.handle
bare new_segment g = making_segment g.current g.segment g.size g.handle
bare delete_segment g = deleting_segment g.current g.segment g.handle
bare read g = reading g.segment g.handle g.bytes
bare write g = writing g.segment g.handle g.bytes
bare weaken g = weakening_by g.mask g.handle
bare reduce g = reducing g.mode g.handle
bare new_password g = renewing g.mode g.handle g.first
bare freeze g = freezing g.current g.segment g.handle
bare join g = joining g.mode g.handle g.other
bare validate g = validating g.mode g.handle
bare look g = looking g.current g.segment g.handle

module _ (f : Name → List ℕ → ℕ → List ℕ) where
  record Equal (k : Kind) (x y : Call) (c : Copy) : Type 0 where
    number : number f x c.store (length c.memory) ≡ number f y c.store (length c.memory)
    done : outcome f 0 x c ≡ outcome f 0 y c
    buffer : buffer x ≡ buffer y

  equal : (k : Kind) (g : Arguments) (c : Copy) → Equal k (call k g) (bare k g) c
  unfolding number tests effects
  equal new_cluster g c = record { number = refl; done = refl; buffer = refl }
  equal delete_cluster g c = record { number = refl; done = refl; buffer = refl }
  equal new_segment g c = record { number = refl; done = refl; buffer = refl }
  equal delete_segment g c = record { number = refl; done = refl; buffer = refl }
  equal read g c = record { number = refl; done = refl; buffer = refl }
  equal write g c = record { number = refl; done = refl; buffer = refl }
  equal weaken g c = record { number = refl; done = refl; buffer = refl }
  equal reduce g c = record { number = refl; done = refl; buffer = refl }
  equal new_password g c = record { number = refl; done = refl; buffer = refl }
  equal freeze g c = record { number = refl; done = refl; buffer = refl }
  equal join g c = record { number = refl; done = refl; buffer = refl }
  equal validate g c = record { number = refl; done = refl; buffer = refl }
  equal look g c = record { number = refl; done = refl; buffer = refl }

  step_bare : (k : Kind) (g : Arguments) (c : Copy) → step f (call k g) c ≡ step f (bare k g) c
  unfolding step
  step_bare k g c =
      ap (λ (n : ℕ). outcome f n (call k g) c) (equal k g c).number
      ∙ go (number f (bare k g) c.store (length c.memory))
    where
      go : (n : ℕ) → outcome f n (call k g) c ≡ outcome f n (bare k g) c
      go zero = (equal k g c).done
      go (suc n) = λ t. record { copy = c; reply = plain (suc n) ((equal k g c).buffer t) }

  -- calls that are the same without what they do not go by
  through : (k : Kind) (g h : Arguments) (c : Copy) → bare k g ≡ bare k h → step f (call k g) c ≡ step f (call k h) c
  through k g h c e = step_bare k g c ∙ ap (λ (x : Call). step f x c) e ∙ sym (step_bare k h c)

  pub uses_in_words : UsesInWords f
  uses_in_words =
      record {
        new_cluster = λ g h c e. through new_cluster g h c
            (λ j. making_cluster (e.0 j) (e.1.0 j) (e.1.1.0 j) (e.1.1.1.0 j) (e.1.1.1.1.0 j));
        delete_cluster = λ g h c e. through delete_cluster g h c (λ j. deleting_cluster (e.0 j) (e.1.0 j));
        new_segment = λ g h c e. through new_segment g h c
            (λ j. making_segment (e.0 j) (e.1.0 j) (e.1.1.0 j) (e.1.1.1.0 j));
        delete_segment = λ g h c e. through delete_segment g h c (λ j. deleting_segment (e.0 j) (e.1.0 j) (e.1.1.0 j));
        freeze = λ g h c e. through freeze g h c (λ j. freezing (e.0 j) (e.1.0 j) (e.1.1.0 j));
        read = λ g h c e. through read g h c (λ j. reading (e.0 j) (e.1.0 j) (e.1.1.0 j));
        write = λ g h c e. through write g h c (λ j. writing (e.0 j) (e.1.0 j) (e.1.1.0 j));
        weaken = λ g h c e. through weaken g h c (λ j. weakening_by (e.0 j) (e.1.0 j));
        reduce = λ g h c e. through reduce g h c (λ j. reducing (e.0 j) (e.1.0 j));
        validate = λ g h c e. through validate g h c (λ j. validating (e.0 j) (e.1.0 j));
        new_password = λ g h c e. through new_password g h c (λ j. renewing (e.0 j) (e.1.0 j) (e.1.1.0 j));
        join = λ g h c e. through join g h c (λ j. joining (e.0 j) (e.1.0 j) (e.1.1.0 j));
        look = λ g h c e. through look g h c (λ j. looking (e.0 j) (e.1.0 j) (e.1.1.0 j));
      }
