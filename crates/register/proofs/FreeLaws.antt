-- What becomes of an entry by two conversions, from handles that differ in the password alone, is alike but for passwords.
-- Assumes nothing.
use Prim.Native.Nat.{ℕ, zero, suc}
use native.Mathlib.Omega.{arith}
use mathlib.Core.Path.{◌≡◌, refl, sym, ap, ap₂, ◌∙◌}
use mathlib.Core.Bool.{Bool, true, false, not}
use mathlib.Core.Option.{Option, none, some}
use mathlib.Core.List.{List, [], ◌∷◌, ◌++◌}
use lib.Dec.{eqb}
use Rattle.loops.specs.Search.{least}
use Rattle.handle.specs.declared.Handle.{Handle}
use Rattle.handle.specs.Selectors.{references, referenced, keeps_all, first_flat, parameter}
use Rattle.handle.specs.Handles.{Name, name_of, width_of, renewed, cut, reply, weaken_number, weakened, weakening}
use Rattle.register.specs.Registers.{entries, way_of, masks_of, Made, failed, settled, weakened_by, stepped_at}
use Rattle.register.specs.Registers.{steps, ended, made, fails, tells, lowest, one_if, openers_up_to}
use Rattle.register.specs.Words.{SameButPassword, FreeOfPasswords, Free}

-- a handle without its password
abbrev bare : Handle → Handle
bare h = renewed h [] h.selector

bare_same : (h h' : Handle) → SameButPassword h h' → bare h ≡ bare h'
bare_same h h' s j =
    record { node = s.node j; local = s.local j; password = []; width = s.width j; selector = s.selector j }

record Alike (a b : Made) : Type 0 where
  number : a.number ≡ b.number
  handle : bare a.handle ≡ bare b.handle

alike : (a : Made) → Alike a a
alike a = record { number = refl; handle = refl }

-- ---- one weakening

number_bare : (h k : Handle) (mask : ℕ) → bare h ≡ bare k → weaken_number (width_of h) h mask ≡ weaken_number (width_of k) k mask
unfolding weaken_number
number_bare h k mask q = ap (λ (h : Handle). weaken_number (width_of h) h mask) q

abbrev forgets : List ℕ → ℕ → List ℕ
forgets p c = []

weakened_bare : (w : ℕ) (f : List ℕ → ℕ → List ℕ) (h : Handle) (mask : ℕ)
    → bare (weakened w f h mask) ≡ bare (weakened w forgets (bare h) mask)
unfolding weakened
weakened_bare w f h mask = go (keeps_all w mask h.selector)
  where
    go : (b : Bool)
        → bare (elim b [
          | true ↦ h
          | false ↦ cut f h (first_flat w h.selector) (parameter w mask h.selector)
        ])
        ≡ bare (elim b [
          | true ↦ bare h
          | false ↦ cut forgets (bare h) (first_flat w h.selector) (parameter w mask h.selector)
        ])
    go true = refl
    go false = refl

weakened_alike : (f g : List ℕ → ℕ → List ℕ) (h k : Handle) (mask : ℕ) → bare h ≡ bare k
    → bare (weakened (width_of h) f h mask) ≡ bare (weakened (width_of k) g k mask)
weakened_alike f g h k mask q =
    weakened_bare (width_of h) f h mask
    ∙ ap (λ (h : Handle). bare (weakened (width_of h) forgets h mask)) q
    ∙ sym (weakened_bare (width_of k) g k mask)

settled_alike : (n m : ℕ) (h k : Handle) → n ≡ m → bare h ≡ bare k → Alike (settled n h) (settled m k)
settled_alike zero zero h k q r = record { number = refl; handle = r }
settled_alike zero (suc m) h k q r = absurd (omega arith)
settled_alike (suc n) zero h k q r = absurd (omega arith)
settled_alike (suc n) (suc m) h k q r = record { number = q; handle = refl }

replied : (n c : ℕ) (h : Handle) → settled (reply n h c).number (reply n h c).handle ≡ settled n h
replied zero c h = refl
replied (suc n) c h = refl

module _ (f : Name → List ℕ → ℕ → List ℕ) where
  by_number : (h : Handle) (mask : ℕ)
      → weakened_by f h mask ≡ settled (weaken_number (width_of h) h mask) (weakened (width_of h) (f (name_of h)) h mask)
  unfolding weakening
  by_number h mask =
      replied (weaken_number (width_of h) h mask)
      (referenced (width_of h) (weakened (width_of h) (f (name_of h)) h mask).selector)
      (weakened (width_of h) (f (name_of h)) h mask)

alike_as : (a b c d : Made) → a ≡ b → c ≡ d → Alike b d → Alike a c
alike_as a b c d q r s =
    record {
      number = ap (λ (m : Made). m.number) q ∙ s.number ∙ sym (ap (λ (m : Made). m.number) r);
      handle = ap (λ (m : Made). bare m.handle) q ∙ s.handle ∙ sym (ap (λ (m : Made). bare m.handle) r);
    }

-- ---- all steps, and an entry

module _ (f g : Name → List ℕ → ℕ → List ℕ) where
  weakened_by_alike : (h k : Handle) (mask : ℕ) → bare h ≡ bare k → Alike (weakened_by f h mask) (weakened_by g k mask)
  weakened_by_alike h k mask q =
      alike_as (weakened_by f h mask) _ (weakened_by g k mask) _ (by_number f h mask) (by_number g k mask)
      (settled_alike (weaken_number (width_of h) h mask) (weaken_number (width_of k) k mask)
      (weakened (width_of h) (f (name_of h)) h mask) (weakened (width_of k) (g (name_of k)) k mask)
      (number_bare h k mask q) (weakened_alike (f (name_of h)) (g (name_of k)) h k mask q))

  stepped_alike : (n m : ℕ) (h k : Handle) (mask : ℕ) → n ≡ m → bare h ≡ bare k
      → Alike (stepped_at f n h mask) (stepped_at g m k mask)
  stepped_alike zero zero h k mask q r = weakened_by_alike h k mask r
  stepped_alike zero (suc m) h k mask q r = absurd (omega arith)
  stepped_alike (suc n) zero h k mask q r = absurd (omega arith)
  stepped_alike (suc n) (suc m) h k mask q r = record { number = q; handle = refl }

  module _ (h h' : Handle) (s : SameButPassword h h') where
    steps_alike : (ms : List ℕ) → Alike (steps f h ms) (steps g h' ms)
    unfolding steps
    steps_alike [] = record { number = refl; handle = bare_same h h' s }
    steps_alike (m ∷ ms) =
        let a = steps_alike ms in
        stepped_alike (steps f h ms).number (steps g h' ms).number (steps f h ms).handle (steps g h' ms).handle m
        a.number a.handle

    module _ (e : List ℕ) where
      made_alike : (k : ℕ) → Alike (made f h e k) (made g h' e k)
      unfolding made
      made_alike k = go (way_of e k).number (way_of e k).records
        where
          go : (n m : ℕ) → Alike (ended f h e k n m) (ended g h' e k n m)
          go zero m = steps_alike (masks_of e k m)
          go (suc n) m = alike (failed (suc n))

      -- ---- what is told

      number : (k : ℕ) → (made f h e k).number ≡ (made g h' e k).number
      number k = (made_alike k).number

      selector : (k : ℕ) → (made f h e k).handle.selector ≡ (made g h' e k).handle.selector
      selector k = ap (λ (h : Handle). h.selector) (made_alike k).handle

      tells_alike : (o : Option ℕ) → tells f h e o ≡ tells g h' e o
      tells_alike none = refl
      tells_alike (some i) = ap (λ (n : ℕ). record { number = n; entry = suc i }) (number (suc i))

      told : lowest f h e ≡ lowest g h' e
      unfolding lowest
      told =
          (λ j. tells f h e (least (entries e) (λ i. not (eqb (number (suc i) j) 0))))
          ∙ tells_alike (least (entries e) (fails g h' e))

      openers : (s n : ℕ) → openers_up_to f h e s n ≡ openers_up_to g h' e s n
      unfolding openers_up_to
      openers s zero = refl
      openers s (suc n) =
          ap₂ (λ (x y : List ℕ). x ++ y) (openers s n)
          (ap (λ (ss : List ℕ). one_if (references ss s) (suc n)) (selector (suc n)))

      all : FreeOfPasswords f g h h' e
      all = record { number = number; selector = selector; told = told; openers = openers }

  pub free_of_passwords : Free f g
  free_of_passwords h h' e s = all h h' s e
