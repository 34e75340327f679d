-- A row of calls 7 is a row of weakenings: the handle of each reply is read back from its bytes, so that the next call gets what
-- the weakening made. It has the name and the width of the handle that came.
-- Assumes nothing.
use mathlib.Core.Path.{◌≡◌, refl, sym, ap, ◌∙◌, subst}
use Prim.Native.Nat.{ℕ}
use mathlib.Core.List.{List, [], ◌∷◌}
use Rattle.handle.specs.Handles.{Weakened}
use Rattle.handle.specs.Handles.{Name, name_of, width_of, bytes_in, decoded, written, Holdable, weakened, weakening}
use Rattle.handle.specs.Conversion.{SixteenBytes}
use Rattle.handle.proofs.TripLaws.{read_laid}
use Rattle.handle.proofs.HeldLaws.{holdable_weakened}
use Rattle.handle.proofs.HandleLaws.{name_weakened, width_weakened}
use Rattle.handle.proofs.EmptyLaws.{handle_done}
use Rattle.calls.specs.Calls.{Copy, weakening_by}
use Rattle.calls.specs.Steps.{Reply, Outcome, weaken_reply}
use Rattle.calls.proofs.WeakenLaws.{step_weaken}
use Rattle.cuts.specs.Cuts.{cut_by, Accepted}
use Rattle.cuts.specs.Words.{weaker, cut, Done, on_copy}

module _ (f : Name → List ℕ → ℕ → List ℕ) (sixteen : SixteenBytes f) (c : Copy) where
  pub record Carried (w : ℕ) (name : Name) (ms l : List ℕ) : Type 0 where
    pub accepted : Accepted w (f name) ms (decoded l)
    pub back : decoded (cut (on_copy f c) ms l) ≡ cut_by w (f name) ms (decoded l)
    pub holdable : Holdable (decoded (cut (on_copy f c) ms l))

  module _ (w : ℕ) (name : Name) where
    -- one call
    module _ (m : ℕ) (l : List ℕ) (ew : width_of (decoded l) ≡ w) (en : name_of (decoded l) ≡ name) where
      abbrev told : Weakened
      told = weakening w (f name) (decoded l) m

      pub reply_is : on_copy f c (weakening_by m l) ≡ weaken_reply told
      reply_is =
          ap (λ (o : Outcome). o.reply) (step_weaken f (weakening_by m l).args c)
          ∙ (λ j. weaken_reply (weakening (ew j) (f (en j)) (decoded l) m))

      pub number_is : (on_copy f c (weakening_by m l)).number ≡ told.number
      number_is = ap (λ (r : Reply). r.number) reply_is

      module _ (o : Holdable (decoded l)) (d : (on_copy f c (weakening_by m l)).number ≡ 0) where
        made : told.handle ≡ weakened w (f name) (decoded l) m
        made = handle_done w (f name) (decoded l) m (sym number_is ∙ d)

        held : Holdable told.handle
        held =
            subst Holdable (sym made)
            (subst (λ (v : ℕ). Holdable (weakened v (f name) (decoded l) m)) ew
            (holdable_weakened (f name) (sixteen name) (decoded l) o m))

        -- the next call gets what was made
        back : decoded (weaker (on_copy f c) m l) ≡ told.handle
        unfolding written
        back = ap (λ (r : Reply). decoded (bytes_in r.first)) reply_is ∙ read_laid told.handle held

        wide : width_of (decoded (weaker (on_copy f c) m l)) ≡ w
        wide = ap width_of (back ∙ made) ∙ width_weakened w (f name) (decoded l) m ∙ ew

        named : name_of (decoded (weaker (on_copy f c) m l)) ≡ name
        named = ap name_of (back ∙ made) ∙ name_weakened w (f name) (decoded l) m ∙ en

        holds : Holdable (decoded (weaker (on_copy f c) m l))
        holds = subst Holdable (sym back) held

    pub carried : (ms l : List ℕ) → width_of (decoded l) ≡ w → name_of (decoded l) ≡ name → Holdable (decoded l)
        → Done (on_copy f c) ms l → Carried w name ms l
    carried [] l ew en o d = record { accepted = tt; back = refl; holdable = o }
    carried (m ∷ ms) l ew en o d =
        let r =
        carried ms (weaker (on_copy f c) m l) (wide m l ew en o d.0) (named m l ew en o d.0) (holds m l ew en o d.0) d.1 in
        record {
          accepted =
              (sym (number_is m l ew en) ∙ d.0, subst (Accepted w (f name) ms) (back m l ew en o d.0) r.accepted);
          back = r.back ∙ ap (cut_by w (f name) ms) (back m l ew en o d.0);
          holdable = r.holdable;
        }

    -- and weakenings that are accepted are calls done
    pub accepted_done : (ms l : List ℕ) → width_of (decoded l) ≡ w → name_of (decoded l) ≡ name → Holdable (decoded l)
        → Accepted w (f name) ms (decoded l) → Done (on_copy f c) ms l
    accepted_done [] l ew en o d = tt
    accepted_done (m ∷ ms) l ew en o d =
        let z : (on_copy f c (weakening_by m l)).number ≡ 0 = number_is m l ew en ∙ d.0 in (
          z,
          accepted_done ms (weaker (on_copy f c) m l) (wide m l ew en o z) (named m l ew en o z) (holds m l ew en o z)
              (subst (Accepted w (f name) ms) (sym (back m l ew en o z)) d.1),
        )
