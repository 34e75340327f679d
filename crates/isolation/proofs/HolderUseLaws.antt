-- The uses of §6 and §3: the theorems apply to the copies whatever is called, so that nothing is run. A freeze is done on them, which
-- is computed for each width.
-- Assumes nothing.
use mathlib.Core.Path.{◌≡◌, refl, sym, ap, ◌∙◌}
use mathlib.Core.Logic.{◌≢◌}
use Prim.Native.Nat.{ℕ, ◌+◌, ◌*◌, ◌<◌}
use native.Mathlib.Omega.{arith}
use mathlib.Core.Bool.{true}
use mathlib.Core.List.{List, [], ◌∷◌, ◌++◌}
use lib.ListN.{get_or}
use Rattle.handle.specs.Handles.{Name}
use Rattle.store.specs.Records.{cluster_at}
use Rattle.store.proofs.ChangeLaws.{put_other}
use Rattle.calls.specs.Calls.{Copy, Call, renewing, freezing}
use Rattle.calls.specs.Numbers.{tests}
use Rattle.calls.specs.Steps.{run}
use Rattle.calls.specs.Literals.{sixteen}
use Rattle.calls.proofs.Computing.{computing}
use Rattle.calls.proofs.StepLaws.{number_below_lem}
use Rattle.isolation.specs.Copies.{Done}
use Rattle.isolation.specs.Renewals.{SameButOther, Guess, Untold}
use Rattle.isolation.specs.Frozen.{frozen_at, Fixed, FromThenOn}
use Rattle.isolation.specs.UseLists.{Wide, of_four, of_eight, of_sixteen, top, own, rest, apart, records, low, high, keeping}
use Rattle.isolation.specs.Uses.{UntoldUses, OtherUses, FrozenUses}
use Rattle.isolation.proofs.UseCopyLaws.{sound_keeping, top_low, at_top, its_top}
use Rattle.isolation.proofs.RenewalLaws.{other_untold, guesses_untold}
use Rattle.isolation.proofs.FrozenLaws.{frozen_stays, fixed_from_then_on}

-- ---- §6

module _ (v : Wide) (e : List ℕ) where
  -- copies that differ in nothing but passwords, with any memory, one that is not sound too
  abbrev stored : List ℕ → List ℕ → Copy
  stored r w = record { store = records v r w; memory = e }

  other_records : (r w s u : List ℕ) (n : ℕ) → n ≢ 31 → cluster_at (records v r w) n ≡ cluster_at (records v s u) n
  other_records r w s u n ne = put_other rest 31 (apart v r w) n ne ∙ sym (put_other rest 31 (apart v s u) n ne)

  write_apart : (r w u : List ℕ) → SameButOther 1 31 (stored r w) (stored r u)
  write_apart r w u =
      record {
        active = refl;
        others = other_records r w r u;
        table = refl;
        read = λ q. refl;
        write = λ q. absurd (omega arith);
        memory = refl;
      }

  read_apart : (r w u : List ℕ) → SameButOther 2 31 (stored w r) (stored u r)
  read_apart r w u =
      record {
        active = refl;
        others = other_records w r u r;
        table = refl;
        read = λ q. absurd (omega arith);
        write = λ q. refl;
        memory = refl;
      }

  module _ (f : Name → List ℕ → ℕ → List ℕ) (r w u h p : List ℕ) (gs : List Guess) where
    untold_1 : Untold f 1 31 (renewing 1 h p) (stored r w) (stored r u)
    untold_1 = other_untold f 1 31 h p (stored r w) (stored r u) (write_apart r w u)

    untold_2 : Untold f 2 31 (renewing 2 h p) (stored w r) (stored u r)
    untold_2 = other_untold f 2 31 h p (stored w r) (stored u r) (read_apart r w u)

    reading_uses : UntoldUses f v 1 (stored r w) (stored r u) h p gs
    reading_uses =
        record {
          reply = untold_1.reply;
          active = untold_1.left.active;
          others = untold_1.left.others 3 (λ q. omega arith);
          table = untold_1.left.table;
          own = untold_1.left.read refl;
          memory = untold_1.left.memory;
          guessed = guesses_untold f 1 31 gs (stored r w) (stored r u) (write_apart r w u);
        }

    writing_uses : UntoldUses f v 2 (stored w r) (stored u r) h p gs
    writing_uses =
        record {
          reply = untold_2.reply;
          active = untold_2.left.active;
          others = untold_2.left.others 3 (λ q. omega arith);
          table = untold_2.left.table;
          own = untold_2.left.write refl;
          memory = untold_2.left.memory;
          guessed = guesses_untold f 2 31 gs (stored w r) (stored u r) (read_apart r w u);
        }

pub other_uses : (f : Name → List ℕ → ℕ → List ℕ) (v : Wide) (r w u h p : List ℕ) (gs : List Guess) (b c d y z : ℕ)
    → OtherUses f v r w u h p gs b c d y z
other_uses f v r w u h p gs b c d y z =
    record {
      reading = reading_uses v (low z ++ high b c d y) f r w u h p gs;
      writing = writing_uses v (low z ++ high b c d y) f r w u h p gs;
      unsound_reading = reading_uses v [] f r w u h p gs;
      unsound_writing = writing_uses v [] f r w u h p gs;
    }

-- ---- §3

-- the bytes of the highest segment, where it is fixed
pub top_bytes : (v : Wide) (r w : List ℕ) (b c d y z : ℕ) (e : Copy) → Fixed 3 7 (top v) 0 4 (keeping v r w b c d y z) e
    → (i : ℕ) → i < 4 → get_or e.memory (12288 + i) 0 ≡ b
top_bytes v r w b c d y z e fixed i h =
    let same : 3 * 4096 + (0 + i) ≡ 12288 + i = omega arith in
    ap (λ (q : ℕ). get_or e.memory q 0) (sym same)
    ∙ fixed.bytes i h
    ∙ ap (λ (q : ℕ). get_or (keeping v r w b c d y z).memory q 0) same
    ∙ at_top v r w b c d y z i h

module _ (f : Name → List ℕ → ℕ → List ℕ) (v : Wide) where
  module _ (r w : List ℕ) (b c d y z : ℕ) (xs : List Call) where
    pub its_mark : frozen_at (keeping v r w b c d y z).store 3 7 (top v) ≡ true
    its_mark =
        elim v as (λ (u : Wide). frozen_at (keeping u r w b c d y z).store 3 7 (top u) ≡ true)
        [ of_four ↦ refl | of_eight ↦ refl | of_sixteen ↦ refl ]

    fixed : Fixed 3 7 (top v) 0 4 (keeping v r w b c d y z) (run f xs (keeping v r w b c d y z)).copy
    fixed =
        frozen_stays f 3 7 (top v) 0 4 (omega arith) (omega arith) (top_low v) xs (keeping v r w b c d y z)
        (sound_keeping v r w b c d y z) (its_top v r w) its_mark

    pub frozen_uses : FrozenUses f v r w b c d y z xs
    frozen_uses =
        record {
          active = fixed.active;
          place = fixed.place;
          frozen = fixed.frozen;
          bytes = top_bytes v r w b c d y z _ fixed;
        }

module _ (f : Name → List ℕ → ℕ → List ℕ) where
  abbrev copy : Wide → List ℕ → ℕ → ℕ → ℕ → ℕ → ℕ → Copy
  copy v r b c d y z = keeping v r (sixteen 34) b c d y z

  pub freeze_done : (v : Wide) (r : List ℕ) (b c d y z : ℕ) → Done f (freezing 3 0 (own v 3 7 34)) (copy v r b c d y z)
  unfolding tests computing
  freeze_done of_four r b c d y z =
      number_below_lem f (freezing 3 0 (own of_four 3 7 34)) _ _ (sound_keeping of_four r (sixteen 34) b c d y z) ∙ refl
  freeze_done of_eight r b c d y z =
      number_below_lem f (freezing 3 0 (own of_eight 3 7 34)) _ _ (sound_keeping of_eight r (sixteen 34) b c d y z) ∙ refl
  freeze_done of_sixteen r b c d y z =
      number_below_lem f (freezing 3 0 (own of_sixteen 3 7 34)) _ _ (sound_keeping of_sixteen r (sixteen 34) b c d y z) ∙ refl

  pub from_then_on : (v : Wide) (r : List ℕ) (b c d y z : ℕ) (xs : List Call)
      → FromThenOn 3 7 0 (copy v r b c d y z) (run f (freezing 3 0 (own v 3 7 34) ∷ xs) (copy v r b c d y z)).copy
  unfolding computing
  from_then_on of_four r b c d y z xs = fixed_from_then_on f (freezing 3 0 (own of_four 3 7 34)).args xs _ (freeze_done of_four r b c d y z)
  from_then_on of_eight r b c d y z xs =
      fixed_from_then_on f (freezing 3 0 (own of_eight 3 7 34)).args xs _ (freeze_done of_eight r b c d y z)
  from_then_on of_sixteen r b c d y z xs =
      fixed_from_then_on f (freezing 3 0 (own of_sixteen 3 7 34)).args xs _ (freeze_done of_sixteen r b c d y z)

  -- a segment that is frozen already
  pub again_done : (v : Wide) (r : List ℕ) (b c d y z : ℕ) → Done f (freezing 3 (top v) (own v 3 7 34)) (copy v r b c d y z)
  unfolding tests computing
  again_done of_four r b c d y z =
      number_below_lem f (freezing 3 (top of_four) (own of_four 3 7 34)) _ _ (sound_keeping of_four r (sixteen 34) b c d y z) ∙ refl
  again_done of_eight r b c d y z =
      number_below_lem f (freezing 3 (top of_eight) (own of_eight 3 7 34)) _ _ (sound_keeping of_eight r (sixteen 34) b c d y z) ∙ refl
  again_done of_sixteen r b c d y z =
      number_below_lem f (freezing 3 (top of_sixteen) (own of_sixteen 3 7 34)) _ _ (sound_keeping of_sixteen r (sixteen 34) b c d y z) ∙ refl

  pub again_from : (v : Wide) (r : List ℕ) (b c d y z : ℕ) (xs : List Call)
      → FromThenOn 3 7 (top v) (copy v r b c d y z) (run f (freezing 3 (top v) (own v 3 7 34) ∷ xs) (copy v r b c d y z)).copy
  unfolding computing
  again_from of_four r b c d y z xs = fixed_from_then_on f (freezing 3 (top of_four) (own of_four 3 7 34)).args xs _ (again_done of_four r b c d y z)
  again_from of_eight r b c d y z xs =
      fixed_from_then_on f (freezing 3 (top of_eight) (own of_eight 3 7 34)).args xs _ (again_done of_eight r b c d y z)
  again_from of_sixteen r b c d y z xs =
      fixed_from_then_on f (freezing 3 (top of_sixteen) (own of_sixteen 3 7 34)).args xs _ (again_done of_sixteen r b c d y z)
