-- A call keeps a store in range: a new segment ends inside its node's memory, and passwords come in with sixteen bytes. That
-- they do is one computed test of a list of calls.
-- Assumes nothing.
use mathlib.Core.Path.{◌≡◌, refl}
use mathlib.Core.Bool.{Bool, true, false, not, ◌&&◌, ◌||◌, false≢true}
use mathlib.Core.List.{List, [], ◌∷◌}
use Prim.Native.Nat.{ℕ, zero, suc, ◌<◌}
use native.Mathlib.Omega.{arith}
use borrow.Author.Tests.{eqb-true, not-false}
use lib.Dec.{eqb}
use lib.ListN.{length}
use Rattle.loops.proofs.BelowLaws.{and_left, and_right}
use Rattle.sizes.specs.Sizes.{password_bytes}
use Rattle.handle.specs.Handles.{Name}
use Rattle.store.specs.Places.{present_at}
use Rattle.store.specs.Records.{table_at}
use Rattle.store.proofs.PlaceLaws.{inside_out}
use Rattle.store.proofs.PlacementLaws.{new_base_fits}
use Rattle.calls.specs.Calls.{Copy, Kind, Call, Arguments, call, uses, new_cluster, delete_cluster, new_segment, delete_segment}
use Rattle.calls.specs.Calls.{read, write, weaken, reduce, new_password, freeze, join, validate, look, node_for, record_for}
use Rattle.store.specs.Sound.{is_width}
use Rattle.calls.specs.Numbers.{number, bad_width}
use Rattle.calls.specs.Steps.{about, new_base_for, outcome, step, left, effects}
use Rattle.calls.proofs.DoneLaws.{done_range, done_width, new_base_lem}
use Rattle.image.specs.Ranges.{widths, PlaceFits, ClusterFits, StoreFits}
use Rattle.image.proofs.RangeLaws.{put_fits, place_fits, mark_fits, absent_fits, started_fits, inactive_fits, password_fits}
use Rattle.gelmuszta.specs.Fits.{PasswordsFit, AllFit, fitting}

module _ (f : Name → List ℕ → ℕ → List ℕ) where
  module _ (g : Arguments) (c : Copy) (k : StoreFits c.store) where
    about_fits : (x : Call) → number f x c.store (length c.memory) ≡ 0 → ClusterFits (about x c)
    about_fits x e =
        let r = done_range f x c.store (length c.memory) e in
        let n = r.node_low in
        let l = r.local_low in
        k.each (record_for x) (omega arith)

    new_fits : number f (call new_segment g) c.store (length c.memory) ≡ 0
        → PlaceFits (present_at (new_base_for (call new_segment g) (table_at c.store)) g.size)
    unfolding PlaceFits
    new_fits e =
        let base = new_base_for (call new_segment g) (table_at c.store) in
        let i = inside_out base g.size (new_base_fits (table_at c.store) (node_for (call new_segment g)) g.size base
        (new_base_lem f g c.store (length c.memory) e)).within in
        let some = i.some in
        let ends = i.ends in
        record { starts = omega arith; some = some; ends = omega arith }

    -- the width of a new cluster is one of the three
    width_fits : number f (call new_cluster g) c.store (length c.memory) ≡ 0 → g.width < widths
    unfolding bad_width
    width_fits e =
        go (eqb g.width 4) (eqb g.width 8) (eqb g.width 16) refl refl refl
        (not-false (is_width g.width) (done_width f (call new_cluster g) c.store (length c.memory) e))
      where
        go : (a b d : Bool) → eqb g.width 4 ≡ a → eqb g.width 8 ≡ b → eqb g.width 16 ≡ d → a || (b || d) ≡ true
            → g.width < 256
        go true b d ea eb ed q = let v = eqb-true g.width 4 ea in omega arith
        go false true d ea eb ed q = let v = eqb-true g.width 8 eb in omega arith
        go false false true ea eb ed q = let v = eqb-true g.width 16 ed in omega arith
        go false false false ea eb ed q = absurd (false≢true q)

    left_fits : (kind : Kind) → PasswordsFit (call kind g) → number f (call kind g) c.store (length c.memory) ≡ 0
        → StoreFits (left kind (call kind g) c).store
    unfolding effects
    left_fits new_cluster p e = put_fits c.store _ _ k
        (started_fits g.width g.first g.second (width_fits e) (p.first refl) (p.second refl))
    left_fits delete_cluster p e = put_fits c.store _ _ k inactive_fits
    left_fits new_segment p e =
        put_fits c.store _ _ k (place_fits _ g.segment _ (about_fits (call new_segment g) e) (new_fits e))
    left_fits delete_segment p e =
        put_fits c.store _ _ k (place_fits _ g.segment _ (about_fits (call delete_segment g) e) absent_fits)
    left_fits read p e = k
    left_fits write p e = k
    left_fits weaken p e = k
    left_fits reduce p e = k
    left_fits new_password p e =
        put_fits c.store _ _ k (password_fits _ g.mode g.first (about_fits (call new_password g) e) (p.first refl))
    left_fits freeze p e =
        put_fits c.store _ _ k (mark_fits _ g.segment (about_fits (call freeze g) e))
    left_fits join p e = k
    left_fits validate p e = k
    left_fits look p e = k

  pub step_fits : (x : Call) (c : Copy) → PasswordsFit x → StoreFits c.store → StoreFits (step f x c).copy.store
  unfolding step
  step_fits x c p k = go (number f x c.store (length c.memory)) refl
    where
      go : (n : ℕ) → number f x c.store (length c.memory) ≡ n → StoreFits (outcome f n x c).copy.store
      go zero e = left_fits x.args c k x.kind p e
      go (suc n) e = k

-- ---- a list that fits

-- a password has sixteen bytes if it is taken in
abbrev sixteen : Bool → List ℕ → Bool
sixteen used p = not used || eqb (length p) password_bytes

sixteen_out : (used : Bool) (p : List ℕ) → sixteen used p ≡ true → used ≡ true → length p ≡ password_bytes
sixteen_out true p e u = eqb-true (length p) password_bytes e
sixteen_out false p e u = absurd (false≢true u)

module _ (x : Call) where
  abbrev first : Bool
  first = sixteen (uses x.kind).first x.args.first

  abbrev second : Bool
  second = sixteen (uses x.kind).second x.args.second

  call_fits : (first && second) ≡ true → PasswordsFit x
  call_fits e =
      record {
        first = sixteen_out (uses x.kind).first x.args.first (and_left first second e);
        second = sixteen_out (uses x.kind).second x.args.second (and_right first second e);
      }

abbrev pub fits : List Call → Bool
fits [] = true
fits (x ∷ xs) = (first x && second x) && fits xs

pub fits_out : (xs : List Call) → fits xs ≡ true → AllFit xs
fits_out [] e = tt
fits_out (x ∷ xs) e =
    (call_fits x (and_left (first x && second x) (fits xs) e), fits_out xs (and_right (first x && second x) (fits xs) e))

pub all_fit : AllFit fitting
all_fit = fits_out fitting refl
