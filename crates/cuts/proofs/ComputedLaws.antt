-- The cuts of one handle computed, whatever the conversion and the primary password.
-- Assumes nothing.
use Prim.Native.Nat.{ℕ}
use native.Mathlib.Omega.{arith}
use mathlib.Core.Path.{◌≡◌, refl, sym, ap}
use mathlib.Core.List.{List}
use lib.ListN.{get_or}
use Rattle.bits.specs.Sets.{has, set_of, count}
use Rattle.handle.specs.Handles.{weaken_number, weakened, reduced, weakening}
use Rattle.handle.specs.declared.Width.{Width}
use Rattle.handle.specs.declared.Width.TheVariants.{Four, Eight, Sixteen}
use Rattle.handle.specs.Widths.{bits_of}
use Rattle.handle.specs.Opens.{primary_handle}
use Rattle.handle.proofs.OpensLaws.{opens_primary}
use Rattle.cuts.specs.Cuts.{Valid}
use Rattle.loops.specs.Search.{least_from, least}
use Rattle.chain.specs.Way.{reached, numbered, met, way, records}
use Rattle.register.specs.Registers.{steps, made}
use Rattle.cuts.specs.cases.Computed.{cuts, tries, CutsTold, CutsApart, Computed, EntriesComputed}
use Rattle.cuts.proofs.SameLaws.{opens_as}

module _ (f : List ℕ → ℕ → List ℕ) (p : List ℕ) where
  told : CutsTold f p
  unfolding has set_of count weaken_number weakened reduced weakening cuts tries
  told = record { made = refl; tried = refl }

  primary : (v : Width) → Valid (bits_of v) f p (primary_handle v (record { node = 0; local = 2 }) p)
  primary v =
      opens_as (bits_of v) f (record { node = 0; local = 2 }) p
      (opens_primary v f (record { node = 0; local = 2 }) p)
      (λ i l. sym ((opens_primary v f (record { node = 0; local = 2 }) p).refers i l))

  apart : CutsApart f p
  unfolding has set_of count weaken_number weakened reduced weakening
  apart = record {
    valid = (primary Four, primary Eight, primary Sixteen);
    accepted =
        ((refl, (refl, tt)), (refl, (refl, tt)), (refl, (refl, tt)), (refl, (refl, tt)), (refl, (refl, tt)), (refl, (refl, tt)));
    four = λ e. let q : ◌≡◌ {A = ℕ} 0x6 0xc = ap (λ (l : List ℕ). get_or l 0 0) e in omega arith;
    eight = λ e. let q : ◌≡◌ {A = ℕ} 0x75 0xdc = ap (λ (l : List ℕ). get_or l 0 0) e in omega arith;
    sixteen = λ e. let q : ◌≡◌ {A = ℕ} 0x7531 0xdb9c = ap (λ (l : List ℕ). get_or l 0 0) e in omega arith;
  }

pub computed : Computed
computed f p = (told f p, apart f p)

pub entries_told : EntriesComputed
unfolding has set_of count weaken_number weakened weakening reached numbered met way records least least_from steps made
entries_told f p = record { first = refl; second = refl; again = refl }
