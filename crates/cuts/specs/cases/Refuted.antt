-- Document 02, §10: what is not so. Each is the statement about calls with one thing changed.
--     EqualBefore        any two ways that are done give the same bytes before reduction
--     EitherBit w a b s  below the width, s has just the bits that a or b has
--     ByEither           the single cut is by the bits that either mask has
--     DoneTogether       wherever the single cut is done, so are the double cuts
--     Unasked            nothing is asked of the length of the cluster's password
--     BytesGiven f       the conversion f gives sixteen bytes, each below 256
--     by_length           a conversion that goes by the length of the password
--     Refuted            before, either: the first two are not so, whatever conversion gives sixteen bytes
--                        together: nor is the third, whatever conversion gives bytes; a handle with one flat subselector
--                        shows it
--                        unasked: nor is the last, for the conversion by_length, which gives sixteen bytes; a record whose
--                        password has seventeen bytes shows it, which no array of sixteen has
-- Assumes nothing.
use Rattle.std.specs.Prelude.{◌≡◌, ◌⊎◌, ◌↔◌, ℕ, ◌<◌, List, length, get_or, replicate}
use Rattle.bits.specs.Bytes.{Bytes}
use Rattle.handle.specs.Handles.{Name, width_of, decoded}
use Rattle.handle.specs.Conversion.{SixteenBytes}
use Rattle.handle.specs.Words.{Bit}
use Rattle.calls.specs.Calls.{Copy}
use Rattle.cuts.specs.Cuts.{Way, once, masks}
use Rattle.cuts.specs.Words.{Both, cut, Done, Validates, TwoCutsInWords, on_copy, Start}

abbrev pub EitherBit : ℕ → ℕ → ℕ → ℕ → Type 0
EitherBit w a b s = (i : ℕ) → i < w → Bit i s ↔ (Bit i a ⊎ Bit i b)

abbrev pub BytesGiven : (Name → List ℕ → ℕ → List ℕ) → Type 0
BytesGiven f = (n : Name) (p : List ℕ) (c : ℕ) → Bytes 16 (f n p c)

abbrev pub by_length : Name → List ℕ → ℕ → List ℕ
by_length n p c = replicate 16 (length p)

module _ (f : Name → List ℕ → ℕ → List ℕ) where
  abbrev pub EqualBefore : Type 0
  EqualBefore =
      (m : ℕ) (h : List ℕ) (c : Copy) → Start f m h c → (a b s : ℕ) → Both (width_of (decoded h)) a b s
      → (x y : Way) → Done (on_copy f c) (masks a b s x) h → Done (on_copy f c) (masks a b s y) h
      → cut (on_copy f c) (masks a b s x) h ≡ cut (on_copy f c) (masks a b s y) h

  abbrev pub ByEither : Type 0
  ByEither =
      (m : ℕ) (h : List ℕ) (c : Copy) → Start f m h c → (a b s : ℕ) → EitherBit (width_of (decoded h)) a b s
      → TwoCutsInWords (on_copy f c) m h a b s

  abbrev pub DoneTogether : Type 0
  DoneTogether =
      (m : ℕ) (h : List ℕ) (c : Copy) → Start f m h c → (a b s : ℕ) → Both (width_of (decoded h)) a b s
      → Done (on_copy f c) (masks a b s once) h → (x : Way) → Done (on_copy f c) (masks a b s x) h

  abbrev pub Unasked : Type 0
  Unasked =
      (m : ℕ) (h : List ℕ) (c : Copy) → ((i : ℕ) → get_or h i 0 < 256) → Validates (on_copy f c) m h
      → (a b s : ℕ) → Both (width_of (decoded h)) a b s → TwoCutsInWords (on_copy f c) m h a b s

pub record Refuted : Type 0 where
  pub before : (f : Name → List ℕ → ℕ → List ℕ) → SixteenBytes f → ¬ EqualBefore f
  pub either : (f : Name → List ℕ → ℕ → List ℕ) → SixteenBytes f → ¬ ByEither f
  pub together : (f : Name → List ℕ → ℕ → List ℕ) → BytesGiven f → ¬ DoneTogether f
  pub gives : SixteenBytes by_length
  pub unasked : ¬ Unasked by_length
