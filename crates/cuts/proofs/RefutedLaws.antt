-- What is not so: the replies that are written out differ before reduction; a segment that one mask alone keeps is referenced after a cut by
-- either; the replies for a handle with one flat subselector refuse its double cuts; and a record with a longer password opens to a
-- handle whose cut it does not open to.
-- Assumes nothing.
use mathlib.Core.Path.{◌≡◌, refl, sym, ap, ◌∙◌, subst}
use mathlib.Core.Logic.{inl}
use Prim.Native.Nat.{ℕ, zero, suc, ◌+◌, ◌<◌}
use native.Mathlib.Omega.{arith}
use mathlib.Core.List.{List, [], ◌∷◌, ◌++◌}
use lib.ListN.{length, get_or, replicate, length-replicate}
use lib.Seq.{get_or-append-add}
use Rattle.bits.specs.Bytes.{Bytes}
use Rattle.loops.specs.Below.{every}
use Rattle.sizes.specs.Sizes.{memory}
use Rattle.bits.specs.Sets.{has, count}
use Rattle.bits.proofs.OperationLaws.{has_full}
use Rattle.handle.specs.declared.Handle.{Handle}
use Rattle.handle.specs.Words.{Bit, subselector, References}
use Rattle.handle.specs.Handles.{Name, name_of, width_of, decoded, written, weaken_number, weakened, weakening}
use Rattle.calls.proofs.SelectorWords.{bit_is}
use Rattle.handle.specs.Conversion.{SixteenBytes}
use Rattle.calls.specs.Calls.{Copy, weakening_by, validating}
use Rattle.calls.specs.Numbers.{tests, number}
use Rattle.calls.specs.Steps.{Reply, Outcome, left, given}
use Rattle.calls.specs.Literals.{none, told, sixteen}
use Rattle.isolation.specs.UseLists.{of_eight, keeping}
use Rattle.isolation.proofs.UseCopyLaws.{sound_keeping}
use Rattle.calls.proofs.Computing.{computing}
use Rattle.calls.proofs.StepLaws.{number_below, number_below_lem, step_done, step_number}
use Rattle.calls.proofs.WeakenLaws.{step_weaken}
use Rattle.cuts.specs.Cuts.{first_second, second_first, once}
use Rattle.cuts.specs.Words.{Both, cut, on_copy, Start}
use Rattle.cuts.specs.cases.Replies.{by, g, last, spent, Told, WayMet}
use Rattle.cuts.specs.cases.Replies as L
use Rattle.cuts.specs.cases.Refuted.{EitherBit, EqualBefore, ByEither, DoneTogether, Unasked, BytesGiven, by_length, Refuted}
use Rattle.cuts.proofs.ReplyLaws.{of, weakening_told}
use Rattle.cuts.proofs.SpentLaws.{spent_told, last_back}
use Rattle.cuts.proofs.ThreeLaws.{whole, whole_holds, whole_bytes, whole_back}
use Rattle.cuts.proofs.MetLaws.{told_at, both_tested, low_after, low, sixteen_of, Gives, gives_none, then, ways_met}

-- the first byte of the selector
selector_at_lem : (q s : List ℕ) → length q ≡ 16 → get_or (by q s) 19 0 ≡ get_or s 0 0
selector_at_lem q s l =
    ap (λ (n : ℕ). get_or (by q s) n 0) (let e : 19 ≡ length (0 ∷ 3 ∷ 7 ∷ q) + 0 = omega arith in e)
    ∙ get_or-append-add (0 ∷ 3 ∷ 7 ∷ q) s 0 0

ones : Bytes 16 (sixteen 1)
ones = record { long = refl; below = low (sixteen 1) refl }

module _ (f : Name → List ℕ → ℕ → List ℕ) (s : SixteenBytes f) where
  abbrev on : Copy
  on = keeping of_eight (sixteen 1) (sixteen 1) 0 0 0 0 0

  abbrev name : Name
  name = record { node = 3; local = 7 }

  met : WayMet f of_eight 1 (sixteen 1) on
  met = ((ways_met f s).0 of_eight (sixteen 1) (sixteen 1) 0 0 0 0 0 ones ones).0

  before : ¬ EqualBefore f
  before e =
      let q = e 1 (by (sixteen 1) (L.written of_eight).whole) on met.start 0x75 0xdc 0xa554 met.both first_second second_first
      (met.done first_second) (met.done second_first) in
      let t : ◌≡◌ {A = ℕ} 0x75 0xdc =
      sym (selector_at_lem (g f (g f (sixteen 1) 0x75) 0xde) (0x75 ∷ 0xde ∷ 0xff ∷ 0xff ∷ []) (s name (g f (sixteen 1) 0x75) 0xde))
      ∙ ap (λ (l : List ℕ). get_or l 19 0) (sym (met.gives first_second) ∙ q ∙ met.gives second_first)
      ∙ selector_at_lem (g f (g f (sixteen 1) 0xdc) 0x77) (0xdc ∷ 0x77 ∷ 0xff ∷ 0xff ∷ []) (s name (g f (sixteen 1) 0xdc) 0x77) in
      omega arith

  -- by a mask that has all bits the handle comes back
  abbrev h : List ℕ
  h = by (sixteen 1) (L.written of_eight).whole

  back : decoded h ≡ whole f (sixteen 1) of_eight
  back = whole_back f (sixteen 1) of_eight refl

  unchanged : Gives f of_eight (sixteen 1) (sixteen 1) 0 0 0 0 0 (255 ∷ []) h h
  unfolding has count weaken_number weakened weakening
  unchanged =
      then f of_eight (sixteen 1) (sixteen 1) 0 0 0 0 0 255 h h h 8 []
      (weakening_told f of_eight (sixteen 1) (sixteen 1) 0 0 0 0 0 (whole f (sixteen 1) of_eight) (whole_holds f (sixteen 1) of_eight refl) h
      (whole_bytes f (sixteen 1) of_eight) (whole f (sixteen 1) of_eight) h 8 255 (whole_bytes f (sixteen 1) of_eight) refl)
      (gives_none f of_eight (sixteen 1) (sixteen 1) 0 0 0 0 0 h)

  wide : width_of (decoded h) ≡ 8
  wide = ap width_of back

  either : ¬ ByEither f
  either e =
      let two = e 1 h on met.start 255 127 255 all in
      let t = ((two.each once unchanged.done).references 7 (subst (λ (n : ℕ). 7 < n) (sym wide) (omega arith))).0 seven in
      let q : ◌≡◌ {A = ℕ} 0 1 = t.1.1 in omega arith
    where
      all : EitherBit (width_of (decoded h)) 255 127 255
      all i l = (
        λ r. inl r,
        λ r. (bit_is i 255).out (has_full 8 i (subst (λ (n : ℕ). i < n) wide l)),
      )

      shown : (j : ℕ) → j < 4 → Bit 7 (subselector (whole f (sixteen 1) of_eight) j)
      shown zero l = refl
      shown (suc zero) l = refl
      shown (suc (suc zero)) l = refl
      shown (suc (suc (suc zero))) l = refl
      shown (suc (suc (suc (suc j)))) l = absurd (omega arith)

      seven : References (decoded (cut (on_copy f on) (255 ∷ []) h)) 7
      seven = subst (λ (k : Handle). References k 7) (sym (ap decoded unchanged.bytes ∙ back)) shown

-- ---- one flat subselector

module _ (f : Name → List ℕ → ℕ → List ℕ) (o : BytesGiven f) where
  abbrev ours : Copy
  ours = keeping of_eight (sixteen 1) (sixteen 1) 0 0 0 0 0

  abbrev one : Name
  one = record { node = 3; local = 7 }

  abbrev old : List ℕ
  old = last f (sixteen 1)

  long : SixteenBytes f
  long n p c = (o n p c).long

  replies : Told f ours (spent f 1 (sixteen 1))
  replies = (spent_told f long (sixteen 1) (sixteen 1) 0 0 0 0 0).reading

  low_old : (i : ℕ) → get_or old i 0 < 256
  low_old =
      low_after (0 ∷ 3 ∷ 7 ∷ []) (g f (g f (g f (sixteen 1) 0xfe) 0xfd) 0xfb ++ (0xfe ∷ 0xfd ∷ 0xfb ∷ 0xff ∷ []))
      (low (0 ∷ 3 ∷ 7 ∷ []) refl)
      (low_after (g f (g f (g f (sixteen 1) 0xfe) 0xfd) 0xfb) (0xfe ∷ 0xfd ∷ 0xfb ∷ 0xff ∷ [])
      (o one (g f (g f (sixteen 1) 0xfe) 0xfd) 0xfb).below (low (0xfe ∷ 0xfd ∷ 0xfb ∷ 0xff ∷ []) refl))

  abbrev cut_before : List ℕ
  cut_before = g f (g f (g f (sixteen 1) 0xfe) 0xfd) 0xfb

  abbrev cut_to_lem : ℕ → List ℕ
  cut_to_lem x = by (g f cut_before x) (0xfe ∷ 0xfd ∷ 0xfb ∷ x ∷ [])

  kept : decoded old ≡ of of_eight cut_before (0xfe ∷ 0xfd ∷ 0xfb ∷ 0xff ∷ [])
  kept = last_back f long (sixteen 1) (sixteen 1) 0 0 0 0 0 (sixteen 1)

  start : Start f 1 old ours
  start =
      record {
        bytes = low_old;
        sixteen = sixteen_of of_eight (sixteen 1) (sixteen 1) (refl, refl) 1 (decoded old) (ap name_of kept);
        valid = ap (λ (r : Reply). r.number) (told_at f ours (spent f 1 (sixteen 1)) replies 0);
      }

  shared : Both (width_of (decoded old)) 0x78 0xb8 0x38
  unfolding every has
  shared =
      subst (λ (n : ℕ). Both n 0x78 0xb8 0x38) (sym (ap width_of kept)) (both_tested 8 0x78 0xb8 0x38 refl)

  once_done : Gives f of_eight (sixteen 1) (sixteen 1) 0 0 0 0 0 (0x38 ∷ []) old (cut_to_lem 0x3f)
  once_done =
      then f of_eight (sixteen 1) (sixteen 1) 0 0 0 0 0 0x38 old (cut_to_lem 0x3f) (cut_to_lem 0x3f) 3 [] (told_at f ours (spent f 1 (sixteen 1)) replies 6)
      (gives_none f of_eight (sixteen 1) (sixteen 1) 0 0 0 0 0 (cut_to_lem 0x3f))

  -- the first of the two cuts
  first_done : Gives f of_eight (sixteen 1) (sixteen 1) 0 0 0 0 0 (0x78 ∷ []) old (cut_to_lem 0x7f)
  first_done =
      then f of_eight (sixteen 1) (sixteen 1) 0 0 0 0 0 0x78 old (cut_to_lem 0x7f) (cut_to_lem 0x7f) 4 [] (told_at f ours (spent f 1 (sixteen 1)) replies 1)
      (gives_none f of_eight (sixteen 1) (sixteen 1) 0 0 0 0 0 (cut_to_lem 0x7f))

  together : ¬ DoneTogether f
  together e =
      let d = e 1 old ours start 0x78 0xb8 0x38 shared once_done.done first_second in
      let q : ◌≡◌ {A = ℕ} 17 0 =
      sym (ap (λ (r : Reply). r.number) (told_at f ours (spent f 1 (sixteen 1)) replies 2))
      ∙ ap (λ (k : List ℕ). (on_copy f ours (weakening_by 0xb8 k)).number) (sym first_done.bytes)
      ∙ d.1.0 in
      omega arith

-- ---- a password of seventeen bytes

abbrev longer : Copy
longer = keeping of_eight (replicate 17 1) (sixteen 1) 0 0 0 0 0

abbrev primary : List ℕ
primary = by (sixteen 1) (255 ∷ 255 ∷ 255 ∷ 255 ∷ [])

abbrev after : List ℕ
after = by (sixteen 16) (127 ∷ 255 ∷ 255 ∷ 255 ∷ [])

judged : (h : List ℕ) (n : ℕ) → number_below by_length (validating 1 h) longer.store memory ≡ n
    → number by_length (validating 1 h) longer.store memory ≡ n
judged h n e =
    number_below_lem by_length (validating 1 h) longer.store memory (sound_keeping of_eight (replicate 17 1) (sixteen 1) 0 0 0 0 0) ∙ e

-- the primary handle validates, by sixteen of its bytes
valid : (on_copy by_length longer (validating 1 primary)).number ≡ 0
unfolding tests computing left given
valid =
    ap (λ (o : Outcome). o.reply.number) (step_done by_length (validating 1 primary) longer (judged primary 0 refl))

cut_once : on_copy by_length longer (weakening_by 127 primary) ≡ told 0 after none 7 0 []
unfolding computing weakening weaken_number written
cut_once = ap (λ (o : Outcome). o.reply) (step_weaken by_length (weakening_by 127 primary).args longer)

-- and what it is cut to does not
refused : number by_length (validating 1 after) longer.store memory ≡ 9
unfolding tests computing
refused = judged after 9 refl

unasked : ¬ Unasked by_length
unasked e =
    let cuts = then by_length of_eight (replicate 17 1) (sixteen 1) 0 0 0 0 0 127 primary after after 7 [] cut_once
    (gives_none by_length of_eight (replicate 17 1) (sixteen 1) 0 0 0 0 0 after) in
    let two = e 1 primary longer (low primary refl) valid 127 127 127 (λ i l. (λ r. (r, r), λ r. r.0)) in
    let z = step_number by_length (validating 1 after) longer
    (ap (λ (k : List ℕ). (on_copy by_length longer (validating 1 k)).number) (sym cuts.bytes) ∙ (two.each once cuts.done).validates) in
    let q : ◌≡◌ {A = ℕ} 9 0 = sym refused ∙ z in omega arith

pub refuted : Refuted
refuted = record { before = before; either = either; together = together; gives = λ n p c. length-replicate 16 (length p); unasked = unasked }
