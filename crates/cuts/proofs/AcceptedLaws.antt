-- When cuts are accepted. A double cut that is accepted leaves a segment that both masks keep; and where it met no flat
-- subselector, neither mask excluded anything: so the single cut is accepted too. A cut takes one flat subselector, so two of them
-- are enough for any two cuts that leave something.
-- Assumes nothing.
use Prim.Native.Nat.{ℕ, zero, suc, ◌≤◌, ◌<◌}
use native.Mathlib.Omega.{arith}
use mathlib.Core.Path.{◌≡◌, refl, sym, ap, ◌∙◌}
use mathlib.Core.Bool.{Bool, true, false, not, ◌&&◌, false≢true, and-false, and_assoc}
use mathlib.Core.List.{List, [], ◌∷◌}
use lib.ListN.{length, get_or, set, length-set}
use Rattle.bits.specs.Sets.{has}
use Rattle.bits.proofs.SetLaws.{count_out, count_in}
use Rattle.loops.proofs.BelowLaws.{and_both}
use Rattle.handle.specs.declared.Handle.{Handle}
use Rattle.handle.specs.Selectors.{references, excludes, keeps, flat, any_flat, gapped, first_flat, keeps_all, keeps_none, parameter, spent}
use Rattle.handle.specs.Handles.{no_width, no_such_place, weaken_number, weakened, weakening}
use Rattle.handle.proofs.SelectorLaws.{keeps_each, first_here, first_past, any_flat_lem, parameter_not_flat}
use Rattle.handle.proofs.HandleLaws.{telling, wide_kept, place_kept, ungapped_done, some_kept, unspent, weakened_cases}
use Rattle.handle.proofs.HandleLaws.{gapped_weakened, references_weakened}
use Rattle.handle.proofs.EmptyLaws.{number_weakening, number_done, handle_done}
use Rattle.register.proofs.NarrowLaws.{first_cut}
use Rattle.cuts.specs.Cuts.{Shares}

-- what weakening a handle needs whatever the mask
pub record Placed (w : ℕ) (h : Handle) : Type 0 where
  pub wide : no_width h ≡ false
  pub place : no_such_place h ≡ false
  pub ungapped : gapped w h.selector ≡ false

module _ (w : ℕ) (h : Handle) (m : ℕ) where
  placed_done : weaken_number w h m ≡ 0 → Placed w h
  placed_done e = record { wide = wide_kept w h m e; place = place_kept w h m e; ungapped = ungapped_done w h m e }

  done_placed : Placed w h → keeps_none w m h.selector ≡ false → spent w m h.selector ≡ false → weaken_number w h m ≡ 0
  unfolding weaken_number
  done_placed r c d = λ j. telling (r.wide j) (r.place j) (r.ungapped j) (c j) (d j)

-- ---- the single cut, where a double one is accepted

module _ (w : ℕ) (f : List ℕ → ℕ → List ℕ) (h : Handle) (a b s : ℕ) (sh : Shares w a b s) where
  abbrev k : Handle
  k = weakened w f h a

  module _ (ea : weaken_number w h a ≡ 0) (eb : weaken_number w k b ≡ 0) where
    some : keeps_none w s h.selector ≡ false
    some = found (count_out w (keeps b k.selector) (some_kept w k b eb))
      where
        found : (i : ℕ) × (i < w) × (keeps b k.selector i ≡ true) → keeps_none w s h.selector ≡ false
        found (i, l, e) =
            count_in w (keeps s h.selector) i l
            (ap (λ (t : Bool). references h.selector i && t) (sh i l)
            ∙ sym (and_assoc (references h.selector i) (has i a) (has i b))
            ∙ ap (λ (t : Bool). t && has i b) (sym (references_weakened w f h a (unspent w h a ea) i l))
            ∙ e)

    -- where no subselector is flat, a mask that is accepted excludes none
    all_kept : (m : ℕ) → any_flat w h.selector ≡ false → spent w m h.selector ≡ false → keeps_all w m h.selector ≡ true
    all_kept m n e = go (keeps_all w m h.selector) (any_flat w h.selector) n e
      where
        go : (x y : Bool) → y ≡ false → not x && not y ≡ false → x ≡ true
        go true y n e = refl
        go false true n e = sym n
        go false false n e = sym e

    neither : (r x y z : Bool) → r && not z ≡ true → r ≡ r && x → r ≡ r && y → z ≡ x && y → ⊥
    neither false x y z e p q t = false≢true e
    neither true false y z e p q t = false≢true (sym p)
    neither true true false z e p q t = false≢true (sym q)
    neither true true true z e p q t = false≢true (sym (ap not t) ∙ e)

    whole_kept : any_flat w h.selector ≡ false → keeps_all w s h.selector ≡ true
    whole_kept n = go (keeps_all w s h.selector) refl
      where
        ka : keeps_all w a h.selector ≡ true
        ka = all_kept a n (unspent w h a ea)

        same : k ≡ h
        same = weakened_cases w f h a (λ q. q ≡ h) (λ e. refl) (λ e. absurd (false≢true (sym e ∙ ka)))

        kb : keeps_all w b h.selector ≡ true
        kb = all_kept b n (ap (λ (q : Handle). spent w b q.selector) (sym same) ∙ unspent w k b eb)

        found : (i : ℕ) × (i < w) × (excludes s h.selector i ≡ true) → ⊥
        found (i, l, e) =
            neither (references h.selector i) (has i a) (has i b) (has i s) e (keeps_each w a h.selector ka i l)
            (keeps_each w b h.selector kb i l) (sh i l)

        go : (t : Bool) → keeps_all w s h.selector ≡ t → t ≡ true
        go true e = refl
        go false e = absurd (found (count_out w (excludes s h.selector) e))

    left : spent w s h.selector ≡ false
    left = go (any_flat w h.selector) refl
      where
        go : (t : Bool) → any_flat w h.selector ≡ t → not (keeps_all w s h.selector) && not t ≡ false
        go true e = and-false (not (keeps_all w s h.selector))
        go false e = ap (λ (t : Bool). not t && true) (whole_kept e)

  pub once_accepted : (weakening w f h a).number ≡ 0 → (weakening w f (weakening w f h a).handle b).number ≡ 0
      → (weakening w f h s).number ≡ 0
  once_accepted da db = number_weakening w f h s ∙ done_placed w h s (placed_done w h a ea) (some ea eb) (left ea eb)
    where
      ea : weaken_number w h a ≡ 0
      ea = number_done w f h a da

      eb : weaken_number w k b ≡ 0
      eb = number_done w f k b (ap (λ (q : Handle). (weakening w f q b).number) (sym (handle_done w f h a da)) ∙ db)

-- ---- where two subselectors are flat

-- the first flat one is no further than any that is flat
pub first_within : (w : ℕ) (ss : List ℕ) (k : ℕ) → k < length ss → flat w (get_or ss k 0) ≡ true → first_flat w ss ≤ k
first_within w [] k l e = absurd (omega arith)
first_within w (s ∷ ss) zero l e = let q = first_here w s ss e in omega arith
first_within w (s ∷ ss) (suc k) l e = go (flat w s) refl (first_within w ss k (omega arith) e)
  where
    go : (b : Bool) → flat w s ≡ b → first_flat w ss ≤ k → first_flat w (s ∷ ss) ≤ suc k
    go true t r = let q = first_here w s ss t in omega arith
    go false t r = let q = first_past w s ss t in omega arith

module _ (w : ℕ) (f : List ℕ → ℕ → List ℕ) where
  -- a handle with a flat subselector, and a mask that keeps a segment
  roomy : (h : Handle) → Placed w h → any_flat w h.selector ≡ true → (i : ℕ) → i < w → references h.selector i ≡ true
      → (m : ℕ) → has i m ≡ true → (weakening w f h m).number ≡ 0
  roomy h r t i l e m k =
      number_weakening w f h m
      ∙ done_placed w h m r (count_in w (keeps m h.selector) i l (and_both (references h.selector i) (has i m) e k))
      (ap (λ (b : Bool). not (keeps_all w m h.selector) && not b) t ∙ and-false (not (keeps_all w m h.selector)))

  module _ (h : Handle) (r : Placed w h) (four : length h.selector ≡ 4) (two : first_flat w h.selector < 3) where
    first_flat_lem : any_flat w h.selector ≡ true
    first_flat_lem = any_flat_lem w h.selector (omega arith)

    -- one is flat still after a cut
    then_flat : (m : ℕ) → any_flat w (weakened w f h m).selector ≡ true
    then_flat m =
        weakened_cases w f h m (λ k. any_flat w k.selector ≡ true) (λ e. first_flat_lem)
        (λ e.
        let n = first_cut w v (parameter_not_flat w m h.selector e) h.selector r.ungapped (omega arith) in
        let l = length-set h.selector (first_flat w h.selector) v in
        any_flat_lem w (set h.selector (first_flat w h.selector) v) (omega arith))
      where
        v : ℕ
        v = parameter w m h.selector

    pub twice_accepted : (i : ℕ) → i < w → references h.selector i ≡ true → (m n : ℕ) → has i m ≡ true → has i n ≡ true
        → ((weakening w f h m).number ≡ 0) × ((weakening w f (weakening w f h m).handle n).number ≡ 0)
    twice_accepted i l e m n a b = (d, ap (λ (q : Handle). (weakening w f q n).number) (handle_done w f h m d) ∙ after)
      where
        d : (weakening w f h m).number ≡ 0
        d = roomy h r first_flat_lem i l e m a

        k : Handle
        k = weakened w f h m

        after : (weakening w f k n).number ≡ 0
        after =
            roomy k
            (record {
              wide = weakened_cases w f h m (λ q. no_width q ≡ false) (λ e. r.wide) (λ e. r.wide);
              place = weakened_cases w f h m (λ q. no_such_place q ≡ false) (λ e. r.place) (λ e. r.place);
              ungapped = gapped_weakened w f h m r.ungapped;
            })
            (then_flat m) i l
            (references_weakened w f h m (unspent w h m (number_done w f h m d)) i l
            ∙ and_both (references h.selector i) (has i m) e a)
            n b
