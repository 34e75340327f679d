-- Two cuts and one cut, of one handle: each weakening takes a handle that opens a cluster to one that opens it, so any row of them does.
-- What rows make is reduced alike where they keep the same.
-- Assumes nothing.
use Prim.Native.Nat.{ℕ, ◌<◌}
use native.Mathlib.Omega.{arith}
use mathlib.Core.Logic.{inl, inr}
use mathlib.Core.Path.{◌≡◌, refl, sym, ap, ◌∙◌}
use mathlib.Core.Bool.{Bool, true, false, ◌&&◌, and-true, and_assoc, and_comm}
use mathlib.Core.List.{List, [], ◌∷◌}
use lib.Dec.{eqb}
use borrow.Author.Tests.{ne_eqb}
use Rattle.bits.specs.Sets.{has}
use Rattle.bits.proofs.OperationLaws.{has_and}
use Rattle.loops.proofs.BelowLaws.{and_left, and_right, and_both}
use Rattle.handle.specs.declared.Handle.{Handle}
use Rattle.handle.specs.Selectors.{references, first_flat}
use Rattle.handle.specs.Handles.{Name, name_of, no_width, no_such_place, weakening, reduced}
use Rattle.handle.specs.Opens.{Opens}
use Rattle.handle.proofs.OpensLaws.{opens_weakening}
use Rattle.handle.proofs.EmptyLaws.{number_done}
use Rattle.cuts.specs.Cuts.{kept, Among, SameMasks, Way, first_second, second_first, once, masks, Shares, cut_by, Accepted, Valid}
use Rattle.cuts.specs.Cuts.{AnyCuts, TwoCuts, CutsHold, AndShares}
use Rattle.cuts.proofs.SameLaws.{opens_as, same_reduction}
use Rattle.cuts.proofs.AcceptedLaws.{Placed, once_accepted, twice_accepted}

-- ---- the same masks in another order

kept_out : (ms : List ℕ) (i : ℕ) → kept ms i ≡ true → (n : ℕ) → Among n ms → has i n ≡ true
kept_out [] i e n a = absurd a
kept_out (m ∷ ms) i e n (inl q) = ap (has i) q ∙ and_left (has i m) (kept ms i) e
kept_out (m ∷ ms) i e n (inr a) = kept_out ms i (and_right (has i m) (kept ms i) e) n a

kept_in : (ms : List ℕ) (i : ℕ) → ((n : ℕ) → Among n ms → has i n ≡ true) → kept ms i ≡ true
kept_in [] i e = refl
kept_in (m ∷ ms) i e = and_both (has i m) (kept ms i) (e m (inl refl)) (kept_in ms i (λ n a. e n (inr a)))

pub kept_same : (ms ns : List ℕ) → SameMasks ms ns → (i : ℕ) → kept ms i ≡ kept ns i
kept_same ms ns same i = go (kept ms i) (kept ns i) to from
  where
    to : kept ms i ≡ true → kept ns i ≡ true
    to e = kept_in ns i (λ n a. kept_out ms i e n ((same n).1 a))

    from : kept ns i ≡ true → kept ms i ≡ true
    from e = kept_in ms i (λ n a. kept_out ns i e n ((same n).0 a))

    go : (x y : Bool) → (x ≡ true → y ≡ true) → (y ≡ true → x ≡ true) → x ≡ y
    go true y a b = sym (a refl)
    go false true a b = b refl
    go false false a b = refl

pub and_shares : AndShares
and_shares w a b i l = has_and i a b

module _ (w : ℕ) (f : List ℕ → ℕ → List ℕ) (p : List ℕ) where
  -- ---- any rows

  opens_cut : (name : Name) {r : ℕ → Bool} (ms : List ℕ) (h : Handle) → Opens w f name p r h → Accepted w f ms h
      → Opens w f name p (λ i. r i && kept ms i) (cut_by w f ms h)
  opens_cut name {r} [] h o e = opens_as w f name p o (λ i l. sym (and-true (r i)))
  opens_cut name {r} (m ∷ ms) h o e =
      opens_as w f name p
      (opens_cut name {r = λ i. r i && has i m} ms (weakening w f h m).handle (opens_weakening w f name p h o m (number_done w f h m e.0)) e.1)
      (λ i l. and_assoc (r i) (has i m) (kept ms i))

  any_cuts : (h : Handle) → Valid w f p h → AnyCuts w f p h
  any_cuts h o =
      record {
        opens = λ ms e. opens_cut (name_of h) ms h o e;
        alike = alike;
        reordered = λ ms ns d e same.
            alike ms ns d e (λ i l. ap (λ (t : Bool). references h.selector i && t) (kept_same ms ns same i));
      }
    where
      alike : (ms ns : List ℕ) → Accepted w f ms h → Accepted w f ns h
          → ((i : ℕ) → i < w → references h.selector i && kept ms i ≡ references h.selector i && kept ns i)
          → reduced w f (cut_by w f ms h) p ≡ reduced w f (cut_by w f ns h) p
      alike ms ns d e same =
          same_reduction w f (name_of h) p (cut_by w f ms h) (cut_by w f ns h)
          (opens_as w f (name_of h) p (opens_cut (name_of h) ms h o d) same) (opens_cut (name_of h) ns h o e)

  -- ---- the three ways

  module _ (h : Handle) (o : Valid w f p h) (a b s : ℕ) (sh : Shares w a b s) where
    both : (x : Way) (i : ℕ) → i < w → kept (masks a b s x) i ≡ has i a && has i b
    both first_second i l = ap (λ (t : Bool). has i a && t) (and-true (has i b))
    both second_first i l = ap (λ (t : Bool). has i b && t) (and-true (has i a)) ∙ and_comm (has i b) (has i a)
    both once i l = and-true (has i s) ∙ sh i l

    opens_way : (x : Way) → Accepted w f (masks a b s x) h
        → Opens w f (name_of h) p (λ i. references h.selector i && (has i a && has i b)) (cut_by w f (masks a b s x) h)
    opens_way x e =
        opens_as w f (name_of h) p ((any_cuts h o).opens (masks a b s x) e)
        (λ i l. ap (λ (t : Bool). references h.selector i && t) (both x i l))

    once_where : (x : Way) → Accepted w f (masks a b s x) h → Accepted w f (masks a b s once) h
    once_where first_second e = (once_accepted w f h a b s sh e.0 e.1.0, tt)
    once_where second_first e =
        (once_accepted w f h b a s (λ i l. sh i l ∙ and_comm (has i a) (has i b)) e.0 e.1.0, tt)
    once_where once e = e

    all_where : no_such_place h ≡ false → first_flat w h.selector < 3 → (i : ℕ) → i < w
        → references h.selector i ≡ true → has i a ≡ true → has i b ≡ true → (x : Way) → Accepted w f (masks a b s x) h
    all_where z two i l r ha hb = go
      where
        -- a segment below the width says that there is one
        wide : no_width h ≡ false
        wide = ap (λ (v : ℕ). eqb v 0) o.wide ∙ ne_eqb w 0 (λ e. let b = l in omega (arith, e))

        placed : Placed w h
        placed = record { wide = wide; place = z; ungapped = o.ungapped }

        twice : (m n : ℕ) → has i m ≡ true → has i n ≡ true → Accepted w f (m ∷ n ∷ []) h
        twice m n hm hn = let d = twice_accepted w f h placed o.whole.four two i l r m n hm hn in (d.0, (d.1, tt))

        go : (x : Way) → Accepted w f (masks a b s x) h
        go first_second = twice a b ha hb
        go second_first = twice b a hb ha
        go once = once_where first_second (twice a b ha hb)

    two_cuts : TwoCuts w f p h a b s
    two_cuts = record {
      opens = opens_way;
      alike = λ x y d e.
          same_reduction w f (name_of h) p (cut_by w f (masks a b s x) h) (cut_by w f (masks a b s y) h) (opens_way x d)
          (opens_way y e);
      single = once_where;
      all = all_where;
    }

pub cuts_hold : CutsHold
cuts_hold w f p h o = (any_cuts w f p h o, λ a b s sh. two_cuts w f p h o a b s sh)
