-- Two cuts and one cut, in words: the laws of one handle, carried over to calls on a copy.
-- Assumes nothing.
use mathlib.Core.Path.{◌≡◌, refl, sym, ap, ◌∙◌}
use mathlib.Core.Logic.{◌↔◌, inl, inr}
use Prim.Native.Nat.{ℕ, zero, suc, ◌<◌}
use native.Mathlib.Omega.{arith}
use mathlib.Core.Bool.{Bool, ◌&&◌}
use mathlib.Core.List.{List, [], ◌∷◌}
use lib.Bits.{bit_and}
use lib.ListN.{length, get_or}
use borrow.Author.Tests.{eq-eqb}
use Rattle.bits.specs.Sets.{has, full}
use Rattle.handle.specs.declared.Handle.{Handle}
use Rattle.handle.specs.Selectors.{references, first_flat}
use Rattle.handle.specs.Widths.{length_of}
use Rattle.handle.specs.Handles.{Name, name_of, width_of, encoded, decoded, reduced}
use Rattle.handle.specs.Conversion.{SixteenBytes}
use Rattle.handle.specs.Opens.{Opens}
use Rattle.handle.specs.Words.{Bit, References}
use Rattle.handle.proofs.TripLaws.{length_decoded}
use Rattle.handle.proofs.WidthLaws.{bits_same}
use Rattle.calls.specs.Calls.{Copy, Kind, weaken, reduce, validate, reducing}
use Rattle.calls.specs.Words.{Named, Flat}
use Rattle.calls.specs.Numbers.{number}
use Rattle.calls.specs.Steps.{Reply, handles, no_bytes, left, outcome, step}
use Rattle.calls.proofs.TestLaws.{Is, same_is, and_is}
use Rattle.calls.proofs.SelectorWords.{bit_is, references_is, four}
use Rattle.calls.proofs.MaskLaws.{same_test}
use Rattle.cuts.specs.Cuts.{Way, first_second, second_first, once, masks, cut_by, AnyCuts, TwoCuts}
use Rattle.cuts.specs.Cuts as H
use Rattle.cuts.specs.Words.{Both, AndBoth, Kept, cut, Done, CutInWords, AnyCutsInWords, TwoCutsInWords, Start, on_copy}
use Rattle.cuts.specs.Words.{AnyCutsInAll, TwoCutsInAll, CopyStays}
use Rattle.cuts.proofs.AcceptedLaws.{first_within}
use Rattle.cuts.proofs.CutLaws.{cuts_hold, and_shares}
use Rattle.cuts.proofs.CarriedLaws.{Carried, carried, accepted_done}
use Rattle.cuts.proofs.OpenedLaws.{h, w, name, p, g, has_place, known, holds, valid, validated, reduction}

pub kept_is : (ms : List ℕ) (i : ℕ) → Is (H.kept ms i) (Kept ms i)
kept_is [] i = record { out = λ e. tt; into = λ u. refl }
kept_is (m ∷ ms) i = and_is (bit_is i m) (kept_is ms i)

-- the bitwise `and` of two masks has the bits of both
pub both_and : AndBoth
both_and w a b i l =
    let t : Is (has i (bit_and a b)) (Bit i a × Bit i b) = same_is (and_shares w a b i l) (and_is (bit_is i a) (bit_is i b)) in (
      λ r. t.out ((bit_is i (bit_and a b)).into r),
      λ r. (bit_is i (bit_and a b)).out (t.into r),
    )

module _ (f : Name → List ℕ → ℕ → List ℕ) (sixteen : SixteenBytes f) (m : ℕ) (l : List ℕ) (c : Copy) (start : Start f m l c) where
  abbrev old : Handle
  old = h f m c sixteen l start

  abbrev width : ℕ
  width = w f m c sixteen l start

  abbrev named : Name
  named = name f m c sixteen l start

  abbrev primary : List ℕ
  primary = p f m c sixteen l start

  abbrev through : List ℕ → ℕ → List ℕ
  through = g f m c sixteen l start

  any : AnyCuts width through primary old
  any = (cuts_hold width through primary old (valid f m c sixteen l start)).0

  carries : (ms : List ℕ) → Done (on_copy f c) ms l → Carried f sixteen c width named ms l
  carries ms d = carried f sixteen c width named ms l refl refl (holds f m c sixteen l start) d

  -- ---- any rows

  module _ (ms : List ℕ) (d : Done (on_copy f c) ms l) where
    abbrev out : List ℕ
    out = cut (on_copy f c) ms l

    abbrev k : Handle
    k = cut_by width through ms old

    abbrev keeps : ℕ → Bool
    keeps i = references old.selector i && H.kept ms i

    back : decoded out ≡ k
    back = (carries ms d).back

    opens : Opens width through named primary keeps k
    opens = any.opens ms (carries ms d).accepted

    reduces_to : on_copy f c (reducing m out) ≡ handles (encoded (reduced width through k primary)) no_bytes 0
    reduces_to = reduction f m c sixteen l start out k back keeps opens

    kept_both : (i : ℕ) → i < width → Is (references (decoded out).selector i) (References old i × Kept ms i)
    kept_both i q =
        same_is (ap (λ (x : Handle). references x.selector i) back ∙ opens.refers i q)
        (and_is (references_is old (four l) i) (kept_is ms i))

    each : CutInWords (on_copy f c) m l (Kept ms) out
    each =
        record {
          name = ap name_of back ∙ opens.named;
          long =
              length_decoded out (carries ms d).holdable.wide
              ∙ ap length_of (bits_same (decoded out).width old.width (ap width_of back ∙ opens.wide))
              ∙ sym (length_decoded l (known f m c sixteen l start));
          validates = validated f m c sixteen l start out k back keeps opens;
          reduces = ap (λ (r : Reply). r.number) reduces_to;
          references = λ i q. (
            λ r. (kept_both i q).out ((references_is (decoded out) (four out) i).into r),
            λ r. (references_is (decoded out) (four out) i).out ((kept_both i q).into r),
          );
        }

  alike : (ms ns : List ℕ) → Done (on_copy f c) ms l → Done (on_copy f c) ns l
      → ((i : ℕ) → i < width → References old i → Kept ms i ↔ Kept ns i)
      → on_copy f c (reducing m (cut (on_copy f c) ms l)) ≡ on_copy f c (reducing m (cut (on_copy f c) ns l))
  alike ms ns d e same =
      reduces_to ms d
      ∙ ap (λ (q : Handle). handles (encoded q) no_bytes 0)
      (any.alike ms ns (carries ms d).accepted (carries ns e).accepted
      (λ i q.
      same_test (and_is (references_is old (four l) i) (kept_is ms i)) (and_is (references_is old (four l) i) (kept_is ns i))
      (λ r. (r.0, (same i q r.0).0 r.1), λ r. (r.0, (same i q r.0).1 r.1))))
      ∙ sym (reduces_to ns e)

  any_in_words : AnyCutsInWords (on_copy f c) m l
  any_in_words = record { each = each; alike = alike }

  -- ---- the three ways

  module _ (a b t : ℕ) (both : Both width a b t) where
    hold : TwoCuts width through primary old a b t
    hold =
        (cuts_hold width through primary old (valid f m c sixteen l start)).1 a b t
        (λ i q. same_test (bit_is i t) (and_is (bit_is i a) (bit_is i b)) (both i q))

    kept_way : (x : Way) (i : ℕ) → i < width → Kept (masks a b t x) i ↔ (Bit i a × Bit i b)
    kept_way first_second i q = (λ r. (r.0, r.1.0), λ r. (r.0, (r.1, tt)))
    kept_way second_first i q = (λ r. (r.1.0, r.0), λ r. (r.1, (r.0, tt)))
    kept_way once i q = (λ r. (both i q).0 r.0, λ r. ((both i q).1 r, tt))

    each_way : (x : Way) → Done (on_copy f c) (masks a b t x) l
        → CutInWords (on_copy f c) m l (λ i. Bit i a × Bit i b) (cut (on_copy f c) (masks a b t x) l)
    each_way x d =
        let r = each (masks a b t x) d in
        record {
          name = r.name;
          long = r.long;
          validates = r.validates;
          reduces = r.reduces;
          references = λ i q. (
            λ y. let z = (r.references i q).0 y in (z.0, (kept_way x i q).0 z.1),
            λ y. (r.references i q).1 (y.0, (kept_way x i q).1 y.1),
          );
        }

    done_as : (x : Way) → H.Accepted width through (masks a b t x) old → Done (on_copy f c) (masks a b t x) l
    done_as x = accepted_done f sixteen c width named (masks a b t x) l refl refl (holds f m c sixteen l start)

    two_flat : Flat old 2 → first_flat width old.selector < 3
    two_flat e =
        let n = four l in
        let r =
        first_within width old.selector 2 (omega arith) (eq-eqb (get_or old.selector 2 0) (full width) e) in
        omega arith

    all_done : Flat old 2 → (i : ℕ) → i < width → References old i → Bit i a → Bit i b → (x : Way)
        → Done (on_copy f c) (masks a b t x) l
    all_done e i q r ha hb x =
        done_as x
        (hold.all (has_place f m c sixteen l start) (two_flat e) i q
        ((references_is old (four l) i).into r) ((bit_is i a).into ha) ((bit_is i b).into hb) x)

    two_in_words : TwoCutsInWords (on_copy f c) m l a b t
    two_in_words =
        record {
          each = each_way;
          alike = λ x y d e.
              alike (masks a b t x) (masks a b t y) d e
              (λ i q r. (
                λ z. (kept_way y i q).1 ((kept_way x i q).0 z),
                λ z. (kept_way x i q).1 ((kept_way y i q).0 z),
              ));
          single = λ x d. done_as once (hold.single x (carries (masks a b t x) d).accepted);
          all = all_done;
        }

pub any_cuts_in_all : AnyCutsInAll
any_cuts_in_all f sixteen m l c start = any_in_words f sixteen m l c start

pub two_cuts_in_all : TwoCutsInAll
two_cuts_in_all f sixteen m l c start a b t both = two_in_words f sixteen m l c start a b t both

-- ---- one copy

pub copy_stays : CopyStays
unfolding step left Named
copy_stays f x c n = go (number f x c.store (length c.memory))
  where
    stays : Named (weaken ∷ reduce ∷ validate ∷ []) x → left x.kind x c ≡ c
    stays (inl e) = ap (λ (k : Kind). left k x c) e
    stays (inr (inl e)) = ap (λ (k : Kind). left k x c) e
    stays (inr (inr (inl e))) = ap (λ (k : Kind). left k x c) e
    stays (inr (inr (inr e))) = absurd e

    go : (k : ℕ) → (outcome f k x c).copy ≡ c
    go zero = stays n
    go (suc k) = refl
