-- Entries that were weakened by the same masks: what the handle of each references goes by the masks on its way alone, and both open
-- the cluster as the handle supplied does, so they are reduced alike.
-- Assumes nothing.
use Prim.Native.Nat.{ℕ, ◌<◌}
use mathlib.Core.Path.{◌≡◌, sym, ap, ◌∙◌, subst}
use mathlib.Core.Bool.{Bool, ◌&&◌, and-true, and_assoc, and_comm}
use mathlib.Core.List.{List, [], ◌∷◌}
use lib.ListN.{length}
use Rattle.bits.specs.Sets.{has}
use Rattle.handle.specs.declared.Handle.{Handle}
use Rattle.handle.specs.Selectors.{references}
use Rattle.handle.specs.Handles.{Name, name_of, width_of, encoded, decoded, reduced}
use Rattle.handle.specs.Conversion.{SixteenBytes}
use Rattle.handle.specs.Opens.{Opens}
use Rattle.handle.specs.Words.{References}
use Rattle.calls.specs.Calls.{Copy, reducing}
use Rattle.calls.specs.Steps.{Reply, handles, no_bytes}
use Rattle.calls.proofs.TestLaws.{Is, and_is}
use Rattle.calls.proofs.SelectorWords.{references_is, four}
use Rattle.calls.proofs.MaskLaws.{same_test}
use Rattle.calls.proofs.HandleWords.{handle_in_words}
use Rattle.register.proofs.KeptLaws.{made_steps}
use Rattle.register.proofs.WordLaws.{kept_by, references_steps, opens_as_supplied}
use Rattle.register.proofs.AnswerLaws.{read_back}
use Rattle.cuts.specs.Cuts.{kept}
use Rattle.cuts.specs.Words.{Validates, Start, on_copy}
use Rattle.cuts.specs.Entries.{masks_to, KeepAlike, SameWaysKeep, Entry, ReducedWith, ReducedAlike, EntriesInWords, EntriesAlike}
use Rattle.cuts.proofs.SameLaws.{opens_as, same_reduction}
use Rattle.cuts.proofs.CutLaws.{kept_same}
use Rattle.cuts.proofs.WordLaws.{kept_is}
use Rattle.cuts.proofs.OpenedLaws.{w, p, valid, validated, reduction}

-- the masks of a way, the last of them first
kept_by_lem : (b : Bool) (ms : List ℕ) (i : ℕ) → kept_by b ms i ≡ b && kept ms i
kept_by_lem b [] i = sym (and-true b)
kept_by_lem b (m ∷ ms) i =
    ap (λ (t : Bool). t && has i m) (kept_by_lem b ms i)
    ∙ and_assoc b (kept ms i) (has i m)
    ∙ ap (λ (t : Bool). b && t) (and_comm (kept ms i) (has i m))

pub same_ways_keep : SameWaysKeep
same_ways_keep h e e' k k' same i l r = (
  λ t. (kept_is (masks_to e' k') i).out (sym (kept_same (masks_to e k) (masks_to e' k') same i) ∙ (kept_is (masks_to e k) i).into t),
  λ t. (kept_is (masks_to e k) i).out (kept_same (masks_to e k) (masks_to e' k') same i ∙ (kept_is (masks_to e' k') i).into t),
)

module _ (f : Name → List ℕ → ℕ → List ℕ) where
  refers_entry : (h : Handle) (e : List ℕ) (k : ℕ) (g : Handle) → Entry f h e k g → (i : ℕ) → i < width_of h
      → references g.selector i ≡ references h.selector i && kept (masks_to e k) i
  refers_entry h e k g a i l =
      references_steps f h (masks_to e k) g (made_steps f h e k g a) i l ∙ kept_by_lem (references h.selector i) (masks_to e k) i

  refers_same : (h : Handle) (e e' : List ℕ) (k k' : ℕ) (g g' : Handle) → length h.selector ≡ 4 → Entry f h e k g
      → Entry f h e' k' g' → KeepAlike h e k e' k' → (i : ℕ) → i < width_of h
      → references g.selector i ≡ references g'.selector i
  refers_same h e e' k k' g g' four a b same i l =
      refers_entry h e k g a i l
      ∙ same_test (and_is (references_is h four i) (kept_is (masks_to e k) i))
      (and_is (references_is h four i) (kept_is (masks_to e' k') i))
      (λ r. (r.0, (same i l r.0).0 r.1), λ r. (r.0, (same i l r.0).1 r.1))
      ∙ sym (refers_entry h e' k' g' b i l)

  reduced_with : ReducedWith f
  reduced_with w n p r h o e e' k k' g g' a b same = (
    refers,
    same_reduction w (f n) n p g g'
        (opens_as w (f n) n p (opens_as_supplied f w n p r h e k g o a) refers)
        (opens_as_supplied f w n p r h e' k' g' o b),
  )
    where
      refers : (i : ℕ) → i < w → references g.selector i ≡ references g'.selector i
      refers i l = refers_same h e e' k k' g g' o.whole.four a b same i (subst (λ (v : ℕ). i < v) (sym o.wide) l)

  module _ (sixteen : SixteenBytes f) (m : ℕ) (b : List ℕ) (c : Copy) (long : length b ≡ 23) (start : Start f m b c) where
    abbrev opened : Handle → Type 0
    opened g =
        Opens (w f m c sixteen b start) (f (name_of (decoded b))) (name_of (decoded b)) (p f m c sixteen b start)
        (references g.selector) g

    -- the handle of an entry opens the cluster, and its bytes hold it
    opens : (e : List ℕ) (k : ℕ) (g : Handle) → Entry f (decoded b) e k g → opened g
    opens e k g a =
        opens_as_supplied f (w f m c sixteen b start) (name_of (decoded b)) (p f m c sixteen b start)
        (references (decoded b).selector) (decoded b) e k g (valid f m c sixteen b start) a

    back : (e : List ℕ) (k : ℕ) (g : Handle) → Entry f (decoded b) e k g → decoded (encoded g) ≡ g
    back e k g a = read_back f sixteen b e k g (record { long = long; below = start.bytes }) a

    validates : (e : List ℕ) (k : ℕ) (g : Handle) → Entry f (decoded b) e k g → Validates (on_copy f c) m (encoded g)
    validates e k g a =
        validated f m c sixteen b start (encoded g) g (back e k g a) (references g.selector) (opens e k g a)

    reduces : (e : List ℕ) (k : ℕ) (g : Handle) → Entry f (decoded b) e k g
        → on_copy f c (reducing m (encoded g))
        ≡ handles (encoded (reduced (w f m c sixteen b start) (f (name_of (decoded b))) g (p f m c sixteen b start))) no_bytes 0
    reduces e k g a =
        reduction f m c sixteen b start (encoded g) g (back e k g a) (references g.selector) (opens e k g a)

    words : (e : List ℕ) (k : ℕ) (g : Handle) → Entry f (decoded b) e k g → (i : ℕ) → Is (references g.selector i) (References g i)
    words e k g a i = references_is g (opens e k g a).whole.four i

    in_words : (e e' : List ℕ) (k k' : ℕ) (g g' : Handle) → Entry f (decoded b) e k g → Entry f (decoded b) e' k' g'
        → KeepAlike (decoded b) e k e' k' → EntriesInWords (on_copy f c) m g g'
    in_words e e' k k' g g' a a' same =
        record {
          validates = (validates e k g a, validates e' k' g' a');
          reduces = ap (λ (r : Reply). r.number) (reduces e k g a);
          references = λ i l. (
            λ r. (words e' k' g' a' i).out (sym (refers i l) ∙ (words e k g a i).into r),
            λ r. (words e k g a i).out (refers i l ∙ (words e' k' g' a' i).into r),
          );
          alike =
              reduces e k g a
              ∙ ap (λ (q : Handle). handles (encoded q) no_bytes 0)
              (reduced_with (w f m c sixteen b start) (name_of (decoded b)) (p f m c sixteen b start)
              (references (decoded b).selector) (decoded b) (valid f m c sixteen b start) e e' k k' g g' a a' same).1
              ∙ sym (reduces e' k' g' a');
        }
      where
        refers : (i : ℕ) → i < 8 → references g.selector i ≡ references g'.selector i
        refers i l =
            refers_same (decoded b) e e' k k' g g' (four b) a a' same i
            (subst (λ (v : ℕ). i < v) (sym ((handle_in_words b).of23 long).1) l)

pub reduced_alike : ReducedAlike
reduced_alike f = reduced_with f

pub entries_alike : EntriesAlike
entries_alike f sixteen m b c long start e e' k k' g g' a a' same =
    in_words f sixteen m b c long start e e' k k' g g' a a' same
