-- Validation gets as far as its last row on the copies of the uses, whatever sixteen bytes the handle holds: so the theorem judges it.
-- What remains is whether two passwords are equal.
-- Assumes nothing.
use mathlib.Core.Path.{◌≡◌, refl, sym, ap, ◌∙◌}
use mathlib.Core.Logic.{◌⊎◌, inl, inr}
use Prim.Native.Nat.{ℕ}
use mathlib.Core.List.{List}
use lib.ListN.{length, get_or}
use Rattle.loops.specs.Tabulate.{tabulate}
use Rattle.handle.specs.Handles.{Name, decoded}
use Rattle.handle.proofs.CodecLaws.{listed}
use Rattle.calls.specs.Calls.{validating}
use Rattle.calls.specs.Literals.{sixteen}
use Rattle.calls.proofs.Computing.{computing}
use Rattle.isolation.specs.Copies.{SixteenBytes}
use Rattle.isolation.specs.Checks.{Judgeable, chained, Judged}
use Rattle.isolation.specs.UseLists.{Wide, of_four, of_eight, of_sixteen, own}
use Rattle.isolation.specs.ValidationUses.{password, fourth, cut, deep, judged, ValidationUses}
use Rattle.isolation.proofs.UseCopyLaws.{sound_keeping}
use Rattle.isolation.proofs.CheckLaws.{validation_judges}

module _ (f : Name → List ℕ → ℕ → List ℕ) where
  -- in each mode, of a primary handle, of one that is cut, and of one with four subselectors that are not flat
  judgeable_own : (v : Wide) (a b k m : ℕ) → (m ≡ 1) ⊎ (m ≡ 2)
      → Judgeable f (validating m (own v 3 7 k)).args (judged f v a b).store (length (judged f v a b).memory)
  unfolding computing
  judgeable_own of_four a b k m e =
      record { long = inl refl; sound = sound_keeping of_four (sixteen a) (sixteen b) 1 2 3 4 5; place = refl; mode = e; even = refl; active = refl; wide = refl }
  judgeable_own of_eight a b k m e =
      record { long = inr (inl refl); sound = sound_keeping of_eight (sixteen a) (sixteen b) 1 2 3 4 5; place = refl; mode = e; even = refl; active = refl; wide = refl }
  judgeable_own of_sixteen a b k m e =
      record { long = inr (inr refl); sound = sound_keeping of_sixteen (sixteen a) (sixteen b) 1 2 3 4 5; place = refl; mode = e; even = refl; active = refl; wide = refl }

  judgeable_cut : (v : Wide) (a b k m : ℕ) → (m ≡ 1) ⊎ (m ≡ 2)
      → Judgeable f (validating m (cut f v k)).args (judged f v a b).store (length (judged f v a b).memory)
  unfolding computing tabulate
  judgeable_cut of_four a b k m e =
      record { long = inl refl; sound = sound_keeping of_four (sixteen a) (sixteen b) 1 2 3 4 5; place = refl; mode = e; even = refl; active = refl; wide = refl }
  judgeable_cut of_eight a b k m e =
      record { long = inr (inl refl); sound = sound_keeping of_eight (sixteen a) (sixteen b) 1 2 3 4 5; place = refl; mode = e; even = refl; active = refl; wide = refl }
  judgeable_cut of_sixteen a b k m e =
      record { long = inr (inr refl); sound = sound_keeping of_sixteen (sixteen a) (sixteen b) 1 2 3 4 5; place = refl; mode = e; even = refl; active = refl; wide = refl }

  judgeable_deep : (v : Wide) (a b k m : ℕ) → (m ≡ 1) ⊎ (m ≡ 2)
      → Judgeable f (validating m (deep f v k)).args (judged f v a b).store (length (judged f v a b).memory)
  unfolding computing tabulate
  judgeable_deep of_four a b k m e =
      record { long = inl refl; sound = sound_keeping of_four (sixteen a) (sixteen b) 1 2 3 4 5; place = refl; mode = e; even = refl; active = refl; wide = refl }
  judgeable_deep of_eight a b k m e =
      record { long = inr (inl refl); sound = sound_keeping of_eight (sixteen a) (sixteen b) 1 2 3 4 5; place = refl; mode = e; even = refl; active = refl; wide = refl }
  judgeable_deep of_sixteen a b k m e =
      record { long = inr (inr refl); sound = sound_keeping of_sixteen (sixteen a) (sixteen b) 1 2 3 4 5; place = refl; mode = e; even = refl; active = refl; wide = refl }

  module _ (gives : SixteenBytes f) where
    abbrev About : Wide → ℕ → ℕ → ℕ → List ℕ → Type 0
    About v a b m h = Judged f (validating m h).args (judged f v a b).store (length (judged f v a b).memory)

    own_1 : (v : Wide) (a b k : ℕ) → About v a b 1 (own v 3 7 k)
    unfolding computing
    own_1 of_four a b k = validation_judges f gives _ _ _ refl (judgeable_own of_four a b k 1 (inl refl))
    own_1 of_eight a b k = validation_judges f gives _ _ _ refl (judgeable_own of_eight a b k 1 (inl refl))
    own_1 of_sixteen a b k = validation_judges f gives _ _ _ refl (judgeable_own of_sixteen a b k 1 (inl refl))

    own_2 : (v : Wide) (a b k : ℕ) → About v a b 2 (own v 3 7 k)
    unfolding computing
    own_2 of_four a b k = validation_judges f gives _ _ _ refl (judgeable_own of_four a b k 2 (inr refl))
    own_2 of_eight a b k = validation_judges f gives _ _ _ refl (judgeable_own of_eight a b k 2 (inr refl))
    own_2 of_sixteen a b k = validation_judges f gives _ _ _ refl (judgeable_own of_sixteen a b k 2 (inr refl))

    cut_1 : (v : Wide) (a b k : ℕ) → About v a b 1 (cut f v k)
    unfolding computing tabulate
    cut_1 of_four a b k = validation_judges f gives _ _ _ refl (judgeable_cut of_four a b k 1 (inl refl))
    cut_1 of_eight a b k = validation_judges f gives _ _ _ refl (judgeable_cut of_eight a b k 1 (inl refl))
    cut_1 of_sixteen a b k = validation_judges f gives _ _ _ refl (judgeable_cut of_sixteen a b k 1 (inl refl))

    deep_1 : (v : Wide) (a b k : ℕ) → About v a b 1 (deep f v k)
    unfolding computing tabulate
    deep_1 of_four a b k = validation_judges f gives _ _ _ refl (judgeable_deep of_four a b k 1 (inl refl))
    deep_1 of_eight a b k = validation_judges f gives _ _ _ refl (judgeable_deep of_eight a b k 1 (inl refl))
    deep_1 of_sixteen a b k = validation_judges f gives _ _ _ refl (judgeable_deep of_sixteen a b k 1 (inl refl))

    cut_2 : (v : Wide) (a b k : ℕ) → About v a b 2 (cut f v k)
    unfolding computing tabulate
    cut_2 of_four a b k = validation_judges f gives _ _ _ refl (judgeable_cut of_four a b k 2 (inr refl))
    cut_2 of_eight a b k = validation_judges f gives _ _ _ refl (judgeable_cut of_eight a b k 2 (inr refl))
    cut_2 of_sixteen a b k = validation_judges f gives _ _ _ refl (judgeable_cut of_sixteen a b k 2 (inr refl))

    deep_2 : (v : Wide) (a b k : ℕ) → About v a b 2 (deep f v k)
    unfolding computing tabulate
    deep_2 of_four a b k = validation_judges f gives _ _ _ refl (judgeable_deep of_four a b k 2 (inr refl))
    deep_2 of_eight a b k = validation_judges f gives _ _ _ refl (judgeable_deep of_eight a b k 2 (inr refl))
    deep_2 of_sixteen a b k = validation_judges f gives _ _ _ refl (judgeable_deep of_sixteen a b k 2 (inr refl))

    -- what the chain gives, and the password read
    chain_own : (v : Wide) (a b k : ℕ)
        → (chained f (validating 1 (own v 3 7 k)).args (judged f v a b).store ≡ sixteen a)
        × (chained f (validating 2 (own v 3 7 k)).args (judged f v a b).store ≡ sixteen b)
        × ((decoded (own v 3 7 k)).password ≡ sixteen k)
    unfolding computing
    chain_own of_four a b k = (refl, refl, refl)
    chain_own of_eight a b k = (refl, refl, refl)
    chain_own of_sixteen a b k = (refl, refl, refl)

    chain_cut : (v : Wide) (a b k : ℕ)
        → (chained f (validating 1 (cut f v k)).args (judged f v a b).store ≡ password f v a)
        × (chained f (validating 2 (cut f v k)).args (judged f v a b).store ≡ password f v b)
        × ((decoded (cut f v k)).password ≡ password f v k)
    unfolding computing tabulate
    chain_cut of_four a b k = (refl, refl, sym (listed 16 (password f of_four k) (gives _ _ _)))
    chain_cut of_eight a b k = (refl, refl, sym (listed 16 (password f of_eight k) (gives _ _ _)))
    chain_cut of_sixteen a b k = (refl, refl, sym (listed 16 (password f of_sixteen k) (gives _ _ _)))

    chain_deep : (v : Wide) (a b k : ℕ)
        → (chained f (validating 1 (deep f v k)).args (judged f v a b).store ≡ fourth f v a)
        × (chained f (validating 2 (deep f v k)).args (judged f v a b).store ≡ fourth f v b)
        × ((decoded (deep f v k)).password ≡ fourth f v k)
    unfolding computing tabulate
    chain_deep of_four a b k = (refl, refl, sym (listed 16 (fourth f of_four k) (gives _ _ _)))
    chain_deep of_eight a b k = (refl, refl, sym (listed 16 (fourth f of_eight k) (gives _ _ _)))
    chain_deep of_sixteen a b k = (refl, refl, sym (listed 16 (fourth f of_sixteen k) (gives _ _ _)))

    pub validation_uses : (v : Wide) (a b : ℕ) → ValidationUses f v a b
    validation_uses v a b =
        record {
          right_reading = (own_1 v a b a).right ((chain_own v a b a).0 ∙ sym (chain_own v a b a).2);
          right_writing = (own_2 v a b b).right ((chain_own v a b b).1 ∙ sym (chain_own v a b b).2);
          wrong_reading = λ k ne.
              (own_1 v a b k).wrong (λ e.
              ne (ap (λ (l : List ℕ). get_or l 0 0) (sym (chain_own v a b k).2 ∙ sym e ∙ (chain_own v a b k).0)));
          wrong_writing = λ k ne.
              (own_2 v a b k).wrong (λ e.
              ne (ap (λ (l : List ℕ). get_or l 0 0) (sym (chain_own v a b k).2 ∙ sym e ∙ (chain_own v a b k).1)));
          chained_reading = (cut_1 v a b a).right ((chain_cut v a b a).0 ∙ sym (chain_cut v a b a).2);
          chained_writing = (cut_2 v a b b).right ((chain_cut v a b b).1 ∙ sym (chain_cut v a b b).2);
          crossed_reading = λ k ne. (cut_1 v a b k).wrong (λ e. ne (sym (chain_cut v a b k).2 ∙ sym e ∙ (chain_cut v a b k).0));
          crossed_writing = λ k ne. (cut_2 v a b k).wrong (λ e. ne (sym (chain_cut v a b k).2 ∙ sym e ∙ (chain_cut v a b k).1));
          deep_reading = (deep_1 v a b a).right ((chain_deep v a b a).0 ∙ sym (chain_deep v a b a).2);
          deep_writing = (deep_2 v a b b).right ((chain_deep v a b b).1 ∙ sym (chain_deep v a b b).2);
          deep_crossed_reading = λ k ne. (deep_1 v a b k).wrong (λ e. ne (sym (chain_deep v a b k).2 ∙ sym e ∙ (chain_deep v a b k).0));
          deep_crossed_writing = λ k ne. (deep_2 v a b k).wrong (λ e. ne (sym (chain_deep v a b k).2 ∙ sym e ∙ (chain_deep v a b k).1));
        }
