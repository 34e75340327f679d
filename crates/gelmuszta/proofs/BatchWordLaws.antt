-- A batch in words: the numbers judged are a list given by a rule for each place, and what was there follows; part i of the
-- handles is the list that has its bytes. The batch written out is computed on the starting store, which is sound.
-- Assumes nothing.
use mathlib.Core.Path.{◌≡◌, refl, sym, ap, ◌∙◌, subst}
use mathlib.Core.Logic.{◌≢◌, inl, inr, ◌↔◌}
use Prim.Native.Nat.{ℕ, zero, suc, ◌+◌, ◌*◌, ◌-◌, ◌/◌, ◌≤◌, ◌<◌}
use native.Mathlib.Omega.{arith}
use native.Mathlib.Decide.{dec_lt}
use mathlib.Core.Bool.{Bool, true, false}
use mathlib.Core.List.{List, [], ◌∷◌, ◌++◌}
use lib.Dec.{eqb, ltb}
use lib.ListN.{length, get_or, drop, replicate, length-append, length-drop, get_or-append}
use lib.Seq.{length-take-le, get_or-take, get_or-drop, get_or-append-add, ext_get_or}
use borrow.Author.Tests.{ltb-true, ltb-false, ne_eqb}
use Rattle.loops.specs.Tabulate.{tabulate}
use Rattle.loops.proofs.TabulateLaws.{length_tabulate, get_d_tabulate}
use Rattle.loops.specs.Below.{every}
use Rattle.bits.specs.Bytes.{word_from, word}
use Rattle.handle.specs.declared.Width.{Width}
use Rattle.handle.specs.declared.Width.TheVariants.{None, Four, Eight, Sixteen}
use Rattle.handle.specs.Widths.{length_of}
use Rattle.handle.specs.Conversion.{product}
use Rattle.store.specs.declared.Store.{Store}
use Rattle.store.specs.Records.{starting_store}
use Rattle.store.proofs.SoundLaws.{sound_starting}
use Rattle.calls.specs.Calls.{validating}
use Rattle.calls.specs.Numbers.{tests}
use Rattle.calls.specs.Steps.{outcome, step, aes_step, effects}
use Rattle.calls.specs.Answers.{copy_of}
use Rattle.calls.proofs.Computing.{computing}
use Rattle.calls.proofs.StepLaws.{number_below, number_below_lem}
use Rattle.image.specs.Parts.{slot}
use Rattle.image.specs.Images.{place_in, good_place, good_segment, segments_in, good_segments, cluster_in, good_record, store_in, good}
use Rattle.gelmuszta.specs.Exported.{Exported, damaged, imaged, exported}
use Rattle.gelmuszta.specs.Validation.{number_of, fewer, whole, each, as_many, numbers_of}
use Rattle.gelmuszta.proofs.ValidationLaws.{fewer_first}
use Rattle.gelmuszta.specs.BatchWords.{Wide, BatchInWords, NoneJudged}
use Rattle.gelmuszta.specs.BatchLiterals.{far, gap, idle, BatchWritten}

-- the smaller of two
below_both : (a b i : ℕ) → (i < fewer a b) ↔ ((i < a) × (i < b))
below_both a b i = go (ltb a b) refl
  where
    go : (t : Bool) → ltb a b ≡ t → (i < elim t [ true ↦ a | false ↦ b ]) ↔ ((i < a) × (i < b))
    go true e = let l = ltb-true a b e in (λ h. (h, omega arith), λ p. p.0)
    go false e = let l = ltb-false a b e in (λ h. (omega arith, h), λ p. p.1)

module _ (hs ns : List ℕ) where
  -- a place is judged where there is a whole handle for it
  place_21 : (i : ℕ) → (i < length hs / 21) ↔ (i * 21 + 21 ≤ length hs)
  place_21 i = (λ h. omega arith, λ h. omega arith)

  place_23 : (i : ℕ) → (i < length hs / 23) ↔ (i * 23 + 23 ≤ length hs)
  place_23 i = (λ h. omega arith, λ h. omega arith)

  place_27 : (i : ℕ) → (i < length hs / 27) ↔ (i * 27 + 27 ≤ length hs)
  place_27 i = (λ h. omega arith, λ h. omega arith)

  -- what is judged of handles of n bytes, once that is so of n
  module _ (b m : List ℕ) (mode n : ℕ) (whole_is : (i : ℕ) → (i < whole n (length hs)) ↔ (i * n + n ≤ length hs)) where
    abbrev count : ℕ
    count = as_many n hs ns

    counted : (i : ℕ) → (i < count) ↔ ((i < length ns) × (i * n + n ≤ length hs))
    counted i = (
      λ h. let p = (below_both (whole n (length hs)) (length ns) i).0 h in (p.1, (whole_is i).0 p.0),
      λ p. (below_both (whole n (length hs)) (length ns) i).1 ((whole_is i).1 p.1, p.0),
    )

    few : count ≤ length ns
    few = go (dec_lt (length ns) count)
      where
        go : Dec (length ns < count) → count ≤ length ns
        go (yes h) = let p = ((counted (length ns)).0 h).0 in omega arith
        go (no h) = omega arith

    abbrev rule : ℕ → ℕ
    rule i = number_of b m mode (slot n hs i)

    abbrev numbers : List ℕ
    numbers = tabulate count rule

    size : length numbers ≡ count
    size = length_tabulate count rule

    slot_is : (i : ℕ) → i * n + n ≤ length hs → (h : List ℕ) → length h ≡ n
        → ((k : ℕ) → k < n → get_or h k 0 ≡ get_or hs (i * n + k) 0) → slot n hs i ≡ h
    slot_is i l h e at =
        ext_get_or 0 (slot n hs i) h (long ∙ sym e)
        (λ k q.
        get_or-take (i * n + n - i * n) (drop (i * n) hs) k 0 (omega (arith, q, long)) ∙ get_or-drop (i * n) hs k 0
        ∙ sym (at k (omega (arith, q, long))))
      where
        long : length (slot n hs i) ≡ n
        long =
            length-take-le (i * n + n - i * n) (drop (i * n) hs) (omega (arith, l, length-drop (i * n) hs)) ∙ omega arith

    judged : (i : ℕ) → i < count → get_or (numbers_of b m mode n hs ns) i 0 ≡ rule i
    judged i l =
        get_or-append numbers (drop count ns) 0 i (omega (arith, l, size)) ∙ get_d_tabulate count rule 0 i l

    behind : (i : ℕ) → (i < count → ⊥) → get_or (numbers_of b m mode n hs ns) i 0 ≡ get_or ns i 0
    behind i l =
        ap (λ (k : ℕ). get_or (numbers_of b m mode n hs ns) k 0) there
        ∙ get_or-append-add numbers (drop count ns) (i - count) 0
        ∙ get_or-drop count ns (i - count) 0
        ∙ ap (λ (k : ℕ). get_or ns k 0) back
      where
        there : i ≡ length numbers + (i - count)
        there = omega (arith, l, size)

        back : count + (i - count) ≡ i
        back = omega (arith, l)

    long : length (numbers_of b m mode n hs ns) ≡ length ns
    long = length-append numbers (drop count ns) ∙ omega (arith, size, length-drop count ns, few)

module _ (b m : List ℕ) (mode w : ℕ) (hs ns : List ℕ) where
  abbrev Judging : ℕ → Type 0
  Judging n = (i : ℕ) → (i < whole n (length hs)) ↔ (i * n + n ≤ length hs)

  in_words : Judging (each w) → BatchInWords b m mode w hs ns (each w)
  in_words j =
      record {
        judged = λ i l q h e at.
            judged hs ns b m mode (each w) j i ((counted hs ns b m mode (each w) j i).1 (l, q))
            ∙ ap (λ (z : List ℕ). number_of b m mode z) (slot_is hs ns b m mode (each w) j i q h e at);
        behind = λ i l.
            behind hs ns b m mode (each w) j i
            (λ c. let p = ((counted hs ns b m mode (each w) j i).0 c).1 in omega arith);
        long = long hs ns b m mode (each w) j;
        told = counted hs ns b m mode (each w) j;
      }

  at_width : (v : ℕ) → w ≡ v → Judging (each v) → (n : ℕ) → n ≡ each v → BatchInWords b m mode w hs ns n
  at_width v e j n en =
      subst (BatchInWords b m mode w hs ns) (ap each e ∙ sym en) (in_words (subst (λ (k : ℕ). Judging (each k)) (sym e) j))

  pub batch_in_words : (n : ℕ) → Wide w n → BatchInWords b m mode w hs ns n
  batch_in_words n (inl p) = at_width 4 p.0 (place_21 hs ns) n p.1
  batch_in_words n (inr (inl p)) = at_width 8 p.0 (place_23 hs ns) n p.1
  batch_in_words n (inr (inr p)) = at_width 16 p.0 (place_27 hs ns) n p.1

  abbrev third : Bool → Width
  third t = elim t [ true ↦ Sixteen | false ↦ None ]

  abbrev second : Bool → Width
  second t = elim t [ true ↦ Eight | false ↦ third (eqb w 16) ]

  abbrev first : Bool → Width
  first t = elim t [ true ↦ Four | false ↦ second (eqb w 8) ]

  no_bytes : w ≢ 4 → w ≢ 8 → w ≢ 16 → each w ≡ 0
  no_bytes p q r =
      ap (λ (t : Bool). length_of (first t)) (ne_eqb w 4 p) ∙ ap (λ (t : Bool). length_of (second t)) (ne_eqb w 8 q)
      ∙ ap (λ (t : Bool). length_of (third t)) (ne_eqb w 16 r)

  pub none_judged : w ≢ 4 → w ≢ 8 → w ≢ 16 → NoneJudged b m mode w hs ns
  unfolding tabulate
  none_judged p q r =
      record {
        stays =
            ap (λ (n : ℕ). numbers_of b m mode n hs ns) (no_bytes p q r)
            ∙ ap (λ (k : ℕ). tabulate k (λ i. number_of b m mode (slot 0 hs i)) ++ drop k ns) (none (length ns));
        told = ap (λ (n : ℕ). as_many n hs ns) (no_bytes p q r) ∙ none (length ns);
      }
    where
      none : (k : ℕ) → fewer 0 k ≡ 0
      none zero = refl
      none (suc k) = sym (fewer_first 0 (suc k) (omega arith))

-- ---- written out

zeros_good : good (replicate 3648 0) ≡ true
unfolding word word_from every tabulate place_in good_place good_segment segments_in good_segments cluster_in good_record store_in good
zeros_good = refl

zeros_store : store_in (replicate 3648 0) ≡ starting_store
unfolding word word_from every tabulate place_in good_place good_segment segments_in good_segments cluster_in good_record store_in good
zeros_store = refl

abbrev nothing : List ℕ
nothing = replicate 16384 0

abbrev by : List ℕ → Bool → Exported
by h t =
    elim t [
      | true ↦ imaged (aes_step (validating 1 h) (copy_of (store_in (replicate 3648 0)) nothing))
      | false ↦ damaged (validating 1 h) (replicate 3648 0) nothing
    ]

number_there : (h : List ℕ) → number_of (replicate 3648 0) nothing 1 h
    ≡ (outcome product (number_below product (validating 1 h) starting_store 16384) (validating 1 h) (copy_of starting_store nothing)).reply.number
unfolding exported step
number_there h =
    ap (λ (t : Bool). (by h t).reply.number) zeros_good
    ∙ ap (λ (s : Store). (aes_step (validating 1 h) (copy_of s nothing)).reply.number) zeros_store
    ∙ ap (λ (n : ℕ). (outcome product n (validating 1 h) (copy_of starting_store nothing)).reply.number)
    (number_below_lem product (validating 1 h) starting_store 16384 sound_starting)

pub batch_written : BatchWritten
unfolding tabulate tests effects computing
batch_written =
    record {
      forward = λ j. number_there far j ∷ number_there gap j ∷ number_there idle j ∷ 14 ∷ 15 ∷ [];
      backward = λ j. number_there idle j ∷ number_there gap j ∷ number_there far j ∷ 14 ∷ 15 ∷ [];
    }
