-- An entry's handle in words: each part is kept by every step, or is what the last step gives. And the lowest entry that fails.
-- Assumes nothing.
use Prim.Native.Nat.{ℕ, zero, suc, ◌≤◌, ◌<◌}
use native.Mathlib.Omega.{arith}
use native.Mathlib.Decide.{dec_lt}
use mathlib.Core.Path.{◌≡◌, refl, sym, ap, ap₂, ◌∙◌, subst}
use mathlib.Core.Bool.{Bool, true, false, not, ◌&&◌, true≢false}
use mathlib.Core.Option.{Option, none, some, none-ne-some}
use mathlib.Core.List.{List, [], ◌∷◌}
use lib.Dec.{eqb}
use borrow.Author.Tests.{eq-eqb, eqb-true, not-false}
use Rattle.bits.specs.Sets.{has}
use Rattle.loops.specs.Search.{least}
use Rattle.loops.proofs.SearchLaws.{least_none, least_holds, least_below, least_missing}
use Rattle.loops.proofs.BelowLaws.{and_left, and_right, and_both}
use Rattle.chain.specs.Way.{reached, records}
use Rattle.chain.specs.Means.{IsRecord, Whole}
use Rattle.chain.proofs.WayLaws.{reached_none}
use Rattle.chain.proofs.RecordLaws.{reached_next}
use Rattle.chain.proofs.MeansLaws.{number_whole}
use Rattle.handle.specs.declared.Handle.{Handle}
use Rattle.handle.specs.Selectors.{references, gapped}
use Rattle.handle.specs.Widths.{bits_of}
use Rattle.handle.specs.Handles.{Name, name_of, width_of, weakened, weakening}
use Rattle.handle.specs.Opens.{Opens}
use Rattle.handle.specs.Empty.{SomeLeft}
use Rattle.handle.proofs.HandleLaws.{unspent, name_weakened, gapped_weakened, references_weakened, ungapped_done}
use Rattle.handle.proofs.EmptyLaws.{handle_done, done_references, number_done}
use Rattle.handle.proofs.OpensLaws.{opens_weakening}
use Rattle.register.specs.Registers.{entries, parent_of, mask_of, way_of, masks_of, Made, given, steps, ended, made, fails, tells, lowest}
use Rattle.register.specs.Words.{Kept, EntrysHandle, EntrysHandles, OpensAsSupplied, LowestFails}
use Rattle.register.proofs.KeptLaws.{Last, last_step, steps_keep, made_steps, handle_of_lem, width_steps}

-- b holds, and each of the masks keeps segment i
abbrev pub kept_by : Bool → List ℕ → ℕ → Bool
kept_by b [] i = b
kept_by b (m ∷ ms) i = kept_by b ms i && has i m

-- ---- the masks on a way

module _ (e : List ℕ) (b : Bool) (i : ℕ) where
  kept_out : (m k : ℕ) → kept_by b (masks_of e k m) i ≡ true → (b ≡ true) × Kept e k m i
  unfolding records
  kept_out zero k q = (q, λ j l. absurd (omega arith))
  kept_out (suc m) k q =
      go (kept_out m (parent_of e k) (and_left (kept_by b (masks_of e (parent_of e k) m) i) (has i (mask_of e k)) q))
    where
      go : (b ≡ true) × Kept e (parent_of e k) m i → (b ≡ true) × Kept e k (suc m) i
      go rest = (rest.0, each)
        where
          each : Kept e k (suc m) i
          each zero l =
              ap (λ (j : ℕ). has i (mask_of e j)) (reached_none (parent_of e) k)
              ∙ and_right (kept_by b (masks_of e (parent_of e k) m) i) (has i (mask_of e k)) q
          each (suc j) l =
              ap (λ (j : ℕ). has i (mask_of e j)) (sym (reached_next (parent_of e) k j)) ∙ rest.1 j (omega arith)

  kept_in : (m k : ℕ) → b ≡ true → Kept e k m i → kept_by b (masks_of e k m) i ≡ true
  unfolding records
  kept_in zero k q each = q
  kept_in (suc m) k q each =
      and_both (kept_by b (masks_of e (parent_of e k) m) i) (has i (mask_of e k))
      (kept_in m (parent_of e k) q
      (λ j l. ap (λ (j : ℕ). has i (mask_of e j)) (reached_next (parent_of e) k j) ∙ each (suc j) (omega arith)))
      (ap (λ (j : ℕ). has i (mask_of e j)) (sym (reached_none (parent_of e) k)) ∙ each 0 (omega arith))

module _ (f : Name → List ℕ → ℕ → List ℕ) where
  -- ---- what steps keep

  named_steps : (h : Handle) (ms : List ℕ) (g : Handle) → steps f h ms ≡ given g → name_of g ≡ name_of h
  named_steps h =
      steps_keep f (λ g. name_of g ≡ name_of h) h refl (λ k mask q. name_weakened (width_of k) (f (name_of k)) k mask ∙ q)

  pub references_steps : (h : Handle) (ms : List ℕ) (g : Handle) → steps f h ms ≡ given g → (i : ℕ) → i < width_of h
      → references g.selector i ≡ kept_by (references h.selector i) ms i
  unfolding steps
  references_steps h [] g q i l = ap (λ (g : Handle). references g.selector i) (sym (handle_of_lem (given h) g q))
  references_steps h (m ∷ ms) g q i l = go (last_step f h m ms g q) (λ k p. references_steps h ms k p i l)
    where
      go : Last f h m ms g
          → ((k : Handle) → steps f h ms ≡ given k → references k.selector i ≡ kept_by (references h.selector i) ms i)
          → references g.selector i ≡ kept_by (references h.selector i) (m ∷ ms) i
      go s rest =
          ap (λ (g : Handle). references g.selector i)
          (s.is ∙ handle_done (width_of k) (f (name_of k)) k m s.done)
          ∙ references_weakened (width_of k) (f (name_of k)) k m
          (unspent (width_of k) k m (number_done (width_of k) (f (name_of k)) k m s.done)) i
          (subst (λ (w : ℕ). i < w) (sym (ap bits_of (width_steps f h ms k s.before))) l)
          ∙ ap (λ (b : Bool). b && has i m) (rest k s.before)
        where
          k : Handle
          k = s.parent

  -- ---- an entry's handle

  way_ends : (h : Handle) (e : List ℕ) (k : ℕ) (g : Handle) → made f h e k ≡ given g → (way_of e k).number ≡ 0
  unfolding made
  way_ends h e k g q = go (way_of e k).number q
    where
      go : (n : ℕ) → ended f h e k n (way_of e k).records ≡ given g → n ≡ 0
      go zero p = refl
      go (suc n) p = ap (λ (m : Made). m.number) p

  -- what the last step gives
  record Ended (h g : Handle) : Type 0 where
    ungapped : gapped (width_of h) g.selector ≡ false
    segment : ℕ
    below : segment < width_of h
    some : references g.selector segment ≡ true

  ended_step : (h : Handle) (m : ℕ) (ms : List ℕ) (g : Handle) → steps f h (m ∷ ms) ≡ given g → Ended h g
  ended_step h m ms g q = go (last_step f h m ms g q)
    where
      go : Last f h m ms g → Ended h g
      go s =
          record {
            ungapped =
                ap (λ (w : ℕ). gapped w g.selector) (sym wide)
                ∙ ap (λ (g : Handle). gapped (width_of k) g.selector) is
                ∙ gapped_weakened (width_of k) (f (name_of k)) k m
                (ungapped_done (width_of k) k m (number_done (width_of k) (f (name_of k)) k m s.done));
            segment = left.segment;
            below = subst (λ (w : ℕ). left.segment < w) wide left.below;
            some = ap (λ (g : Handle). references g.selector left.segment) s.is ∙ left.references;
          }
        where
          k : Handle
          k = s.parent

          wide : width_of k ≡ width_of h
          wide = ap bits_of (width_steps f h ms k s.before)

          is : g ≡ weakened (width_of k) (f (name_of k)) k m
          is = s.is ∙ handle_done (width_of k) (f (name_of k)) k m s.done

          left : SomeLeft (width_of k) (f (name_of k)) k m
          left = done_references (width_of k) (f (name_of k)) k m s.done

  pub entrys_handles : EntrysHandles f
  unfolding records
  entrys_handles h e k g r q = go (way_of e k).records refl
    where
      whole : Whole (entries e) (parent_of e) k (way_of e k).records
      whole = number_whole (entries e) (parent_of e) k (way_of e k) refl (way_ends h e k g q)

      told : steps f h (masks_of e k (way_of e k).records) ≡ given g
      told = made_steps f h e k g q

      last : (m : ℕ) → (way_of e k).records ≡ suc m → Ended h g
      last m p =
          ended_step h (mask_of e k) (masks_of e (parent_of e k) m) g
          (ap (λ (m : ℕ). steps f h (masks_of e k m)) (sym p) ∙ told)

      go : (m : ℕ) → (way_of e k).records ≡ m → EntrysHandle h e k g
      go zero p = absurd (let z = whole.zero_after in
          let n = ap (reached (parent_of e) k) p ∙ reached_none (parent_of e) k in omega arith)
      go (suc m) p =
          record {
            named = named_steps h (masks_of e k (way_of e k).records) g told;
            width = width_steps f h (masks_of e k (way_of e k).records) g told;
            ungapped = (last m p).ungapped;
            met = (way_of e k).records;
            way = whole;
            refers = λ i l. (
              λ t. kept_out e (references h.selector i) i (way_of e k).records k (sym (refers i l) ∙ t),
              λ t. refers i l ∙ kept_in e (references h.selector i) i (way_of e k).records k t.0 t.1,
            );
            segment = (last m p).segment;
            below = (last m p).below;
            some = (last m p).some;
          }
        where
          refers : (i : ℕ) → i < width_of h
              → references g.selector i ≡ kept_by (references h.selector i) (masks_of e k (way_of e k).records) i
          refers = references_steps h (masks_of e k (way_of e k).records) g told

  -- ---- what it opens

  opens_steps : (w : ℕ) (n : Name) (p : List ℕ) (r : ℕ → Bool) (h : Handle) (ms : List ℕ) (g : Handle)
      → Opens w (f n) n p r h → steps f h ms ≡ given g → Opens w (f n) n p (references g.selector) g
  unfolding steps
  opens_steps w n p r h [] g o q = subst (λ (g : Handle). Opens w (f n) n p (references g.selector) g) (handle_of_lem (given h) g q) (own h r o)
    where
      own : (g : Handle) (r : ℕ → Bool) → Opens w (f n) n p r g → Opens w (f n) n p (references g.selector) g
      own g r o = record {
        named = o.named;
        wide = o.wide;
        whole = o.whole;
        ungapped = o.ungapped;
        valid = o.valid;
        refers = λ i l. refl;
      }
  opens_steps w n p r h (m ∷ ms) g o q = go (last_step f h m ms g q) (λ k s. opens_steps w n p r h ms k o s)
    where
      go : Last f h m ms g
          → ((k : Handle) → steps f h ms ≡ given k → Opens w (f n) n p (references k.selector) k)
          → Opens w (f n) n p (references g.selector) g
      go s rest =
          record {
            named = opened.named;
            wide = opened.wide;
            whole = opened.whole;
            ungapped = opened.ungapped;
            valid = opened.valid;
            refers = λ i l. refl;
          }
        where
          k : Handle
          k = s.parent

          known : Opens w (f n) n p (references k.selector) k
          known = rest k s.before

          same : (weakening (width_of k) (f (name_of k)) k m).handle ≡ (weakening w (f n) k m).handle
          same = ap₂ (λ (w : ℕ) (n : Name). (weakening w (f n) k m).handle) known.wide known.named

          opened : Opens w (f n) n p (λ i. references k.selector i && has i m) g
          opened =
              subst (Opens w (f n) n p (λ i. references k.selector i && has i m)) (sym (s.is ∙ same))
              (opens_weakening w (f n) n p k known m
              (number_done w (f n) k m
              (sym (ap₂ (λ (w : ℕ) (n : Name). (weakening w (f n) k m).number) known.wide known.named) ∙ s.done)))

  pub opens_as_supplied : OpensAsSupplied f
  opens_as_supplied w n p r h e k g o q =
      opens_steps w n p r h (masks_of e k (way_of e k).records) g o (made_steps f h e k g q)

  -- ---- the lowest entry that fails

  module _ (h : Handle) (e : List ℕ) where
    fine_out : (i : ℕ) → fails f h e i ≡ false → (made f h e (suc i)).number ≡ 0
    fine_out i q =
        eqb-true (made f h e (suc i)).number 0 (not-false (eqb (made f h e (suc i)).number 0) q)

    bad_out : (i : ℕ) → fails f h e i ≡ true → (made f h e (suc i)).number ≡ 0 → ⊥
    bad_out i q z = true≢false (sym q ∙ ap not (eq-eqb (made f h e (suc i)).number 0 z))

    found_below : (i : ℕ) → least (entries e) (fails f h e) ≡ some i → i < entries e
    found_below i q = go (dec_lt i (entries e))
      where
        go : Dec (i < entries e) → i < entries e
        go (yes l) = l
        go (no l) =
            absurd (none-ne-some i
            (sym (least_none (fails f h e) (entries e) (λ j b. least_below (fails f h e) (entries e) i q j (omega arith))) ∙ q))

    lowest_by : (o : Option ℕ) → least (entries e) (fails f h e) ≡ o → LowestFails f h e (tells f h e o)
    lowest_by none q =
        record {
          done = done;
          entry = λ z. absurd (z refl);
          its = λ z. absurd (z refl);
          below = λ k a b. absurd (omega arith);
          none = λ z. refl;
        }
      where
        done : ◌≡◌ {A = ℕ} 0 0 → (k : ℕ) → IsRecord (entries e) k → (made f h e k).number ≡ 0
        done z zero r = absurd (let a = r.0 in omega arith)
        done z (suc k) r = fine_out k (least_missing (fails f h e) (entries e) q k (let a = r.1 in omega arith))
    lowest_by (some i) q =
        record {
          done = λ z. absurd (bad_out i (least_holds (fails f h e) (entries e) i q) z);
          entry = λ z. (omega arith, found_below i q);
          its = λ z. refl;
          below = below;
          none = λ z. absurd (bad_out i (least_holds (fails f h e) (entries e) i q) z);
        }
      where
        below : (k : ℕ) → 1 ≤ k → k < suc i → (made f h e k).number ≡ 0
        below zero a b = absurd (omega arith)
        below (suc k) a b = fine_out k (least_below (fails f h e) (entries e) i q k (omega arith))

    pub lowest_told : LowestFails f h e (lowest f h e)
    unfolding lowest
    lowest_told = lowest_by (least (entries e) (fails f h e)) refl
