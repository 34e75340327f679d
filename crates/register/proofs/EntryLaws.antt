-- What becomes of an entry, from what becomes of the one that it was weakened from: the way of the one is that of the other
-- without its first entry, so both end, leave or come round together. A step meets no number of a way, and where the handle
-- supplied is in order no other than 21 and 17.
-- Assumes nothing.
use Prim.Native.Nat.{ℕ, zero, suc, ◌<◌}
use native.Mathlib.Omega.{arith}
use mathlib.Core.Path.{◌≡◌, refl, sym, ap, ◌∙◌, subst}
use mathlib.Core.Logic.{◌⊎◌, inl, inr}
use mathlib.Core.Bool.{Bool, true, false}
use mathlib.Core.List.{List, [], ◌∷◌}
use Rattle.numbers.specs.Numbers.{link_number, loop_number}
use Rattle.chain.specs.Way.{done}
use Rattle.chain.specs.Means.{IsRecord, OnRecords, Whole, Leaves, Again}
use Rattle.chain.proofs.MeansLaws.{ending, leaves_way, again_way}
use Rattle.chain.proofs.RecordLaws.{reached_next}
use Rattle.chain.proofs.WayLaws.{reached_none}
use Rattle.handle.specs.declared.Handle.{Handle}
use Rattle.handle.specs.Selectors.{gapped, keeps_none, spent}
use Rattle.handle.specs.Handles.{Name, name_of, width_of, no_width, no_such_place, weaken_number, weakening}
use Rattle.handle.proofs.HandleLaws.{telling}
use Rattle.handle.proofs.EmptyLaws.{number_weakening}
use Rattle.register.specs.Registers.{entries, parent_of, mask_of, way_of, masks_of}
use Rattle.register.specs.Registers.{Made, given, settled, stepped_at, stepped, steps, ended, made}
use Rattle.register.specs.Words.{MadeInWords, StepNumbers}
use Rattle.register.proofs.MadeLaws.{ends_more, ends_way, by_way, way_made, steps_more, good_none, good_made}
use Rattle.register.specs.inner.Work.{Standing}
use Rattle.register.proofs.NarrowLaws.{standing_weakened}
use Rattle.register.proofs.KeptLaws.{steps_keep}

-- ---- the numbers of one weakening

number_replied : (w : ℕ) (f : List ℕ → ℕ → List ℕ) (h : Handle) (mask : ℕ) → (weakening w f h mask).number ≡ weaken_number w h mask
number_replied = number_weakening

settled_number : (n : ℕ) (h : Handle) → (settled n h).number ≡ n
settled_number zero h = refl
settled_number (suc n) h = refl

-- a number of the table of weakening is none of a way
weaken_number_lem : (P : ℕ → Type 0) → P 0 → P 25 → P 2 → P 4 → P 21 → P 17 → (w : ℕ) (h : Handle) (mask : ℕ)
    → P (weaken_number w h mask)
unfolding weaken_number
weaken_number_lem P none length place gap empty out w h mask =
    go (no_width h) (no_such_place h) (gapped w h.selector) (keeps_none w mask h.selector) (spent w mask h.selector)
  where
    go : (l a b c d : Bool) → P (telling l a b c d)
    go true a b c d = length
    go false true b c d = place
    go false false true c d = gap
    go false false false true d = empty
    go false false false false true = out
    go false false false false false = none

standing_number : (P : ℕ → Type 0) → P 0 → P 21 → P 17 → (h : Handle) → Standing h → (mask : ℕ)
    → P (weaken_number (width_of h) h mask)
unfolding weaken_number
standing_number P none empty out h s mask =
    go (no_width h) (no_such_place h) (gapped (width_of h) h.selector) (keeps_none (width_of h) mask h.selector)
    (spent (width_of h) mask h.selector) s.wide s.here s.ungapped
  where
    go : (l a b c d : Bool) → l ≡ false → a ≡ false → b ≡ false → P (telling l a b c d)
    go l a b c d x y z =
        subst (λ (l : Bool). P (telling l a b c d)) (sym x)
        (subst (λ (a : Bool). P (telling false a b c d)) (sym y)
        (subst (λ (b : Bool). P (telling false false b c d)) (sym z) (last c d)))
      where
        last : (c d : Bool) → P (telling false false false c d)
        last true d = empty
        last false true = out
        last false false = none

module _ (f : Name → List ℕ → ℕ → List ℕ) where
  -- ---- the numbers of steps

  -- what holds of 0 and of the number of each weakening holds of the number of steps
  steps_number : (P : ℕ → Type 0) (h : Handle) → P 0
      → ((ms : List ℕ) (k : Handle) → steps f h ms ≡ given k → (mask : ℕ) → P (weaken_number (width_of k) k mask))
      → (ms : List ℕ) → P (steps f h ms).number
  unfolding steps
  steps_number P h none each [] = none
  steps_number P h none each (m ∷ ms) =
      go (steps f h ms).number (steps f h ms).handle refl (steps_number P h none each ms)
    where
      go : (n : ℕ) (k : Handle) → steps f h ms ≡ record { number = n; handle = k } → P n → P (stepped_at f n k m).number
      go (suc n) k e p = p
      go zero k e p =
          subst P
          (sym (settled_number (weakening (width_of k) (f (name_of k)) k m).number _
          ∙ number_replied (width_of k) (f (name_of k)) k m))
          (each ms k e m)

  module _ (h : Handle) (e : List ℕ) where
    -- what holds of 19, 20 and the numbers of steps holds of the number of an entry
    entry_number : (P : ℕ → Type 0) (k : ℕ) → ((m : ℕ) → Whole (entries e) (parent_of e) k m → P (steps f h (masks_of e k m)).number)
        → (Leaves (entries e) (parent_of e) k → P link_number) → (Again (entries e) (parent_of e) k → P loop_number)
        → P (made f h e k).number
    unfolding made
    entry_number P k whole leaves again =
        ending (entries e) (parent_of e) k (λ w. P (ended f h e k w.number w.records).number) whole leaves again (way_of e k) refl

    -- ---- from the entry that it was weakened from

    module _ (k : ℕ) (r : IsRecord (entries e) k) where
      on_more : (m : ℕ) → OnRecords (entries e) (parent_of e) (parent_of e k) m → OnRecords (entries e) (parent_of e) k (suc m)
      on_more m on zero l = subst (IsRecord (entries e)) (sym (reached_none (parent_of e) k)) r
      on_more m on (suc i) l = subst (IsRecord (entries e)) (reached_next (parent_of e) k i) (on i (omega arith))

      leaves_more : Leaves (entries e) (parent_of e) (parent_of e k) → Leaves (entries e) (parent_of e) k
      leaves_more l =
          record {
            after = suc l.after;
            on = on_more l.after l.on;
            beyond = subst (λ (j : ℕ). entries e < j) (reached_next (parent_of e) k l.after) l.beyond;
          }

      again_more : Again (entries e) (parent_of e) (parent_of e k) → Again (entries e) (parent_of e) k
      again_more a =
          record {
            before = suc a.before;
            again = suc a.again;
            later = let l = a.later in omega arith;
            on = on_more (suc a.again) a.on;
            same =
                sym (reached_next (parent_of e) k a.before) ∙ a.same ∙ reached_next (parent_of e) k a.again;
          }

      made_parent : made f h e k ≡ stepped f (made f h e (parent_of e k)) (mask_of e k)
      unfolding made
      made_parent =
          ending (entries e) (parent_of e) (parent_of e k)
          (λ w. made f h e k ≡ stepped f (ended f h e (parent_of e k) w.number w.records) (mask_of e k))
          (λ m w.
          by_way f h e k (done (suc m))
          (ends_way e k (suc m) (ends_more e k m r (record { on = w.on; zero_after = w.zero_after })))
          ∙ steps_more f h e k m (steps f h (masks_of e (parent_of e k) m)) refl)
          (λ l. way_made f h e k link_number (λ z. omega arith) (leaves_way (entries e) (parent_of e) k (leaves_more l)))
          (λ a. way_made f h e k loop_number (λ z. omega arith) (again_way (entries e) (parent_of e) k (again_more a)))
          (way_of e (parent_of e k)) refl

    -- ---- the numbers of an entry

    unlike : (x : ℕ) → (x ≡ 0 → ⊥) → (x ≡ 25 → ⊥) → (x ≡ 2 → ⊥) → (x ≡ 4 → ⊥) → (x ≡ 21 → ⊥) → (x ≡ 17 → ⊥)
        → (ms : List ℕ) → (steps f h ms).number ≡ x → ⊥
    unlike x a b c d g i =
        steps_number (λ n. n ≡ x → ⊥) h (λ q. a (sym q))
        (λ ms k s mask.
        weaken_number_lem (λ n. n ≡ x → ⊥) (λ q. a (sym q)) (λ q. b (sym q)) (λ q. c (sym q)) (λ q. d (sym q)) (λ q. g (sym q))
        (λ q. i (sym q)) (width_of k) k mask)

    no_link : (ms : List ℕ) → (steps f h ms).number ≡ 19 → ⊥
    no_link =
        unlike 19 (λ q. omega arith) (λ q. omega arith) (λ q. omega arith) (λ q. omega arith) (λ q. omega arith)
        (λ q. omega arith)

    no_loop : (ms : List ℕ) → (steps f h ms).number ≡ 20 → ⊥
    no_loop =
        unlike 20 (λ q. omega arith) (λ q. omega arith) (λ q. omega arith) (λ q. omega arith) (λ q. omega arith)
        (λ q. omega arith)

    pub made_in_words : MadeInWords f h e
    made_in_words =
        record {
          supplied = good_made f h e 0 h (good_none f h e);
          parent = made_parent;
          link = λ k. (
            entry_number (λ n. n ≡ 19 → Leaves (entries e) (parent_of e) k) k
                (λ m w q. absurd (no_link (masks_of e k m) q)) (λ l q. l) (λ a q. absurd (omega arith)),
            λ l. ap (λ (m : Made). m.number) (way_made f h e k 19 (λ z. omega arith) (leaves_way (entries e) (parent_of e) k l)),
          );
          loop = λ k. (
            entry_number (λ n. n ≡ 20 → Again (entries e) (parent_of e) k) k
                (λ m w q. absurd (no_loop (masks_of e k m) q)) (λ l q. absurd (omega arith)) (λ a q. a),
            λ a. ap (λ (m : Made). m.number) (way_made f h e k 20 (λ z. omega arith) (again_way (entries e) (parent_of e) k a)),
          );
        }

  pub step_numbers : StepNumbers f
  step_numbers h e wide here ungapped k =
      entry_number h e
      (λ n. (n ≡ 0) ⊎ (n ≡ 19) ⊎ (n ≡ 20) ⊎ (n ≡ 21) ⊎ (n ≡ 17)) k
      (λ m w.
      steps_number (λ n. (n ≡ 0) ⊎ (n ≡ 19) ⊎ (n ≡ 20) ⊎ (n ≡ 21) ⊎ (n ≡ 17)) h (inl refl)
      (λ ms g s mask.
      standing_number (λ n. (n ≡ 0) ⊎ (n ≡ 19) ⊎ (n ≡ 20) ⊎ (n ≡ 21) ⊎ (n ≡ 17)) (inl refl)
      (inr (inr (inr (inl refl)))) (inr (inr (inr (inr refl)))) g
      (steps_keep f Standing h (record { wide = wide; here = here; ungapped = ungapped })
      (λ k m p. standing_weakened (f (name_of k)) k m p) ms g s) mask)
      (masks_of e k m))
      (λ l. inr (inl refl)) (λ a. inr (inr (inl refl)))
