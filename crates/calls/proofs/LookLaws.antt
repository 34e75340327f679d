-- A look in words. Its reply is the part that it tells, cut out of the memory, whether it is done or refused. Done, the store
-- is sound, so the part lies inside the memory and has as many bytes as the segment, one at least.
-- Assumes nothing.
use mathlib.Core.Path.{◌≡◌, refl, sym, ap, ◌∙◌, subst}
use mathlib.Core.Logic.{◌≢◌}
use Prim.Native.Nat.{ℕ, zero, suc, ◌+◌, ◌*◌, ◌-◌, ◌≤◌}
use native.Mathlib.Omega.{arith}
use mathlib.Core.Bool.{false, true≢false}
use mathlib.Core.List.{List, []}
use lib.Dec.{eqb}
use lib.ListN.{length, get_or, take, drop, length-drop}
use lib.Seq.{length-take-le, get_or-take, get_or-drop}
use borrow.Author.Tests.{eqb-true, not-false}
use Rattle.handle.specs.Handles.{Name, node_of, decoded}
use Rattle.store.specs.Places.{Place, None, Some, present_at}
use Rattle.store.specs.declared.Store.{Store}
use Rattle.store.specs.Records.{Tables, table_at, base_of, length_of, address}
use Rattle.store.specs.Sound.{is_absent}
use Rattle.calls.specs.declared.Part.{Part}
use Rattle.calls.specs.Calls.{Copy, Call, looking, start_for, part_for}
use Rattle.calls.specs.Numbers as N
use Rattle.calls.specs.Numbers.{elsewhere}
use Rattle.calls.specs.Numbers.{segment_absent}
use Rattle.calls.specs.Words.{place}
use Rattle.calls.specs.Steps.{Outcome, look_reply, within, outcome, step, effects}
use Rattle.calls.specs.Looks.{nowhere, part_by, looked}
use Rattle.calls.specs.LookWords.{number, part, reply, Shown, Hidden, LookInWords}
use Rattle.calls.proofs.DoneLaws.{NoRow, no_row}
use Rattle.calls.proofs.InsideLaws.{done_some, done_inside}

-- the current node of a look done is the handle's
pub look_here : (f : Name → List ℕ → ℕ → List ℕ) (v i : ℕ) (h : List ℕ) (s : Store) (size : ℕ)
    → N.number f (looking v i h) s size ≡ 0 → v ≡ node_of (decoded h)
unfolding elsewhere
look_here f v i h s size e =
    eqb-true v (node_of (decoded h))
    (not-false (eqb v (node_of (decoded h))) (no_row f (looking v i h) s size e).elsewhere)

-- ---- the part and the reply

module _ (f : Name → List ℕ → ℕ → List ℕ) (v i : ℕ) (h : List ℕ) (c : Copy) where
  abbrev x : Call
  x = looking v i h

  abbrev ts : Tables
  ts = table_at c.store

  pub step_looked : step f x c
      ≡ record { copy = c; reply = look_reply (number f v i h c) (within (part f v i h c) c.memory) }
  unfolding step looked effects
  step_looked = go (N.number f x c.store (length c.memory))
    where
      go : (n : ℕ) → outcome f n x c ≡ record { copy = c; reply = look_reply n (within (part_by n x ts) c.memory) }
      go zero = refl
      go (suc n) = refl

  shown_is : (reply f v i h c).shown ≡ within (part f v i h c) c.memory
  shown_is = ap (λ (o : Outcome). o.reply.shown) step_looked

  -- ---- done

  module _ (e : number f v i h c ≡ 0) where
    pub told : N.number f x c.store (length c.memory) ≡ 0
    unfolding looked
    told = e

    r : NoRow f x c.store (length c.memory)
    r = no_row f x c.store (length c.memory) told

    part_is : part f v i h c ≡ part_for x ts
    unfolding looked
    part_is = ap (λ (n : ℕ). part_by n x ts) told

    pub cut : (reply f v i h c).shown ≡ take (length_of (place x c.store)) (drop (start_for x ts) c.memory)
    cut =
        let n : start_for x ts + length_of (place x c.store) - start_for x ts ≡ length_of (place x c.store) = omega arith in
        shown_is ∙ ap (λ (p : Part). within p c.memory) part_is ∙ ap (λ (k : ℕ). take k (drop (start_for x ts) c.memory)) n

    present : is_absent (place x c.store) ≡ false
    unfolding segment_absent r
    present = r.segment_absent

    module _ (base size : ℕ) (q : place x c.store ≡ present_at base size) where
      abbrev from : ℕ
      from = node_of (decoded h) * 4096 + base

      there : part f v i h c ≡ record { from = from; to = from + size }
      there =
          part_is
          ∙ ap (λ (p : Place). record {
            from = address (node_of (decoded h)) (base_of p);
            to = address (node_of (decoded h)) (base_of p) + length_of p;
          }) q

      inside : from + size ≤ length c.memory
      inside = done_inside f x c told refl refl base size q

      cut_at : (reply f v i h c).shown ≡ take size (drop from c.memory)
      cut_at = cut ∙ ap (λ (p : Place). take (length_of p) (drop (address (node_of (decoded h)) (base_of p)) c.memory)) q

      length_cut : length (reply f v i h c).shown ≡ size
      length_cut = ap length cut_at ∙ length-take-le size (drop from c.memory) (simp length-drop (omega (arith, inside)))

      shown_at : Shown f v i h c
      shown_at =
          record {
            here = look_here f v i h c.store (length c.memory) told;
            base = base;
            size = size;
            present = q;
            some = done_some f x c told refl refl base size q;
            from = ap (λ (p : Part). p.from) there;
            to = ap (λ (p : Part). p.to) there;
            inside = subst (λ (p : Part). p.to ≤ length c.memory) (sym there) inside;
            long = length_cut;
            bytes = λ k l.
                ap (λ (b : List ℕ). get_or b k 0) cut_at
                ∙ get_or-take size (drop from c.memory) k 0 l
                ∙ get_or-drop from c.memory k 0;
          }

    pub shown : Shown f v i h c
    shown = go (place x c.store) refl present
      where
        go : (p : Place) → place x c.store ≡ p → is_absent p ≡ false → Shown f v i h c
        go None q a = absurd (true≢false a)
        go (Some span) q a = shown_at span.base span.length q

    pub shown_length : length (reply f v i h c).shown ≡ length_of (place x c.store)
    shown_length = go (place x c.store) refl present
      where
        go : (p : Place) → place x c.store ≡ p → is_absent p ≡ false
            → length (reply f v i h c).shown ≡ length_of (place x c.store)
        go None q a = absurd (true≢false a)
        go (Some span) q a = length_cut span.base span.length q ∙ sym (ap length_of q)

  -- ---- refused

  module _ (ne : number f v i h c ≢ 0) where
    nothing : part f v i h c ≡ nowhere
    unfolding looked
    nothing = go (N.number f x c.store (length c.memory)) ne
      where
        go : (n : ℕ) → (n ≡ 0 → ⊥) → part_by n x ts ≡ nowhere
        go zero ne = absurd (ne refl)
        go (suc n) ne = refl

    pub hidden : Hidden f v i h c
    hidden =
        record {
          from = ap (λ (p : Part). p.from) nothing;
          to = ap (λ (p : Part). p.to) nothing;
          shown = shown_is ∙ ap (λ (p : Part). within p c.memory) nothing;
        }

  -- ---- either

  by_number : {A : Type 0} → (number f v i h c ≡ 0 → A) → (number f v i h c ≢ 0 → A) → A
  by_number {A} done refused = go (number f v i h c) refl
    where
      go : (n : ℕ) → number f v i h c ≡ n → A
      go zero e = done e
      go (suc n) e = refused (λ z. omega (arith, e, z))

  pub part_inside : ((part f v i h c).from ≤ (part f v i h c).to) × ((part f v i h c).to ≤ length c.memory)
  part_inside =
      by_number
      (λ e. let s = shown e in let a = s.from in let b = s.to in (omega arith, s.inside))
      (λ ne. let s = hidden ne in let a = s.from in let b = s.to in (omega arith, omega arith))

  pub look_in_words : LookInWords f v i h c
  look_in_words =
      record {
        done = shown;
        refused = hidden;
        exact = shown_is;
        empty = (λ z e. not_none e z, λ ne. (hidden ne).shown);
        told =
            ap (λ (o : Outcome). o.reply) step_looked
            ∙ ap (λ (b : List ℕ). look_reply (number f v i h c) b) (sym shown_is);
        copy = ap (λ (o : Outcome). o.copy) step_looked;
      }
    where
      not_none : number f v i h c ≡ 0 → (reply f v i h c).shown ≡ [] → ⊥
      not_none e z = let s = shown e in let a = s.some in let b = s.long in let l = ap length z in omega arith
