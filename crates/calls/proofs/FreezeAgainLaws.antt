-- After a freeze the store is the same but for one mark, and sound. So no call but 2, 4 and 6 gets another reply, a second
-- freeze is done, and since the segment is frozen it changes nothing. A freeze sees three of its arguments.
-- Assumes nothing.
use mathlib.Core.Path.{◌≡◌, refl, sym, ap, ◌∙◌}
use mathlib.Core.Logic.{◌⊎◌, inl, inr}
use Prim.Native.Nat.{ℕ, zero, suc}
use native.Mathlib.Omega.{arith}
use native.Mathlib.Decide.{ℕ_discrete}
use mathlib.Core.Bool.{true}
use mathlib.Core.List.{List}
use lib.ListN.{length}
use borrow.Author.Tests.{not-false}
use Rattle.handle.specs.Handles.{Name}
use Rattle.store.specs.declared.Segment.{Segment}
use Rattle.store.specs.declared.Store.{Store}
use Rattle.store.specs.Records.{table_at, place_at}
use Rattle.store.specs.Sound.{sound}
use Rattle.store.proofs.ChangeLaws.{sound_frozen}
use Rattle.calls.specs.Calls.{Copy, Call, Arguments, call, delete_cluster, delete_segment}
use Rattle.calls.specs.Calls.{write, freeze, freezing}
use Rattle.calls.specs.Calls.{record_for}
use Rattle.calls.specs.Calls.{code}
use Rattle.calls.specs.Numbers.{unsound}
use Rattle.calls.specs.Numbers.{number, tests}
use Rattle.calls.specs.Steps.{Outcome}
use Rattle.calls.specs.Steps.{segment_marked, outcome, step, effects}
use Rattle.calls.specs.Answers.{copy_of}
use Rattle.calls.specs.FreezeWords.{FreezeInWords}
use Rattle.calls.specs.MarkWords.{SameButMarks, OwnMarks, AsAnyOther, FrozenTwice, FreezeUses}
use Rattle.calls.proofs.DoneLaws.{no_row, done_range, done_active}
use Rattle.calls.proofs.FreezeLaws.{freeze_in_words, freeze_present, step_marked}
use Rattle.calls.proofs.MarkWordLaws.{number_aside, marks_aside}

module _ (f : Name → List ℕ → ℕ → List ℕ) where
  -- ---- after a freeze

  module _ (g : Arguments) (c : Copy) (e : number f (call freeze g) c.store (length c.memory) ≡ 0) where
    abbrev y : Call
    y = call freeze g

    abbrev after : Copy
    after = (step f y c).copy

    words : FreezeInWords f g c
    words = freeze_in_words f g c e

    marked : SameButMarks after.store c.store
    marked =
        record {
          active = words.others.active;
          width = words.others.width;
          read = words.others.read;
          write = words.others.write;
          places = λ n i. go n i (ℕ_discrete n (record_for y)) (ℕ_discrete i g.segment);
        }
      where
        go : (n i : ℕ) → Dec (n ≡ record_for y) → Dec (i ≡ g.segment)
            → place_at (table_at after.store) n i ≡ place_at (table_at c.store) n i
        go n i (yes p) (yes q) =
            (λ j. place_at (table_at after.store) (p j) (q j)) ∙ words.stays
            ∙ (λ j. place_at (table_at c.store) (sym p j) (sym q j))
        go n i (yes p) (no q) = ap (λ (s : Segment). s.place) (words.others.segments n i (inr q))
        go n i (no p) d = ap (λ (s : Segment). s.place) (words.others.segments n i (inl p))

    before_sound : sound c.store (length c.memory) ≡ true
    unfolding unsound
    before_sound =
        not-false (sound c.store (length c.memory)) (no_row f y c.store (length c.memory) e).unsound

    after_sound : sound after.store (length c.memory) ≡ true
    unfolding segment_marked
    after_sound =
        let r = done_range f y c.store (length c.memory) e in
        ap (λ (o : Outcome). sound o.copy.store (length c.memory)) (step_marked f g c e)
        ∙ sound_frozen c.store (length c.memory) before_sound _ _ r.node_low r.local_low g.segment
        (done_active f y c.store (length c.memory) e refl) (freeze_present f g c e)

    -- it is the store left and the memory of before
    whole : after ≡ copy_of after.store c.memory
    whole = ap (copy_of after.store) words.memory

    again : number f y after.store (length after.memory) ≡ 0
    again =
        ap (λ (m : List ℕ). number f y after.store (length m)) words.memory
        ∙ number_aside f y after.store c.store (length c.memory) after_sound before_sound marked none
        ∙ e
      where
        none : OwnMarks y after.store c.store
        none = record { cluster = λ q. let d : code freeze ≡ code delete_cluster = ap code q in absurd (omega arith); segment = λ q. absurd (other q) }
          where
            other : (freeze ≡ delete_segment) ⊎ (freeze ≡ write) → ⊥
            other (inl q) = let d : code freeze ≡ code delete_segment = ap code q in omega arith
            other (inr q) = let d : code freeze ≡ code write = ap code q in omega arith

  pub as_any_other : AsAnyOther f
  as_any_other g c e x n2 n4 n6 =
      ap (λ (d : Copy). (step f x d).reply) (whole g c e)
      ∙ marks_aside f x (after g c e).store c.store c.memory (after_sound g c e) (before_sound g c e) (marked g c e)
      (record { cluster = λ q. absurd (n2 q); segment = λ q. absurd (neither q) })
    where
      neither : (x.kind ≡ delete_segment) ⊎ (x.kind ≡ write) → ⊥
      neither (inl q) = n4 q
      neither (inr q) = n6 q

  pub frozen_twice : FrozenTwice f
  frozen_twice g c e =
      (again g c e, (freeze_in_words f g (after g c e) (again g c e)).twice (freeze_in_words f g c e).marked)

  -- ---- the arguments of a freeze

  same_number : (g : Arguments) (s : Store) (size : ℕ)
      → number f (call freeze g) s size ≡ number f (freezing g.current g.segment g.handle) s size
  unfolding number tests
  same_number g s size = refl

  same_outcome : (g : Arguments) (c : Copy) (n : ℕ)
      → outcome f n (call freeze g) c ≡ outcome f n (freezing g.current g.segment g.handle) c
  unfolding effects
  same_outcome g c zero = refl
  same_outcome g c (suc n) = refl

  pub freeze_uses : FreezeUses f
  unfolding step
  freeze_uses =
      record {
        step = λ g c.
            ap (λ (n : ℕ). outcome f n (call freeze g) c) (same_number g c.store (length c.memory))
            ∙ same_outcome g c
            (number f (freezing g.current g.segment g.handle) c.store (length c.memory));
        arguments = refl;
      }
