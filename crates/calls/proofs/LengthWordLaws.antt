-- Which calls get 25, from the table in words: it stands there twice, so of the entries before, between and after the two the
-- number tells that they are not meant. A handle of another width than its cluster's has the second of them.
-- Assumes nothing.
use mathlib.Core.Path.{◌≡◌, refl, sym, ap, ◌∙◌}
use mathlib.Core.Logic.{◌≢◌, ◌⊎◌, inl, inr}
use Prim.Native.Nat.{ℕ}
use native.Mathlib.Omega.{arith}
use mathlib.Core.Bool.{Bool, false, ◌&&◌, true≢false}
use mathlib.Core.List.{List, [], ◌∷◌}
use lib.ListN.{length, drop}
use borrow.Author.Tests.{ne_eqb}
use Rattle.handle.specs.declared.Handle.{Handle}
use Rattle.handle.specs.Handles.{Name, name_of, width_of, validates}
use Rattle.store.specs.declared.Store.{Store}
use Rattle.store.specs.Records.{cluster_at, primary_of}
use Rattle.calls.specs.Calls.{Copy, Call, new_cluster, weaken, buffer, record_named, validating}
use Rattle.calls.specs.Numbers.{valid, number}
use Rattle.calls.specs.Words.{Named, BadLength, OtherWidth, Told, table, cluster_of}
use Rattle.calls.specs.Steps.{Outcome, plain, step}
use Rattle.calls.specs.LengthWords.{Reached, LengthInWords, OnlyByLength, LengthFirst, NeverOpens}
use Rattle.calls.proofs.KindLaws.{only_kind, other_kind}
use Rattle.calls.proofs.PresentedWords.{handled_is, opens_is}
use Rattle.calls.proofs.WordLaws.{other_width_is}
use Rattle.calls.proofs.TableLaws.{table_in_words}
use Rattle.calls.proofs.DoneLaws.{no_row}
use Rattle.calls.proofs.StepLaws.{step_refused}

-- an entry with another number is not the one that is told
past : {n m : ℕ} {W T : Type 0} → n ≢ m → ((n ≡ m) × W) ⊎ ((¬ W) × T) → (¬ W) × T
past d (inl (e, w)) = absurd (d e)
past d (inr r) = r

after : {n m : ℕ} {W T : Type 0} → n ≢ m → ((n ≡ m) × W) ⊎ ((¬ W) × T) → T
after d t = (past d t).1

-- an entry whose words do not hold, and what is told below it
infixr 2 ◌▹◌
◌▹◌ : {n m : ℕ} {W T : Type 0} → ¬ W → T → ((n ≡ m) × W) ⊎ ((¬ W) × T)
◌▹◌ w t = inr (w, t)

module _ (f : Name → List ℕ → ℕ → List ℕ) where
  module _ (x : Call) (s : Store) (size : ℕ) where
    reached : Told (table f x s size) 25 → BadLength x ⊎ (Reached x s size × OtherWidth x s)
    reached (inl (e, w)) = inl w
    reached (inr (lengths, t)) =
        let r1 = past (λ e. omega arith) t in
        let r2 = past (λ e. omega arith) r1.1 in
        let r3 = past (λ e. omega arith) r2.1 in
        let r4 = past (λ e. omega arith) r3.1 in
        let r24 = past (λ e. omega arith) r4.1 in
        let r5 = past (λ e. omega arith) r24.1 in
        let r6 = past (λ e. omega arith) r5.1 in
        let r7 = past (λ e. omega arith) r6.1 in
        let r8 = past (λ e. omega arith) r7.1 in
        inr (
          record {
            lengths = lengths;
            sound = r1.0;
            place = r2.0;
            field = r3.0;
            even = r4.0;
            together = r24.0;
            here = r5.0;
            active = r8.0;
          },
          second r8.1,
        )
      where
        below : Told (drop 11 (table f x s size)) 25 → ⊥
        below t =
            after (λ e. omega arith) (after (λ e. omega arith) (after (λ e. omega arith) (after (λ e. omega arith)
            (after (λ e. omega arith) (after (λ e. omega arith) (after (λ e. omega arith) (after (λ e. omega arith)
            (after (λ e. omega arith) (after (λ e. omega arith) (after (λ e. omega arith) (after (λ e. omega arith)
            (after (λ e. omega arith) t))))))))))))

        second : Told (drop 10 (table f x s size)) 25 → OtherWidth x s
        second (inl (e, o)) = o
        second (inr (n, t)) = absurd (below t)

    -- rows 6 and 7 are call 1's, which opens no cluster
    told : BadLength x ⊎ (Reached x s size × OtherWidth x s) → Told (table f x s size) 25
    told (inl w) = inl (refl, w)
    told (inr (r, o)) =
        r.lengths ▹
        r.sound ▹
        r.place ▹
        r.field ▹
        r.even ▹
        r.together ▹
        r.here ▹
        (λ u. other u.0) ▹
        (λ u. other u.0) ▹
        r.active ▹
        inl (refl, o)
      where
        other : ¬ Named (new_cluster ∷ []) x
        other n = other_kind _ {j = new_cluster} refl x o.0 (only_kind new_cluster x n)

  pub length_in_words : LengthInWords f
  length_in_words x s size =
      let t = (table_in_words f x s size).told 25 (omega arith) in
      (λ e. reached x s size (t.0 e), λ w. t.1 (told x s size w))

  pub only_by_length : OnlyByLength f
  only_by_length x s size k e = go ((length_in_words x s size).0 e)
    where
      go : BadLength x ⊎ (Reached x s size × OtherWidth x s) → BadLength x
      go (inl w) = w
      go (inr (r, o)) = absurd (other_kind _ {j = weaken} refl x o.0 k)

  pub length_first : (x : Call) → BadLength x → LengthFirst f x
  length_first x w =
      record {
        number = given;
        told = λ c. ap (λ (o : Outcome). o.reply.number) (refused c);
        copy = λ c. ap (λ (o : Outcome). o.copy) (refused c);
        buffer = λ c. ap (λ (o : Outcome). o.reply.buffer) (refused c);
      }
    where
      given : (s : Store) (size : ℕ) → number f x s size ≡ 25
      given s size = (length_in_words x s size).1 (inl w)

      refused : (c : Copy) → step f x c ≡ record { copy = c; reply = plain 25 (buffer x) }
      refused c = step_refused f x c 25 (given c.store (length c.memory)) (λ e. omega arith)

  -- ---- a handle of another width than its cluster's

  other_invalid : (m : ℕ) (h : Handle) (s : Store) → (cluster_of h s).width ≢ width_of h → valid f m h s ≡ false
  unfolding valid
  other_invalid m h s n =
      ap
      (λ (b : Bool). b && validates (width_of h) (f (name_of h)) (primary_of (cluster_at s (record_named h)) m) h)
      (ne_eqb (width_of h) (cluster_of h s).width (λ e. n (sym e)))

  other_refused : (x : Call) (s : Store) (size : ℕ) → OtherWidth x s → number f x s size ≢ 0
  other_refused x s size o e = true≢false (sym ((other_width_is x s).into o) ∙ (no_row f x s size e).other_width)

  pub never_opens : NeverOpens f
  never_opens =
      record {
        valid = other_invalid;
        done = other_refused;
        validation = λ m b s size n.
            let x = validating m b in
            other_refused x s size ((opens_is x).out refl, inl ((handled_is x).out refl, n));
      }
