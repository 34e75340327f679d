-- Each use is read off its statement by the clause that it is there for.
-- Assumes nothing.
use Prim.Native.Nat.{ℕ, zero, suc, ◌<◌}
use native.Mathlib.Omega.{arith}
use mathlib.Core.Path.{◌≡◌, refl, sym, ap, ◌∙◌, subst}
use mathlib.Core.Logic.{◌≢◌, ◌⊎◌, inl, inr}
use mathlib.Core.Bool.{false, true≢false}
use mathlib.Core.List.{List}
use lib.Dec.{ltb}
use lib.ListN.{length}
use borrow.Author.Tests.{lt-ltb, le-ltb}
use Rattle.bits.specs.Sets.{has}
use Rattle.chain.specs.Way.{reached}
use Rattle.chain.specs.Means.{IsRecord, OnRecords, Leaves, Again}
use Rattle.chain.proofs.WayLaws.{reached_none}
use Rattle.handle.specs.declared.Handle.{Handle}
use Rattle.handle.specs.Selectors.{references}
use Rattle.handle.specs.Handles.{Name}
use Rattle.handle.specs.Conversion.{SixteenBytes}
use Rattle.register.specs.Registers.{entries, parent_of, mask_of, Made, given, stepped, made, told, whole_number}
use Rattle.register.specs.Registers.{handles_told, openers_told}
use Rattle.register.specs.Words.{EntrysHandle}
use Rattle.register.specs.cases.Uses.{Full, EntryUses, FreeUses, HandleUses, BackUses, LowestUses, WholeUses}
use Rattle.register.specs.cases.Uses.{HandlesUses, OpenersUses}
use Rattle.register.proofs.EntryLaws.{made_in_words, step_numbers}
use Rattle.register.proofs.WordLaws.{entrys_handles, opens_as_supplied}
use Rattle.register.proofs.OwnWayLaws.{own_way_alone}
use Rattle.register.proofs.WholeLaws.{clear_in, whole_in_words}
use Rattle.register.proofs.FreeLaws.{free_of_passwords}
use Rattle.register.proofs.AnswerLaws.{handles_done, handles_answer, handles_in_words, read_back}
use Rattle.register.proofs.AnswerLaws.{openers_done, openers_answer, openers_in_words}

last : (e : List ℕ) → Full e → IsRecord (entries e) 255
last e q = (omega arith, omega arith)

-- ---- ways

step_one : (e : List ℕ) (k : ℕ) → reached (parent_of e) k 1 ≡ parent_of e k
unfolding reached
step_one e k = refl

step_two : (e : List ℕ) (k : ℕ) → reached (parent_of e) k 2 ≡ parent_of e (parent_of e k)
unfolding reached
step_two e k = refl

module _ (f : Name → List ℕ → ℕ → List ℕ) where
  pub entry_uses : EntryUses f
  entry_uses =
      record {
        supplied = λ h e. (made_in_words f h e).supplied;
        parent_below = λ h e n q.
            (made_in_words f h e).parent 1 (omega arith, omega arith)
            ∙ ap (λ (k : ℕ). stepped f (made f h e k) (mask_of e 1)) q;
        parent_above = λ h e n q.
            (made_in_words f h e).parent 255 (last e n) ∙ ap (λ (k : ℕ). stepped f (made f h e k) (mask_of e 255)) q;
        handed_on = λ h e n q r.
            (made_in_words f h e).parent 7 (omega arith, omega arith)
            ∙ ap (λ (m : Made). stepped f m (mask_of e 7)) (ap (made f h e) q ∙ r);
        missing = λ h e n q. ((made_in_words f h e).link 254).1 (leaves e n q);
        missed = λ h e. ((made_in_words f h e).link 9).0;
        ring = λ h e n q r. ((made_in_words f h e).loop 255).1 (again e n q r);
        round = λ h e. ((made_in_words f h e).loop 9).0;
        no_other = λ h e n a b c z. other (made f h e 255).number z (step_numbers f h e a b c 255);
        own_bytes = λ h e e' n n' q q' m. own_way_alone f h e e' 255 (n ∙ sym n') (same e e' q q' m);
      }
    where
      leaves : (e : List ℕ) → entries e ≡ 254 → parent_of e 254 ≡ 255 → Leaves (entries e) (parent_of e) 254
      leaves e n q =
          record {
            after = 1;
            on = λ i l. subst (IsRecord (entries e))
                (sym (ap (reached (parent_of e) 254) (let z : i ≡ 0 = omega arith in z) ∙ reached_none (parent_of e) 254))
                (omega arith, omega arith);
            beyond = let r = step_one e 254 in omega arith;
          }

      again : (e : List ℕ) → Full e → parent_of e 255 ≡ 3 → parent_of e 3 ≡ 255 → Again (entries e) (parent_of e) 255
      again e n q r =
          record {
            before = 0;
            again = 2;
            later = omega arith;
            on = on;
            same = reached_none (parent_of e) 255 ∙ sym (step_two e 255 ∙ ap (parent_of e) q ∙ r);
          }
        where
          on : OnRecords (entries e) (parent_of e) 255 3
          on zero l = let a = reached_none (parent_of e) 255 in (omega arith, omega arith)
          on (suc zero) l = let a = step_one e 255 in (omega arith, omega arith)
          on (suc (suc zero)) l = let a = step_two e 255 ∙ ap (parent_of e) q ∙ r in (omega arith, omega arith)
          on (suc (suc (suc i))) l = absurd (omega arith)

      other : (n : ℕ) → n ≡ 4 → (n ≡ 0) ⊎ (n ≡ 19) ⊎ (n ≡ 20) ⊎ (n ≡ 21) ⊎ (n ≡ 17) → ⊥
      other n z (inl a) = omega arith
      other n z (inr (inl a)) = omega arith
      other n z (inr (inr (inl a))) = omega arith
      other n z (inr (inr (inr (inl a)))) = omega arith
      other n z (inr (inr (inr (inr a)))) = omega arith

      same : (e e' : List ℕ) → parent_of e 255 ≡ 0 → parent_of e' 255 ≡ 0 → mask_of e 255 ≡ mask_of e' 255 → (i : ℕ)
          → OnRecords (entries e) (parent_of e) 255 (suc i)
          → (parent_of e (reached (parent_of e) 255 i) ≡ parent_of e' (reached (parent_of e) 255 i))
          × (mask_of e (reached (parent_of e) 255 i) ≡ mask_of e' (reached (parent_of e) 255 i))
      same e e' q q' m zero on =
          subst (λ (k : ℕ). (parent_of e k ≡ parent_of e' k) × (mask_of e k ≡ mask_of e' k)) (sym (reached_none (parent_of e) 255))
          (q ∙ sym q', m)
      same e e' q q' m (suc i) on = absurd (let a = (on 1 (omega arith)).0 in let b = step_one e 255 in omega arith)

  pub free_uses : (g : Name → List ℕ → ℕ → List ℕ) → FreeUses f g
  free_uses g =
      record {
        number = λ h h' e s. (free_of_passwords f g h h' e s).number 255;
        selector = λ h h' e s. (free_of_passwords f g h h' e s).selector 255;
        told = λ h h' e s. (free_of_passwords f g h h' e s).told;
        openers = λ h h' e s. (free_of_passwords f g h h' e s).openers 7 255;
      }

  pub handle_uses : HandleUses f
  handle_uses =
      record {
        named = λ h e g n q. (its h e g n q).named;
        width = λ h e g n q. (its h e g n q).width;
        ungapped = λ h e g n q. (its h e g n q).ungapped;
        of_supplied = λ h e g n q w r. (((its h e g n q).refers 3 w).0 r).0;
        of_own_mask = λ h e g n q w r.
            ap (λ (k : ℕ). has 3 (mask_of e k)) (sym (reached_none (parent_of e) 255))
            ∙ (((its h e g n q).refers 3 w).0 r).1 0 (met_more h e g n q);
        of_parents_mask = λ h e g n a q w r.
            ap (λ (k : ℕ). has 3 (mask_of e k)) (sym (step_one e 255 ∙ a))
            ∙ (((its h e g n q).refers 3 w).0 r).1 1 (met_two h e g n q a);
        by_all = λ h e g n q w r all.
            ((its h e g n q).refers 3 w).1
            (r, λ j l. all (reached (parent_of e) 255 j) (subst (λ (m : ℕ). IsRecord m (reached (parent_of e) 255 j)) n ((its h e g n q).way.on j l)));
        some = λ h e g n q none.
            true≢false (sym (its h e g n q).some ∙ none (its h e g n q).segment (its h e g n q).below);
        valid = λ w n p h e g o q. (opens_as_supplied f w n p (references h.selector) h e 255 g o q).valid;
      }
    where
      its : (h : Handle) (e : List ℕ) (g : Handle) → Full e → made f h e 255 ≡ given g → EntrysHandle h e 255 g
      its h e g n q = entrys_handles f h e 255 g (last e n) q

      met_more : (h : Handle) (e : List ℕ) (g : Handle) (n : Full e) (q : made f h e 255 ≡ given g)
          → 0 < (its h e g n q).met
      met_more h e g n q = go (its h e g n q).met (its h e g n q).way.zero_after
        where
          go : (m : ℕ) → reached (parent_of e) 255 m ≡ 0 → 0 < m
          go zero z = absurd (let a = reached_none (parent_of e) 255 in omega arith)
          go (suc m) z = omega arith

      met_two : (h : Handle) (e : List ℕ) (g : Handle) (n : Full e) (q : made f h e 255 ≡ given g) → parent_of e 255 ≡ 1
          → 1 < (its h e g n q).met
      met_two h e g n q a = go (its h e g n q).met (its h e g n q).way.zero_after
        where
          go : (m : ℕ) → reached (parent_of e) 255 m ≡ 0 → 1 < m
          go zero z = absurd (let a = reached_none (parent_of e) 255 in omega arith)
          go (suc zero) z = absurd (let b = step_one e 255 in omega arith)
          go (suc (suc m)) z = omega arith

  pub lowest_uses : LowestUses f
  lowest_uses =
      record {
        handles_its = λ b e room c. ((handles_answer f b e room).entry c).its;
        handles_below = λ b e room c l. ((handles_answer f b e room).entry c).below 1 (omega arith) l;
        handles_inside = λ b e room c z. (((handles_answer f b e room).entry c).entry z).1;
        openers_its = λ b e s room c l. ((openers_answer f b e s room).entry (c, l)).its;
        openers_below = λ b e s room c l h. ((openers_answer f b e s room).entry (c, l)).below 1 (omega arith) h;
        openers_inside = λ b e s room c l z. (((openers_answer f b e s room).entry (c, l)).entry z).1;
        handles_none = λ b e room c. ((handles_answer f b e room).entry c).none;
        handles_done = λ b e room n c z. ((handles_answer f b e room).entry c).done z 255 (last e n);
      }

  pub back_uses : SixteenBytes f → BackUses f
  back_uses sixteen = record { back = λ b e g o q. read_back f sixteen b e 255 g o q }

  -- a number for the whole that is not 0 is told
  whole_first : (b e : List ℕ) (room n : ℕ) → whole_number b false (length e) room 23 ≡ n → n ≢ 0 → handles_told f b e room ≡ told n 0
  whole_first b e room n q z =
      (handles_answer f b e room).whole (λ c. z (sym q ∙ clear_in b false (length e) room 23 c refl)) ∙ ap (λ (n : ℕ). told n 0) q

  whole_second : (b e : List ℕ) (s room n : ℕ) → whole_number b (ltb 7 s) (length e) room 1 ≡ n → n ≢ 0
      → told (openers_told f b s e room).number (openers_told f b s e room).entry ≡ told n 0
  whole_second b e s room n q z =
      (openers_answer f b e s room).whole
      (λ c. z (sym q ∙ clear_in b (ltb 7 s) (length e) room 1 c.0 (le-ltb 7 s c.1)))
      ∙ ap (λ (n : ℕ). told n 0) q

  pub whole_uses : WholeUses f
  whole_uses =
      record {
        bytes = λ b e room l.
            whole_first b e room 25 ((whole_in_words b false (length e) room 23).bytes.1 (λ z. omega arith)) (λ z. omega arith);
        bytes_second = λ b e s room l.
            whole_second b e s room 25 ((whole_in_words b (ltb 7 s) (length e) room 1).bytes.1 (λ z. omega arith)) (λ z. omega arith);
        node = λ b e room l h.
            whole_first b e room 2 (((whole_in_words b false (length e) room 23).place l).1 (inl h)) (λ z. omega arith);
        local = λ b e s room l h.
            whole_second b e s room 2 (((whole_in_words b (ltb 7 s) (length e) room 1).place l).1 (inr h)) (λ z. omega arith);
        segment = λ b e s room l n h.
            whole_second b e s room 3 (((whole_in_words b (ltb 7 s) (length e) room 1).segment l n).1 (lt-ltb 7 s h)) (λ z. omega arith);
        gap = λ b e s room l n h g.
            whole_second b e s room 4 (((whole_in_words b (ltb 7 s) (length e) room 1).gap l n (le-ltb 7 s h)).1 g) (λ z. omega arith);
        odd = λ b e room l n g h.
            whole_first b e room 18 (((whole_in_words b false (length e) room 23).entries l n refl g).1 (inl h)) (λ z. omega arith);
        many = λ b e s room l n h g m.
            whole_second b e s room 18 (((whole_in_words b (ltb 7 s) (length e) room 1).entries l n (le-ltb 7 s h) g).1 (inr m))
            (λ z. omega arith);
        short = λ b e l n g h.
            whole_first b e 5864 15
            (((whole_in_words b false (length e) 5864 23).buffer l n refl g (omega arith) (omega arith)).1 (omega arith))
            (λ z. omega arith);
        short_second = λ b e s l n q g h.
            whole_second b e s 254 15
            (((whole_in_words b (ltb 7 s) (length e) 254 1).buffer l n (le-ltb 7 s q) g (omega arith) (omega arith)).1 (omega arith))
            (λ z. omega arith);
      }

  pub handles_uses : SixteenBytes f → (b e m : List ℕ) → HandlesUses f b e m
  handles_uses sixteen b e m =
      record {
        done = λ c n. (handles_done f b e (length m)).1 (c, n);
        only_clear = λ z. ((handles_done f b e (length m)).0 z).0.bytes;
        none_fails = λ n z. ((handles_done f b e (length m)).0 z).1 255 (last e n);
        refused = (handles_in_words f sixteen b e m).refused;
        long = (handles_in_words f sixteen b e m).long;
        last_byte = λ n z. (handles_in_words f sixteen b e m).laid z 255 22 (last e n) (omega arith);
        behind = λ n z. (handles_in_words f sixteen b e m).behind z 5865 (omega arith);
      }

  pub openers_uses : (b e : List ℕ) (s : ℕ) (m : List ℕ) → OpenersUses f b e s m
  openers_uses b e s m =
      record {
        done = λ c l n. (openers_done f b e s (length m)).1 ((c, l), n);
        none_fails = λ n z. ((openers_done f b e s (length m)).0 z).1 255 (last e n);
        segments = λ z. ((openers_done f b e s (length m)).0 z).0.1;
        refused = λ z. ((openers_in_words f b e s m).refused z).0;
        none_told = λ z. ((openers_in_words f b e s m).refused z).1;
        long = (openers_in_words f b e s m).long;
        rises = λ l. (openers_in_words f b e s m).rising 253 254 (omega arith) l;
        opens = λ z l. (((openers_in_words f b e s m).exactly z _).0 (record { place = 0; low = l; is = refl })).1;
        listed = λ n z r. ((openers_in_words f b e s m).exactly z 255).1 (last e n, r);
        behind = (openers_in_words f b e s m).behind _ (omega arith);
      }
