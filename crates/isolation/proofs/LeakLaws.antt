-- On which rules §7 rests: a way to carry out calls that breaks one of them tells two copies apart by a list in which no call spies.
-- Soundness is kept by both ways, so the lists are computed with the rows below the first.
-- Assumes nothing.
use mathlib.Core.Path.{◌≡◌, refl, sym, ap, ◌∙◌}
use mathlib.Core.Logic.{◌⊎◌, inl, inr}
use Prim.Native.Nat.{ℕ}
use native.Mathlib.Omega.{arith}
use mathlib.Core.Bool.{Bool, true, false, ◌&&◌, cond}
use mathlib.Core.List.{List, [], ◌∷◌}
use lib.Dec.{eqb}
use lib.ListN.{length, get_or}
use Rattle.handle.specs.Handles.{Name, same_password}
use Rattle.store.specs.Records.{primary_of}
use Rattle.store.specs.Sound.{sound}
use Rattle.calls.specs.Calls.{Copy, Call, Kind, new_segment, new_password, among, buffer}
use Rattle.calls.specs.Words.{Named}
use Rattle.calls.specs.Numbers.{tests}
use Rattle.calls.specs.Steps.{Reply, Outcome, Ran, plain, run_by, effects, about, step}
use Rattle.isolation.specs.Copies.{SoundCopy, keyed}
use Rattle.isolation.specs.Effects.{other_mode}
use Rattle.isolation.specs.Leaks.{uncleared_from, twelve_from, uncleared, twelve_of_either, UnclearedIs, OfOther, TwelveIs, LeaksDiffer}
use Rattle.isolation.specs.Writers.{Spies, NoReader, UntoldBy, RestsOnClearing, RestsOnTwelve}
use Rattle.isolation.specs.WriterLists.{ours, theirs, leak, guess}
use Rattle.calls.proofs.TestLaws.{Is, map_is, and_is, eq_is, off_is}
use Rattle.calls.proofs.KindLaws.{kind_is, only_kind}
use Rattle.calls.proofs.WordLaws.{current_is}
use Rattle.calls.proofs.Computing.{computing}
use Rattle.isolation.proofs.KeptLaws.{step_sound, others_alone}
use Rattle.isolation.proofs.RunLaws.{step_below, step_below_lem, some_by, run_same, along_same}
use Rattle.isolation.proofs.SpyLaws.{spying, unspied}
use Rattle.isolation.proofs.WriterCopyLaws.{sound_keeping, same_keeping}

-- where a list has no reply
abbrev no_reply : Reply
no_reply = plain 0 []

module _ (f : Name → List ℕ → ℕ → List ℕ) where
  -- ---- a way to carry out calls, made of the step, that keeps soundness

  module _ (from : Call → Copy → Outcome → Outcome)
      (sound : (x : Call) (c : Copy) → SoundCopy c → SoundCopy (from x c (step f x c)).copy) where
    abbrev way : Call → Copy → Outcome
    way x c = from x c (step f x c)

    abbrev below : Call → Copy → Outcome
    below x c = from x c (step_below f x c)

    same : (x : Call) (c : Copy) → SoundCopy c → way x c ≡ below x c
    same x c k = ap (from x c) (step_below_lem f x c k)

    -- what would follow for a list on the two copies
    alike : UntoldBy f way → (xs : List Call) → some_by below (spying 0 2 f) xs ours ≡ false
        → some_by below (spying 0 2 f) xs theirs ≡ false → (run_by below xs ours).replies ≡ (run_by below xs theirs).replies
    alike u xs eo et =
        ap (λ (n : Ran). n.replies) (sym (run_same way below same sound xs ours (sound_keeping 17 7 5)))
        ∙ (u 0 2 (omega arith) (omega arith) xs ours theirs (sound_keeping 17 7 5) (sound_keeping 1 9 6)
        (same_keeping 17 1 7 9 5 6) (no_reader ours (sound_keeping 17 7 5) eo) (no_reader theirs (sound_keeping 1 9 6) et)).replies
        ∙ ap (λ (n : Ran). n.replies) (run_same way below same sound xs theirs (sound_keeping 1 9 6))
      where
        no_reader : (c : Copy) → SoundCopy c → some_by below (spying 0 2 f) xs c ≡ false → NoReader 0 2 f way xs c
        no_reader c k e = along_same way below same sound (spying 0 2 f) (λ x s. ¬ Spies 0 2 f x s) (unspied 0 2 f) xs c k e

  -- ---- new segments that are not cleared

  sound_uncleared : (x : Call) (c : Copy) → SoundCopy c → SoundCopy (uncleared f x c).copy
  sound_uncleared x c k =
      ap (sound (step f x c).copy.store) (go (among (3 ∷ []) x.kind)) ∙ step_sound f x c k
    where
      go : (t : Bool) → length (cond t c.memory (step f x c).copy.memory) ≡ length (step f x c).copy.memory
      go true = sym (others_alone f x c k).size
      go false = refl

  pub rests_on_clearing : RestsOnClearing f
  unfolding keyed tests effects computing
  rests_on_clearing u =
      let e : ◌≡◌ {A = ℕ} 7 9 =
      ap (λ (rs : List Reply). get_or (get_or rs 4 no_reply).buffer 4 0) (alike uncleared_from sound_uncleared u leak refl refl) in
      omega arith

  -- ---- number 12 for the password of either mode

  sound_twelve : (x : Call) (c : Copy) → SoundCopy c → SoundCopy (twelve_of_either f x c).copy
  sound_twelve x c k =
      go (among (9 ∷ []) x.kind
      && eqb (step f x c).reply.number 0
      && same_password x.args.first (primary_of (about x c) (other_mode x.args.mode)))
    where
      go : (t : Bool) → SoundCopy (cond t (record { copy = c; reply = plain 12 (buffer x) }) (step f x c)).copy
      go true = k
      go false = step_sound f x c k

  pub rests_on_twelve : RestsOnTwelve f
  unfolding keyed tests effects computing
  rests_on_twelve u =
      let e : ◌≡◌ {A = ℕ} 12 0 =
      ap (λ (rs : List Reply). (get_or rs 0 no_reply).number) (alike twelve_from sound_twelve u guess refl refl) in
      omega arith

  -- ---- in what the two differ from the step

  uncleared_is : (x : Call) (c : Copy) → UnclearedIs f x c
  uncleared_is x c =
      record {
        reply = refl;
        store = refl;
        new = λ e. ap (λ (k : Kind). cond (among (3 ∷ []) k) c.memory (step f x c).copy.memory) e;
        others = λ n.
            ap (λ (t : Bool). cond t c.memory (step f x c).copy.memory)
            (off_is (kind_is (among (3 ∷ [])) (new_segment ∷ []) refl x) (λ e. n (only_kind new_segment x e)));
      }

  twelve_is : (x : Call) (c : Copy) → TwelveIs f x c
  twelve_is x c =
      record {
        twelve = λ h. ap (λ (t : Bool). cond t refused (step f x c)) (test.into h);
        others = λ n. ap (λ (t : Bool). cond t refused (step f x c)) (off_is test n);
      }
    where
      refused : Outcome
      refused = record { copy = c; reply = plain 12 (buffer x) }

      kind : Is (among (9 ∷ []) x.kind) (Named (new_password ∷ []) x)
      kind = kind_is (among (9 ∷ [])) (new_password ∷ []) refl x

      -- the other mode is one of the two
      either : (t : Bool) → let o : ℕ = elim t [ true ↦ 2 | false ↦ 1 ] in (o ≡ 1) ⊎ (o ≡ 2)
      either true = inr refl
      either false = inl refl

      test : Is
          (among (9 ∷ []) x.kind
          && eqb (step f x c).reply.number 0
          && same_password x.args.first (primary_of (about x c) (other_mode x.args.mode))) (OfOther f x c)
      test =
          map_is (λ t. record { renews = only_kind new_password x t.0.0; done = t.0.1; other = t.1 })
          (λ o. ((kind.out (ap (among (9 ∷ [])) o.renews), o.done), o.other))
          (and_is (and_is kind (eq_is (step f x c).reply.number 0))
          (current_is (other_mode x.args.mode) (about x c) x.args.first (either (eqb x.args.mode 1))))

  pub leaks_differ : LeaksDiffer f
  leaks_differ x c = (uncleared_is x c, twelve_is x c)
