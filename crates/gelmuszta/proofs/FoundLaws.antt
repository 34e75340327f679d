-- What a handle opens in an image: what is refused before all else, and what the core is given and leaves. What is found in an
-- image goes with every memory of the store's size.
-- Assumes nothing.
use mathlib.Core.Path.{◌≡◌, refl, sym, ap, ◌∙◌}
use mathlib.Core.Bool.{Bool, true, false, ◌||◌, or-false, or-true}
use mathlib.Core.List.{List, [], ◌∷◌}
use Prim.Native.Nat.{ℕ, ◌<◌}
use native.Mathlib.Omega.{arith}
use lib.ListN.{length, get_or}
use denote.Ref.{Bor}
use Rattle.std.specs.Prelude.{Result, Ok, Err}
use Rattle.std.specs.Result.{IsErrAnd}
use Rattle.sizes.specs.Sizes.{memory}
use Rattle.numbers.specs.declared.Number.{Number}
use Rattle.numbers.specs.Codes.{code}
use Rattle.numbers.specs.Numbers.{unsound_number}
use Rattle.handle.specs.declared.Handle.{Handle}
use Rattle.handle.specs.Handles.{no_width, decoded}
use Rattle.store.specs.declared.Cluster.{Cluster}
use Rattle.store.specs.declared.Store.{Store}
use Rattle.store.specs.Records.{cluster_at, put_record, record_at}
use Rattle.calls.specs.declared.Given.{Given}
use Rattle.calls.specs.declared.Changed.{Changed}
use Rattle.calls.specs.Calls.{Call, among, presented, any_of, joining, buffer}
use Rattle.calls.specs.Numbers.{bad_length}
use Rattle.calls.specs.Steps.{plain, aes_step}
use Rattle.calls.specs.Answers.{Answer, copy_of, replied, ended, changed}
use Rattle.numbers.proofs.ToldLaws.{code_above, exit_err}
use Rattle.refusals.specs.declared.Opened.{Opened}
use Rattle.refusals.specs.Given.{OpenedFrom, GivenPlace, record_found, put}
use Rattle.image.specs.Images.{image_bytes, good, store_in, image_of}
use Rattle.image.proofs.TripLaws.{image_store}
use Rattle.image.specs.Verdicts.{sound_in}
use Rattle.gelmuszta.specs.inner.Found.{Looks, Changes}
use Rattle.gelmuszta.specs.Exported.{leaving, early, exported, Gives}
use Rattle.gelmuszta.proofs.ExportLaws.{held_sound, refused_with_lem, refused_unsound, same_left, kept_left}

-- bytes that are good are the image of the store that they hold
pub image_whole : (b : List ℕ) → length b ≡ image_bytes → ((i : ℕ) → get_or b i 0 < 256) → good b ≡ true → image_of (store_in b) ≡ b
image_whole b l f = image_store b (record { long = l; below = f })

-- ---- what is refused before all else

module _ (b hb : List ℕ) (n : Number) (w : Looks (Err n) b (decoded hb)) (x : Call) where
  pub early_alone : presented x ≡ decoded hb ∷ [] → code n ≡ early (bad_length x) (sound_in b)
  unfolding bad_length
  early_alone shown =
      w.told
      ∙ ap (λ (q : Bool). early q (sound_in b)) (sym (or-false (no_width (decoded hb))) ∙ sym (ap (any_of no_width) shown))

  pub refused_lent : among (7 ∷ []) x.kind ≡ false → presented x ≡ decoded hb ∷ [] → (buf : List ℕ) → buf ≡ buffer x
      → (m : List ℕ) → length m ≡ memory → leaving (plain (code n) buf) b m ≡ exported x b m
  refused_lent looks shown buf e m em =
      refused_with_lem b m em w.whole x looks buf e (code n) (early_alone shown) (code_above n)

  -- at the exit that returns it
  pub exit_lent : among (7 ∷ []) x.kind ≡ false → presented x ≡ decoded hb ∷ [] → (buf : List ℕ) → buf ≡ buffer x
      → (m : List ℕ) → length m ≡ memory → (q : Answer) → IsErrAnd q (λ k. k ≡ n) → leaving (replied q buf) b m ≡ exported x b m
  exit_lent looks shown buf e m em q i =
      ap (λ (a : Answer). leaving (replied a buf) b m) (exit_err {X = Opened} (Err n) n refl q i) ∙ refused_lent looks shown buf e m em

-- of a join, where the second has one of the three lengths, and where it has not
module _ (b ha hb : List ℕ) (mode : ℕ) (whole : good b ≡ true → image_of (store_in b) ≡ b) where
  abbrev y : Call
  y = joining mode ha hb

  both : bad_length y ≡ no_width (decoded ha) || (no_width (decoded hb) || false)
  unfolding bad_length
  both = refl

  pub refused_second : no_width (decoded hb) ≡ true → Gives y b (plain 25 []) b
  refused_second t m em =
      refused_with_lem b m em whole y refl [] refl 25 (sym (ap (λ (q : Bool). early q (sound_in b)) long))
      (λ z. omega (arith, z))
    where
      long : bad_length y ≡ true
      long =
          both ∙ ap (λ (q : Bool). no_width (decoded ha) || (q || false)) t ∙ or-true (no_width (decoded ha))

  refused_first : no_width (decoded hb) ≡ false → (n : Number) → Looks (Err n) b (decoded ha) → Gives y b (plain (code n) []) b
  refused_first f n w m em =
      refused_with_lem b m em whole y refl [] refl (code n) (w.told ∙ ap (λ (q : Bool). early q (sound_in b)) known) (code_above n)
    where
      known : no_width (decoded ha) ≡ bad_length y
      known =
          sym (or-false (no_width (decoded ha)))
          ∙ sym (ap (λ (q : Bool). no_width (decoded ha) || (q || false)) f) ∙ sym both

  pub exit_first : no_width (decoded hb) ≡ false → (n : Number) → Looks (Err n) b (decoded ha) → (q : Answer)
      → IsErrAnd q (λ k. k ≡ n) → Gives y b (replied q []) b
  exit_first f n w q i m em =
      ap (λ (a : Answer). leaving (replied a []) b m) (exit_err {X = Opened} (Err n) n refl q i) ∙ refused_first f n w m em

-- ---- what the core is given, and what it leaves

module _ (b hb : List ℕ) (o : Opened) (w : Looks (Ok o) b (decoded hb)) where
  pub held : sound_in b ≡ true
  held = sym w.opened.judged ∙ w.opened.sound

  module _ (m : List ℕ) (em : length m ≡ memory) where
    pub opened_from : OpenedFrom o (store_in b) m hb
    opened_from =
        record {
          sound = w.opened.sound ∙ held_sound b m em w.whole held;
          handle = w.opened.handle;
          found = w.opened.cluster ∙ sym (ap (λ (h : Handle). cluster_at (store_in b) (record_found h)) w.opened.handle);
        }

    module _ (x : Call) (n : List ℕ) (a : Answer) where
      pub same_lent : (buf : List ℕ) → ended (store_in b) n a buf ≡ aes_step x (copy_of (store_in b) m)
          → leaving (replied a buf) b n ≡ exported x b m
      same_lent = same_left b m em w.whole held x n a

      pub kept_lent : (s : Store) → ended s n a [] ≡ aes_step x (copy_of (store_in b) m) → (after : List ℕ)
          → (good b ≡ true → after ≡ image_of s) → leaving (replied a []) after n ≡ exported x b m
      kept_lent s = kept_left b m em w.whole held x s n a

  -- the records stay, with every memory
  pub same_any : (x : Call) (a : Answer)
      → ((s : Store) (m : List ℕ) → OpenedFrom o s m hb → ended s m a [] ≡ aes_step x (copy_of s m)) → Gives x b (replied a []) b
  same_any x a core m em = same_lent m em x m a [] (core (store_in b) m (opened_from m em))

-- ---- a call that changes the record of the handle's cluster

module _ (core : Bor Opened → Result Changed Number → Type 0) (b hb : List ℕ) where
  pub changes_refused : (n : Number) → Looks (Err n) b (decoded hb) → (q : Answer) → IsErrAnd q (λ k. k ≡ n) → Changes core hb q b b
  changes_refused n w q i x looks shown e does m em =
      ap (λ (a : Answer). leaving (replied a []) b m) (exit_err {X = Opened} (Err n) n refl q i)
      ∙ refused_lent b hb n w x looks shown [] (sym e) m em

  module _ (o : Bor Opened) (w : Looks (Ok o.now) b (decoded hb)) where
    pub changes_failed : (n : Number) → core o (Err n) → (q : Answer) → IsErrAnd q (λ k. k ≡ n) → Changes core hb q b b
    changes_failed n c q i x looks shown e does m em =
        ap (λ (a : Answer). leaving (replied a []) b m) (exit_err {X = Opened} (Err n) n refl q i)
        ∙ same_any b hb o.now w x (Err n) (λ s k g. does o (Err n) c s k g) m em

    pub changes_done : (d : Changed) → core o (Ok d) → (g : Given) → g ≡ d.given → (after : List ℕ)
        → (good b ≡ true → after ≡ image_of (put o.now.handle d.cluster (store_in b))) → Changes core hb (Ok g) b after
    changes_done d c g eg after i x looks shown e does m em =
        ap (λ (k : Given). leaving (replied (Ok k) []) after m) eg
        ∙ kept_lent b hb o.now w m em x m (Ok d.given) (put o.now.handle d.cluster (store_in b))
        (does o (Ok d) c (store_in b) m (opened_from b hb o.now w m em)) after i

-- ---- a call that names its cluster itself

module _ (b : List ℕ) (whole : good b ≡ true → image_of (store_in b) ≡ b) (x : Call) where
  pub unsound_any : among (7 ∷ []) x.kind ≡ false → bad_length x ≡ false → buffer x ≡ [] → sound_in b ≡ false
      → Gives x b (plain unsound_number []) b
  unsound_any looks none eb t m em = refused_unsound b m em whole x looks none [] (sym eb) t

  module _ (node local : ℕ) (k : Cluster) (ek : k ≡ cluster_at (store_in b) (record_at node local)) (t : sound_in b ≡ true)
      (r : Result Changed Number)
      (core : (s : Store) (m : List ℕ) → GivenPlace true k s m node local
      → changed (record_at node local) s m r ≡ aes_step x (copy_of s m)) where
    placed : (m : List ℕ) → length m ≡ memory → GivenPlace true k (store_in b) m node local
    placed m em = record { sound = held_sound b m em whole t; found = ek }

    pub place_failed : (n : Number) → r ≡ Err n → Gives x b (replied (Err n) []) b
    place_failed n e m em =
        same_left b m em whole t x m (Err n) []
        (ap (changed (record_at node local) (store_in b) m) (sym e) ∙ core (store_in b) m (placed m em))

    pub place_done : (d : Changed) → r ≡ Ok d → (after : List ℕ)
        → (good b ≡ true → after ≡ image_of (put_record (store_in b) (record_at node local) d.cluster))
        → Gives x b (replied (Ok d.given) []) after
    place_done d e after i m em =
        kept_left b m em whole t x (put_record (store_in b) (record_at node local) d.cluster) m (Ok d.given)
        (ap (changed (record_at node local) (store_in b) m) (sym e) ∙ core (store_in b) m (placed m em)) after i
