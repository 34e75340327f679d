-- From the core of a call to a call on an image: a handle of none of the three lengths is refused with 25, and an image that
-- holds no sound store with 1; else the core is given what the store holds, its reply is the step's, and the image left is
-- that of the store which the step left, for good bytes are the image of the store that they hold.
-- Assumes nothing.
use mathlib.Core.Path.{◌≡◌, refl, sym, ap, ◌∙◌}
use mathlib.Core.Bool.{Bool, true, false, ◌&&◌}
use mathlib.Core.List.{List, [], ◌∷◌}
use Prim.Native.Nat.{ℕ, zero, suc}
use native.Mathlib.Omega.{arith}
use lib.ListN.{length}
use Rattle.sizes.specs.Sizes.{memory}
use Rattle.loops.proofs.BelowLaws.{and_left, and_right}
use Rattle.numbers.specs.Numbers.{unsound_number}
use Rattle.handle.specs.Conversion.{product}
use Rattle.store.specs.declared.Store.{Store}
use Rattle.store.specs.Sound.{sound}
use Rattle.calls.specs.Calls.{Call, Copy, among, buffer}
use Rattle.calls.specs.Numbers.{number, bad_length, unsound}
use Rattle.calls.specs.Steps.{Outcome, plain, outcome, step, aes_step}
use Rattle.calls.specs.Answers.{Answer, copy_of, replied, ended}
use Rattle.calls.proofs.StepLaws.{step_refused}
use Rattle.image.specs.Images.{good, store_in, image_of}
use Rattle.image.specs.Verdicts.{sound_in}
use Rattle.gelmuszta.specs.Exported.{Exported, leaving, early, damaged, imaged, exported}
use Rattle.gelmuszta.proofs.ReplyLaws.{done_number}

-- a damaged image, where it is known whether the call is a weakening, and whether a handle has none of the three lengths
abbrev pub damaged_by : Bool → Bool → Call → List ℕ → List ℕ → Exported
damaged_by u none x b m =
    record {
      reply = elim u [ true ↦ (aes_step x (copy_of (store_in b) m)).reply | false ↦ plain (early none false) (buffer x) ];
      image = b;
      memory = m;
    }

abbrev pub picked : Call → List ℕ → List ℕ → Bool → Exported
picked x b m g = elim g [ true ↦ imaged (aes_step x (copy_of (store_in b) m)) | false ↦ damaged x b m ]

-- a step whose number is not 0 leaves the copy as it was
pub step_leaves : (x : Call) (c : Copy) → ((aes_step x c).reply.number ≡ 0 → ⊥)
    → aes_step x c ≡ record { copy = c; reply = plain (aes_step x c).reply.number (buffer x) }
unfolding step
step_leaves x c h = go (number product x c.store (length c.memory)) h
  where
    go : (n : ℕ) → ((outcome product n x c).reply.number ≡ 0 → ⊥)
        → outcome product n x c
        ≡ record { copy = c; reply = plain (outcome product n x c).reply.number (buffer x) }
    go zero h = absurd (h (done_number x.kind x c))
    go (suc n) h = refl

-- a handle of none of the three lengths gets 25, and else a call that looks at the store gets 1 where it is not sound
pub number_early : (x : Call) (s : Store) (size : ℕ) (none : Bool) → bad_length x ≡ none
    → among (7 ∷ []) x.kind ≡ false → sound s size ≡ false → number product x s size ≡ early none false
unfolding number unsound
number_early x s size true e looks f = simp e
number_early x s size false e looks f = simp (e, looks, f)

pub number_length : (x : Call) (s : Store) (size : ℕ) → bad_length x ≡ true → number product x s size ≡ 25
unfolding number
number_length x s size e = simp e

-- ---- an image that holds no sound store, and one that does

module _ (b m : List ℕ) (em : length m ≡ memory) (whole : good b ≡ true → image_of (store_in b) ≡ b) where
  es : sound_in b ≡ (good b && sound (store_in b) (length m))
  es = ap (λ (n : ℕ). good b && sound (store_in b) n) (sym em)

  -- what is told before all else
  pub refused_with_lem : (x : Call) → among (7 ∷ []) x.kind ≡ false → (buf : List ℕ) → buf ≡ buffer x → (n : ℕ)
      → n ≡ early (bad_length x) (sound_in b) → (n ≡ 0 → ⊥) → leaving (plain n buf) b m ≡ exported x b m
  unfolding exported
  refused_with_lem x looks buf e n en t =
      (λ j. leaving (plain (en j) (e j)) b m) ∙ go (bad_length x) refl (sound_in b) es (λ z. t (en ∙ z)) (good b) refl
    where
      go : (none : Bool) → bad_length x ≡ none → (u : Bool) → u ≡ (good b && sound (store_in b) (length m))
          → (early (bad_length x) u ≡ 0 → ⊥) → (g : Bool) → good b ≡ g
          → leaving (plain (early (bad_length x) u) (buffer x)) b m ≡ picked x b m (good b)
      go none e0 u eu nz false eg =
          (λ j. leaving (plain (early (bad_length x) (off j)) (buffer x)) b m)
          ∙ sym (ap (λ (v : Bool). damaged_by v (bad_length x) x b m) looks)
          ∙ sym (ap (picked x b m) eg)
        where
          off : u ≡ false
          off = eu ∙ ap (λ (v : Bool). v && sound (store_in b) (length m)) eg
      go none e0 u eu nz true eg =
          ap (λ (i : List ℕ). leaving (plain (early (bad_length x) u) (buffer x)) i m) (sym (whole eg))
          ∙ sym (ap imaged (step_refused product x (copy_of (store_in b) m) (early (bad_length x) u) told nz))
          ∙ sym (ap (picked x b m) eg)
        where
          held : u ≡ sound (store_in b) (length m)
          held = eu ∙ ap (λ (v : Bool). v && sound (store_in b) (length m)) eg

          told : number product x (store_in b) (length m) ≡ early (bad_length x) u
          told = by none e0 u refl
            where
              by : (l : Bool) → bad_length x ≡ l → (v : Bool) → u ≡ v → number product x (store_in b) (length m) ≡ early (bad_length x) u
              by true el v ev = number_length x (store_in b) (length m) el ∙ sym (ap (λ (q : Bool). early q u) el)
              by false el true ev = absurd (nz (λ j. early (el j) (ev j)))
              by false el false ev =
                  number_early x (store_in b) (length m) false el looks (sym held ∙ ev) ∙ sym (λ j. early (el j) (ev j))

  -- a call that presents no handle gets 1
  pub refused_unsound : (x : Call) → among (7 ∷ []) x.kind ≡ false → bad_length x ≡ false → (buf : List ℕ) → buf ≡ buffer x
      → sound_in b ≡ false → leaving (plain unsound_number buf) b m ≡ exported x b m
  refused_unsound x looks none buf e t =
      refused_with_lem x looks buf e 1 (simp (none, t)) (λ z. omega (arith, z))

  module _ (t : sound_in b ≡ true) where
    pub held_good : good b ≡ true
    held_good = and_left (good b) (sound (store_in b) (length m)) (sym es ∙ t)

    pub held_sound : true ≡ sound (store_in b) (length m)
    held_sound = sym (and_right (good b) (sound (store_in b) (length m)) (sym es ∙ t))

    module _ (x : Call) where
      abbrev left : Outcome
      left = aes_step x (copy_of (store_in b) m)

      pub through : imaged left ≡ exported x b m
      unfolding exported
      through = sym (ap (picked x b m) held_good)

      -- the records stay, and so does the image
      pub same_left : (n : List ℕ) (a : Answer) (buf : List ℕ) → ended (store_in b) n a buf ≡ left
          → leaving (replied a buf) b n ≡ exported x b m
      same_left n a buf e = (λ j. leaving (replied a buf) (sym (whole held_good) j) n) ∙ ap imaged e ∙ through

      -- a record is put back
      pub kept_left : (s : Store) (n : List ℕ) (a : Answer) → ended s n a [] ≡ left
          → (after : List ℕ) → (good b ≡ true → after ≡ image_of s) → leaving (replied a []) after n ≡ exported x b m
      kept_left s n a e after i = (λ j. leaving (replied a []) (i held_good j) n) ∙ ap imaged e ∙ through
