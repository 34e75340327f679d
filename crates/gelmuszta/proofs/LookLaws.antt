-- A look on an image: refused before all else where there is no handle or no sound store, and nothing is shown; else the
-- core tells what is told of the store that it holds, the part rises, and what is cut out there is the reply's.
-- Assumes nothing.
use mathlib.Core.Path.{◌≡◌, refl, sym, ap, ◌∙◌, subst}
use mathlib.Core.Bool.{Bool, true, false, ◌&&◌, ◌||◌, true≢false}
use mathlib.Core.List.{List, []}
use Prim.Native.Nat.{ℕ, zero, suc, ◌≤◌}
use native.Mathlib.Omega.{arith}
use lib.ListN.{length, replicate, length-replicate}
use Rattle.sizes.specs.Sizes.{memory}
use Rattle.handle.specs.Handles.{no_width, decoded}
use Rattle.handle.specs.Conversion.{product}
use Rattle.store.specs.Sound.{sound}
use Rattle.store.specs.Records.{table_at}
use Rattle.calls.specs.declared.Part.{Part}
use Rattle.calls.specs.Looks.{Looked}
use Rattle.calls.specs.Calls.{Call, looking}
use Rattle.calls.specs.Numbers.{number, bad_length}
use Rattle.calls.specs.Steps.{Reply, look_reply, within}
use Rattle.calls.specs.Literals.{shows}
use Rattle.calls.specs.LookWords.{LookInWords}
use Rattle.calls.specs.Answers.{copy_of}
use Rattle.calls.specs.Looks.{nowhere, part_by, looked, aes_looked}
use Rattle.calls.proofs.LookLaws.{step_looked, part_inside, look_in_words}
use Rattle.image.specs.Images.{good, store_in, image_of}
use Rattle.gelmuszta.specs.Exported.{Exported, leaving, early, exported, part_from, exported_part, imaged}
use Rattle.std.specs.Prelude.{Result, Ok, Err}
use Rattle.std.specs.Result.{IsErrAnd}
use Rattle.numbers.specs.declared.Number.{Number}
use Rattle.numbers.specs.Codes.{code}
use Rattle.calls.specs.Answers.{looked_as}
use Rattle.numbers.proofs.ToldLaws.{code_above, exit_err}
use Rattle.refusals.specs.declared.Opened.{Opened}
use Rattle.refusals.specs.Given.{OpenedFrom}
use Rattle.image.specs.Verdicts.{sound_in}
use Rattle.gelmuszta.specs.inner.Found.{Looks, Shows}
use Rattle.gelmuszta.specs.Looks.{LookOnImage}
use Rattle.gelmuszta.proofs.ExportLaws.{picked, held_good, through, number_early, number_length}
use Rattle.gelmuszta.proofs.FoundLaws.{early_alone, refused_lent, held, opened_from}
use Rattle.store.specs.declared.Store.{Store}

-- the part, where it is known whether the image is good
abbrev pub placed : Call → List ℕ → ℕ → Bool → Part
placed x b size g = elim g [ true ↦ (aes_looked x (store_in b) size).part | false ↦ nowhere ]

module _ (b m : List ℕ) (em : length m ≡ memory) (current i : ℕ) (h : List ℕ) where
  es : sound_in b ≡ (good b && sound (store_in b) (length m))
  es = ap (λ (n : ℕ). good b && sound (store_in b) n) (sym em)

  abbrev x : Call
  x = looking current i h

  -- a look that is refused shows no part
  pub hidden_early : (n : ℕ) → n ≡ early (bad_length x) (sound_in b) → (n ≡ 0 → ⊥) → part_from 0 0 ≡ exported_part x b (length m)
  unfolding exported_part looked
  hidden_early n en t = go (good b) es
    where
      none : (k : ℕ) → (k ≡ 0 → ⊥) → nowhere ≡ part_by k x (table_at (store_in b))
      none zero ne = absurd (ne refl)
      none (suc k) ne = refl

      told : (l : Bool) → bad_length x ≡ l → sound_in b ≡ sound (store_in b) (length m)
          → number product x (store_in b) (length m) ≡ early (bad_length x) (sound_in b)
      told true e q = number_length x (store_in b) (length m) e ∙ sym (ap (λ (u : Bool). early u (sound_in b)) e)
      told false e q = by (sound_in b) refl
        where
          by : (v : Bool) → sound_in b ≡ v → number product x (store_in b) (length m) ≡ early (bad_length x) (sound_in b)
          by true ev = absurd (t (en ∙ (λ j. early (e j) (ev j))))
          by false ev =
              number_early x (store_in b) (length m) false e refl (sym q ∙ ev) ∙ sym (λ j. early (e j) (ev j))

      go : (g : Bool) → sound_in b ≡ (g && sound (store_in b) (length m)) → nowhere ≡ placed x b (length m) g
      go false f = refl
      go true f =
          none (number product x (store_in b) (length m)) (λ z. t (en ∙ sym (told (bad_length x) refl f) ∙ z))

  module _ (whole : good b ≡ true → image_of (store_in b) ≡ b) (t : sound_in b ≡ true) (l : Looked)
      (e : l ≡ aes_looked x (store_in b) (length m)) where
    abbrev p : Part
    p = l.part

    told : p ≡ (aes_looked x (store_in b) (length m)).part
    told = ap (λ (q : Looked). q.part) e

    pub look_rises : p.from ≤ p.to
    look_rises = subst (λ (q : Part). q.from ≤ q.to) (sym told) (part_inside product current i h (copy_of (store_in b) m)).0

    pub look_told : leaving (look_reply l.number (within p m)) b m ≡ exported x b m
    look_told =
        (λ j. leaving (look_reply (e j).number (within (told j) m)) (sym (whole (held_good b m em whole t)) j) m)
        ∙ sym (ap imaged (step_looked product current i h (copy_of (store_in b) m)))
        ∙ through b m em whole t x

    pub look_placed : p ≡ exported_part x b (length m)
    unfolding exported_part
    look_placed = told ∙ sym (ap (placed x b (length m)) (held_good b m em whole t))

-- ---- with every memory

module _ (b : List ℕ) (current i : ℕ) (h : List ℕ) where
  abbrev zeros : List ℕ
  zeros = replicate memory 0

  some : length zeros ≡ memory
  some = length-replicate {A = ℕ} memory 0

  abbrev z : Call
  z = looking current i h

  part_is : (p : Part) → p ≡ exported_part z b (length zeros) → p ≡ exported_part z b memory
  part_is p = subst (λ (n : ℕ). p ≡ exported_part z b n) some

  pub shows_refused : (n : Number) → Looks (Err n) b (decoded h) → (q : Result Part Number) → IsErrAnd q (λ k. k ≡ n) → Shows q b z
  shows_refused n w q t = subst (λ (r : Result Part Number). Shows r b z) (sym (exit_err {X = Opened} (Err n) n refl {Y = Part} q t)) shown
    where
      shown : Shows (Err n) b z
      shown =
          record {
            reply = λ m em. refused_lent b h n w z refl refl [] refl m em;
            place = part_is nowhere (hidden_early b zeros some current i h (code n) (early_alone b h n w z refl) (code_above n));
            rises = omega arith;
          }

  pub shows_done : (o : Opened) → Looks (Ok o) b (decoded h) → (r : Result Part Number)
      → ((s : Store) (m d : List ℕ) → OpenedFrom o s m d → looked_as r ≡ aes_looked (looking current i d) s (length m)) → Shows r b z
  shows_done o w r core =
      record {
        reply = λ m em. look_told b m em current i h w.whole (held b h o w) (looked_as r) (of_core m em);
        place = part_is (looked_as r).part (look_placed b zeros some current i h w.whole (held b h o w) (looked_as r) (of_core zeros some));
        rises = look_rises b zeros some current i h w.whole (held b h o w) (looked_as r) (of_core zeros some);
      }
    where
      of_core : (m : List ℕ) → length m ≡ memory → looked_as r ≡ aes_looked z (store_in b) (length m)
      of_core m em = core (store_in b) m h (opened_from b h o w m em)

-- ---- in words

module _ (v i : ℕ) (h b m : List ℕ) where
  abbrev y : Call
  y = looking v i h

  abbrev told_of : LookInWords product v i h (copy_of (store_in b) m)
  told_of = look_in_words product v i h (copy_of (store_in b) m)

  -- what is done and told, where it is known whether the image is good
  abbrev done : Bool → Exported
  done = picked y b m

  abbrev told_at : Bool → Part
  told_at = placed y b (length m)

  record On (g : Bool) : Type 0 where
    refused : ((done g).reply.number ≡ 0 → ⊥) → told_at g ≡ nowhere
    damaged : g ≡ false → no_width (decoded h) ≡ false → (done g).reply ≡ shows 1 []
    long : g ≡ false → no_width (decoded h) ≡ true → (done g).reply ≡ shows 25 []
    exact : (done g).reply.shown ≡ within (told_at g) m
    inside : ((told_at g).from ≤ (told_at g).to) × ((told_at g).to ≤ length m)

  on : (g : Bool) → On g
  unfolding bad_length
  on false =
      record {
        refused = λ ne. refl;
        damaged = λ e q. ap (λ (u : Bool). shows (early (u || false) false) []) q;
        long = λ e q. ap (λ (u : Bool). shows (early (u || false) false) []) q;
        exact = refl;
        inside = (omega arith, omega arith);
      }
  on true =
      record {
        refused = λ ne.
            let q = told_of.refused (λ z. ne (ap (λ (r : Reply). r.number) told_of.told ∙ z)) in
            λ j. record { from = q.from j; to = q.to j };
        damaged = λ e q. absurd (true≢false e);
        long = λ e q. absurd (true≢false e);
        exact = told_of.exact;
        inside = part_inside product v i h (copy_of (store_in b) m);
      }

  pub look_on_image : LookOnImage v i h b m
  unfolding exported exported_part
  look_on_image =
      record {
        refused = (on (good b)).refused;
        damaged = λ e q. (on (good b)).damaged e q;
        wrong_length = λ e q. (on (good b)).long e q;
        exact = (on (good b)).exact;
        inside = (on (good b)).inside;
      }
