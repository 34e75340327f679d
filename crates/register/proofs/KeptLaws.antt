-- What every weakening keeps, every entry's handle has.
-- Assumes nothing.
use mathlib.Core.Path.{◌≡◌, refl, sym, ap, ◌∙◌, subst}
use mathlib.Core.List.{List, [], ◌∷◌}
use Prim.Native.Nat.{ℕ, zero, suc}
use native.Mathlib.Omega.{arith}
use lib.ListN.{length, take, drop, length-drop}
use lib.Seq.{length-take-le, take-append_seam}
use Rattle.handle.specs.declared.Handle.{Handle}
use Rattle.handle.specs.Handles.{Weakened}
use Rattle.handle.specs.declared.Width.{Width}
use Rattle.handle.specs.declared.Width.TheVariants.{Eight}
use Rattle.handle.specs.Widths.{width_for, packed}
use Rattle.handle.specs.Handles.{Name, name_of, width_of, decoded, decoded_as, encoded, encoded_as, written, weakened, weakening}
use Rattle.handle.proofs.HandleLaws.{weakened_cases}
use Rattle.handle.proofs.EmptyLaws.{handle_done}
use Rattle.handle.proofs.CodecLaws.{listed}
use Rattle.loops.specs.Tabulate.{tabulate}
use Rattle.bits.specs.Bytes.{bytes}
use Rattle.register.specs.Registers.{Made, given, failed, settled, stepped_at, steps, ended, made, masks_of, way_of}

number_of : (m : Made) (g : Handle) → m ≡ given g → m.number ≡ 0
number_of m g q = ap (λ (m : Made). m.number) q

pub handle_of_lem : (m : Made) (g : Handle) → m ≡ given g → m.handle ≡ g
handle_of_lem m g q = ap (λ (m : Made). m.handle) q

module _ (f : Name → List ℕ → ℕ → List ℕ) where
  -- steps that give a handle end in a weakening that is done, of a handle that the steps before give
  pub record Last (h : Handle) (mask : ℕ) (ms : List ℕ) (g : Handle) : Type 0 where
    pub parent : Handle
    pub before : steps f h ms ≡ given parent
    pub done : (weakening (width_of parent) (f (name_of parent)) parent mask).number ≡ 0
    pub is : g ≡ (weakening (width_of parent) (f (name_of parent)) parent mask).handle

  pub last_step : (h : Handle) (mask : ℕ) (ms : List ℕ) (g : Handle) → steps f h (mask ∷ ms) ≡ given g → Last h mask ms g
  unfolding steps
  last_step h mask ms g q = go (steps f h ms).number (steps f h ms).handle refl q
    where
      go : (n : ℕ) (k : Handle) → steps f h ms ≡ record { number = n; handle = k } → stepped_at f n k mask ≡ given g
          → Last h mask ms g
      go (suc n) k e p = absurd (let z = number_of (failed (suc n)) g p in omega arith)
      go zero k e p = at (weakening (width_of k) (f (name_of k)) k mask) refl
        where
          at : (w : Weakened) → weakening (width_of k) (f (name_of k)) k mask ≡ w → Last h mask ms g
          at w r = settle w.number w.handle refl refl
            where
              same : settled w.number w.handle ≡ given g
              same = ap (λ (w : Weakened). settled w.number w.handle) (sym r) ∙ p

              settle : (n : ℕ) (j : Handle) → w.number ≡ n → w.handle ≡ j → Last h mask ms g
              settle zero j a b =
                  record {
                    parent = k;
                    before = e;
                    done = ap (λ (w : Weakened). w.number) r ∙ a;
                    is =
                        sym (handle_of_lem (settled w.number w.handle) g same)
                        ∙ ap (λ (n : ℕ). (settled n w.handle).handle) a
                        ∙ sym (ap (λ (w : Weakened). w.handle) r);
                  }
              settle (suc n) j a b =
                  absurd (let z = number_of (settled w.number w.handle) g same in
                  let y = ap (λ (n : ℕ). (settled n w.handle).number) a in omega arith)

  -- what weakening keeps, steps keep
  pub steps_keep : (P : Handle → Type 0) (h : Handle) → P h
      → ((k : Handle) (mask : ℕ) → P k → P (weakened (width_of k) (f (name_of k)) k mask))
      → (ms : List ℕ) (g : Handle) → steps f h ms ≡ given g → P g
  unfolding steps
  steps_keep P h p keep [] g q = subst P (handle_of_lem (given h) g q) p
  steps_keep P h p keep (m ∷ ms) g q = go (last_step h m ms g q) (steps_keep P h p keep ms)
    where
      go : Last h m ms g → ((g : Handle) → steps f h ms ≡ given g → P g) → P g
      go l rest =
          subst P
          (sym (l.is ∙ handle_done (width_of l.parent) (f (name_of l.parent)) l.parent m l.done))
          (keep l.parent m (rest l.parent l.before))

  -- the width
  pub width_steps : (h : Handle) (ms : List ℕ) (g : Handle) → steps f h ms ≡ given g → g.width ≡ h.width
  width_steps h =
      steps_keep (λ g. g.width ≡ h.width) h refl
      (λ k mask q. weakened_cases (width_of k) (f (name_of k)) k mask (λ g. g.width ≡ h.width) (λ e. q) (λ e. q))

  -- an entry that has a handle has it by the steps along its way
  pub made_steps : (h : Handle) (e : List ℕ) (k : ℕ) (g : Handle) → made f h e k ≡ given g
      → steps f h (masks_of e k (way_of e k).records) ≡ given g
  unfolding made
  made_steps h e k g q = go (way_of e k).number q
    where
      go : (n : ℕ) → ended f h e k n (way_of e k).records ≡ given g
          → steps f h (masks_of e k (way_of e k).records) ≡ given g
      go zero p = p
      go (suc n) p = absurd (let z = number_of (failed (suc n)) g p in omega arith)

-- ---- a handle of 23 bytes

pub record Laid (g : Handle) : Type 0 where
  pub wide : g.width ≡ Eight
  pub long : length g.password ≡ 16

pub laid_decoded : (b : List ℕ) → length b ≡ 23 → Laid (decoded b)
unfolding decoded
laid_decoded b e =
    subst (λ (n : ℕ). Laid (decoded_as (width_for n) b)) (sym e)
    (record { wide = refl; long = length-take-le 16 (drop 3 b) (let d = length-drop 3 b in omega arith) })

pub laid_weakened : (f : List ℕ → ℕ → List ℕ) → ((p : List ℕ) (c : ℕ) → length (f p c) ≡ 16)
    → (w : ℕ) (h : Handle) (mask : ℕ) → Laid h → Laid (weakened w f h mask)
laid_weakened f sixteen w h mask l =
    weakened_cases w f h mask Laid (λ e. l) (λ e. record { wide = l.wide; long = sixteen h.password _ })

-- the handle with a password in the place of its own
abbrev passing : Handle → List ℕ → Handle
passing h p = record { node = h.node; local = h.local; password = p; width = h.width; selector = h.selector }

pub laid_length : (g : Handle) → Laid g → length (encoded g) ≡ 23
unfolding encoded bytes packed tabulate
laid_length g l =
    ap (λ (v : Width). length (encoded_as v g)) l.wide
    ∙ ap (λ (p : List ℕ). length (encoded_as Eight (passing g p))) (listed 16 g.password l.long)

pub laid_bytes : (g : Handle) → Laid g → take 23 (written g).bytes ≡ encoded g
unfolding written
laid_bytes g l =
    ap (λ (n : ℕ). take n (written g).bytes) (sym (laid_length g l)) ∙ take-append_seam (encoded g) _
