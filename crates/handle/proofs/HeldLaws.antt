-- What is read from bytes is whole, and can be written where they have the length of a width; what weakening, reduction and
-- joining give of it can be written too, so it reads back.
-- Assumes nothing.
use Prim.Native.Nat.{ℕ, suc, ◌/◌, ◌%◌, ◌^◌, ◌≤◌, ◌<◌}
use native.Mathlib.Nat.{mod-eq_of_lt}
use native.Mathlib.Omega.{arith}
use mathlib.Core.Path.{◌≡◌, refl, sym, ap, ◌∙◌, subst}
use mathlib.Core.List.{List, [], ◌∷◌, ◌++◌}
use lib.ListN.{length, get_or, drop, replicate, length-drop}
use lib.Seq.{length-take-le}
use Rattle.bits.specs.Bytes.{word}
use Rattle.bits.proofs.ByteLaws.{word_two, bytes_small, bytes_word16}
use Rattle.bits.proofs.SetLaws.{set_of_lt}
use Rattle.bits.proofs.OperationLaws.{full_lt}
use Rattle.aes.specs.Cipher.{cipher}
use Rattle.loops.specs.Tabulate.{tabulate}
use Rattle.handle.specs.declared.Handle.{Handle}
use Rattle.handle.specs.declared.Width.{Width}
use Rattle.handle.specs.declared.Width.TheVariants.{None, Four, Eight, Sixteen}
use Rattle.sizes.specs.Sizes.{password_bytes}
use Rattle.handle.specs.Sizes.{node_bytes, local_at, password_at, selector_at}
use Rattle.handle.specs.Widths.{bits_of, length_of, width_for, unpacked}
use Rattle.handle.specs.Selectors.{references, either, common, parameter, union}
use Rattle.handle.specs.Conversion.{conversion}
use Rattle.handle.specs.Handles.{width_of, held, decoded_as, decoded, Holdable, weakened, made, reduced, joined}
use Rattle.handle.specs.Opens.{Whole}
use Rattle.handle.proofs.HandleLaws.{weakened_cases, reduced_cases, whole_weakened}
use Rattle.handle.proofs.CodecLaws.{elements, listed, part_is, word_one, width_cases}

-- ---- what bytes hold

pub width_decoded : (b : List ℕ) → (decoded b).width ≡ width_for (length b)
unfolding decoded
width_decoded b = same (width_for (length b))
  where
    same : (v : Width) → (decoded_as v b).width ≡ v
    same None = refl
    same Four = refl
    same Eight = refl
    same Sixteen = refl

module _ (b : List ℕ) (o : (i : ℕ) → get_or b i 0 < 256) where
  by_elements : (v : Width) → length b ≡ length_of v → (P : Handle → Type 0)
      → P (decoded_as v (elements (length_of v) b)) → P (decoded_as v b)
  by_elements v e P q = subst (λ (l : List ℕ). P (decoded_as v l)) (sym (listed (length_of v) b e)) q

  two : (i : ℕ) → word (get_or b i 0 ∷ get_or b (suc i) 0 ∷ []) < 65536
  two i = omega (arith, word_two (get_or b i 0) (get_or b (suc i) 0), o i, o (suc i))

  one : (i : ℕ) → word (get_or b i 0 ∷ []) < 256
  one i = omega (arith, word_one (get_or b i 0), o i)

  lower : (i : ℕ) → get_or b i 0 % 16 < 16
  lower i = omega arith

  upper : (i : ℕ) → get_or b i 0 / 16 < 16
  upper i = omega (arith, o i)

  whole_as : (v : Width) → length b ≡ length_of v → Whole (bits_of v) (decoded_as v b)
  unfolding unpacked tabulate
  whole_as None e = record { four = refl; within = (omega arith, (omega arith, (omega arith, (omega arith, tt)))) }
  whole_as Four e =
      by_elements Four e (Whole (bits_of Four))
      (record { four = refl; within = (lower 19, (upper 19, (lower 20, (upper 20, tt)))) })
  whole_as Eight e =
      by_elements Eight e (Whole (bits_of Eight))
      (record { four = refl; within = (one 19, (one 20, (one 21, (one 22, tt)))) })
  whole_as Sixteen e =
      by_elements Sixteen e (Whole (bits_of Sixteen))
      (record { four = refl; within = (two 19, (two 21, (two 23, (two 25, tt)))) })

  -- whatever the length, what they hold is whole
  pub whole_decoded : Whole (width_of (decoded b)) (decoded b)
  unfolding decoded
  whole_decoded =
      width_cases (λ v. Whole (bits_of (decoded_as v b).width) (decoded_as v b)) (length b) (record {
        four = refl;
        within = (omega arith, (omega arith, (omega arith, (omega arith, tt))));
      }) whole
    where
      whole : (v : Width) → length b ≡ length_of v → Whole (bits_of (decoded_as v b).width) (decoded_as v b)
      whole None e = whole_as None e
      whole Four e = whole_as Four e
      whole Eight e = whole_as Eight e
      whole Sixteen e = whole_as Sixteen e

  -- of the length of a width, they hold a handle that can be written
  pub holdable_decoded : 0 < width_of (decoded b) → Holdable (decoded b)
  unfolding decoded tabulate
  holdable_decoded =
      width_cases (λ v. 0 < bits_of (decoded_as v b).width → Holdable (decoded_as v b)) (length b)
      (λ l. absurd (omega arith)) holds
    where
      node : word (get_or b 0 0 ∷ get_or b 1 0 ∷ []) < 65536
      node = two 0

      held_as : (v : Width) → length b ≡ length_of v → Whole (bits_of v) (held v b) → 0 < bits_of v
          → selector_at ≤ length b → Holdable (held v b)
      held_as v e w l s = record {
        wide = l;
        node = subst (λ (m : List ℕ). word m < 65536) (sym (part_is 0 node_bytes b (omega arith))) node;
        local = o local_at;
        password = length-take-le password_bytes (drop password_at b) (omega (arith, length-drop password_at b));
        selector = w.four;
        within = w.within;
      }

      holds : (v : Width) → length b ≡ length_of v → 0 < bits_of (decoded_as v b).width → Holdable (decoded_as v b)
      holds None e l = absurd (omega arith)
      holds Four e l = held_as Four e (whole_as Four e) l (omega arith)
      holds Eight e l = held_as Eight e (whole_as Eight e) l (omega arith)
      holds Sixteen e l = held_as Sixteen e (whole_as Sixteen e) l (omega arith)

-- ---- what weakening, reduction and joining give, by a conversion that gives sixteen bytes

module _ (f : List ℕ → ℕ → List ℕ) (sixteen : (q : List ℕ) (c : ℕ) → length (f q c) ≡ password_bytes)
    (h : Handle) (o : Holdable h) where
  abbrev whole : Whole (width_of h) h
  whole = record { four = o.selector; within = o.within }

  pub holdable_weakened : (mask : ℕ) → Holdable (weakened (width_of h) f h mask)
  holdable_weakened mask =
      weakened_cases (width_of h) f h mask (λ k. Whole (width_of h) k → Holdable k) (λ e w. o) (λ e w. record {
        wide = o.wide;
        node = o.node;
        local = o.local;
        password = sixteen h.password (parameter (width_of h) mask h.selector);
        selector = w.four;
        within = w.within;
      }) (whole_weakened (width_of h) f h mask whole)

  holdable_made : (p : List ℕ) (s : ℕ) → s < 2 ^ width_of h → Holdable (made (width_of h) f h p s)
  holdable_made p s l = record {
    wide = o.wide;
    node = o.node;
    local = o.local;
    password = sixteen p s;
    selector = refl;
    within = (l, (full_lt (width_of h), (full_lt (width_of h), (full_lt (width_of h), tt))));
  }

  pub holdable_reduced : (p : List ℕ) → Holdable (reduced (width_of h) f h p)
  holdable_reduced p =
      reduced_cases (width_of h) f h p Holdable (λ e. o)
      (λ e. holdable_made p (common (width_of h) h.selector) (set_of_lt (width_of h) (references h.selector)))

  pub holdable_joined : (k : Handle) (p : List ℕ) → Holdable (joined (width_of h) f h k p)
  unfolding joined
  holdable_joined k p =
      holdable_made p (union (width_of h) h.selector k.selector)
      (set_of_lt (width_of h) (either h.selector k.selector))

-- ---- the conversion of a byte is that of document 01

pub conversion_byte : (p : List ℕ) (c : ℕ) → c < 256 → conversion p c ≡ cipher p (replicate 15 0 ++ (c ∷ []))
unfolding conversion
conversion_byte p c h = ap (cipher p) (bytes_small 15 c h)

pub conversion_word : (p : List ℕ) (c : ℕ) → c < 65536
    → conversion p c ≡ cipher p (replicate 14 0 ++ (c / 256 ∷ c % 256 ∷ []))
unfolding conversion
conversion_word p c h =
    ap (cipher p)
    (bytes_word16 14 c h ∙ ap (λ (x : ℕ). replicate 14 0 ++ (x ∷ c % 256 ∷ [])) (mod-eq_of_lt high))
  where
    high : c / 256 < 256
    high = omega arith
