-- The second question, return by return.
-- Assumes nothing.
use mathlib.Core.Path.{◌≡◌, refl, sym, ap, ap₂, ◌∙◌}
use mathlib.Core.Bool.{Bool}
use mathlib.Core.List.{List, ◌++◌}
use Rattle.std.specs.Prelude.{Option, None, Ok, Err}
use Prim.Native.Nat.{ℕ, zero, suc, ◌+◌, ◌/◌, ◌≤◌, ◌<◌}
use native.Mathlib.Omega.{arith}
use lib.Dec.{ltb}
use lib.ListN.{length, get_or, drop}
use Rattle.handle.specs.declared.Handle.{Handle}
use Rattle.handle.specs.Selectors.{references}
use borrow.Author.Tests.{ltb-false}
use Rattle.handle.specs.Handles.{Name, width_of, decoded}
use Rattle.numbers.specs.declared.Number.{Number}
use Rattle.numbers.specs.declared.Number.TheVariants.{Unsound, NoSuchPlace, Field, Gapped, Elsewhere, InUse, Twins, Inactive}
use Rattle.numbers.specs.declared.Number.TheVariants.{Violated, NotPrimary, NotReferenced, OldPassword, Present, Absent, Short}
use Rattle.numbers.specs.declared.Number.TheVariants.{NoRoom, Spent, ListLength, Link, Loop, Empty, Frozen, Whole, Apart, Length}
use Rattle.numbers.specs.Codes.{code}
use Rattle.register.specs.declared.Seen.{Seen}
use Rattle.register.specs.declared.Fault.{Fault}
use Rattle.register.specs.Registers.{Told}
use Rattle.register.specs.Registers.{entries, made, lowest, whole_number, told_first, leaves, one_if, opened_as, opened_of}
use Rattle.register.specs.Registers.{opened_with, openers_up_to, openers_entry, openers_told, openers_left}
use Rattle.register.specs.inner.Work.{segment_in, Worked, Put, openers_in}
use Rattle.register.proofs.PutLaws.{put_start}
use Rattle.register.proofs.WholeLaws.{going, wide}

pub told_refused : (n : ℕ) (t : Told) → (n ≡ 0 → ⊥) → told_first n t ≡ record { number = n; entry = 0 }
told_refused zero t z = absurd (z refl)
told_refused (suc n) t z = refl

pub told_goes : (n : ℕ) (t : Told) → n ≡ 0 → told_first n t ≡ t
told_goes zero t z = refl
told_goes (suc n) t z = absurd (omega arith)

pub leaves_all : (n : ℕ) (w m : List ℕ) → (n ≡ 0 → ⊥) → leaves n w m ≡ m
leaves_all zero w m z = absurd (z refl)
leaves_all (suc n) w m z = refl

pub leaves_rest : (n : ℕ) (w m : List ℕ) → n ≡ 0 → leaves n w m ≡ w ++ drop (length w) m
leaves_rest zero w m z = refl
leaves_rest (suc n) w m z = absurd (omega arith)

-- a refusal has a number
pub code_some : (n : Number) → code n ≡ 0 → ⊥
code_some Unsound q = omega arith
code_some NoSuchPlace q = omega arith
code_some Field q = omega arith
code_some Gapped q = omega arith
code_some Elsewhere q = omega arith
code_some InUse q = omega arith
code_some Twins q = omega arith
code_some Inactive q = omega arith
code_some Violated q = omega arith
code_some NotPrimary q = omega arith
code_some NotReferenced q = omega arith
code_some OldPassword q = omega arith
code_some Present q = omega arith
code_some Absent q = omega arith
code_some Short q = omega arith
code_some NoRoom q = omega arith
code_some Spent q = omega arith
code_some ListLength q = omega arith
code_some Link q = omega arith
code_some Loop q = omega arith
code_some Empty q = omega arith
code_some Frozen q = omega arith
code_some Whole q = omega arith
code_some Apart q = omega arith
code_some Length q = omega arith

opened_refused : (n k c : ℕ) → (n ≡ 0 → ⊥) → opened_as n k c ≡ record { number = n; entry = k; count = 0 }
opened_refused zero k c z = absurd (z refl)
opened_refused (suc n) k c z = refl

opened_done : (n k c : ℕ) → n ≡ 0 → opened_as n k c ≡ record { number = 0; entry = 0; count = c }
opened_done zero k c z = refl
opened_done (suc n) k c z = absurd (omega arith)

module _ (f : Name → List ℕ → ℕ → List ℕ) where
  -- the openers by the definition are those by what is seen of the handles
  openers_same : (h : Handle) (e : List ℕ) (es : List (Option Seen)) (s n : ℕ)
      → ((k : ℕ) → k < n + 1 → references (made f h e k).handle.selector s ≡ segment_in s (get_or es k None))
      → openers_up_to f h e s n ≡ openers_in es s n
  unfolding openers_up_to openers_in
  openers_same h e es s zero all = refl
  openers_same h e es s (suc n) all =
      ap₂ (λ (l r : List ℕ). l ++ r) (openers_same h e es s n (λ k l. all k (omega arith)))
      (ap (λ (b : Bool). one_if b (suc n)) (all (suc n) (omega arith)))

  module _ (b : List ℕ) (s : ℕ) (e m : List ℕ) where
    abbrev all : List ℕ
    all = openers_up_to f (decoded b) e s (entries e)

    abbrev number : ℕ
    number = whole_number b (ltb 7 s) (length e) (length m) 1

    told_by_lem : (t : Told) → openers_entry f b s e (length m) ≡ t → openers_told f b s e (length m) ≡ opened_with t all
    unfolding openers_told
    told_by_lem t p = ap (λ (t : Told). opened_with t all) p

    left_by : (t : Told) → openers_entry f b s e (length m) ≡ t → openers_left f b s e m ≡ leaves t.number all m
    unfolding openers_left
    left_by t p = ap (λ (t : Told). leaves t.number all m) p

    -- what the whole call or an entry is refused with
    module _ (n : Number) (k : ℕ) (q : openers_entry f b s e (length m) ≡ record { number = code n; entry = k }) where
      failed : opened_of (Err (record { number = n; entry = k })) ≡ openers_told f b s e (length m)
      failed = sym (told_by_lem (record { number = code n; entry = k }) q ∙ opened_refused (code n) k (length all) (code_some n))

      failed_left : m ≡ openers_left f b s e m
      failed_left = sym (left_by (record { number = code n; entry = k }) q ∙ leaves_all (code n) all m (code_some n))

    module _ (n : Number) (q : code n ≡ number) where
      entry_whole : openers_entry f b s e (length m) ≡ record { number = code n; entry = 0 }
      unfolding openers_entry
      entry_whole =
          ap (λ (n : ℕ). told_first n (lowest f (decoded b) e)) (sym q)
          ∙ told_refused (code n) (lowest f (decoded b) e) (code_some n)

      pub openers_whole : opened_of (Err (record { number = n; entry = 0 })) ≡ openers_told f b s e (length m)
      openers_whole = failed n 0 entry_whole

      pub openers_whole_left : m ≡ openers_left f b s e m
      openers_whole_left = failed_left n 0 entry_whole

    module _ (z : 0 ≡ number) (h : Handle) (eh : h ≡ decoded b) where
      entry_goes : openers_entry f b s e (length m) ≡ lowest f h e
      unfolding openers_entry
      entry_goes =
          told_goes number (lowest f (decoded b) e) (sym z)
          ∙ ap (λ (h : Handle). lowest f h e) (sym eh)

      module _ (d : Fault) (w : lowest f h e ≡ record { number = code d.number; entry = d.entry }) where
        pub openers_failed : opened_of (Err d) ≡ openers_told f b s e (length m)
        openers_failed = failed d.number d.entry (entry_goes ∙ w)

        pub openers_failed_left : m ≡ openers_left f b s e m
        openers_failed_left = failed_left d.number d.entry (entry_goes ∙ w)

      module _ (wanted : Bool) (ss : List (Option Seen)) (hs : List Handle) (w : Worked f h e wanted ss hs) where
        -- the segment is one of the handle's width
        low : s < width_of h
        low =
            let c = going b (ltb 7 s) (length e) (length m) 1 z in
            let v = wide b c.0.bytes in
            let u = ap width_of eh in
            let l = ltb-false 7 s c.1 in
            omega arith

        same : all ≡ openers_in ss s (length e / 2)
        same =
            ap (λ (h : Handle). openers_up_to f h e s (entries e)) (sym eh)
            ∙ openers_same h e ss s (entries e) (λ k l. w.seen k l s low)

        pub openers_done : (count : ℕ) → count ≡ length (openers_in ss s (length e / 2))
            → opened_of (Ok count) ≡ openers_told f b s e (length m)
        openers_done count p =
            sym (told_by_lem (record { number = 0; entry = 0 }) (entry_goes ∙ w.told)
            ∙ ap (λ (c : ℕ). record { number = 0; entry = 0; count = c }) (ap length same ∙ sym p))

        pub openers_done_left : (m' : List ℕ) → Put m m' 0 (openers_in ss s (length e / 2)) → m' ≡ openers_left f b s e m
        openers_done_left m' p =
            put_start m m' (openers_in ss s (length e / 2)) p
            ∙ ap (λ (l : List ℕ). l ++ drop (length l) m) (sym same)
            ∙ sym (left_by (record { number = 0; entry = 0 }) (entry_goes ∙ w.told))

    module _ (z : 0 ≡ number) where
      pub openers_few : length e / 2 ≤ 255
      openers_few = (going b (ltb 7 s) (length e) (length m) 1 z).0.few

      pub openers_segment : s ≤ 7
      openers_segment = ltb-false 7 s (going b (ltb 7 s) (length e) (length m) 1 z).1

      pub openers_room : length e / 2 ≤ length m
      openers_room = let r = (going b (ltb 7 s) (length e) (length m) 1 z).0.long in omega arith
