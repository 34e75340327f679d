-- The first question, return by return.
-- Assumes nothing.
use mathlib.Core.Path.{◌≡◌, refl, sym, ap, ap₂, ◌∙◌, subst}
use mathlib.Core.Bool.{true, false}
use mathlib.Core.List.{List, ◌++◌}
use Rattle.std.specs.Prelude.{Option, Err}
use Prim.Native.Nat.{ℕ, zero, suc, ◌+◌, ◌/◌, ◌≤◌, ◌<◌}
use native.Mathlib.Omega.{arith}
use lib.ListN.{length, get_or, drop}
use Rattle.handle.specs.declared.Handle.{Handle}
use Rattle.handle.specs.Handles.{Name, name_of, width_of, decoded, encoded}
use Rattle.handle.specs.Conversion.{SixteenBytes}
use Rattle.register.specs.Registers.{Told}
use Rattle.numbers.specs.declared.Number.{Number}
use Rattle.numbers.specs.Codes.{code}
use Rattle.register.specs.declared.Fault.{Fault}
use Rattle.register.specs.declared.Seen.{Seen}
use Rattle.register.specs.Registers.{told, told_of, entries, Made, given, made, lowest, whole_number, told_first, leaves, way_of, masks_of}
use Rattle.register.specs.Registers.{bytes_up_to, handles_told, handles_left}
use Rattle.register.specs.inner.Work.{blank, Worked, Put, laid_in, Room}
use Rattle.register.proofs.PutLaws.{put_start}
use Rattle.register.proofs.WholeLaws.{going}
use Rattle.register.proofs.OpenerLaws.{code_some, told_refused, told_goes, leaves_all}
use Rattle.register.proofs.KeptLaws.{Laid, laid_decoded, laid_weakened, laid_bytes, steps_keep, made_steps}

module _ (f : Name → List ℕ → ℕ → List ℕ) (sixteen : SixteenBytes f) where
  pub made_laid : (h : Handle) (e : List ℕ) (k : ℕ) (g : Handle) → Laid h → made f h e k ≡ given g → Laid g
  made_laid h e k g l q =
      steps_keep f Laid h l
      (λ j mask p. laid_weakened (f (name_of j)) (sixteen (name_of j)) (width_of j) j mask p)
      (masks_of e k (way_of e k).records) g (made_steps f h e k g q)

  -- the bytes by the definition are those laid
  bytes_same : (h : Handle) (e : List ℕ) (hs : List Handle) (n : ℕ) → Laid h
      → ((k : ℕ) → k < n + 1 → made f h e k ≡ given (get_or hs k blank)) → bytes_up_to f h e n ≡ laid_in hs n
  unfolding bytes_up_to laid_in
  bytes_same h e hs zero l all = refl
  bytes_same h e hs (suc n) l all =
      ap₂ (λ (x y : List ℕ). x ++ y) (bytes_same h e hs n l (λ k b. all k (omega arith)))
      (ap (λ (m : Made). encoded m.handle) (all (suc n) (omega arith))
      ∙ sym (laid_bytes (get_or hs (suc n) blank)
      (made_laid h e (suc n) (get_or hs (suc n) blank) l (all (suc n) (omega arith)))))

  module _ (b e m : List ℕ) where
    abbrev all : List ℕ
    all = bytes_up_to f (decoded b) e (entries e)

    abbrev number : ℕ
    number = whole_number b false (length e) (length m) 23

    left_by : (t : Told) → handles_told f b e (length m) ≡ t → handles_left f b e m ≡ leaves t.number all m
    unfolding handles_left
    left_by t p = ap (λ (t : Told). leaves t.number all m) p

    module _ (n : Number) (q : code n ≡ number) where
      pub handles_whole : told (code n) 0 ≡ handles_told f b e (length m)
      unfolding handles_told
      handles_whole =
          sym (ap (λ (n : ℕ). told_first n (lowest f (decoded b) e)) (sym q)
          ∙ told_refused (code n) (lowest f (decoded b) e) (code_some n))

      pub handles_whole_left : m ≡ handles_left f b e m
      handles_whole_left = sym (left_by (told (code n) 0) (sym handles_whole) ∙ leaves_all (code n) all m (code_some n))

    module _ (z : 0 ≡ number) (h : Handle) (eh : h ≡ decoded b) where
      goes : lowest f h e ≡ handles_told f b e (length m)
      unfolding handles_told
      goes =
          sym (told_goes number (lowest f (decoded b) e) (sym z)
          ∙ ap (λ (h : Handle). lowest f h e) (sym eh))

      module _ (d : Fault) (w : lowest f h e ≡ told (code d.number) d.entry) where
        pub handles_failed : told_of {T = Unit {0}} (Err d) ≡ handles_told f b e (length m)
        handles_failed = sym w ∙ goes

        pub handles_failed_left : m ≡ handles_left f b e m
        handles_failed_left =
            sym (left_by (told (code d.number) d.entry) (sym handles_failed) ∙ leaves_all (code d.number) all m (code_some d.number))

      module _ (ss : List (Option Seen)) (hs : List Handle) (w : Worked f h e true ss hs) where
        pub handles_done : told 0 0 ≡ handles_told f b e (length m)
        handles_done = sym w.told ∙ goes

        pub handles_done_left : (m' : List ℕ) → Put m m' 0 (laid_in hs (length e / 2)) → m' ≡ handles_left f b e m
        handles_done_left m' p =
            put_start m m' (laid_in hs (length e / 2)) p
            ∙ ap (λ (l : List ℕ). l ++ drop (length l) m) (sym same)
            ∙ sym (left_by (told 0 0) (sym handles_done))
          where
            same : all ≡ laid_in hs (length e / 2)
            same =
                ap (λ (h : Handle). bytes_up_to f h e (entries e)) (sym eh)
                ∙ bytes_same h e hs (entries e)
                (subst Laid (sym eh) (laid_decoded b (going b false (length e) (length m) 23 z).0.bytes))
                (w.all refl)

module _ (b e m : List ℕ) (z : 0 ≡ whole_number b false (length e) (length m) 23) where
  pub handles_few : length e / 2 ≤ 255
  handles_few = (going b false (length e) (length m) 23 z).0.few

  pub handles_room : Room (length e / 2) (length m)
  handles_room = record { few = handles_few; ends = (going b false (length e) (length m) 23 z).0.long }
