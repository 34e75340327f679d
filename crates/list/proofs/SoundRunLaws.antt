-- A list run from the starting store: that is sound and every step keeps it so, so row 1 never applies and the text is
-- that of the rows below it. So whole outputs are computed with these rows alone.
-- Assumes nothing.
use mathlib.Core.Path.{◌≡◌, refl, ap, ◌∙◌}
use Prim.Native.Nat.{ℕ, zero, suc}
use mathlib.Core.Bool.{Bool, true, false, not, cond}
use mathlib.Core.List.{List, [], ◌∷◌, ◌++◌}
use mathlib.Core.Option.{Option, none, some}
use lib.ListN.{length}
use Rattle.handle.specs.Handles.{first_of}
use Rattle.handle.specs.Conversion.{product}
use Rattle.loops.proofs.BelowLaws.{and_off}
use Rattle.store.specs.Sound.{sound}
use Rattle.store.proofs.SoundLaws.{sound_starting}
use Rattle.calls.specs.Calls.{Kind, among, Call, call}
use Rattle.calls.specs.Numbers.{bad_length, unsound, no_place}
use Rattle.calls.specs.Steps.{Outcome}
use Rattle.lines.specs.Lines.{end_line, refused_line}
use Rattle.isolation.specs.Copies.{SoundCopy}
use Rattle.isolation.proofs.KeptLaws.{step_sound}
use Rattle.isolation.proofs.RunLaws.{step_below, step_below_lem}
use Rattle.list.specs.Records.{record_in, code_of, kind_of, arguments_of}
use Rattle.list.specs.Runs.{Bench, starting, Performed, misfits, misfit_rows, refused, after_step, stepped, performed_as, performed}
use Rattle.list.specs.Texts.{checked, chain, record_line, record_lines, text_of, output}

-- a call that the list's own rules refuse
abbrev misfit_below : Call → ℕ
misfit_below x = cond (bad_length x) 25 (cond (no_place x) 2 3)

abbrev performed_below : Option Kind → List ℕ → Bench → Performed
performed_below none r b = refused 3 b
performed_below (some k) r b =
    let x = call k (arguments_of k r b.buffer) in
    elim (misfits k r) [ true ↦ refused (misfit_below x) b | false ↦ after_step k (step_below product x b.copy) b ]

unfoldable pub lines_below : List ℕ → List ℕ → Bench → List ℕ
lines_below list [] b = []
lines_below list (k ∷ ks) b =
    let p = performed_below (kind_of (code_of (record_in list k))) (record_in list k) b in
    record_line list k p ++ lines_below list ks p.bench

abbrev text_below : List ℕ → ℕ → ℕ → List ℕ
text_below list zero m = lines_below list (chain list m) starting ++ end_line m
text_below list (suc n) m = refused_line (suc n)

unfoldable pub output_below : List ℕ → List ℕ
output_below list = text_below list (checked list).number (checked list).records

-- ---- one record

module _ (r : List ℕ) (b : Bench) (s : SoundCopy b.copy) where
  abbrev asked : Kind → Call
  asked k = call k (arguments_of k r b.buffer)

  misfit_below_lem : (k : Kind) → first_of (misfit_rows (asked k) b.copy) ≡ misfit_below (asked k)
  unfolding unsound
  misfit_below_lem k =
      ap (λ (t : Bool). cond (bad_length (asked k)) 25 (cond t 1 (cond (no_place (asked k)) 2 3)))
      (and_off (not (among (7 ∷ []) k)) (not (sound b.copy.store (length b.copy.memory))) (ap not s))

  -- with the test of a misfit open
  abbrev chosen : Kind → Bool → Performed
  chosen k t = elim t [ true ↦ refused (first_of (misfit_rows (asked k) b.copy)) b | false ↦ stepped k (asked k) b ]

  abbrev chosen_below : Kind → Bool → Performed
  chosen_below k t =
      elim t [ true ↦ refused (misfit_below (asked k)) b | false ↦ after_step k (step_below product (asked k) b.copy) b ]

  performed_below_lem : (o : Option Kind) → performed_as o r b ≡ performed_below o r b
  performed_below_lem none = refl
  performed_below_lem (some k) = go (misfits k r)
    where
      go : (t : Bool) → chosen k t ≡ chosen_below k t
      go true = ap (λ (n : ℕ). refused n b) (misfit_below_lem k)
      go false = ap (λ (o : Outcome). after_step k o b) (step_below_lem product (asked k) b.copy s)

  performed_sound : (o : Option Kind) → SoundCopy (performed_as o r b).bench.copy
  performed_sound none = s
  performed_sound (some k) = go (misfits k r)
    where
      go : (t : Bool) → SoundCopy (chosen k t).bench.copy
      go true = s
      go false = step_sound product (asked k) b.copy s

-- ---- the chain, and the text

lines_below_lem : (list ks : List ℕ) (b : Bench) → SoundCopy b.copy → record_lines list ks b ≡ lines_below list ks b
unfolding record_lines lines_below performed
lines_below_lem list [] b s = refl
lines_below_lem list (k ∷ ks) b s =
    let r : List ℕ = record_in list k in
    let o : Option Kind = kind_of (code_of (record_in list k)) in
    ap (λ (l : List ℕ). record_line list k (performed_as o r b) ++ l)
    (lines_below_lem list ks (performed_as o r b).bench (performed_sound r b s o))
    ∙ ap (λ (p : Performed). record_line list k p ++ lines_below list ks p.bench) (performed_below_lem r b s o)

text_below_lem : (list : List ℕ) (n m : ℕ) → text_of list n m ≡ text_below list n m
text_below_lem list zero m =
    ap (λ (l : List ℕ). l ++ end_line m) (lines_below_lem list (chain list m) starting sound_starting)
text_below_lem list (suc n) m = refl

pub output_below_lem : (list : List ℕ) → output list ≡ output_below list
unfolding output output_below
output_below_lem list = text_below_lem list (checked list).number (checked list).records
