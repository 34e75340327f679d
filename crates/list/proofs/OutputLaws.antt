-- The text of a run: nothing where the room may be too little, the single line of a refused list, or the lines of the
-- chain and the last one after them.
-- Assumes nothing.
use mathlib.Core.Path.{◌≡◌, refl, sym, ap, ◌∙◌, subst}
use Prim.Native.Nat.{ℕ, zero, suc, ◌+◌, ◌-◌, ◌^◌, ◌≤◌, ◌<◌}
use native.Mathlib.Omega.{arith}
use mathlib.Core.Bool.{Bool, cond}
use mathlib.Core.List.{List, [], ◌++◌}
use borrow.Author.Tests.{le-leb, lt-leb}
use borrow.Rule.Slice.PartMut.{mid_of, put_mid}
use lib.ListN.{length, drop, replicate, length-append, length-take, length-drop}
use lib.Seq.{drop-drop}
use Rattle.sizes.specs.Sizes.{memory}
use Rattle.chain.specs.Way.{Walked}
use Rattle.chain.specs.Way.{done}
use Rattle.lines.specs.Lines.{end_word, end_line, refused_word, refused_line}
use Rattle.lines.specs.Buffers.{longest_with, word_line_within, Begins}
use Rattle.lines.proofs.LineLaws.{word_line_fits}
use Rattle.list.specs.Runs.{buffer_bytes, starting}
use Rattle.list.specs.Texts.{checked, chain, record_lines, text_of, output, room_for, output_within}
use Rattle.list.specs.inner.Loops.{Ends, Ready}
use Rattle.list.proofs.PartLaws.{part_start, part_rest}
use Rattle.list.proofs.RoomLaws.{ends_none, room_line, room_last}
use Rattle.list.proofs.RunLaws.{total_few}

pub output_fits : (n : ℕ) (list : List ℕ) → room_for list ≤ n → output_within n list ≡ output list
unfolding output_within
output_fits n list h = ap (λ (t : Bool). cond t (output list) []) (le-leb (room_for list) n h)

module _ (list out : List ℕ) (room : ℕ) (needed : room ≡ room_for list) where
  pub run_short : length out < room → Begins out out 0 (output_within (length out) list)
  unfolding output_within
  run_short h = record { size = ap length (sym none); room = omega arith; start = sym none; rest = refl }
    where
      none : output_within (length out) list ≡ []
      none = ap (λ (t : Bool). cond t (output list) []) (lt-leb (room_for list) (length out) (omega arith))

  module _ (wide : room ≤ length out) (w : Walked) (ew : w ≡ checked list) where
    enough : room_for list ≤ length out
    enough = subst (λ (k : ℕ). k ≤ length out) needed wide

    by_walk : output list ≡ text_of list w.number w.records
    unfolding output
    by_walk = sym (ap (λ (v : Walked). text_of list v.number v.records) ew)

    pub run_refused : (w.number ≡ 0 → ⊥) → (v : ℕ) → v ≡ w.number → (after : List ℕ) (r : ℕ)
        → Begins out after r (word_line_within (length out) refused_word v)
        → Begins out after r (output_within (length out) list)
    run_refused t v ev after r b = subst (Begins out after r) (ap (word_line_within (length out) refused_word) ev ∙ fits ∙ sym (output_fits (length out) list enough ∙ by_walk ∙ told w.number t)) b
      where
        told : (n : ℕ) → (n ≡ 0 → ⊥) → text_of list n w.records ≡ refused_line n
        told zero t = absurd (t refl)
        told (suc n) t = refl

        fits : word_line_within (length out) refused_word w.number ≡ refused_line w.number
        fits =
            let r = room_line list (length out) 0 0 enough (ends_none list) (omega arith) in
            word_line_fits (length out) refused_word w.number (omega arith)

    pub line_fits : longest_with refused_word ≤ length out
    line_fits = let r = room_line list (length out) 0 0 enough (ends_none list) (omega arith) in omega arith

    module _ (z : w.number ≡ 0) where
      whole : checked list ≡ done w.records
      whole = sym ew ∙ (λ j. record { number = z j; records = w.records })

      pub run_fits : w.records < 2 ^ 8
      run_fits = let f = total_few list w.records whole in omega arith

      pub run_ready : (m b : List ℕ) → m ≡ replicate memory 0 → b ≡ replicate buffer_bytes 0
          → Ready list w.records m b out
      run_ready m b em eb = record { whole = whole; memory = em; buffer = eb; wide = enough }

      module _ (mid : List ℕ) (end : ℕ)
          (lines : Begins out mid end (record_lines list (chain list w.records) starting)) (same : length mid ≡ length out)
          (ends : Ends list w.records end) where
        abbrev text : List ℕ
        text = record_lines list (chain list w.records) starting

        last_fits : end + longest_with end_word ≤ length mid
        last_fits =
            subst (λ (k : ℕ). end + longest_with end_word ≤ k) (sym same)
            (room_last list (length out) w.records end enough ends (total_few list w.records whole))

        pub run_inside : end ≤ length mid
        run_inside = let l = last_fits in omega arith

        pub last_room : longest_with end_word ≤ length (mid_of end (length mid - end) mid)
        last_room = let f = last_fits in let i = run_inside in simp (length-take, length-drop) (omega arith)

        pub run_done : (part : List ℕ) (o r : ℕ) → o ≡ r
            → Begins (mid_of end (length mid - end) mid) part o
            (word_line_within (length (mid_of end (length mid - end) mid)) end_word w.records)
            → length part ≡ length (mid_of end (length mid - end) mid)
            → Begins out (put_mid end (length mid - end) mid part) (end + r) (output_within (length out) list)
        run_done part o r eo b kept =
            record {
              size = (λ j. lines.size j + h.size j) ∙ sym (length-append text (end_line w.records)) ∙ ap length (sym all);
              room = inside;
              start =
                  part_start mid part (end_line w.records) end r run_inside h kept
                  ∙ ap (λ (l : List ℕ). l ++ end_line w.records) lines.start ∙ sym all;
              rest =
                  part_rest mid part (end_line w.records) end r run_inside h kept ∙ sym (drop-drop r end mid)
                  ∙ ap (drop r) lines.rest ∙ drop-drop r end out;
            }
          where
            all : output_within (length out) list ≡ text ++ end_line w.records
            all = output_fits (length out) list enough ∙ by_walk ∙ ap (λ (n : ℕ). text_of list n w.records) z

            part_size : length (mid_of end (length mid - end) mid) ≡ length mid - end
            part_size = simp (length-take, length-drop) (omega arith)

            h : Begins (mid_of end (length mid - end) mid) part r (end_line w.records)
            h =
                let f = last_fits in
                let l = part_size in
                subst (Begins (mid_of end (length mid - end) mid) part r)
                (word_line_fits (length (mid_of end (length mid - end) mid)) end_word w.records (omega arith))
                (subst
                (λ (n : ℕ). Begins (mid_of end (length mid - end) mid) part n
                (word_line_within (length (mid_of end (length mid - end) mid)) end_word w.records)) eo b)

            inside : end + r ≤ length out
            inside =
                let a : r ≤ length (mid_of end (length mid - end) mid) = h.room in
                let b = part_size in
                let c = run_inside in
                omega arith
