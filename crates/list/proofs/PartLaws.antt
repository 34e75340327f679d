-- A text put at the start of the part of a buffer from a place on: it follows what stands before that place, and the
-- bytes after it stay.
-- Assumes nothing.
use mathlib.Core.Path.{◌≡◌, sym, ap, ◌∙◌, subst}
use Prim.Native.Nat.{ℕ, ◌+◌, ◌-◌, ◌≤◌}
use mathlib.Core.List.{List, ◌++◌}
use borrow.Rule.Slice.PartMut.{mid_of, post_of, put_mid}
use lib.ListN.{length, take, drop, take-append-drop}
use lib.Seq.{length-take-le, take-append-add, take-append-le, drop-append-add, drop-append-le, drop-drop}
use Rattle.lines.specs.Buffers.{Begins}

module _ (out part text : List ℕ) (end r : ℕ) (inside : end ≤ length out) where
  abbrev mid : List ℕ
  mid = mid_of end (length out - end) out

  abbrev post : List ℕ
  post = post_of end (length out - end) out

  abbrev after : List ℕ
  after = put_mid end (length out - end) out part

  module _ (h : Begins mid part r text) (kept : length part ≡ length mid) where
    long : length (take end out) ≡ end
    long = length-take-le end out inside

    room : r ≤ length part
    room = subst (λ (k : ℕ). r ≤ k) (sym kept) h.room

    pub part_start : take (end + r) after ≡ take end out ++ text
    part_start =
        ap (λ (k : ℕ). take (k + r) after) (sym long) ∙ take-append-add (take end out) (part ++ post) r
        ∙ ap (λ (l : List ℕ). take end out ++ l) (take-append-le r part post room ∙ h.start)

    pub part_rest : drop (end + r) after ≡ drop (end + r) out
    part_rest =
        ap (λ (k : ℕ). drop (k + r) after) (sym long) ∙ drop-append-add (take end out) (part ++ post) r
        ∙ drop-append-le r part post room
        ∙ ap (λ (l : List ℕ). l ++ post) h.rest
        ∙ sym (drop-append-le r mid post h.room)
        ∙ ap (drop r) (take-append-drop (length out - end) (drop end out))
        ∙ drop-drop r end out
