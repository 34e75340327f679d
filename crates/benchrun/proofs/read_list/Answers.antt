-- One more read: what it puts stands behind what was there.
-- Assumes nothing.
use Rattle.std.proofs.Common.{◌≡◌, ◌≤◌, ◌+◌, ◌-◌, ℕ, List, ◌++◌, rules, arith, length, take, drop, sym, ap, ◌∙◌, subst, le_refl, drop_at, length-take-le}
use Rattle.std.proofs.lemmas.Slice.{take-put_mid_below}
use Rattle.std.proofs.KnownBytes.{Consumes-trans}
use Rattle.std.specs.Io.KnownBytes.{Consumes}
use borrow.Rule.Slice.PartMut.{put_mid, post_of}
use lib.Seq.{take-add, take-append-le}
use Rattle.benchrun.proofs.read_list.Goals as goal

put_taken : (at n : ℕ) (old part : List ℕ) → at ≤ length old → n ≤ length part
    → take at old ++ take n part ≡ take (at + n) (put_mid at (length old - at) old part)
put_taken at n old part within fits =
    let new = put_mid at (length old - at) old part in
    let after = post_of at (length old - at) old in
    let front : take at new ≡ take at old = take-put_mid_below _ _ _ _ _ (le_refl at) within in
    let back : take n (drop at new) ≡ take n part =
    ap (take n) (drop_at (take at old) (part ++ after) at (length-take-le at old within)) ∙ take-append-le n part after fits in
    ap (λ (l : List ℕ). l ++ take n part) (sym front) ∙ ap (λ (l : List ℕ). take at new ++ l) (sym back) ∙ sym (take-add at n new)

pub loop-have-preserved : goal.loop-have-preserved
loop-have-preserved g c =
    let within : c.loop-have.have ≤ length c.loop-have.space = omega arith in (
      search rules,
      search rules,
      subst (Consumes _ _)
          (put_taken c.loop-have.have c.in_ok-more.more c.loop-have.space c.read.new.buf within c.in_ok-more.ensures.bound.0)
          (Consumes-trans _ _ _ _ _ c.loop-have.invariant.2 c.in_ok-more.ensures.bytes.0),
    )
