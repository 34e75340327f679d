use mathlib.Core.Path.{◌∙◌}
use Prim.Native.Nat.{◌-◌}
use native.Mathlib.Omega.{arith}
use borrow.Author.Rules.{rules}
use Rattle.loops.proofs.TabulateLaws.{filled_more, filled_all}
use Rattle.aes.proofs.StateLaws.{cells}
use Rattle.aes.proofs.KeyExpansionLaws.{next_byte, next_key, first_word, later_byte}
use Rattle.aes.proofs.next_round_key.Goals as goal

pub loop-i-init : goal.loop-i-init
loop-i-init c =
    let s = c.before.before in (
      omega arith,
      first_word _ _ _ _ _ _ _ s.before.round_constant.ensures s.before.before.substitute.ensures
          s.substitute-2.ensures c.before.substitute-3.ensures c.substitute-4.ensures,
    )

pub loop-i-preserved : goal.loop-i-preserved
loop-i-preserved c =
    let l = c.before.loop-i in
    let a = c.before.before.before.before.before.before.before.args in (
      search rules,
      filled_more 16 (cells (next_byte a.round a.k)) 0 l.i l.r l.invariant.1 (search rules) _
          (later_byte a.round a.k l.i _ l.invariant.0 (l.invariant.1.at (l.i - 4) (omega arith))),
    )

pub returns : goal.returns
returns c =
    let a = c.before.before.before.before.before.before.before.args in
    filled_all 16 _ 0 _ _ c.before.loop-i.invariant.1 (search rules) ∙ next_key a.round a.k (search rules)
