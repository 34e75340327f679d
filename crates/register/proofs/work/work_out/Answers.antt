use borrow.Author.Rules.{rules}
use Rattle.std.proofs.Common.{ℕ, List, get_or, ap, ◌∙◌, arith}
use Rattle.std.proofs.lemmas.Result.{err_from_is_err_and}
use Rattle.register.proofs.WorkLaws.{Named, named, named_ok, named_err, working_none, working_small, works_way, works_all, descended, descending_all}
use Rattle.register.proofs.WorkLaws.{works_step, descending_more}
use Rattle.register.proofs.work.work_out.Goals as goal

pub loop-k-init : goal.loop-k-init
loop-k-init c = search (rules, working_none)

pub climb-requires : goal.climb-requires
climb-requires c = search (rules, working_small)

pub returns-in_err-climbed : goal.returns-in_err-climbed
returns-in_err-climbed c =
    let p = err_from_is_err_and c.from_residual.result c.from_residual.ensures.1 in
    let m : Named c.loop-k.k-counter c.climb.result c.map_err.result = named _ _ _ _ c.map_err.ensures.cases (λ n d p. search rules) in
    rw (p.1, p.2)
    (works_way _ _ _ _ _ _ _ _ _ c.loop-k.invariant (omega arith) _ (named_err _ _ _ _ _ m c.climb.ensures _ c.in_err-climbed.was))

pub loop-i-init : goal.loop-i-init
loop-i-init c =
    let m : Named c.loop-k.k-counter c.climb.result c.map_err.result = named _ _ _ _ c.map_err.ensures.cases (λ n d p. search rules) in
    descending_all _ _ _ _ _ _ _ _ _ c.loop-k.invariant _ _ (named_ok _ _ _ _ _ m c.climb.ensures _ c.in_ok-climbed.was)
    (omega arith) c.type_inv.path

pub returns-in_err-sight : goal.returns-in_err-sight
returns-in_err-sight c =
    let p = err_from_is_err_and c.from_residual-in_err-sight.result c.from_residual-in_err-sight.ensures.1 in
    let m : Named c.loop-k.k-counter c.step.result c.map_err-in-loop-i.result =
    named _ _ _ _ c.map_err-in-loop-i.ensures.cases (λ n d p. search rules) in
    rw (p.1, p.2)
    (works_step _ _ _ _ _ _ _ _ _ _ _ _ c.loop-i.invariant _ (omega arith) _ (c.from.ensures ∙ ap (λ (p : List ℕ). get_or p 1 0) c.pair.ensures) _
    (named_err _ _ _ _ _ m c.step.ensures _ c.in_err-sight.was))

pub loop-i-preserved : goal.loop-i-preserved
loop-i-preserved c =
    let m : Named c.loop-k.k-counter c.step.result c.map_err-in-loop-i.result =
    named _ _ _ _ c.map_err-in-loop-i.ensures.cases (λ n d p. search rules) in
    descending_more _ _ _ _ _ _ _ _ _ _ _ _ c.loop-i.invariant _ (omega arith) _ (c.from.ensures ∙ ap (λ (p : List ℕ). get_or p 1 0) c.pair.ensures) _ _
    (named_ok _ _ _ _ _ m c.step.ensures _ c.in_ok-sight.was)

pub loop-k-preserved : goal.loop-k-preserved
loop-k-preserved c = descended _ _ _ _ _ _ _ _ _ _ _ _ c.loop-i.invariant (omega arith)

pub returns : goal.returns
returns c = works_all _ _ _ _ _ _ _ _ _ c.loop-k.invariant (omega arith)
