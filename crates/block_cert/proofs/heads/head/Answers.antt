use Rattle.std.proofs.Common.{[]}
use Rattle.pc_rules.specs.DirectedTyping.{levels_declared, undeclared_in}
use Rattle.pc_rules.specs.DirectedDeclarations.{distinct_names}
use Rattle.rule_laws.proofs.SimpleRules.{levels_are_declared, declared_over}
use Rattle.inductive_check.specs.Given.{family_of}
use Rattle.type_cert.proofs.Retracing.{retraces_on, retraces_err, retraces_passed, retraces_answers}
use Rattle.block_cert.proofs.Passing.{condition_holds}
use Rattle.block_cert.proofs.heads.head.Goals as goal

pub returns-in_err-at_item-clause-retraces : goal.returns-in_err-at_item-clause-retraces
returns-in_err-at_item-clause-retraces g c = λ B ep.
    let F = family_of c.args.family.now in
    let a1 = rw c.as_slice.ensures.is at c.are_distinct.ensures.answers c.args.trail.now.meter.account in
    retraces_passed c.from_residual.ensures.1 (retraces_err _ (retraces_answers (distinct_names [] F.ctors) _ c.in_err-at_item.ensures.is a1))

pub returns-in_err-at_item-2-clause-retraces : goal.returns-in_err-at_item-2-clause-retraces
returns-in_err-at_item-2-clause-retraces g c = λ B ep.
    let F = family_of c.args.family.now in
    let E = c.args.walk.now.verifier.env.now in
    let u = c.args.trail.now.meter.account in
    let a1 = rw c.as_slice.ensures.is at c.are_distinct.ensures.answers u in
    let a2 = rw (c.levels.ensures.value, c.graph.ensures.levels) at c.are_declared.ensures.answers u in
    retraces_passed c.from_residual-in_err-at_item-2.ensures.1
    (retraces_on _ (retraces_answers (distinct_names [] F.ctors) _ c.in_ok-at_item.ensures.is a1)
    (retraces_err _ (retraces_answers (levels_declared (undeclared_in E.levels F.sort)) _ c.in_err-at_item-2.ensures.is a2)))

pub returns-in_err-_inner-clause-retraces : goal.returns-in_err-_inner-clause-retraces
returns-in_err-_inner-clause-retraces g c = λ B ep.
    let F = family_of c.args.family.now in
    let E = c.args.walk.now.verifier.env.now in
    let u = c.args.trail.now.meter.account in
    let a1 = rw c.as_slice.ensures.is at c.are_distinct.ensures.answers u in
    let a2 = rw (c.levels.ensures.value, c.graph.ensures.levels) at c.are_declared.ensures.answers u in
    rw ep (retraces_passed c.from_residual-in_err-_inner.ensures.1
    (retraces_on _ (retraces_answers (distinct_names [] F.ctors) _ c.in_ok-at_item.ensures.is a1)
    (retraces_on _ (retraces_answers (levels_declared (undeclared_in E.levels F.sort)) _ c.in_ok-at_item-2.ensures.is a2) c.in_err-_inner.ensures.retraces)))

pub returns-clause-retraces : goal.returns-clause-retraces
returns-clause-retraces g c = λ B ep.
    let F = family_of c.args.family.now in
    let E = c.args.walk.now.verifier.env.now in
    let u = c.args.trail.now.meter.account in
    let a1 = rw c.as_slice.ensures.is at c.are_distinct.ensures.answers u in
    let a2 = rw (c.levels.ensures.value, c.graph.ensures.levels) at c.are_declared.ensures.answers u in
    rw ep (retraces_on _ (retraces_answers (distinct_names [] F.ctors) _ c.in_ok-at_item.ensures.is a1)
    (retraces_on _ (retraces_answers (levels_declared (undeclared_in E.levels F.sort)) _ c.in_ok-at_item-2.ensures.is a2) c.in_ok-_inner.ensures.retraces))

pub returns-clause-counted : goal.returns-clause-counted
returns-clause-counted g c =
    let E = c.args.walk.now.verifier.env.now in
    let F = c.args.family.now in
    let u = c.args.trail.now.meter.account in
    let a2 = rw (c.levels.ensures.value, c.graph.ensures.levels) at c.are_declared.ensures.answers u in
    let over = declared_over E F.sort (levels_are_declared E F.sort u u (condition_holds _ _ _ _ _ c.in_ok-at_item-2.ensures.is a2)) in
    ((c.in_ok-_inner.ensures.counted, tt, over), tt)
